-- What `find_cached` finds is the paper's index behind the free rows. Assumes nothing.
use Rattle.std.specs.Prelude.{unwrap_or, Option, ℕ, is_some}
use Rattle.std.proofs.Common.{rules, sym, ap, ◌∙◌}
use Rattle.parts.specs.TableLaws.{block-index}
use Rattle.parts.proofs.rows.place_of.Goals as goal

pub returns : goal.returns
returns c =
    let a = c.args in
    record {
      value = c.unwrap_or.ensures ∙ ap (λ (f : Option ℕ). unwrap_or f a.d) c.find_cached.ensures;
      by_index = λ free used q h e. c.unwrap_or.ensures ∙ block-index a.d a.t.now free used h a.g.now q e _ (sym c.find_cached.ensures);
    }
