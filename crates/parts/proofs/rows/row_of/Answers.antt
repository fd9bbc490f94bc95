-- What `find_address` finds is the paper's index. Assumes nothing.
use Rattle.std.specs.Prelude.{unwrap_or, Option, ℕ, is_some}
use Rattle.std.proofs.Common.{rules, sym, ap, ◌∙◌}
use Rattle.parts.specs.TableLaws.{addr-index}
use Rattle.parts.proofs.rows.row_of.Goals as goal

pub returns : goal.returns
returns c =
    let a = c.args in
    record {
      value = c.unwrap_or.ensures ∙ ap (λ (f : Option ℕ). unwrap_or f a.n) c.find_address.ensures;
      by_index = λ P m l h. c.unwrap_or.ensures ∙ addr-index P m a.n a.t.now l h a.a.0 _ (sym c.find_address.ensures);
    }
