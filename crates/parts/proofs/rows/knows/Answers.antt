-- What `find_fingerprint` finds tells whether the paper's rows have it. Assumes nothing.
use Rattle.std.specs.Prelude.{unwrap_or, Option, ℕ, is_some}
use Rattle.std.proofs.Common.{rules, sym, ap, ◌∙◌}
use Rattle.parts.specs.TableLaws.{fp-known}
use Rattle.parts.proofs.rows.knows.Goals as goal

pub returns : goal.returns
returns c =
    let a = c.args in
    record {
      value = c.is_some.ensures ∙ ap is_some c.find_fingerprint.ensures;
      by_index = λ P m l q h e. c.is_some.ensures ∙ fp-known P m a.n a.t.now l h a.g.now q e _ (sym c.find_fingerprint.ensures);
    }
