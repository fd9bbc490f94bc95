-- What the search of the range finds, where the bytes tell it: the first row whose fingerprint none has. Assumes nothing.
use Rattle.std.specs.Prelude.{ℕ, Bool, true, false, ◌≡◌, ◌&&◌, eqb, get_or}
use Rattle.std.proofs.Common.{rules}
use Rattle.std.proofs.lemmas.Iterator.{first_from_Range}
use Rattle.tables.specs.Rows.{row_at}
use Rattle.tables.specs.Find.{is_used}
use Rattle.tables.specs.Index.{unknown_in}
use Rattle.checks.proofs.Ranges.{first-by-place}
use Rattle.checks.proofs.known.first_unknown.Goals as goal

pub returns : goal.returns
returns c =
    let a = c.args in
    let q : ℕ → Bool = λ k. is_used (row_at a.t.now k) && eqb (get_or a.known.now k 0) 0 in
    λ hs tells. first-by-place (unknown_in hs) q a.d a.t.now c.find.result tells
    (first_from_Range _ _ _ _ (λ k. q k ≡ true) (λ k. q k ≡ false) c.find.ensures.ran (λ x r k. search rules) (λ x r k. search rules))
