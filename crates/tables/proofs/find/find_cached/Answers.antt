-- What the search of the range finds is the first used row with the fingerprint. Assumes nothing.
use Rattle.std.specs.Prelude.{true, false, ◌≡◌}
use Rattle.std.proofs.Common.{rules}
use Rattle.std.proofs.lemmas.Iterator.{first_from_Range}
use Rattle.tables.specs.Rows.{row_at}
use Rattle.tables.specs.Find.{caches}
use Rattle.tables.specs.RowLaws.{first-row}
use Rattle.tables.proofs.find.find_cached.Goals as goal

pub returns : goal.returns
returns c =
    let a = c.args in
    first-row (caches a.g.now) a.n a.t.now c.find.result
    (first_from_Range _ _ _ _ (λ k. caches a.g.now (row_at a.t.now k) ≡ true) (λ k. caches a.g.now (row_at a.t.now k) ≡ false) c.find.ensures.ran
    (λ x q k. search rules) (λ x q k. search rules))
