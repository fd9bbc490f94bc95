-- Each row is asked for its bit. Assumes nothing.
use Rattle.std.specs.Prelude.{◌≡◌, true, false, eqb, List, ℕ}
use Rattle.std.proofs.Common.{rules, refl, arith}
use Rattle.std.proofs.lemmas.Iterator.{cases_from_all, YieldsList-from_range}
use Rattle.tables.specs.Bits.{bit_at}
use Rattle.tables.specs.Rows.{row_at}
use Rattle.tables.specs.Sound.{row_address}
use Rattle.arclists.specs.NameLaws.{all-over, rows-tested}
use Rattle.arclists.proofs.names.rows_named.Goals as goal

pub returns : goal.returns
returns c =
    let a = c.args in
    let p = λ (r : List ℕ). eqb (bit_at a.seen.now (row_address r)) 1 in
    let yes = λ (k : ℕ). p (row_at a.addresses.now k) ≡ true in
    let no = λ (k : ℕ). p (row_at a.addresses.now k) ≡ false in
    rows-tested p a.n a.addresses.now c.all.result
    (all-over a.n c.all.result yes no
    (cases_from_all _ _ c.all.result yes no c.all.ensures.ran (YieldsList-from_range 0 a.n a.n refl (omega arith)) (λ x q k. search rules)
    (λ x q k. search rules)))
