-- The two bytes are those of the row, and a number's digits. Assumes nothing.
use Rattle.std.specs.Prelude.{◌≡◌, ℕ, ◌+◌, ◌*◌, ◌/◌, ◌%◌, ◌<◌}
use Rattle.std.proofs.Common.{arith, sym, ◌∙◌}
use Rattle.tables.specs.Records.{read_address}
use Rattle.tables.specs.RowLaws.{get_d-row_at}
use Rattle.tables.proofs.row.seat_at.Goals as goal

two_bytes : (z x y : ℕ) → x < 256 → y < 256 → z ≡ x + y * 256 → (z % 256 ≡ x) × (z / 256 % 256 ≡ y)
two_bytes z x y hx hy e = (omega arith, omega arith)

pub returns : goal.returns
unfolding read_address
returns c =
    let a = c.args in
    let t = a.t.now in
    let z = two_bytes _ _ _ (omega (arith, c.type_inv.t (a.k * 40 + 37))) (omega (arith, c.type_inv.t (a.k * 40 + 38))) c.from_le_bytes.ensures in
    let low = z.0 ∙ sym (get_d-row_at t a.k 37 (omega arith)) in
    let high = z.1 ∙ sym (get_d-row_at t a.k 38 (omega arith)) in
    λ i. (low i, high i)
