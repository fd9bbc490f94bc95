-- The part is the row's own bytes. Assumes nothing.
use Prim.Native.Nat.{ℕ, ◌+◌, ◌-◌, ◌*◌}
use mathlib.Core.Path.{◌≡◌, sym, ap, ◌∙◌}
use native.Mathlib.Omega.{arith}
use lib.ListN.{length, take, drop}
use Rattle.tables.specs.RowLaws.{part-row_at, length_part}
use Rattle.tables.specs.Records.{read_address}
use Rattle.tables.proofs.row.address_fingerprint.Goals as goal

pub returns : goal.returns
unfolding read_address
returns c =
    let a = c.args in
    let e : a.k * 40 + 4 + 32 - (a.k * 40 + 4) ≡ 32 = omega arith in
    let p = ap (λ (m : ℕ). take m (drop (a.k * 40 + 4) a.t.now)) e in
    (p ∙ sym (part-row_at a.t.now a.k 4 32 (omega arith)), ap length p ∙ length_part a.t.now (a.k * 40 + 4) 32 (omega arith))
