-- The part is the row's own bytes. Assumes nothing.
use Prim.Native.Nat.{ℕ, ◌+◌, ◌-◌, ◌*◌}
use mathlib.Core.Path.{◌≡◌, ap, ◌∙◌}
use native.Mathlib.Omega.{arith}
use lib.ListN.{length, take, drop}
use Rattle.tables.specs.RowLaws.{length_part}
use Rattle.tables.proofs.row.part.Goals as goal

pub returns : goal.returns
returns c =
    let a = c.args in
    let e : a.k * 40 + 40 - a.k * 40 ≡ 40 = omega arith in
    let p = ap (λ (m : ℕ). take m (drop (a.k * 40) a.t.now)) e in
    (p, ap length p ∙ length_part a.t.now (a.k * 40) 40 (omega arith))
