-- The later rows move down and the new one is written last: `replaced`. Assumes nothing.
use Prim.Native.Nat.{ℕ, ◌-◌, ◌*◌}
use mathlib.Core.Path.{ap, ◌∙◌}
use mathlib.Core.List.{List}
use native.Mathlib.Omega.{arith}
use lib.Seq.{paste}
use Rattle.tables.specs.ShiftLaws.{replaced}
use Rattle.tables.proofs.shift.replace.Goals as goal

pub returns : goal.returns
returns c =
    let a = c.args in
    let l = c.requires.1.1 in
    c.write.ensures
    ∙ rw l
    (ap (λ (x : List ℕ). paste x (a.n * 40 - 40) a.row.now 40) c.move_down.ensures
    ∙ replaced a.t.now a.row.now a.n a.i (omega arith) (omega arith) l)
