use lib.Seq.{paste-zero, paste}
use Rattle.tables.specs.PasteLaws.{paste-turn, paste-done}
use Prim.Native.Nat.{◌-◌, ◌≤◌}
use mathlib.Core.Path.{◌≡◌, refl}
use native.Mathlib.Omega.{arith}
use lib.ListN.{length, length-set}
use Rattle.std.proofs.Common.{rules}
use Rattle.tables.proofs.moves.write.Goals as goal

pub loop-k-init : goal.loop-k-init
loop-k-init c = (search rules, paste-zero c.args.t.now c.args.to c.args.src.now, refl)

pub loop-k-preserved : goal.loop-k-preserved
loop-k-preserved c =
    let a = c.args in
    let k = c.loop-k.k in
    let inv = c.loop-k.invariant in
    (omega arith, paste-turn a.t.now a.to a.src.now k 0 _ inv.1 refl (omega arith) (omega arith), simp length-set inv.2)

pub returns : goal.returns
returns c =
    let a = c.args in
    paste-done a.t.now a.to a.src.now c.loop-k.k (length a.src.now) c.loop-k.invariant.1 (omega arith) (omega arith)
