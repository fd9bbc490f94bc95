use lib.ListN.{length-drop, length, get_or, drop, length-set}
use lib.Seq.{paste-zero, get_or-drop, paste}
use Rattle.tables.specs.PasteLaws.{paste-turn, paste-done, get_d-paste-after}
use Prim.Native.Nat.{◌+◌, ◌-◌, ◌≤◌, ◌<◌}
use mathlib.Core.Path.{◌≡◌, refl}
use native.Mathlib.Omega.{arith}
use Rattle.std.proofs.Common.{rules}
use Rattle.tables.proofs.moves.move_down.Goals as goal

pub loop-k-init : goal.loop-k-init
loop-k-init c = (search rules, paste-zero c.args.t.now c.args.to (drop c.args.from c.args.t.now), refl)

pub loop-k-preserved : goal.loop-k-preserved
loop-k-preserved c =
    let a = c.args in
    let k = c.loop-k.k in
    let t = c.loop-k.t in
    let inv = c.loop-k.invariant in
    let s = drop a.from a.t.now in
    let hs : k < length s = simp length-drop (omega arith) in
    let v : get_or t (a.from + k) 0 ≡ get_or s k 0 =
    rw (inv.1, get_d-paste-after a.t.now a.to s k (a.from + k) 0 (omega arith) (omega arith) (omega arith), get_or-drop a.from a.t.now k 0) in
    (omega arith, paste-turn a.t.now a.to s k 0 (get_or t (a.from + k) 0) inv.1 v (omega arith) hs, simp length-set inv.2)

pub returns : goal.returns
returns c =
    let a = c.args in
    paste-done a.t.now a.to (drop a.from a.t.now) c.loop-k.k a.count c.loop-k.invariant.1 (omega arith) (omega arith)
