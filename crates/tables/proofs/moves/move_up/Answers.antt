use Rattle.tables.specs.PasteLaws.{paste-turn-down, paste-done-down, get_d-paste-before, paste_none}
use Prim.Native.Nat.{◌+◌, ◌-◌, ◌≤◌}
use mathlib.Core.Path.{◌≡◌, refl}
use native.Mathlib.Omega.{arith}
use lib.ListN.{length, get_or, drop, length-set}
use lib.Seq.{paste}
use Rattle.std.proofs.Common.{rules}
use Rattle.tables.proofs.moves.move_up.Goals as goal

pub loop-k-init : goal.loop-k-init
loop-k-init c = (search rules, paste_none c.args.t.now (c.args.to + c.args.count) (drop (c.args.from + c.args.count) c.args.t.now) (c.args.count - c.args.count) (omega arith), refl)

pub loop-k-preserved : goal.loop-k-preserved
loop-k-preserved c =
    let a = c.args in
    let k = c.loop-k.k in
    let t = c.loop-k.t in
    let inv = c.loop-k.invariant in
    let d = a.t.now in
    let v : get_or t (a.from + (k - 1)) 0 ≡ get_or d (a.from + (k - 1)) 0 =
    rw (inv.1, get_d-paste-before d (a.to + k) (drop (a.from + k) d) (a.count - k) (a.from + (k - 1)) 0 (omega arith) (omega arith)) in (
      omega arith,
      paste-turn-down d a.to a.from k a.count 0 (get_or t (a.from + (k - 1)) 0) inv.1 v (omega arith) (omega arith) (omega arith) (omega arith),
      simp length-set inv.2,
    )

pub returns : goal.returns
returns c =
    let a = c.args in
    paste-done-down a.t.now a.to a.from c.loop-k.k a.count c.loop-k.invariant.1 (omega arith)
