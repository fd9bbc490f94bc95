-- The first k bytes have been moved. A byte is read before it is written over. Assumes nothing.
use lib.ListN.{length-drop, length, get_or, drop, length-set}
use lib.Seq.{paste-zero, get_or-drop, paste}
use Rattle.tables.specs.PasteLaws.{paste-turn, paste-done, get_d-paste-after}
use Prim.Native.Nat.{◌+◌, ◌-◌, ◌≤◌, ◌<◌}
use mathlib.Core.Path.{◌≡◌, refl}
use native.Mathlib.Omega.{arith}
use Rattle.std.proofs.Common.{rules}
use Rattle.tables.proofs.moves.move_down.Given as goal

abbrev pub invariant-loop-k : goal.invariant-loop-k
invariant-loop-k l = (l.k ≤ l.count) × (l.t ≡ paste l.initial.t l.to (drop l.from l.initial.t) l.k) × (length l.t ≡ length l.initial.t)
