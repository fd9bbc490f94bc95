-- The last bytes from k on have been moved. A byte is read before it is written over. Assumes nothing.
use Rattle.tables.specs.PasteLaws.{paste-turn-down, paste-done-down, get_d-paste-before, paste_none}
use Prim.Native.Nat.{◌+◌, ◌-◌, ◌≤◌}
use mathlib.Core.Path.{◌≡◌, refl}
use native.Mathlib.Omega.{arith}
use lib.ListN.{length, get_or, drop, length-set}
use lib.Seq.{paste}
use Rattle.std.proofs.Common.{rules}
use Rattle.tables.proofs.moves.move_up.Given as goal

abbrev pub invariant-loop-k : goal.invariant-loop-k
invariant-loop-k l = (l.k ≤ l.count) × (l.t ≡ paste l.initial.t (l.to + l.k) (drop (l.from + l.k) l.initial.t) (l.count - l.k)) × (length l.t ≡ length l.initial.t)
