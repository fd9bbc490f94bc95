-- The first k bytes have been written. Assumes nothing.
use lib.Seq.{paste-zero, paste}
use Rattle.tables.specs.PasteLaws.{paste-turn, paste-done}
use Prim.Native.Nat.{◌-◌, ◌≤◌}
use mathlib.Core.Path.{◌≡◌, refl}
use native.Mathlib.Omega.{arith}
use lib.ListN.{length, length-set}
use Rattle.std.proofs.Common.{rules}
use Rattle.tables.proofs.moves.write.Given as goal

abbrev pub invariant-loop-k : goal.invariant-loop-k
invariant-loop-k l = (l.k ≤ length l.src) × (l.t ≡ paste l.initial.t l.to l.src l.k) × (length l.t ≡ length l.initial.t)
