-- The first k blocks are filled. Assumes nothing.
use mathlib.Core.Path.{◌≡◌}
use Prim.Native.Nat.{◌*◌}
use lib.ListN.{length, take}
use Rattle.answers.specs.Replay.{start_disk}
use Rattle.answers.proofs.start.fill_disk.Given as goal

abbrev pub invariant-loop-k : goal.invariant-loop-k
invariant-loop-k l = (length l.disk ≡ length l.initial.disk) × (take (l.k * l.size) l.disk ≡ start_disk l.size l.k)
