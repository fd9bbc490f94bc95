-- The invariant of the loop of `hash::digest`: the bytes of the first i words are stored.
-- Assumes nothing.
use Rattle.std.proofs.Common.{◌≡◌, ◌*◌, length, take}
use Rattle.hash.specs.Sha256.{digest}
use Rattle.hash.specs.Words.{words}
use Rattle.hash.proofs.digest.Given as goal

abbrev pub invariant-loop-i : goal.invariant-loop-i
invariant-loop-i l = (length l.d ≡ 32) × (take (4 * l.i) l.d ≡ digest (words l.fn.hash) l.i)
