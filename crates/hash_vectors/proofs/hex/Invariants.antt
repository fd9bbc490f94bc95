-- The digits of the first i bytes are stored. Assumes nothing.
use Rattle.std.proofs.Common.{◌≡◌, ◌*◌, length, take}
use Rattle.hash_vectors.specs.Hex as H
use Rattle.hash_vectors.proofs.hex.Given as goal

abbrev pub invariant-loop-i : goal.invariant-loop-i
invariant-loop-i l = (length l.text ≡ 64) × (take (2 * l.i) l.text ≡ H.hex l.fn.digest l.i)
