-- The invariant of the loop of `hash::blocks`: s is the hash value after the blocks that the iterator has given, and the rest of the bytes follow them.
-- Assumes nothing.
use Rattle.std.proofs.Common.{◌≡◌, ◌*◌, ◌≤◌, length, drop}
use Rattle.hash.specs.Words.{words}
use Rattle.hash.specs.Sha256.{blocks}
use Rattle.hash.proofs.blocks.Given as goal

abbrev pub invariant-loop-block : goal.invariant-loop-block
invariant-loop-block l =
    (l.block-iterator.size ≡ 64) × (64 * length l.yielded ≤ length l.bytes) × (l.block-iterator.rest.now ≡ drop (64 * length l.yielded) l.bytes)
    × (words l.s ≡ blocks (words l.fn.hash) l.bytes (length l.yielded))
