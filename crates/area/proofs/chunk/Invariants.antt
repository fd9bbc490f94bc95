-- The first i bytes are those of the write. Assumes nothing.
use Rattle.std.specs.Prelude.{◌≡◌, ◌*◌, length, take, drop}
use Rattle.image.specs.Area.{padded}
use Rattle.area.specs.Given.{bytes_of}
use Rattle.area.proofs.chunk.Given as goal

abbrev pub invariant-loop-i : goal.invariant-loop-i
invariant-loop-i l =
    (take l.i l.bytes ≡ take l.i (drop (l.k * 64) (padded (bytes_of l.body)))) × (length l.bytes ≡ 64)
