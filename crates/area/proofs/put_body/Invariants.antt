-- The first k writes of the body are made. Assumes nothing.
use Rattle.std.specs.Prelude.{◌≡◌, length}
use Rattle.image.specs.Area.{applied, body_writes}
use Rattle.area.specs.Given.{bytes_of}
use Rattle.area.proofs.put_body.Given as goal

abbrev pub invariant-loop-k : goal.invariant-loop-k
invariant-loop-k l =
    (l.area ≡ applied (body_writes (bytes_of l.body) l.k) l.initial.area) × (length l.area ≡ length l.initial.area)
