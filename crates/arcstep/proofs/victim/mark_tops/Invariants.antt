-- The loop goes down; `known` marks the places of the rows from k on. Assumes nothing.
use mathlib.Core.Path.{◌≡◌}
use mathlib.Core.List.{map}
use lib.ListN.{length, drop}
use Rattle.tables.specs.Rows.{rows}
use Rattle.tables.specs.SoundLaws.{Marks}
use Rattle.arcstep.specs.Victim.{top_place}
use Rattle.arcstep.proofs.victim.mark_tops.Given as goal

abbrev pub invariant-loop-k : goal.invariant-loop-k
invariant-loop-k l = record {
  bytes : length l.known ≡ 257;
  marked : Marks l.known (drop l.k (map (top_place l.seen (rows l.d l.blocks)) (rows l.n l.addrs)));
}
