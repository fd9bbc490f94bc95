-- The loop goes down; `seen` marks the names behind name k, which are fine. Assumes nothing.
use mathlib.Core.Path.{◌≡◌}
use mathlib.Core.Bool.{true}
use lib.ListN.{length, drop}
use Rattle.tables.specs.Bits.{bit_at}
use Rattle.tables.specs.SoundLaws.{Marked}
use Rattle.arc.specs.ArcLent.{words}
use Rattle.arclists.specs.Names.{fine}
use Rattle.arclists.proofs.names.names_marked.Given as goal

abbrev pub invariant-loop-k : goal.invariant-loop-k
invariant-loop-k l = record {
  bytes : length l.seen ≡ 8192;
  fine : fine (drop l.k (words l.n l.lists)) ≡ true;
  marked : Marked (bit_at l.seen) 65536 (drop l.k (words l.n l.lists));
}
