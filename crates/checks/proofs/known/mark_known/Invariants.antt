-- The loop goes down; `known` marks the places of the rows from k on. Assumes nothing.
use mathlib.Core.Path.{◌≡◌}
use mathlib.Core.List.{map}
use lib.ListN.{length, drop}
use Rattle.tables.specs.Index.{place_in}
use Rattle.tables.specs.Rows.{rows}
use Rattle.tables.specs.SoundLaws.{Marks}
use Rattle.checks.proofs.known.mark_known.Given as goal

abbrev pub invariant-loop-k : goal.invariant-loop-k
invariant-loop-k l = (length l.known ≡ 257) × Marks l.known (drop l.k (map (place_in (rows l.d l.t)) (rows l.n l.a)))
