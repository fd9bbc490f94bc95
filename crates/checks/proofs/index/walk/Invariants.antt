-- Each turn goes on to the next row of the bucket. Assumes nothing.
use Prim.Native.Nat.{◌-◌, ◌≤◌, ◌<◌}
use lib.ListN.{drop}
use mathlib.Core.Path.{◌≡◌}
use Rattle.tables.specs.Rows.{rows}
use Rattle.tables.specs.Find.{find_from, caches}
use Rattle.tables.specs.Index.{bucket, choice, onward, Goes}
use Rattle.checks.proofs.index.walk.Given as goal

abbrev pub invariant-loop-k : goal.invariant-loop-k
invariant-loop-k l =
    (find_from (caches l.g) l.from (drop l.from (rows l.d l.t)) ≡ find_from (caches l.g) l.k (drop l.k (rows l.d l.t)))
    × (l.from ≤ l.k)
    × (l.k < l.d → Goes (choice l.heads) (rows l.d l.t) (bucket (choice l.heads) l.g) l.k (onward l.heads l.k))

abbrev pub decreases-loop-k : goal.decreases-loop-k
decreases-loop-k l = l.d - l.k
