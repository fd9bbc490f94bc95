-- The loop goes down; the rows from k on differ, and `heads` is their index. Assumes nothing.
use mathlib.Core.Path.{◌≡◌}
use mathlib.Core.Bool.{true}
use lib.ListN.{length, drop}
use Rattle.tables.specs.Find.{every}
use Rattle.tables.specs.Index.{heads_length, Linked, unique}
use Rattle.tables.specs.Rows.{rows}
use Rattle.checks.proofs.index.build.Given as goal

abbrev pub invariant-loop-k : goal.invariant-loop-k
invariant-loop-k l = (length l.heads ≡ heads_length) × (every unique (drop l.k (rows l.d l.t)) ≡ true) × Linked l.k l.heads (rows l.d l.t)
