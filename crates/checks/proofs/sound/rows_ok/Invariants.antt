-- The rows are looked at from the last to the first; `used` says whether all rows behind are used. Assumes nothing.
use mathlib.Core.Path.{◌≡◌}
use mathlib.Core.Bool.{true}
use lib.ListN.{drop}
use Rattle.tables.specs.Rows.{rows}
use Rattle.tables.specs.Find.{every, all, is_used}
use Rattle.tables.specs.Index.{row_ok}
use Rattle.checks.proofs.sound.rows_ok.Given as goal

abbrev pub invariant-loop-k : goal.invariant-loop-k
invariant-loop-k l = (every (row_ok l.d) (drop l.k (rows l.d l.t)) ≡ true) × (l.used ≡ all is_used (drop l.k (rows l.d l.t)))
