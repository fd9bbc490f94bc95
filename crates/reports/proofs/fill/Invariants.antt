-- The first k rows are filled. Assumes nothing.
use Rattle.std.specs.Prelude.{◌≡◌, ◌*◌, length, take}
use Rattle.reports.specs.RowByRow.{rows_in}
use Rattle.reports.proofs.fill.Given as goal

abbrev pub invariant-loop-k : goal.invariant-loop-k
invariant-loop-k l = record {
  long : length l.report ≡ length l.initial.report;
  filled : take (l.k * l.bytes) l.report ≡ rows_in l.bytes l.n l.addresses l.k;
}
