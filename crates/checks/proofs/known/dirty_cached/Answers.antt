-- What the search of the range says of every row. Assumes nothing.
use Rattle.std.proofs.Common.{rules}
use Rattle.tables.specs.Rows.{rows}
use Rattle.tables.specs.Index.{dirty_ok}
use Rattle.checks.proofs.Ranges.{all-rows}
use Rattle.checks.proofs.known.dirty_cached.Goals as goal

pub returns : goal.returns
returns c = all-rows _ _ _ _ (dirty_ok (rows c.args.d c.args.t.now)) c.args.a.now c.all.ensures.ran (λ x q k. search rules) (λ x q k. search rules)
