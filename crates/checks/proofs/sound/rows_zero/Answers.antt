-- What the search of the range says of every row from row n on. Assumes nothing.
use Rattle.std.proofs.Common.{rules}
use Rattle.tables.specs.Sound.{zero_row}
use Rattle.checks.proofs.Ranges.{all-rows}
use Rattle.checks.proofs.sound.rows_zero.Goals as goal

pub returns : goal.returns
returns c = all-rows _ _ _ _ zero_row c.args.t.now c.all.ensures.ran (λ x q k. search rules) (λ x q k. search rules)
