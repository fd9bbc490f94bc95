-- What the search of the range says of every row. Assumes nothing.
use Rattle.std.proofs.Common.{rules}
use Rattle.tables.specs.Sound.{address_ok}
use Rattle.checks.proofs.Ranges.{all-rows}
use Rattle.checks.proofs.sound.addresses_ok.Goals as goal

pub returns : goal.returns
returns c = all-rows _ _ _ _ (address_ok c.args.p) c.args.t.now c.all.ensures.ran (λ x q k. search rules) (λ x q k. search rules)
