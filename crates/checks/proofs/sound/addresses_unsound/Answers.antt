-- What does not fit, or is not sound: `addresses-checked`. Assumes nothing.
use Rattle.std.proofs.Common.{arith}
use Rattle.std.proofs.lemmas.Grind.{common_steps}
use Rattle.tables.specs.Sound.{addresses_fit}
use Rattle.table_laws.specs.Checked.{addresses-checked}
use Rattle.checks.proofs.sound.addresses_unsound.Goals as goal

pub returns-else-t-m : goal.returns-else-t-m
unfolding addresses_fit
returns-else-t-m c = grind (arith, common_steps, addresses-checked)
