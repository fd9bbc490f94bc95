-- The tests in turn; what the second lets pass is below p. Assumes nothing.
use Rattle.std.proofs.Common.{arith}
use Rattle.std.proofs.lemmas.Grind.{common_steps}
use Rattle.tables.specs.SoundLaws.{addrs-below}
use Rattle.table_laws.specs.Checked.{rows-zero}
use Rattle.tables.specs.Sound.{sound_addresses}
use Rattle.checks.proofs.sound.addresses_sound.Goals as goal

pub distinct_below-requires-clause-by_index : goal.distinct_below-requires-clause-by_index
distinct_below-requires-clause-by_index c =
    let a = c.args in
    addrs-below a.p a.p a.n a.t.now (grind (arith, common_steps)) (omega arith)

pub returns-then-distinct_below : goal.returns-then-distinct_below
unfolding sound_addresses
returns-then-distinct_below c = grind (arith, common_steps, rows-zero)
