-- A row that fails, a slot that is there twice or a fingerprint used twice: `blocks-checked`. Assumes nothing.
use Rattle.std.proofs.Common.{arith, sym, ◌∙◌}
use Rattle.std.proofs.lemmas.Grind.{common_steps}
use Rattle.table_laws.specs.Checked.{blocks-checked}
use Rattle.tables.specs.SoundLaws.{slots-below}
use Rattle.checks.proofs.sound.blocks_sound.Goals as goal

pub slots_distinct-requires-clause-by_index : goal.slots_distinct-requires-clause-by_index
slots_distinct-requires-clause-by_index c =
    let a = c.args in
    slots-below 256 a.d a.t.now (sym c.rows_ok.ensures ∙ c.if-rows_ok.true) c.requires.t_len.1

pub returns-then-slots_distinct-clause-value : goal.returns-then-slots_distinct-clause-value
returns-then-slots_distinct-clause-value c = grind (arith, common_steps, blocks-checked)

pub returns-else-slots_distinct-clause-value : goal.returns-else-slots_distinct-clause-value
returns-else-slots_distinct-clause-value c = grind (arith, common_steps, blocks-checked)
