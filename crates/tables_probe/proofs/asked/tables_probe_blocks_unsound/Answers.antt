-- The index is blank at first. Assumes nothing.
use Rattle.tables_probe.proofs.Answers.{blank}
use Rattle.tables_probe.proofs.asked.tables_probe_blocks_unsound.Goals as goal

pub blocks_unsound-requires : goal.blocks_unsound-requires
blocks_unsound-requires c = blank
