-- The index is blank at first. Assumes nothing.
use Rattle.tables_probe.proofs.Answers.{blank}
use Rattle.tables_probe.proofs.asked.tables_probe_oldest_unknown.Goals as goal

pub passed-requires : goal.passed-requires
passed-requires c = blank
