-- The index is blank at first. Assumes nothing.
use Rattle.tables_probe.proofs.Answers.{blank}
use Rattle.tables_probe.proofs.asked.tables_probe_refused.Goals as goal

pub tables_refused-refused-requires : goal.tables_refused-refused-requires
tables_refused-refused-requires c = blank
