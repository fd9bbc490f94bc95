-- By the form of the line. Assumes nothing.
use mathlib.Core.Path.{refl}
use Rattle.answers.specs.Replay.{asked}
use Rattle.answers.proofs.Doing.{call-done}
use Rattle.answers.proofs.call.call.Goals as goal

pub returns-in-Some-Flush-clause-box_record_value : goal.returns-in-Some-Flush-clause-box_record_value
returns-in-Some-Flush-clause-box_record_value c = (call-done c.flush.result c.args.b _ _ _ _ _ _ _ _ c.flush.ensures refl).0

pub returns-in-Some-Flush-clause-blocks_after : goal.returns-in-Some-Flush-clause-blocks_after
unfolding asked
returns-in-Some-Flush-clause-blocks_after c =
    let e = rw c.in-Some-Flush.is at c.in-Some-Flush.field-0-is in
    rw (c.in-Some-Flush.is, e) (call-done c.flush.result c.args.b _ _ _ _ _ _ _ _ c.flush.ensures refl).1
