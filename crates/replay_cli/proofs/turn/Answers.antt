-- The part of the buffer that was read. Assumes nothing.
use Rattle.std.proofs.Common.{◌∙◌}
use Rattle.replay_cli.proofs.Started.{started}
use Rattle.replay_cli.proofs.turn.Goals as goal

pub returns-clause-out_after : goal.returns-clause-out_after
returns-clause-out_after g c =
    let r = c.take-n in
    c.run-t.ensures ∙ started r.new.chunk r.result _ r.ensures.0
