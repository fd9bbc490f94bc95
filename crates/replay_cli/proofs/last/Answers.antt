-- The text of the end is in the output. Assumes nothing.
use Rattle.std.proofs.Common.{sym, subst}
use Rattle.replay_cli.proofs.Within.{Within, ended-within}
use Rattle.replay_cli.proofs.last.Goals as goal

pub text-requires : goal.text-requires
text-requires g c = subst Within (sym c.finish-f.ensures) (ended-within _)
