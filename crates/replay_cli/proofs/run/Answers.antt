-- The text of a byte is in the output. Assumes nothing.
use Rattle.std.proofs.Common.{sym, subst}
use Rattle.replay_cli.proofs.Within.{Within, fed-within}
use Rattle.replay_cli.proofs.run.Goals as goal

pub text-requires : goal.text-requires
text-requires g c = subst Within (sym c.feed-f.ensures) (fed-within _ _)
