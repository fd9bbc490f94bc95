use Rattle.std.proofs.Common.{◌∙◌}
use Rattle.lines.proofs.Bytewise.{same-eq}
use Rattle.lines.proofs.words.equal.Goals as goal

pub returns : goal.returns
returns c = c.eq.ensures ∙ same-eq c.args.a.now c.args.b.now
