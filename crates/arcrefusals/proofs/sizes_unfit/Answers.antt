-- C and X by themselves, then 1 of the base's record. Assumes nothing.
use mathlib.Core.Path.{ap, ◌∙◌}
use Rattle.paper.specs.Lent.{unfit}
use Rattle.parts.specs.Rep.{numbers_of}
use Rattle.arcrefusals.specs.Given.{sizes_of}
use Rattle.arcrefusals.specs.OpeningLaws.{unfit-base, cached-unfit, extra-unfit}
use Rattle.arcrefusals.proofs.sizes_unfit.Goals as goal

pub returns-then-a-gt256 : goal.returns-then-a-gt256
returns-then-a-gt256 c = cached-unfit (sizes_of c.args.a) c.if-a-gt256.true

pub returns-then-a-gt1024 : goal.returns-then-a-gt1024
returns-then-a-gt1024 c = extra-unfit (sizes_of c.args.a) c.if-a-gt1024.true

pub returns : goal.returns
returns c =
    c.numbers_unfit.ensures ∙ ap (λ b. unfit (numbers_of b)) c.base_of.ensures ∙ unfit-base (sizes_of c.args.a)
