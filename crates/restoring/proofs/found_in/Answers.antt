-- By the number that the body starts with. Assumes nothing.
use mathlib.Core.Path.{sym, ◌∙◌}
use native.Mathlib.Omega.{arith}
use Rattle.restoring.specs.ArcBodyLaws.{body-long, kind-one}
use Rattle.restoring.proofs.found_in.Goals as goal

pub word_at-requires : goal.word_at-requires
word_at-requires c = let h = body-long c.args.body.now c.requires in omega (arith, h)

pub lru_found-requires : goal.lru_found-requires
lru_found-requires c = (c.requires, sym c.word_at.ensures ∙ c.if-word_at-eq0.true)

pub arc_found-requires : goal.arc_found-requires
arc_found-requires c =
    (c.requires, kind-one c.args.body.now c.requires (λ e. c.if-word_at-eq0.false (c.word_at.ensures ∙ e)))
