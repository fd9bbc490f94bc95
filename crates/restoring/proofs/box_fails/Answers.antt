-- 1, 12, and the rest of the body. Assumes nothing.
use mathlib.Core.Path.{sym, ◌∙◌}
use Rattle.refusals.specs.Sizes.{most}
use Rattle.restoring.specs.FoundLaws.{unfit-body, limit-body}
use Rattle.restoring.proofs.box_fails.Goals as goal

pub returns-then-numbers_unfit : goal.returns-then-numbers_unfit
returns-then-numbers_unfit c e k =
    let a = c.args in
    unfit-body a.body.now a.b e k (sym c.numbers_unfit.ensures ∙ c.if-numbers_unfit.true)

pub returns-then-limit_unfit : goal.returns-then-limit_unfit
returns-then-limit_unfit c e k =
    let a = c.args in
    limit-body a.body.now a.b e k (sym c.numbers_unfit.ensures ∙ c.if-numbers_unfit.false) (sym c.limit_unfit.ensures ∙ c.if-limit_unfit.true)

pub sized_fails-requires : goal.sized_fails-requires
sized_fails-requires c =
    let m = most c.args.b (sym c.numbers_unfit.ensures ∙ c.if-numbers_unfit.false) in
    (m.blocks, m.rows, m.slots)

pub returns : goal.returns
returns c e k =
    c.sized_fails.ensures (sym c.numbers_unfit.ensures ∙ c.if-numbers_unfit.false) (sym c.limit_unfit.ensures ∙ c.if-limit_unfit.false) e k
