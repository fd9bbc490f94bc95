-- The four tests are 1, 12, 2 and 17 of the definition, and numbers that pass 1 are not too large for the product of 2. Assumes nothing.
use Rattle.std.proofs.Common.{sym, ◌∙◌}
use Rattle.paper.specs.Cache.{Numbers}
use Rattle.paper.specs.Lent.{unfit, with_label}
use Rattle.parts.specs.Rep.{numbers_of}
use Rattle.refusals.specs.Sizes.{most}
use Rattle.exam.specs.Contract.{too_large}
use Rattle.exam.proofs.QuestionLaws.{exactly-question}
use Rattle.exam.proofs.refusal.Goals as goal

pub returns-then-numbers_unfit : goal.returns-then-numbers_unfit
unfolding unfit
returns-then-numbers_unfit c =
    let a = c.args in
    let N : Numbers = with_label (numbers_of a.b) a.label.now in
    sym ((exactly-question N a.disk.now a.k a.room).gives-1.1 (tt, sym c.numbers_unfit.ensures ∙ c.if-numbers_unfit.true))

pub returns-then-limit_unfit : goal.returns-then-limit_unfit
unfolding unfit
returns-then-limit_unfit c =
    let a = c.args in
    let N : Numbers = with_label (numbers_of a.b) a.label.now in
    sym ((exactly-question N a.disk.now a.k a.room).gives-12.1
    ((sym c.numbers_unfit.ensures ∙ c.if-numbers_unfit.false, tt), sym c.limit_unfit.ensures ∙ c.if-limit_unfit.true))

pub lengths_wrong-requires : goal.lengths_wrong-requires
lengths_wrong-requires c =
    let m = most c.args.b (sym c.numbers_unfit.ensures ∙ c.if-numbers_unfit.false) in
    (m.size, m.blocks)

pub returns-then-lengths_wrong : goal.returns-then-lengths_wrong
unfolding unfit
returns-then-lengths_wrong c =
    let a = c.args in
    let N : Numbers = with_label (numbers_of a.b) a.label.now in
    sym ((exactly-question N a.disk.now a.k a.room).gives-2.1 (
      (sym c.numbers_unfit.ensures ∙ c.if-numbers_unfit.false, (sym c.limit_unfit.ensures ∙ c.if-limit_unfit.false, tt)),
      sym c.lengths_wrong.ensures ∙ c.if-lengths_wrong.true,
    ))

pub returns-then-too_large : goal.returns-then-too_large
unfolding unfit too_large
returns-then-too_large c =
    let a = c.args in
    let N : Numbers = with_label (numbers_of a.b) a.label.now in
    sym ((exactly-question N a.disk.now a.k a.room).gives-17.1 (
      (
        sym c.numbers_unfit.ensures ∙ c.if-numbers_unfit.false,
        (sym c.limit_unfit.ensures ∙ c.if-limit_unfit.false, (sym c.lengths_wrong.ensures ∙ c.if-lengths_wrong.false, tt)),
      ),
      sym c.too_large.ensures ∙ c.if-too_large.true,
    ))

pub returns : goal.returns
unfolding unfit too_large
returns c =
    let a = c.args in
    let N : Numbers = with_label (numbers_of a.b) a.label.now in
    sym ((exactly-question N a.disk.now a.k a.room).gives-0.1 (
      sym c.numbers_unfit.ensures ∙ c.if-numbers_unfit.false,
      (
        sym c.limit_unfit.ensures ∙ c.if-limit_unfit.false,
        (sym c.lengths_wrong.ensures ∙ c.if-lengths_wrong.false, (sym c.too_large.ensures ∙ c.if-too_large.false, tt)),
      ),
    ))
