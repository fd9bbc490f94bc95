-- By the form of the line. Assumes nothing.
use Rattle.std.proofs.Common.{sym, refl, ◌∙◌}
use Rattle.answers.specs.Replay.{box_refusal}
use Rattle.answers.proofs.boxes.box_refusal.Goals as goal

pub returns-then-numbers_unfit : goal.returns-then-numbers_unfit
unfolding box_refusal
returns-then-numbers_unfit c =
    let v = rw c.empty_box-x.ensures at c.numbers_unfit.ensures in
    rw (c.in-Some.is, c.in-Box.is, sym v ∙ c.if-numbers_unfit.true) refl
