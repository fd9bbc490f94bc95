-- The first words differ, or all four are compared. Assumes nothing.
use mathlib.Core.Path.{sym, ◌∙◌}
use Rattle.tables.proofs.Words.{words-differ}
use Rattle.tables.proofs.find.same_fingerprint.Goals as goal

pub returns-then-word8 : goal.returns-then-word8
returns-then-word8 c =
    let a = c.args in
    words-differ a.f.now a.g.now 0 (λ e. c.if-word8.true (c.word8.ensures ∙ e ∙ sym c.word8-2.ensures))
