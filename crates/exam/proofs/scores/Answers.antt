-- The answer by the refusal. Assumes nothing.
use Rattle.std.proofs.Common.{sym, ap, ◌∙◌}
use Rattle.std.proofs.lemmas.Result.{err_from_is_err_and}
use Rattle.paper.specs.Cache.{Numbers}
use Rattle.paper.specs.Engine.{fingerprinting}
use Rattle.paper.specs.Lent.{split}
use Rattle.paper.specs.Machines.{content_of}
use Rattle.parts.specs.declared.BoxRecord.{BoxRecord}
use Rattle.parts.specs.Rep.{relabelled}
use Rattle.exam.specs.Scores.{scores}
use Rattle.exam.proofs.QuestionLaws.{posed}
use Rattle.exam.proofs.Answers.{of-record, refused-answer, posed-answer}
use Rattle.exam.proofs.scores.Goals as goal

pub returns-in_err-refusal : goal.returns-in_err-refusal
returns-in_err-refusal c =
    let a = c.args in
    let N : Numbers = record { B = a.size; P = a.blocks; m = a.rows; d = a.slots; label = a.label.now; t = a.limit } in
    let p = err_from_is_err_and c.from_residual.result c.from_residual.ensures.1 in
    rw (p.1, p.2) (refused-answer N a.disk.now a.k a.room _ (c.in_err-refusal.ensures ∙ of-record N a.disk.now a.k a.room _ _ c.empty_box-b.ensures))

pub with_label-requires : goal.with_label-requires
with_label-requires c =
    let a = c.args in
    let N : Numbers = record { B = a.size; P = a.blocks; m = a.rows; d = a.slots; label = a.label.now; t = a.limit } in
    (posed N a.disk.now a.k a.room (sym (c.in_ok-refusal.ensures ∙ of-record N a.disk.now a.k a.room _ _ c.empty_box-b.ensures))).label

pub counts-requires : goal.counts-requires
counts-requires c =
    let a = c.args in
    let N : Numbers = record { B = a.size; P = a.blocks; m = a.rows; d = a.slots; label = a.label.now; t = a.limit } in
    let p = posed N a.disk.now a.k a.room (sym (c.in_ok-refusal.ensures ∙ of-record N a.disk.now a.k a.room _ _ c.empty_box-b.ensures)) in
    rw (c.with_label.ensures, c.empty_box-b.ensures) (p.few, p.rows, p.slots, p.whole, p.short)

pub returns : goal.returns
returns c =
    let a = c.args in
    let N : Numbers = record { B = a.size; P = a.blocks; m = a.rows; d = a.slots; label = a.label.now; t = a.limit } in
    posed-answer N a.disk.now a.k a.room _ (sym (c.in_ok-refusal.ensures ∙ of-record N a.disk.now a.k a.room _ _ c.empty_box-b.ensures))
    (c.counts.ensures
    ∙ ap (λ (x : BoxRecord). scores (fingerprinting x.label 64).same x.rows x.slots
    (content_of (fingerprinting x.label 64) (split 64 x.blocks a.disk.now)) x.blocks a.k)
    (c.with_label.ensures ∙ ap (λ (x : BoxRecord). relabelled x a.label.now) c.empty_box-b.ensures))
