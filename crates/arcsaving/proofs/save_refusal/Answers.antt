-- As a full flush, then 14. Assumes nothing.
use Rattle.std.proofs.Common.{sym, ◌∙◌}
use Rattle.std.proofs.lemmas.Result.{err_from_is_err_and}
use Rattle.refusal.specs.Numbers.{refused}
use Rattle.arc.specs.Arc.{m_of}
use Rattle.refusals.specs.Given.{counters_of}
use Rattle.arcrefusals.specs.Given.{sizes_of, arc_lent}
use Rattle.arcsaving.specs.SaveLaws.{flush-refused, numbers-small, save-14, save-0}
use Rattle.arcsaving.proofs.save_refusal.Goals as goal

pub arc_flush-requires : goal.arc_flush-requires
arc_flush-requires c = c.requires

pub returns-in_err-arc_flush-clause-value : goal.returns-in_err-arc_flush-clause-value
returns-in_err-arc_flush-clause-value c =
    let a = c.args in
    let p = err_from_is_err_and c.from_residual.result c.from_residual.ensures.1 in
    rw (p.1, p.2) (flush-refused (sizes_of a.a) (arc_lent a.a a.disk.now a.flash.now a.addresses.now a.blocks.now a.lists.now (counters_of a.c)) a.area.now _
    (c.in_err-arc_flush.ensures.by_index (m_of (sizes_of a.a))) (refused _))

pub body_length-n-requires : goal.body_length-n-requires
body_length-n-requires c =
    let a = c.args in
    numbers-small (sizes_of a.a) (arc_lent a.a a.disk.now a.flash.now a.addresses.now a.blocks.now a.lists.now (counters_of a.c)) a.area.now
    (sym (c.in_ok-arc_flush.ensures.by_index (m_of (sizes_of a.a))))

pub returns-then-too_short-clause-value : goal.returns-then-too_short-clause-value
returns-then-too_short-clause-value c =
    let a = c.args in
    save-14 (sizes_of a.a) (arc_lent a.a a.disk.now a.flash.now a.addresses.now a.blocks.now a.lists.now (counters_of a.c)) a.area.now
    (sym (c.in_ok-arc_flush.ensures.by_index (m_of (sizes_of a.a)))) _ c.body_length-n.ensures (sym c.too_short.ensures ∙ c.if-too_short.true)

pub returns-clause-value : goal.returns-clause-value
returns-clause-value c =
    let a = c.args in
    save-0 (sizes_of a.a) (arc_lent a.a a.disk.now a.flash.now a.addresses.now a.blocks.now a.lists.now (counters_of a.c)) a.area.now
    (sym (c.in_ok-arc_flush.ensures.by_index (m_of (sizes_of a.a)))) _ c.body_length-n.ensures (sym c.too_short.ensures ∙ c.if-too_short.false)
