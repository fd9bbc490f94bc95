-- As a full flush, then 14. Assumes nothing.
use Rattle.std.proofs.Common.{rules, arith, sym, ◌∙◌}
use Rattle.std.proofs.lemmas.Result.{err_from_is_err_and}
use Rattle.refusal.specs.Numbers.{refused}
use Rattle.parts.specs.Rep.{numbers_of}
use Rattle.refusals.specs.Given.{counters_of, lent}
use Rattle.saving.specs.SaveLaws.{flush-refused, flush-most, save-14, save-0}
use Rattle.saving.proofs.save_refusal.Goals as goal

pub of_flush-requires : goal.of_flush-requires
of_flush-requires c = c.requires

pub returns-in_err-of_flush-clause-value : goal.returns-in_err-of_flush-clause-value
returns-in_err-of_flush-clause-value c =
    let a = c.args in
    let p = err_from_is_err_and c.from_residual.result c.from_residual.ensures.1 in
    rw (p.1, p.2) (flush-refused (numbers_of a.b) (lent a.b a.disk.now a.flash.now a.addresses.now a.blocks.now (counters_of a.c)) a.area.now _ (c.in_err-of_flush.ensures.by_index a.b.rows) (refused _))

pub body_length-n-requires : goal.body_length-n-requires
body_length-n-requires c = let a = c.args in flush-most a.b (lent a.b a.disk.now a.flash.now a.addresses.now a.blocks.now (counters_of a.c)) (sym (c.in_ok-of_flush.ensures.by_index a.b.rows))

pub returns-then-too_short-clause-value : goal.returns-then-too_short-clause-value
returns-then-too_short-clause-value c =
    let a = c.args in
    save-14 (numbers_of a.b) (lent a.b a.disk.now a.flash.now a.addresses.now a.blocks.now (counters_of a.c)) a.area.now (sym (c.in_ok-of_flush.ensures.by_index a.b.rows)) _ c.body_length-n.ensures (sym c.too_short.ensures ∙ c.if-too_short.true)

pub returns-clause-value : goal.returns-clause-value
returns-clause-value c =
    let a = c.args in
    save-0 (numbers_of a.b) (lent a.b a.disk.now a.flash.now a.addresses.now a.blocks.now (counters_of a.c)) a.area.now (sym (c.in_ok-of_flush.ensures.by_index a.b.rows)) _ c.body_length-n.ensures (sym c.too_short.ensures ∙ c.if-too_short.false)
