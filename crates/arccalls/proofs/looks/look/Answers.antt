-- By the place. Assumes nothing.
use Rattle.std.specs.Prelude.{Ok}
use Rattle.std.proofs.Common.{sym, ap, ◌∙◌}
use Rattle.std.proofs.lemmas.Result.{err_from_is_err_and}
use Rattle.look.specs.Look.{answer_at}
use Rattle.arcrefusals.specs.Given.{sizes_of, arc_lent}
use Rattle.arccalls.specs.LookLaws.{arc-answers}
use Rattle.arccalls.proofs.looks.look.Goals as goal

pub returns-in_err-place_of : goal.returns-in_err-place_of
unfolding answer_at
returns-in_err-place_of c =
    let a = c.args in
    let p = err_from_is_err_and c.from_residual.result c.from_residual.ensures.1 in
    rw (p.1, p.2) (λ k. ap answer_at (c.in_err-place_of.ensures k) ∙ arc-answers (sizes_of a.a) (arc_lent a.a a.disk.now a.flash.now
    a.addresses.now a.blocks.now a.lists.now k) a.asked.0)

pub returns-in-Flash : goal.returns-in-Flash
unfolding answer_at
returns-in-Flash c k =
    let a = c.args in
    ap answer_at (ap Ok (sym c.in-Flash.is) ∙ c.in_ok-place_of.ensures k) ∙ arc-answers (sizes_of a.a) (arc_lent a.a a.disk.now a.flash.now
    a.addresses.now a.blocks.now a.lists.now k) a.asked.0

pub returns-in-Disk : goal.returns-in-Disk
unfolding answer_at
returns-in-Disk c k =
    let a = c.args in
    ap answer_at (ap Ok (sym c.in-Disk.is) ∙ c.in_ok-place_of.ensures k) ∙ arc-answers (sizes_of a.a) (arc_lent a.a a.disk.now a.flash.now
    a.addresses.now a.blocks.now a.lists.now k) a.asked.0
