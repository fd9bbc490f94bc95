-- By the place. Assumes nothing.
use Rattle.std.specs.Prelude.{Ok, Err}
use Rattle.std.proofs.Common.{rules, sym, ap, ◌∙◌}
use Rattle.std.proofs.lemmas.Result.{err_from_is_err_and}
use Rattle.parts.specs.Rep.{numbers_of}
use Rattle.refusals.specs.Given.{lent}
use Rattle.look.specs.Look.{answer_at}
use Rattle.look.specs.LookLaws.{look-answers}
use Rattle.look.proofs.look.Goals as goal

pub returns-in_err-place_of : goal.returns-in_err-place_of
unfolding answer_at
returns-in_err-place_of c =
    let a = c.args in
    let p = err_from_is_err_and c.from_residual.result c.from_residual.ensures.1 in
    rw (p.1, p.2) (λ k. ap answer_at (c.in_err-place_of.ensures k) ∙ look-answers (numbers_of a.b) (lent a.b a.disk.now a.flash.now a.addresses.now a.blocks.now k) a.a.0)

pub returns-in-Flash : goal.returns-in-Flash
unfolding answer_at
returns-in-Flash c k =
    let a = c.args in
    ap answer_at (ap Ok (sym c.in-Flash.is) ∙ c.in_ok-place_of.ensures k) ∙ look-answers (numbers_of a.b) (lent a.b a.disk.now a.flash.now a.addresses.now a.blocks.now k) a.a.0

pub returns-in-Disk : goal.returns-in-Disk
unfolding answer_at
returns-in-Disk c k =
    let a = c.args in
    ap answer_at (ap Ok (sym c.in-Disk.is) ∙ c.in_ok-place_of.ensures k) ∙ look-answers (numbers_of a.b) (lent a.b a.disk.now a.flash.now a.addresses.now a.blocks.now k) a.a.0
