-- 11, then the base's opening, whose 1 is 11, then the lists' length. Assumes nothing.
use Rattle.std.proofs.Common.{arith, sym, ap, ◌∙◌}
use Rattle.std.proofs.lemmas.Result.{err_from_is_err_and}
use Rattle.refusal.specs.Numbers.{refused}
use Rattle.std.specs.Prelude.{◌*◌}
use Rattle.paper.specs.Lent.{opening, refusal}
use Rattle.parts.specs.Rep.{numbers_of}
use Rattle.refusals.specs.Given.{lent}
use Rattle.arc.proofs.ArcDemandLaws.{arc-fits}
use Rattle.arcrefusals.specs.Given.{sizes_of, arc_lent}
use Rattle.arcrefusals.specs.OpeningLaws.{opening-11, opening-base, opening-lists, opening-none}
use Rattle.arcrefusals.proofs.arc_opening.Goals as goal

pub returns-then-sizes_unfit : goal.returns-then-sizes_unfit
returns-then-sizes_unfit c k =
    let a = c.args in
    opening-11 (sizes_of a.a) (arc_lent a.a a.disk.now a.flash.now a.addresses.now a.blocks.now a.lists.now k)
    (sym c.sizes_unfit.ensures ∙ c.if-sizes_unfit.true)

pub base_of-b-requires : goal.base_of-b-requires
base_of-b-requires c =
    let f = arc-fits (sizes_of c.args.a) (sym c.sizes_unfit.ensures ∙ c.if-sizes_unfit.false) in
    (f.C-most, omega (arith, f.m-most))

pub returns-in_err-of_opening : goal.returns-in_err-of_opening
returns-in_err-of_opening c k =
    let a = c.args in
    let u = sym c.sizes_unfit.ensures ∙ c.if-sizes_unfit.false in
    let e = c.in_err-of_opening.ensures k
    ∙ ap (λ b. refusal (numbers_of b) (lent b a.disk.now a.flash.now a.addresses.now a.blocks.now k) opening) c.base_of-b.ensures in
    let p = err_from_is_err_and c.from_residual.result c.from_residual.ensures.1 in
    rw (p.1, p.2) (e ∙ opening-base (sizes_of a.a) (arc_lent a.a a.disk.now a.flash.now a.addresses.now a.blocks.now a.lists.now k) u (λ z. refused _ (e ∙ z)))

pub overflow_mul-b : goal.overflow_mul-b
overflow_mul-b c =
    let f = arc-fits (sizes_of c.args.a) (sym c.sizes_unfit.ensures ∙ c.if-sizes_unfit.false) in
    omega (arith, f.m-most, ap (λ b. b.rows) c.base_of-b.ensures)

pub returns-then-lists-b : goal.returns-then-lists-b
returns-then-lists-b c k =
    let a = c.args in
    let u = sym c.sizes_unfit.ensures ∙ c.if-sizes_unfit.false in
    let e = c.in_ok-of_opening.ensures k
    ∙ ap (λ b. refusal (numbers_of b) (lent b a.disk.now a.flash.now a.addresses.now a.blocks.now k) opening) c.base_of-b.ensures in
    opening-lists (sizes_of a.a) (arc_lent a.a a.disk.now a.flash.now a.addresses.now a.blocks.now a.lists.now k) u (sym e)
    (λ z. c.if-lists-b.true (z ∙ ap (λ b. b.rows * 4) (sym c.base_of-b.ensures)))

pub returns : goal.returns
returns c k =
    let a = c.args in
    let u = sym c.sizes_unfit.ensures ∙ c.if-sizes_unfit.false in
    let e = c.in_ok-of_opening.ensures k
    ∙ ap (λ b. refusal (numbers_of b) (lent b a.disk.now a.flash.now a.addresses.now a.blocks.now k) opening) c.base_of-b.ensures in
    opening-none (sizes_of a.a) (arc_lent a.a a.disk.now a.flash.now a.addresses.now a.blocks.now a.lists.now k) u (sym e)
    (c.if-lists-b.false ∙ ap (λ b. b.rows * 4) c.base_of-b.ensures)
