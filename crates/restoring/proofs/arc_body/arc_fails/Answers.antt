-- 11, 12, and the rest of the body. Assumes nothing.
use Rattle.std.proofs.Common.{arith, sym, ap, ◌∙◌}
use Rattle.paper.specs.Lent.{limit_outside}
use Rattle.arc.proofs.ArcDemandLaws.{arc-fits}
use Rattle.parts.specs.declared.BoxRecord.{BoxRecord}
use Rattle.parts.specs.Rep.{numbers_of}
use Rattle.arcrefusals.specs.Given.{sizes_of}
use Rattle.restoring.specs.ArcBodyLaws.{arc-short-body, arc-unfit-body, arc-limit-body}
use Rattle.restoring.proofs.arc_body.arc_fails.Goals as goal

pub returns-then-body-lt116 : goal.returns-then-body-lt116
returns-then-body-lt116 c k = arc-short-body c.args.body.now k c.if-body-lt116.true

pub returns-then-sizes_unfit : goal.returns-then-sizes_unfit
returns-then-sizes_unfit c k =
    arc-unfit-body c.args.body.now _ c.arc_record_in-a.ensures k (sym c.sizes_unfit.ensures ∙ c.if-sizes_unfit.true)

pub base_of-requires : goal.base_of-requires
base_of-requires c =
    let f = arc-fits (sizes_of c.arc_record_in-a.result) (sym c.sizes_unfit.ensures ∙ c.if-sizes_unfit.false) in
    let m = f.m-most in
    (f.C-most, omega (arith, m))

-- 12 of the base's record
pub returns-then-limit_unfit : goal.returns-then-limit_unfit
returns-then-limit_unfit c k =
    let limited = c.limit_unfit.ensures ∙ ap (λ (b : BoxRecord). limit_outside (numbers_of b)) c.base_of.ensures in
    arc-limit-body c.args.body.now _ c.arc_record_in-a.ensures k (sym c.sizes_unfit.ensures ∙ c.if-sizes_unfit.false)
    (sym limited ∙ c.if-limit_unfit.true)

pub arc_sized_fails-requires : goal.arc_sized_fails-requires
arc_sized_fails-requires c =
    let f = arc-fits (sizes_of c.arc_record_in-a.result) (sym c.sizes_unfit.ensures ∙ c.if-sizes_unfit.false) in
    (f.P-most, f.C-most, f.m-most)

pub returns : goal.returns
returns c k =
    let limited = c.limit_unfit.ensures ∙ ap (λ (b : BoxRecord). limit_outside (numbers_of b)) c.base_of.ensures in
    c.arc_sized_fails.ensures (sym c.sizes_unfit.ensures ∙ c.if-sizes_unfit.false) (sym limited ∙ c.if-limit_unfit.false) c.arc_record_in-a.ensures k
