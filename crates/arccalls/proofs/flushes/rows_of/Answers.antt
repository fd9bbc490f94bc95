-- Numbers that 11 lets pass are small. Assumes nothing.
use mathlib.Core.Path.{sym, ◌∙◌}
use mathlib.Core.Bool.{true≢false}
use native.Mathlib.Omega.{arith}
use Rattle.arc.proofs.ArcDemandLaws.{arc-fits}
use Rattle.arcrefusals.specs.Given.{sizes_of}
use Rattle.arccalls.proofs.flushes.rows_of.Goals as goal

pub returns-then-sizes_unfit : goal.returns-then-sizes_unfit
returns-then-sizes_unfit c u = absurd (true≢false (sym c.if-sizes_unfit.true ∙ c.sizes_unfit.ensures ∙ u))

pub base_of-requires : goal.base_of-requires
base_of-requires c =
    let f = arc-fits (sizes_of c.args.a) (sym c.sizes_unfit.ensures ∙ c.if-sizes_unfit.false) in
    let x = f.C-most in
    let y = f.m-most in
    (omega (arith, x), omega (arith, y))
