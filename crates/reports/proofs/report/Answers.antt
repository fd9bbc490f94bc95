-- The refusal tells what is left: the bytes as they were, or the held rows. Assumes nothing.
use Rattle.std.specs.Prelude.{ℕ, ◌*◌}
use Rattle.std.proofs.Common.{refl, sym, ap, ◌∙◌, arith}
use Rattle.std.proofs.lemmas.Result.{err_from_is_err_and}
use Rattle.refusal.specs.Numbers.{refused}
use Rattle.paper.specs.Cache.{no_counts}
use Rattle.parts.specs.Rep.{numbers_of}
use Rattle.refusals.specs.Given.{lent}
use Rattle.policy.specs.CallLaws.{all-bytes}
use Rattle.reports.specs.Contract.{reader_of}
use Rattle.reports.specs.RowByRow.{rows_in}
use Rattle.reports.specs.ReportLaws.{report-finds, report-keeps, report-given}
use Rattle.reports.proofs.report.Goals as goal

pub returns-in_err-of_report : goal.returns-in_err-of_report
returns-in_err-of_report c k =
    let a = c.args in
    let v = c.in_err-of_report.ensures k (reader_of a.reader) a.report.now c.width_of-bytes.ensures.value refl in
    let p = err_from_is_err_and c.from_residual.result c.from_residual.ensures.1 in
    rw (p.1, p.2) (report-keeps (reader_of a.reader) (numbers_of a.b) (lent a.b a.disk.now a.flash.now a.addresses.now a.blocks.now k) a.report.now
    _ v (refused _))

pub fill-requires : goal.fill-requires
fill-requires c =
    let a = c.args in
    let k = no_counts in
    let w = c.width_of-bytes in
    let v = c.in_ok-of_report.ensures k (reader_of a.reader) a.report.now w.ensures.value refl in
    let x = report-finds (reader_of a.reader) (numbers_of a.b) (lent a.b a.disk.now a.flash.now a.addresses.now a.blocks.now k) a.report.now (sym v) in
    (x.fits.m-most, w.ensures.upper_bound, x.passes.lengths.addresses, x.long ∙ ap (λ (n : ℕ). a.b.rows * n) (sym w.ensures.value))

pub returns : goal.returns
returns c k =
    let a = c.args in
    let w = c.width_of-bytes in
    let v = c.in_ok-of_report.ensures k (reader_of a.reader) a.report.now w.ensures.value refl in
    let x = all-bytes a.addresses.now (λ i. omega (arith, c.shared_slice_known-3-1.given i)) in
    let y = all-bytes a.blocks.now (λ i. omega (arith, c.shared_slice_known-4-1.given i)) in
    report-given (reader_of a.reader) (numbers_of a.b) (lent a.b a.disk.now a.flash.now a.addresses.now a.blocks.now k) a.report.now
    (sym v) x y _ (c.fill.ensures ∙ ap (λ (n : ℕ). rows_in n a.b.held a.addresses.now a.b.rows) w.ensures.value)
