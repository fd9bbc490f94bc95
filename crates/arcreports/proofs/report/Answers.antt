-- The refusal tells what is left: the bytes as they were, or the held rows. Assumes nothing.
use Rattle.std.proofs.Common.{refl, sym, arith}
use Rattle.std.proofs.lemmas.Result.{err_from_is_err_and}
use Rattle.refusal.specs.Numbers.{refused}
use Rattle.paper.specs.Cache.{no_counts}
use Rattle.policy.specs.CallLaws.{all-bytes}
use Rattle.reports.specs.Contract.{reader_of}
use Rattle.arcrefusals.specs.Given.{sizes_of, arc_lent}
use Rattle.arcreports.specs.ReportLaws.{arc-report-keeps, numbers-small, fill-fits, rows-filled}
use Rattle.arcreports.proofs.report.Goals as goal

pub returns-in_err-arc_report : goal.returns-in_err-arc_report
returns-in_err-arc_report c k =
    let a = c.args in
    let v = c.in_err-arc_report.ensures k (reader_of a.reader) a.report.now c.width_of-bytes.ensures.value refl in
    let p = err_from_is_err_and c.from_residual.result c.from_residual.ensures.1 in
    rw (p.1, p.2) (arc-report-keeps (reader_of a.reader) (sizes_of a.a)
    (arc_lent a.a a.disk.now a.flash.now a.addresses.now a.blocks.now a.lists.now k) a.report.now _ v (refused _))

pub base_of-b-requires : goal.base_of-b-requires
base_of-b-requires c =
    let a = c.args in
    let k = no_counts in
    let v = c.in_ok-arc_report.ensures no_counts (reader_of a.reader) a.report.now c.width_of-bytes.ensures.value refl in
    numbers-small (reader_of a.reader) a.a a.disk.now a.flash.now a.addresses.now a.blocks.now a.lists.now k a.report.now (sym v)

pub fill-requires : goal.fill-requires
fill-requires c =
    let a = c.args in
    let k = no_counts in
    let w = c.width_of-bytes in
    let v = c.in_ok-arc_report.ensures k (reader_of a.reader) a.report.now w.ensures.value refl in
    fill-fits (reader_of a.reader) a.a a.disk.now a.flash.now a.addresses.now a.blocks.now a.lists.now k a.report.now
    (sym v) c.base_of-b.result c.base_of-b.ensures w.result w.ensures.value w.ensures.upper_bound

pub returns : goal.returns
returns c k =
    let a = c.args in
    let w = c.width_of-bytes in
    let v = c.in_ok-arc_report.ensures k (reader_of a.reader) a.report.now c.width_of-bytes.ensures.value refl in
    let x = all-bytes a.addresses.now (λ i. omega (arith, c.shared_slice_known-3-1.given i)) in
    let y = all-bytes a.blocks.now (λ i. omega (arith, c.shared_slice_known-4-1.given i)) in
    rows-filled (reader_of a.reader) a.a a.disk.now a.flash.now a.addresses.now a.blocks.now a.lists.now k a.report.now
    (sym v) c.base_of-b.result c.base_of-b.ensures w.result w.ensures.value x y _ c.fill.ensures
