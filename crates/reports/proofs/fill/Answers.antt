-- A turn fills row k. Assumes nothing.
use Rattle.std.proofs.Common.{◌≡◌, ◌+◌, ◌-◌, ◌*◌, ◌≤◌, refl, ap, ◌∙◌, arith, length, take, zero-mul, length-take-le}
use Rattle.reports.specs.RowByRow.{rows_in}
use Rattle.reports.proofs.Filling.{row-in, row_next, rows-done}
use Rattle.reports.proofs.fill.Goals as goal

pub loop-k-init : goal.loop-k-init
unfolding rows_in
loop-k-init c =
    record {
      long = refl;
      filled = ap (λ k. take k c.args.report.now) (zero-mul c.args.bytes);
    }

pub loop-k-preserved : goal.loop-k-preserved
loop-k-preserved c =
    let a = c.args in
    let l = c.loop-k in
    let r = take a.bytes c.row_bytes-r.result in
    let e : a.bytes - 0 ≡ a.bytes = omega arith in
    let put = rw e at c.put.ensures in
    let long = length-take-le a.bytes c.row_bytes-r.result (omega (arith, c.row_bytes-r.ensures.result_len)) in
    let fits : l.k * a.bytes + a.bytes ≤ length l.report = omega (arith, row-in l.k a.m a.bytes c.loop-k-test.true) in
    record {
      long = c.put.auto.dst ∙ l.invariant.long;
      filled = ap (take ((l.k + 1) * a.bytes)) put
          ∙ row_next a.bytes a.n a.addresses.now l.k l.report r fits long (ap (take a.bytes) c.row_bytes-r.ensures.value) l.invariant.filled;
    }

pub returns : goal.returns
returns c =
    let a = c.args in
    let l = c.loop-k in
    let e : l.k ≡ a.m = omega arith in
    rows-done a.bytes a.n a.addresses.now l.report a.m (l.invariant.long ∙ c.requires.3) (rw e at l.invariant.filled)
