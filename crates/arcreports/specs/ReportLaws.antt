-- A report, from its number and from what is filled. Assumes nothing.
use Rattle.std.specs.Prelude.{◌≡◌, refl, List, ℕ, ◌*◌, ◌≤◌, length}
use Rattle.std.proofs.Common.{sym, ap, ◌∙◌, arith, ne_eqb}
use Rattle.tables.specs.Rows.{table_bytes}
use Rattle.tables.specs.Unsound.{addresses_unsound, dirty_uncached}
use Rattle.paper.specs.KeyedLaws.{or-both, or-false-left, or-false-right}
use Rattle.paper.specs.Cache.{Counters}
use Rattle.paper.specs.Engine.{labelled}
use Rattle.paper.specs.Lent.{wrong_buffers, other_length, box_in}
use Rattle.paper.specs.RefusalLaws.{Apart}
use Rattle.paper.proofs.RefusalLaws.{gives_none}
use Rattle.paper.specs.RowBytes.{Bytes}
use Rattle.paper.specs.Reports.{Reader, width, report_tests, report_refusal}
use Rattle.arc.specs.Arc.{Sizes, base_numbers, m_of}
use Rattle.arc.specs.ArcLent.{ArcLent, lists_unsound, top_uncached, tops_in, wrong_arc_buffers}
use Rattle.arc.specs.ArcReports.{arc_report_tests, arc_report_refusal, arc_reported}
use Rattle.parts.specs.declared.BoxRecord.{BoxRecord}
use Rattle.reports.specs.Contract.{Reported}
use Rattle.reports.specs.RowByRow.{rows_in}
use Rattle.reports.specs.ReportLaws.{report-finds, rows-given}
use Rattle.arcrefusals.specs.declared.ArcRecord.{ArcRecord}
use Rattle.arcrefusals.specs.Given.{sizes_of, base_of, arc_lent}
use Rattle.arcrefusals.specs.OpeningLaws.{unfit-base}
use Rattle.arcreports.specs.Contract.{arc_reports}

module _ (w : Reader) (Z : Sizes) (t : ArcLent) (report : List ℕ) where
  -- where no number of the D-ARC box applies, none of the base's does
  pub base-report : arc_report_refusal Z t w report ≡ 0 → report_refusal (base_numbers Z) t.base w report ≡ 0
  unfolding arc_report_refusal report_refusal
  base-report e =
      let b = t.base in
      let M = base_numbers Z in
      let s = box_in M b in
      let l = arc_report_tests Z t w report in
      let d : Apart l = (refl, (refl, (refl, (refl, (refl, (refl, (refl, (refl, tt)))))))) in
      let k = report_tests M b w report in
      let c : Apart k = (refl, (refl, (refl, (refl, (refl, (refl, (refl, (refl, tt)))))))) in
      let x = (gives_none l d).0 e in
      let two = x.1.1.0 in
      let y = x.1.1.1 in
      let own = other_length report (m_of Z * width w) in
      let right = or-false-left (wrong_buffers M b) (other_length t.lists (m_of Z * 4)) (or-false-left (wrong_arc_buffers Z t) own two) in
      let six = or-false-left (addresses_unsound Z.P (m_of Z) b.n b.addresses) (lists_unsound Z s.rows t.sizes t.lists) y.0 in
      let eight = or-false-left (dirty_uncached b.n Z.C b.addresses b.blocks) (top_uncached (labelled M) s (tops_in t.sizes t.lists))
      y.1.1.0 in
      (gives_none k c).1 (
        unfit-base Z ∙ x.0,
        (x.1.0, (or-both (wrong_buffers M b) own right (or-false-right (wrong_arc_buffers Z t) own two), (six, (y.1.0, (eight, (y.1.1.1.0, tt)))))),
      )

  -- a refused report leaves the bytes as they were
  pub arc-report-keeps : (number : ℕ) → number ≡ arc_report_refusal Z t w report → (number ≡ 0 → ⊥)
      → ◌≡◌ {A = Reported} (record { number = number; report = report }) (arc_reports w Z t report)
  unfolding arc_reported
  arc-report-keeps number e n = rw (ne_eqb (arc_report_refusal Z t w report) 0 (λ z. n (e ∙ z))) (λ i. record { number = e i; report = report })

  -- a report that is given has the held rows
  pub arc-report-given : arc_report_refusal Z t w report ≡ 0 → Bytes t.base.addresses → Bytes t.base.blocks → (filled : List ℕ)
      → filled ≡ rows_in (width w) t.base.n t.base.addresses (m_of Z)
      → ◌≡◌ {A = Reported} (record { number = 0; report = filled }) (arc_reports w Z t report)
  unfolding arc_reported
  arc-report-given e bytes_a bytes_b filled f =
      let r = rows-given w (base_numbers Z) t.base report (base-report e) bytes_a bytes_b filled f in
      rw e (λ i. record { number = 0; report = r i })

module _ (w : Reader) (a : ArcRecord) (disk flash addresses blocks lists : List ℕ) (k : Counters) (report : List ℕ)
    (e : arc_report_refusal (sizes_of a) (arc_lent a disk flash addresses blocks lists k) w report ≡ 0) where
  -- the numbers that the base's record is made of
  pub numbers-small : (a.sizes.cached ≤ 256) × (a.sizes.extra ≤ 1024)
  numbers-small =
      let f = (report-finds w (base_numbers (sizes_of a)) (arc_lent a disk flash addresses blocks lists k).base report
      (base-report w (sizes_of a) (arc_lent a disk flash addresses blocks lists k) report e)).fits in
      let m = f.m-most in
      (f.d-most, omega (arith, m))

  -- what the rows are filled with, of the base's record
  pub fill-fits : (b : BoxRecord) → b ≡ base_of a → (bytes : ℕ) → bytes ≡ width w → bytes ≤ 7
      → (b.rows ≤ 1024) × (bytes ≤ 7) × (length addresses ≡ table_bytes b.rows) × (length report ≡ b.rows * bytes)
  fill-fits b eb bytes ew h =
      let f = report-finds w (base_numbers (sizes_of a)) (arc_lent a disk flash addresses blocks lists k).base report
      (base-report w (sizes_of a) (arc_lent a disk flash addresses blocks lists k) report e) in
      let em = ap (λ (x : BoxRecord). x.rows) eb in
      let m = f.fits.m-most in
      (omega (arith, m, em), h, f.passes.lengths.addresses ∙ ap table_bytes (sym em), f.long ∙ (λ i. sym em i * sym ew i))

  pub rows-filled : (b : BoxRecord) → b ≡ base_of a → (bytes : ℕ) → bytes ≡ width w → Bytes addresses → Bytes blocks → (filled : List ℕ)
      → filled ≡ rows_in bytes b.held addresses b.rows
      → ◌≡◌ {A = Reported} (record { number = 0; report = filled }) (arc_reports w (sizes_of a) (arc_lent a disk flash addresses blocks lists k) report)
  rows-filled b eb bytes ew bytes_a bytes_b filled f =
      arc-report-given w (sizes_of a) (arc_lent a disk flash addresses blocks lists k) report e bytes_a bytes_b filled
      (f ∙ (λ i. rows_in (ew i) (eb i).held addresses (eb i).rows))
