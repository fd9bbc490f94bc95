-- A report, from its number and from what is filled. Assumes nothing.
use Rattle.std.specs.Prelude.{◌≡◌, refl, not, List, ℕ, ◌*◌, length}
use Rattle.std.proofs.Common.{◌∙◌}
use Rattle.std.proofs.Math.Dec.{eqb}
use borrow.Author.Tests.{eqb-true, ne_eqb, not-false}
use Rattle.paper.specs.KeyedLaws.{or-false-left, or-false-right}
use Rattle.paper.specs.Cache.{Numbers}
use Rattle.paper.specs.Lent.{Lent, wrong_buffers, box_in}
use Rattle.paper.specs.LentLaws.{Passes}
use Rattle.paper.proofs.LentLaws.{right-lengths}
use Rattle.paper.specs.RefusalLaws.{Apart}
use Rattle.paper.proofs.RefusalLaws.{gives_none}
use Rattle.paper.specs.CallLaws.{Fits}
use Rattle.paper.proofs.CallLaws.{fits}
use Rattle.paper.specs.RowBytes.{Bytes}
use Rattle.paper.proofs.LayoutLaws.{passes-addrs}
use Rattle.paper.specs.Reports.{Reader, width, report_of, report_tests, report_refusal, reported}
use Rattle.reports.specs.Contract.{Reported, reports}
use Rattle.reports.specs.RowByRow.{rows_in}
use Rattle.reports.specs.RowLaws.{rows_are}

module _ (w : Reader) (N : Numbers) (t : Lent) (report : List ℕ) where
  -- what a report that is given finds
  pub record Finds : Type 0 where
    pub fits : Fits N
    pub passes : Passes N t
    pub long : length report ≡ N.m * width w

  pub report-finds : report_refusal N t w report ≡ 0 → Finds
  unfolding report_refusal
  report-finds e =
      let x = report_tests N t w report in
      let d : Apart x = (refl, (refl, (refl, (refl, (refl, (refl, (refl, (refl, tt)))))))) in
      let y = (gives_none x d).0 e in
      let right = y.1.1.0 in
      let own = eqb (length report) (N.m * width w) in
      record {
        fits = fits N y.0;
        passes = record {
          lengths = right-lengths N t (or-false-left (wrong_buffers N t) (not own) right);
          addresses = y.1.1.1.0;
          blocks = y.1.1.1.1.0;
          dirty = y.1.1.1.1.1.0;
        };
        long = eqb-true (length report) (N.m * width w) (not-false own (or-false-right (wrong_buffers N t) (not own) right));
      }

  -- a refused report leaves the bytes as they were
  pub report-keeps : (number : ℕ) → number ≡ report_refusal N t w report → (number ≡ 0 → ⊥)
      → ◌≡◌ {A = Reported} (record { number = number; report = report }) (reports w N t report)
  unfolding reported
  report-keeps number e n = rw (ne_eqb (report_refusal N t w report) 0 (λ z. n (e ∙ z))) (λ i. record { number = e i; report = report })

  -- what is filled is the paper's report of the held rows
  pub rows-given : report_refusal N t w report ≡ 0 → Bytes t.addresses → Bytes t.blocks → (filled : List ℕ)
      → filled ≡ rows_in (width w) t.n t.addresses N.m → filled ≡ report_of w N.m (box_in N t).rows
  rows-given e bytes_a bytes_b filled f =
      let x = report-finds e in
      f ∙ rows_are w N.P N.m t.n t.addresses (box_in N t).rows (passes-addrs N t x.passes bytes_a bytes_b x.fits.P-most)

  -- a report that is given has the held rows
  pub report-given : report_refusal N t w report ≡ 0 → Bytes t.addresses → Bytes t.blocks → (filled : List ℕ)
      → filled ≡ rows_in (width w) t.n t.addresses N.m → ◌≡◌ {A = Reported} (record { number = 0; report = filled }) (reports w N t report)
  unfolding reported
  report-given e bytes_a bytes_b filled f =
      let r = rows-given e bytes_a bytes_b filled f in
      rw e (λ i. record { number = 0; report = r i })
