-- The refusals of a report: what the checks, in their order, say of its number. Assumes nothing.
use mathlib.Core.Path.{◌≡◌, refl}
use mathlib.Core.List.{List}
use Prim.Native.Nat.{ℕ, ◌*◌}
use lib.ListN.{length}
use borrow.Author.Tests.{eq-eqb, ne_eqb}
use Rattle.paper.specs.Cache.{Counters}
use Rattle.tables.specs.Records.{held_rows}
use Rattle.paper.specs.Lent.{box_in}
use Rattle.paper.specs.Reports.{Reader, width, report_refusal}
use Rattle.parts.specs.declared.BoxRecord.{BoxRecord}
use Rattle.parts.specs.Rep.{numbers_of}
use Rattle.refusals.specs.Given.{lent}
use Rattle.refusals.specs.Sizes.{Opens}
use Rattle.refusals.specs.Checks.{tables_refusal}

module _ (b : BoxRecord) (disk flash addresses blocks : List ℕ) (k : Counters) (o : Opens b disk flash addresses blocks k) (w : Reader) (report : List ℕ) where
  abbrev number : ℕ
  number = report_refusal (numbers_of b) (lent b disk flash addresses blocks k) w report

  pub report-2 : (length report ≡ b.rows * width w → ⊥) → 2 ≡ number
  unfolding report_refusal
  report-2 n = rw (o.fit, o.limit, o.right, ne_eqb (length report) (b.rows * width w) n) refl

  -- it has no 3 and no 9
  pub report-rest : length report ≡ b.rows * width w → tables_refusal b addresses blocks ≡ number
  unfolding report_refusal tables_refusal box_in held_rows
  report-rest e = rw (o.fit, o.limit, o.right, eq-eqb (length report) (b.rows * width w) e) refl
