-- The number of a folder read and of a report from their parts. Assumes nothing.
use Rattle.std.specs.Prelude.{◌≡◌, true, false, not, List, [], ◌∷◌, ℕ, ◌*◌, eqb, length, drop}
use Rattle.std.proofs.Math.Path.{refl}
use native.Mathlib.Omega.{arith}
use Rattle.paper.specs.Cache.{Counters}
use Rattle.paper.specs.Lent.{opening, other_length, over, Test, test, first}
use Rattle.paper.specs.BatchLent.{bad_count, any_outside}
use Rattle.paper.specs.Reports.{Reader, width}
use Rattle.arc.specs.Arc.{Sizes, m_of}
use Rattle.arc.specs.ArcLent.{ArcLent, arc_table_tests, arc_refusal}
use Rattle.arc.specs.ArcFolder.{arc_folder_tests, arc_folder_refusal}
use Rattle.arc.specs.ArcReports.{arc_report_tests, arc_report_refusal}
use Rattle.refusals.specs.Checks.{list_refusal}
use Rattle.arcrefusals.specs.declared.ArcRecord.{ArcRecord}
use Rattle.arcrefusals.specs.Given.{sizes_of, base_of, arc_lent}
use Rattle.arcrefusals.specs.CallLaws.{first_more, first_rest, opening-first, Opens}

module _ (a : ArcRecord) (disk flash addresses blocks lists : List ℕ) (k : Counters) where
  abbrev Z : Sizes
  Z = sizes_of a

  abbrev t : ArcLent
  t = arc_lent a disk flash addresses blocks lists k

  -- ---- a folder read

  module _ (l buffer : List ℕ) where
    abbrev folder : ℕ
    folder = arc_folder_refusal Z t l buffer

    pub many-first : (arc_refusal Z t opening ≡ 0 → ⊥) → arc_refusal Z t opening ≡ folder
    unfolding arc_folder_refusal
    many-first n =
        opening-first a disk flash addresses blocks lists k (other_length buffer (length l * Z.B)) (drop 3 (arc_folder_tests Z t l buffer)) n

    -- the tests of the list, and those behind them
    abbrev own : List Test
    own = test (not (eqb (length buffer) (length l * a.size))) 2 ∷ test (bad_count l) 10 ∷ test (any_outside a.blocks l) 3 ∷ []

    abbrev behind : List Test
    behind = arc_table_tests Z t (test (over k) 9 ∷ [])

    module _ (o : Opens a disk flash addresses blocks lists k) where
      pub many-list : (list_refusal (base_of a) l (length buffer) ≡ 0 → ⊥) → list_refusal (base_of a) l (length buffer) ≡ folder
      unfolding list_refusal arc_folder_refusal
      many-list n = rw (o.fit, o.limit, o.right) (first_more own behind n)

      pub many-rest : list_refusal (base_of a) l (length buffer) ≡ 0 → first behind ≡ folder
      unfolding list_refusal arc_folder_refusal
      many-rest e = rw (o.fit, o.limit, o.right) (first_rest own behind (omega arith, (omega arith, (omega arith, tt))) e)

  -- ---- a report

  module _ (w : Reader) (report : List ℕ) where
    abbrev number : ℕ
    number = arc_report_refusal Z t w report

    pub report-first : (arc_refusal Z t opening ≡ 0 → ⊥) → arc_refusal Z t opening ≡ number
    unfolding arc_report_refusal
    report-first n =
        opening-first a disk flash addresses blocks lists k (other_length report (m_of Z * width w)) (drop 3 (arc_report_tests Z t w report)) n

    module _ (o : Opens a disk flash addresses blocks lists k) where
      pub report-2 : eqb (length report) (m_of Z * width w) ≡ false → 2 ≡ number
      unfolding arc_report_refusal
      report-2 e = rw (o.fit, o.limit, o.right, e) refl

      -- it has no 3 and no 9
      pub report-rest : eqb (length report) (m_of Z * width w) ≡ true → first (arc_table_tests Z t []) ≡ number
      unfolding arc_report_refusal
      report-rest e = rw (o.fit, o.limit, o.right, e) refl
