-- U7 on the lent bytes of a D-ARC box: the reports of the held rows, for the manager and for the desk.
-- Assumes nothing.
use Rattle.std.specs.Prelude.{◌||◌, cond, List, [], ◌∷◌, ℕ, ◌*◌, eqb}
use Rattle.paper.specs.Lent.{Test, test, first, limit_outside, other_length, box_in}
use Rattle.paper.specs.Reports.{Reader, width, report_of}
use Rattle.arc.specs.Arc.{Sizes, base_numbers, m_of}
use Rattle.arc.specs.ArcLent.{ArcLent, unfit_arc, wrong_arc_buffers, arc_table_tests}

-- "Reports count nothing and have no 3 and no 9."; 11 in place of 1
abbrev pub arc_report_tests : Sizes → ArcLent → Reader → (report : List ℕ) → List Test
arc_report_tests Z t w report =
    test (unfit_arc Z) 11
    ∷ test (limit_outside (base_numbers Z)) 12
    ∷ test (wrong_arc_buffers Z t || other_length report (m_of Z * width w)) 2
    ∷ arc_table_tests Z t []

unfoldable pub arc_report_refusal : Sizes → ArcLent → Reader → (report : List ℕ) → ℕ
arc_report_refusal Z t w report = first (arc_report_tests Z t w report)

-- the report's bytes afterwards: the report, or those that were there. Nothing else is written.
unfoldable pub arc_reported : Sizes → ArcLent → Reader → (report : List ℕ) → List ℕ
arc_reported Z t w report =
    cond (eqb (arc_report_refusal Z t w report) 0) (report_of w (m_of Z) (box_in (base_numbers Z) t.base).rows) report
