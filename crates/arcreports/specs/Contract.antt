-- What a report of a D-ARC box promises: the code's types in the paper's words. Assumes nothing.
use Rattle.std.specs.Prelude.{List, ℕ}
use Rattle.paper.specs.Reports.{Reader}
use Rattle.arc.specs.Arc.{Sizes}
use Rattle.arc.specs.ArcLent.{ArcLent}
use Rattle.arc.specs.ArcReports.{arc_report_refusal, arc_reported}
use Rattle.reports.specs.Contract.{Reported}

-- what a report tells and leaves: the number it returns, and the bytes lent to it; it is lent nothing else to write
abbrev pub arc_reports : Reader → Sizes → ArcLent → (report : List ℕ) → Reported
arc_reports w Z t report = record { number = arc_report_refusal Z t w report; report = arc_reported Z t w report }
