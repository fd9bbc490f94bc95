-- What a report promises: the code's types in the paper's words.
-- Assumes nothing.
use Rattle.std.specs.Prelude.{List, ℕ}
use Rattle.paper.specs.Cache.{Numbers}
use Rattle.paper.specs.Lent.{Lent}
use Rattle.paper.specs.Reports as Paper
use Rattle.paper.specs.Reports.{manager, desk, report_refusal, reported}
use Rattle.reports.specs.declared.Reader.{Reader}
use Rattle.reports.specs.declared.Reader.TheVariants.{Manager, Desk}

-- whose report it is
abbrev pub reader_of : Reader → Paper.Reader
reader_of Manager = manager
reader_of Desk = desk

-- what a report tells and leaves: the number it returns, and the bytes lent to it; it is lent nothing else to write
pub record Reported : Type 0 where
  pub number : ℕ
  pub report : List ℕ

abbrev pub reports : Paper.Reader → Numbers → Lent → (report : List ℕ) → Reported
reports w N t report = record { number = report_refusal N t w report; report = reported N t w report }
