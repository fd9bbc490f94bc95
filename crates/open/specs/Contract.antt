-- What an opening promises: the code's types in the paper's words.
-- Assumes nothing.
use Rattle.std.specs.Prelude.{List, ℕ}
use Rattle.paper.specs.Cache.{Numbers, Counters}
use Rattle.paper.specs.Lent.{Lent, opening, refusal, opened, label_after, with_label}
use Rattle.parts.specs.declared.BoxRecord.{BoxRecord}
use Rattle.parts.specs.Rep.{numbers_of}
use Rattle.refusals.specs.Given.{counters_of, lent}
use Rattle.outcome.specs.declared.Outcome.{Outcome}
use Rattle.refusal.specs.Numbers.{number_of}

-- what an opening tells and leaves: its number, 0 where the box is open, the numbers and the label of the box record, and what is lent
pub record Opened : Type 0 where
  pub number : ℕ
  pub numbers : Numbers
  pub lent : Lent

abbrev pub begun : Outcome (Unit {0}) BoxRecord → (disk flash addresses blocks : List ℕ) → Opened
begun r disk flash addresses blocks = record {
  number = number_of r.answer;
  numbers = numbers_of r.box_record;
  lent = lent r.box_record disk flash addresses blocks (counters_of r.counters);
}

abbrev pub opens : BoxRecord → (disk flash addresses blocks : List ℕ) → Counters → Opened
opens b disk flash addresses blocks k =
    let N = numbers_of b in
    let t = lent b disk flash addresses blocks k in
    record { number = refusal N t opening; numbers = with_label N (label_after N t); lent = opened N t }
