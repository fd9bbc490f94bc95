-- What the calls of a D-ARC box promise: the code's types in the paper's words. Assumes nothing.
use Rattle.std.specs.Prelude.{cond, List, [], ℕ, eqb, Result, Err}
use Rattle.std.proofs.Math.Option.{Option}
use Rattle.paper.specs.Lent.{Ask, opening, calling}
use Rattle.arc.specs.Arc.{Sizes, base_numbers}
use Rattle.arc.specs.ArcLent.{ArcLent, ArcAfter, arc_refusal, arc_call, arc_opened, arc_label_after}
use Rattle.refusals.specs.Given.{counters_of}
use Rattle.arcrefusals.specs.declared.ArcRecord.{ArcRecord}
use Rattle.arcrefusals.specs.Given.{sizes_of, arc_lent}
use Rattle.look.specs.declared.Place.{Place}
use Rattle.look.specs.Look.{where_is}
use Rattle.outcome.specs.declared.Outcome.{Outcome}
use Rattle.policy.specs.declared.Answered.{Answered}
use Rattle.policy.specs.Contract.{answer_of}
use Rattle.refusal.specs.Numbers.{number_of}

-- a record with another number of rows held
abbrev pub with_held : ArcRecord → ℕ → ArcRecord
with_held a n = record { size = a.size; blocks = a.blocks; held = n; label = a.label; limit = a.limit; sizes = a.sizes }

-- what a call tells and leaves: the numbers of its box record, its answer, what is lent, the lists and their sizes too, the one block and a look's part
pub record ArcTold : Type 0 where
  pub numbers : Sizes
  pub after : ArcAfter

abbrev pub arc_told : Outcome Answered ArcRecord → (disk flash addresses blocks lists : List ℕ) → Option (List ℕ) → ArcTold
arc_told r disk flash addresses blocks lists block =
    record {
      numbers = sizes_of r.box_record;
      after = record {
        answer = answer_of r.answer;
        lent = arc_lent r.box_record disk flash addresses blocks lists (counters_of r.counters);
        block = block;
        part = [];
      };
    }

-- the paper's call on what is lent
abbrev pub arc_called : ArcRecord → ArcLent → Ask → ArcTold
arc_called a t q = record { numbers = sizes_of a; after = arc_call (sizes_of a) t q }

-- ---- a look

-- the place of the block of a, or the number of the refusal: the base's place, where no number of the D-ARC box applies
unfoldable pub arc_where : Sizes → ArcLent → ℕ → Result Place ℕ
arc_where Z t a =
    cond (eqb (arc_refusal Z t (calling (Ask.look a))) 0) (where_is (base_numbers Z) t.base a) (Err (arc_refusal Z t (calling (Ask.look a))))

-- ---- an opening

-- the record of a box that holds none: "p, first 0", and lists of no address
abbrev pub empty_arc : (size blocks cached extra limit : ℕ) → (label : List ℕ) → ArcRecord
empty_arc size blocks cached extra limit label =
    record {
      size = size;
      blocks = blocks;
      held = 0;
      label = label;
      limit = limit;
      sizes = record { t1 = 0; t2 = 0; b1 = 0; b2 = 0; b3 = 0; p = 0; cached = cached; extra = extra };
    }

-- a record with another label
abbrev pub relabelled : ArcRecord → List ℕ → ArcRecord
relabelled a l = record { size = a.size; blocks = a.blocks; held = a.held; label = l; limit = a.limit; sizes = a.sizes }

-- numbers with another label
abbrev pub with_label : Sizes → List ℕ → Sizes
with_label Z l = record { B = Z.B; P = Z.P; C = Z.C; X = Z.X; label = l; t = Z.t }

-- what an opening tells and leaves: its number, 0 where the box is open, the numbers and the label of the box record, and what is lent, with the sizes
pub record ArcOpening : Type 0 where
  pub number : ℕ
  pub numbers : Sizes
  pub lent : ArcLent

abbrev pub arc_begun : Outcome (Unit {0}) ArcRecord → (disk flash addresses blocks lists : List ℕ) → ArcOpening
arc_begun r disk flash addresses blocks lists =
    record {
      number = number_of r.answer;
      numbers = sizes_of r.box_record;
      lent = arc_lent r.box_record disk flash addresses blocks lists (counters_of r.counters);
    }

-- the paper's opening of what is lent
abbrev pub arc_opens : ArcRecord → ArcLent → ArcOpening
arc_opens a t =
    let Z = sizes_of a in
    record { number = arc_refusal Z t opening; numbers = with_label Z (arc_label_after Z t); lent = arc_opened Z t }
