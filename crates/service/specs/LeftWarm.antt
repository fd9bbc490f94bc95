-- What a save and a restore leave: the paper's on the numbers and the lent memory that are in the bytes, told in numbers and bytes.
-- Assumes nothing.
use Rattle.std.specs.Prelude.{cond, List, ℕ, eqb, length}
use Rattle.paper.specs.Lent.{Lent}
use Rattle.parts.specs.Rep.{numbers_of}
use Rattle.image.specs.Kinds.{kinds}
use Rattle.image.specs.Saved.{Saved, lru_saver, save, Restored, restore}
use Rattle.restoring.specs.Given.{box_of}
use Rattle.fields.specs.Fields.{record_in, put_record, fitting, state_bytes}
use Rattle.fields.specs.Noted.{answer_number, state_after, answer_after}
use Rattle.service.specs.Left.{lent_in}

-- ---- a save

pub record LeftSave : Type 0 where
  pub number : ℕ
  pub state : List ℕ
  pub disk : List ℕ
  pub flash : List ℕ
  pub addresses : List ℕ
  pub blocks : List ℕ
  pub area : List ℕ
  pub answer : List ℕ

-- it answers and counts as its flush
unfoldable pub saved_in : (state answer : List ℕ) → Saved Lent → LeftSave
saved_in s l x =
    record {
      number = answer_number x.answer;
      state = state_after x.answer x.lent.n x.lent.counters s;
      disk = x.lent.disk;
      flash = x.lent.flash;
      addresses = x.lent.addresses;
      blocks = x.lent.blocks;
      area = x.area;
      answer = answer_after x.answer l;
    }

-- A state or an answer of another length: 2, and nothing is changed.
unfoldable pub leaves_save : (state disk flash addresses blocks area answer : List ℕ) → LeftSave
leaves_save s disk flash addresses blocks area l =
    cond (fitting 24 s l)
    (saved_in s l (save (lru_saver (numbers_of (record_in s))) (lent_in s disk flash addresses blocks) area))
    (record { number = 2; state = s; disk = disk; flash = flash; addresses = addresses; blocks = blocks; area = area; answer = l })

-- ---- a restore

pub record LeftRestore : Type 0 where
  pub number : ℕ
  pub state : List ℕ
  pub area : List ℕ
  pub addresses : List ℕ
  pub blocks : List ℕ
  pub lists : List ℕ

-- the record goes into the state, of zeros where it is refused; the counters there are the caller's
unfoldable pub restored_in : (state : List ℕ) → Restored → LeftRestore
restored_in s x =
    record {
      number = x.number;
      state = put_record (box_of x.given) s;
      area = x.area;
      addresses = x.addresses;
      blocks = x.blocks;
      lists = x.lists;
    }

-- A state of another length: 2, and nothing is changed.
unfoldable pub leaves_restore : (state area addresses blocks lists : List ℕ) → LeftRestore
leaves_restore s area addresses blocks lists =
    cond (eqb (length s) state_bytes)
    (restored_in s (restore kinds area addresses blocks lists))
    (record { number = 2; state = s; area = area; addresses = addresses; blocks = blocks; lists = lists })
