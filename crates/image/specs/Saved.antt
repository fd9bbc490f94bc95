-- Save and restore on lent memory, for boxes of either kind.
-- Assumes nothing.
use Rattle.std.specs.Prelude.{Bool, ◌||◌, cond, List, [], ◌∷◌, ◌++◌, ℕ, eqb, length}
use Rattle.std.proofs.Math.Option.{Option, none, some}
use Rattle.tables.specs.Rows.{zeros, le4}
use Rattle.paper.specs.Cache.{Numbers, Counters}
use Rattle.paper.specs.Lent.{Lent, Ask, calling, Test, test, first, tests, Answer, refused, other_length, call}
use Rattle.arc.specs.Arc.{Sizes, m_of}
use Rattle.arc.specs.ArcLent.{ArcLent, arc_tests, arc_call}
use Rattle.image.specs.Body.{Fields, body_of, Form, fields_in}
use Rattle.image.specs.Area.{put, applied, clearing, save_writes}
use Rattle.image.specs.Image.{body_in, too_short, image_tests}
use Rattle.image.specs.Kinds.{number_at, string_at, lru_fields, arc_fields, list_sizes}

-- ---- save

-- What a save asks of a kind of box in lent memory M: the tests of its full flush, what that answers and leaves, and the fields of its body
pub record Saver (M : Type 0) : Type 0 where
  pub tests : M → List Test
  pub answer : M → Answer
  pub flushed : M → M
  pub fields : M → Fields

abbrev pub lru_saver : Numbers → Saver Lent
lru_saver N =
    let q = Ask.flush N.m in
    record {
      tests = λ t. tests N t (calling q);
      answer = λ t. (call N t q).answer;
      flushed = λ t. (call N t q).lent;
      fields = lru_fields N;
    }

abbrev pub arc_saver : Sizes → Saver ArcLent
arc_saver Z =
    let q = Ask.flush (m_of Z) in
    record {
      tests = λ t. arc_tests Z t (calling q);
      answer = λ t. (arc_call Z t q).answer;
      flushed = λ t. (arc_call Z t q).lent;
      fields = arc_fields Z;
    }

-- What a save answers and leaves
pub record Saved (M : Type 0) : Type 0 where
  pub answer : Answer
  pub lent : M
  pub area : List ℕ

module _ {M : Type 0} (k : Saver M) where
  -- "It refuses with 14 an area too short for header, body and fill, in a save after all else"
  abbrev pub save_tests : M → List ℕ → List Test
  save_tests t area = k.tests t ++ (test (too_short area (length (body_of (k.fields t)))) 14 ∷ [])

  unfoldable pub save_refusal : M → List ℕ → ℕ
  save_refusal t area = first (save_tests t area)

  -- "A save call flushes, then writes a body into a lent area": the body of the box as the flush left it
  abbrev pub body_saved : M → List ℕ
  body_saved t = body_of (k.fields (k.flushed t))

  -- A refused save keeps all: it doesn't flush.
  unfoldable pub save : M → List ℕ → Saved M
  save t area =
      cond (eqb (save_refusal t area) 0)
      (record { answer = k.answer t; lent = k.flushed t; area = applied (save_writes (body_saved t)) area })
      (record { answer = refused (save_refusal t area); lent = t; area = area })

-- ---- restore

-- What a restore leaves: the number of its refusal, 0 where it is served; the record, as the numbers and the label of a body; the area, the tables, the lists
pub record Restored : Type 0 where
  pub number : ℕ
  pub given : Fields
  pub area : List ℕ
  pub addresses : List ℕ
  pub blocks : List ℕ
  pub lists : List ℕ

-- the record in fields: all but the tables and the lists
abbrev pub record_of : Fields → Fields
record_of x = record { numbers = x.numbers; strings = string_at x 0 ∷ [] }

-- "A refused restore returns a record of zeros.": as many as a record of either kind has
abbrev pub no_record : Fields
no_record = record { numbers = zeros 13; strings = zeros 64 ∷ [] }

module _ (forms : ℕ → Option Form) where
  abbrev pub fields_as : Option Form → List ℕ → Fields
  fields_as none body = no_record
  fields_as (some f) body = fields_in f body

  -- the fields of the body in an area, by the form that it starts with
  unfoldable pub fields_found : List ℕ → Fields
  fields_found area = fields_as (forms (le4 (body_in area) 0)) (body_in area)

  -- "then 2": what is lent has the lengths of the tables and the lists in the body; "for a D-LRU image the lists' buffer has length 0"
  unfoldable pub wrong_tables : Fields → (addresses blocks lists : List ℕ) → Bool
  wrong_tables x a b l =
      other_length a (length (string_at x 1)) || other_length b (length (string_at x 2)) || other_length l (length (string_at x 3))

  -- "a restore checks 15 first .. then 14, then 16 .. then 2"
  abbrev pub restore_tests : (area addresses blocks lists : List ℕ) → List Test
  restore_tests area a b l = image_tests forms area (test (wrong_tables (fields_found area) a b l) 2 ∷ [])

  unfoldable pub restore_refusal : (area addresses blocks lists : List ℕ) → ℕ
  restore_refusal area a b l = first (restore_tests area a b l)

  -- "Restore reads the header, clears it, and gives back the saved box, touching nothing else"
  unfoldable pub restored : List ℕ → Restored
  restored area =
      let x = fields_found area in
      record {
        number = 0;
        given = record_of x;
        area = put area clearing;
        addresses = string_at x 1;
        blocks = string_at x 2;
        lists = string_at x 3;
      }

  -- a refused one keeps all
  abbrev pub unrestored : ℕ → (area addresses blocks lists : List ℕ) → Restored
  unrestored n area a b l = record { number = n; given = no_record; area = area; addresses = a; blocks = b; lists = l }

  unfoldable pub restore : (area addresses blocks lists : List ℕ) → Restored
  restore area a b l =
      cond (eqb (restore_refusal area a b l) 0) (restored area) (unrestored (restore_refusal area a b l) area a b l)

-- ---- the memory that goes on after a restore: disk and flash as the save left them, and counters of the caller's

abbrev pub goes_on : Lent → Restored → Counters → Lent
goes_on t r k =
    record { n = number_at r.given 5; disk = t.disk; flash = t.flash; addresses = r.addresses; blocks = r.blocks; counters = k }

abbrev pub arc_goes_on : ArcLent → Restored → Counters → ArcLent
arc_goes_on t r k = record { base = goes_on t.base r k; sizes = list_sizes r.given; lists = r.lists }
