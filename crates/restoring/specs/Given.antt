-- What a restore finds and leaves, with the records in the code's types. Assumes nothing.
use Rattle.std.specs.Prelude.{◌≡◌, Bool, not, ◌||◌, List, [], ℕ, ◌+◌, ◌*◌, eqb, length, take, drop, Result, Ok, Err}
use Rattle.tables.specs.Rows.{zeros, le4}
use Rattle.paper.specs.Lent.{first, table_tests}
use Rattle.paper.specs.Cache.{no_counts}
use Rattle.arc.specs.Arc.{m_of}
use Rattle.arc.specs.ArcLent.{arc_table_tests}
use Rattle.parts.specs.declared.BoxRecord.{BoxRecord}
use Rattle.parts.specs.Rep.{numbers_of, empty_box}
use Rattle.refusal.specs.declared.Refusal.{Refusal}
use Rattle.refusals.specs.Given.{lent}
use Rattle.arcrefusals.specs.declared.ArcRecord.{ArcRecord}
use Rattle.arcrefusals.specs.Given.{sizes_of, arc_lent}
use Rattle.image.specs.Body.{Fields, fields_in}
use Rattle.image.specs.Kinds.{number_at, string_at, arc_sizes, list_sizes, lru_form, arc_form, kinds}
use Rattle.image.specs.Saved as Saved
use Rattle.image.specs.Saved.{fields_as}
use Rattle.restoring.specs.declared.Found.{Found}
use Rattle.restoring.specs.declared.Restored.{Restored}

-- "0, B, P, m, d, n, t .. then label": the record in fields, and in a body
abbrev pub box_of : Fields → BoxRecord
box_of x =
    record {
      size = number_at x 1;
      blocks = number_at x 2;
      rows = number_at x 3;
      slots = number_at x 4;
      held = number_at x 5;
      label = string_at x 0;
      limit = number_at x 6;
    }

abbrev pub box_in : List ℕ → BoxRecord
box_in body = box_of (fields_in lru_form body)

-- "or for D-ARC 1, B, P, C, X, n, t, p and the five list sizes .. then label": likewise. Of D-LRU fields p and the sizes are 0.
abbrev pub arc_of : Fields → ArcRecord
arc_of x =
    let Z = arc_sizes x in
    let r = list_sizes x in
    record {
      size = Z.B;
      blocks = Z.P;
      held = number_at x 5;
      label = Z.label;
      limit = Z.t;
      sizes = record { t1 = r.t1; t2 = r.t2; b1 = r.b1; b2 = r.b2; b3 = r.b3; p = r.p; cached = Z.C; extra = Z.X };
    }

abbrev pub arc_in : List ℕ → ArcRecord
arc_in body = arc_of (fields_in arc_form body)

-- the numbers of one kind's record in the other's: m and d lie where C and X do
abbrev pub as_arc : BoxRecord → ArcRecord
as_arc b =
    record {
      size = b.size;
      blocks = b.blocks;
      held = b.held;
      label = b.label;
      limit = b.limit;
      sizes = record { t1 = 0; t2 = 0; b1 = 0; b2 = 0; b3 = 0; p = 0; cached = b.rows; extra = b.slots };
    }

abbrev pub as_box : ArcRecord → BoxRecord
as_box a =
    record {
      size = a.size;
      blocks = a.blocks;
      rows = a.sizes.cached;
      slots = a.sizes.extra;
      held = a.held;
      label = a.label;
      limit = a.limit;
    }

-- "a record of zeros"
abbrev pub zero_arc : ArcRecord
zero_arc = as_arc (empty_box 0 0 0 0 0 (zeros 64))

-- how long a body is by its record: 28 bytes of numbers, 64 of label, the tables; or 52 bytes of numbers, 64 of label, the tables and the lists
abbrev pub long_of : BoxRecord → ℕ
long_of b = 92 + b.rows * 40 + b.slots * 40

abbrev pub arc_long : ArcRecord → ℕ
arc_long a = let m = m_of (sizes_of a) in 116 + m * 40 + a.sizes.cached * 40 + m * 4

-- tables, and lists, that fail 6, 7, 8 or 13
abbrev pub failing : BoxRecord → (addresses blocks : List ℕ) → Bool
failing b addresses blocks = not (eqb (first (table_tests (numbers_of b) (lent b [] [] addresses blocks no_counts) [])) 0)

abbrev pub arc_failing : ArcRecord → (addresses blocks lists : List ℕ) → Bool
arc_failing a addresses blocks lists = not (eqb (first (arc_table_tests (sizes_of a) (arc_lent a [] [] addresses blocks lists no_counts) [])) 0)

-- the fields of a body, by the form that it starts with
abbrev pub body_fields : List ℕ → Fields
body_fields body = fields_as kinds (kinds (le4 body 0)) body

-- where the tables and the lists lie in a body
pub record Laid (body : List ℕ) (x : Fields) (at₁ n₁ n₂ n₃ : ℕ) : Type 0 where
  pub whole : at₁ + n₁ + n₂ + n₃ ≡ length body
  pub addresses : string_at x 1 ≡ take n₁ (drop at₁ body)
  pub blocks : string_at x 2 ≡ take n₂ (drop (at₁ + n₁) body)
  pub lists : string_at x 3 ≡ take n₃ (drop (at₁ + n₁ + n₂) body)

-- lengths that aren't those found
abbrev pub other_lengths : Found → (addresses blocks lists : ℕ) → Bool
other_lengths f addresses blocks lists = not (eqb addresses f.addresses) || not (eqb blocks f.blocks) || not (eqb lists f.lists)

-- the records that a restore gives back: of zeros where it is refused
abbrev pub records_of : Result Restored Refusal → Restored
records_of (Ok r) = r
records_of (Err e) = record { box_record = as_box zero_arc; arc_record = zero_arc }

-- what a restore gives back and leaves: the number of its refusal, 0 where it is served, and the record of a box of either kind
pub record Left : Type 0 where
  pub number : ℕ
  pub given : BoxRecord
  pub arc : ArcRecord
  pub area : List ℕ
  pub addresses : List ℕ
  pub blocks : List ℕ
  pub lists : List ℕ

abbrev pub left : Saved.Restored → Left
left r =
    record {
      number = r.number;
      given = box_of r.given;
      arc = arc_of r.given;
      area = r.area;
      addresses = r.addresses;
      blocks = r.blocks;
      lists = r.lists;
    }
