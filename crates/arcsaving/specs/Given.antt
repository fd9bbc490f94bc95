-- What a save of a D-ARC box promises: the code's types in the paper's words. Assumes nothing.
use Rattle.std.specs.Prelude.{◌≡◌, List, [], ℕ, ◌+◌, ◌*◌, ◌^◌, ◌≤◌, ◌<◌, length}
use Rattle.outcome.specs.declared.Outcome.{Outcome}
use Rattle.policy.specs.declared.Answered.{Answered}
use Rattle.policy.specs.Contract.{answer_of}
use Rattle.refusals.specs.Given.{counters_of}
use Rattle.paper.specs.KeyedLaws.{All}
use Rattle.paper.specs.Cache.{no_counts}
use Rattle.arc.specs.Arc.{Sizes, m_of}
use Rattle.arc.specs.ArcLent.{ArcLent}
use Rattle.image.specs.Body.{Fields, body_of}
use Rattle.image.specs.Area.{writes_for}
use Rattle.image.specs.Kinds.{arc_fields}
use Rattle.image.specs.Saved.{Saved, arc_saver, save}
use Rattle.arcrefusals.specs.declared.ArcRecord.{ArcRecord}
use Rattle.arcrefusals.specs.Given.{sizes_of, arc_lent}
use Rattle.restoring.specs.Given.{arc_long}

-- the fields and the body of a box with these tables and lists
abbrev pub fields_of : ArcRecord → (addresses blocks lists : List ℕ) → Fields
fields_of a addresses blocks lists = arc_fields (sizes_of a) (arc_lent a [] [] addresses blocks lists no_counts)

abbrev pub arc_body : ArcRecord → (addresses blocks lists : List ℕ) → List ℕ
arc_body a addresses blocks lists = body_of (fields_of a addresses blocks lists)

-- a box whose numbers have 4 bytes and whose label, tables and lists have their lengths, and an area with room for it
pub record Writable (a : ArcRecord) (addresses blocks lists area : List ℕ) : Type 0 where
  pub small : All (λ n. n < 2 ^ 32) (fields_of a addresses blocks lists).numbers
  pub cached : a.sizes.cached ≤ 256
  pub rows : m_of (sizes_of a) ≤ 1024
  pub label : length a.label ≡ 64
  pub long : length (arc_body a addresses blocks lists) ≡ arc_long a
  pub room : 64 + writes_for (arc_long a) * 64 ≤ length area

-- what a save tells and leaves: the numbers of its box record, its answer, what is lent and the area
pub record ArcSavedTold : Type 0 where
  pub numbers : Sizes
  pub saved : Saved ArcLent

abbrev pub arc_saved_told : Outcome Answered ArcRecord → (disk flash addresses blocks lists area : List ℕ) → ArcSavedTold
arc_saved_told r disk flash addresses blocks lists area =
    record {
      numbers = sizes_of r.box_record;
      saved = record {
        answer = answer_of r.answer;
        lent = arc_lent r.box_record disk flash addresses blocks lists (counters_of r.counters);
        area = area;
      };
    }

-- the paper's save of what is lent
abbrev pub arc_saved_by : ArcRecord → ArcLent → List ℕ → ArcSavedTold
arc_saved_by a t area = record { numbers = sizes_of a; saved = save (arc_saver (sizes_of a)) t area }
