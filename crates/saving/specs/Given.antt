-- What a save promises: the code's types in the paper's words. Assumes nothing.
use Rattle.std.specs.Prelude.{◌≡◌, List, [], ℕ, ◌+◌, ◌*◌, ◌≤◌, length}
use Rattle.parts.specs.declared.BoxRecord.{BoxRecord}
use Rattle.parts.specs.Rep.{numbers_of}
use Rattle.outcome.specs.declared.Outcome.{Outcome}
use Rattle.policy.specs.declared.Answered.{Answered}
use Rattle.policy.specs.Contract.{answer_of}
use Rattle.refusals.specs.Given.{counters_of, lent}
use Rattle.paper.specs.Cache.{Numbers, no_counts}
use Rattle.paper.specs.Lent.{Lent}
use Rattle.image.specs.Body.{body_of}
use Rattle.image.specs.Area.{writes_for}
use Rattle.image.specs.Kinds.{lru_fields}
use Rattle.image.specs.Saved.{Saved, lru_saver, save}
use Rattle.restoring.specs.Given.{long_of}

-- the body of a box with these tables
abbrev pub box_body : BoxRecord → (addresses blocks : List ℕ) → List ℕ
box_body b addresses blocks = body_of (lru_fields (numbers_of b) (lent b [] [] addresses blocks no_counts))

-- a box whose numbers have 4 bytes and whose label and tables have their lengths, and an area with room for it
pub record Writable (b : BoxRecord) (addresses blocks area : List ℕ) : Type 0 where
  pub size : b.size ≤ 4096
  pub blocks-most : b.blocks ≤ 65536
  pub rows : b.rows ≤ 1024
  pub slots : b.slots ≤ 256
  pub held : b.held ≤ 1024
  pub limit : b.limit ≤ 1024
  pub label : length b.label ≡ 64
  pub addresses-long : length addresses ≡ b.rows * 40
  pub blocks-long : length blocks ≡ b.slots * 40
  pub room : 64 + writes_for (long_of b) * 64 ≤ length area

-- what a save tells and leaves: the numbers of its box record, its answer, what is lent and the area
pub record Told : Type 0 where
  pub numbers : Numbers
  pub saved : Saved Lent

abbrev pub told : Outcome Answered BoxRecord → (disk flash addresses blocks area : List ℕ) → Told
told r disk flash addresses blocks area =
    record {
      numbers = numbers_of r.box_record;
      saved = record { answer = answer_of r.answer; lent = lent r.box_record disk flash addresses blocks (counters_of r.counters); area = area };
    }

-- the paper's save of what is lent
abbrev pub saved_by : BoxRecord → Lent → List ℕ → Told
saved_by b t area = record { numbers = numbers_of b; saved = save (lru_saver (numbers_of b)) t area }
