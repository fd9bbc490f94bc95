-- What each call leaves: the paper's call on the numbers and the lent memory that are in the bytes, told in numbers and bytes.
-- Assumes nothing.
use Rattle.std.specs.Prelude.{cond, List, ◌≡◌, ℕ, eqb, length}
use Rattle.std.proofs.Math.Option.{Option}
use Rattle.block.specs.Blocks.{part}
use Rattle.paper.specs.Cache.{Numbers}
use Rattle.paper.specs.Lent.{Lent, Ask, Answer, refused, answered, After, lent_block, call}
use Rattle.paper.specs.BatchLent.{BatchAfter, call_batch}
use Rattle.paper.specs.Reports.{Reader}
use Rattle.reports.specs.Contract.{Reported, reports}
use Rattle.parts.specs.declared.BoxRecord.{BoxRecord}
use Rattle.parts.specs.Rep.{numbers_of, empty_box}
use Rattle.refusals.specs.Given.{counters_of, lent}
use Rattle.open.specs.Contract.{Opened, opens}
use Rattle.look.specs.Look.{where_is}
use Rattle.exam.specs.Contract.{question}
use Rattle.fields.specs.Fields.{get8, record_in, counters_in, counts_after, word_number, fitting, state_bytes}
use Rattle.fields.specs.Noted.{answer_number, state_after, answer_after, many_number_of, many_state_after, many_answer_after, state_opened, LeftLook, noted_place}

-- what is lent, of the state's bytes and the four buffers
abbrev pub lent_in : (state disk flash addresses blocks : List ℕ) → Lent
lent_in s disk flash addresses blocks = lent (record_in s) disk flash addresses blocks (counters_of (counters_in s))

-- ---- the calls

-- what a call leaves: the number it returns and every buffer lent to it
pub record Left : Type 0 where
  pub number : ℕ
  pub state : List ℕ
  pub disk : List ℕ
  pub flash : List ℕ
  pub addresses : List ℕ
  pub blocks : List ℕ
  pub block : Option (List ℕ)
  pub answer : List ℕ

abbrev pub leaving : ℕ → (state disk flash addresses blocks : List ℕ) → Option (List ℕ) → List ℕ → Left
leaving number state disk flash addresses blocks block answer =
    record { number = number; state = state; disk = disk; flash = flash; addresses = addresses; blocks = blocks; block = block; answer = answer }

-- the paper's answer and lent memory, in numbers and bytes
unfoldable pub told_in : (state answer : List ℕ) → After → Left
told_in s l x =
    record {
      number = answer_number x.answer;
      state = state_after x.answer x.lent.n x.lent.counters s;
      disk = x.lent.disk;
      flash = x.lent.flash;
      addresses = x.lent.addresses;
      blocks = x.lent.blocks;
      block = x.block;
      answer = answer_after x.answer l;
    }

-- A state or an answer of another length: 2, and nothing is changed.
unfoldable pub leaves : Ask → (state disk flash addresses blocks answer : List ℕ) → Left
leaves q s disk flash addresses blocks l =
    cond (fitting 24 s l)
    (told_in s l (call (numbers_of (record_in s)) (lent_in s disk flash addresses blocks) q))
    (leaving 2 s disk flash addresses blocks (lent_block q) l)

-- ---- a folder read

-- what it leaves: the number it returns and every buffer lent to it
pub record LeftMany : Type 0 where
  pub number : ℕ
  pub state : List ℕ
  pub disk : List ℕ
  pub flash : List ℕ
  pub addresses : List ℕ
  pub blocks : List ℕ
  pub buffer : List ℕ
  pub answer : List ℕ

unfoldable pub told_many_in : (state answer : List ℕ) → BatchAfter → LeftMany
told_many_in s l x =
    record {
      number = many_number_of x.answer;
      state = many_state_after x.answer x.lent.n x.lent.counters s;
      disk = x.lent.disk;
      flash = x.lent.flash;
      addresses = x.lent.addresses;
      blocks = x.lent.blocks;
      buffer = x.buffer;
      answer = many_answer_after x.answer l;
    }

-- A state or an answer of another length: 2, and nothing is changed.
unfoldable pub leaves_many : (asked buffer state disk flash addresses blocks answer : List ℕ) → LeftMany
leaves_many q f s disk flash addresses blocks l =
    cond (fitting 32 s l)
    (told_many_in s l (call_batch (numbers_of (record_in s)) (lent_in s disk flash addresses blocks) q f))
    (record { number = 2; state = s; disk = disk; flash = flash; addresses = addresses; blocks = blocks; buffer = f; answer = l })

-- ---- a report

-- A state of another length: 2, and nothing is changed. Nothing else is lent to it to be written.
unfoldable pub leaves_report : Reader → (state disk flash addresses blocks report : List ℕ) → Reported
leaves_report w s disk flash addresses blocks report =
    cond (eqb (length s) state_bytes)
    (reports w (numbers_of (record_in s)) (lent_in s disk flash addresses blocks) report)
    (record { number = 2; report = report })

-- ---- opening

pub record LeftOpen : Type 0 where
  pub number : ℕ
  pub state : List ℕ
  pub addresses : List ℕ
  pub blocks : List ℕ

-- the box record that an opening is given, the label beside the state: n and the state's own label are not read
abbrev pub fresh_record : (label state : List ℕ) → BoxRecord
fresh_record label s = empty_box (get8 s 0) (get8 s 8) (get8 s 16) (get8 s 24) (get8 s 136) label

unfoldable pub opened_in : List ℕ → Opened → LeftOpen
opened_in s x =
    record {
      number = x.number;
      state = state_opened x.number x.lent.n x.lent.counters x.numbers.label s;
      addresses = x.lent.addresses;
      blocks = x.lent.blocks;
    }

unfoldable pub leaves_open : (label state disk flash addresses blocks : List ℕ) → LeftOpen
leaves_open label s disk flash addresses blocks =
    cond (eqb (length s) state_bytes)
    (opened_in s (opens (fresh_record label s) disk flash addresses blocks (counters_of (counters_in s))))
    (record { number = 2; state = s; addresses = addresses; blocks = blocks })

-- ---- look

unfoldable pub leaves_look : ℕ → (state disk flash addresses blocks answer : List ℕ) → LeftLook
leaves_look a s disk flash addresses blocks l =
    cond (fitting 24 s l)
    (noted_place (record_in s).size a l (where_is (numbers_of (record_in s)) (lent_in s disk flash addresses blocks) a))
    (record { number = 2; answer = l })

-- the part that an answer shows: of the flash where the word is 5, else of the disk
unfoldable pub shown : (flash disk answer : List ℕ) → List ℕ
shown flash disk l = part (get8 l 8) (get8 l 16) (cond (eqb (get8 l 0) 5) flash disk)

abbrev pub word_in : Answer → ℕ
word_in (refused k) = 0
word_in (answered w f p) = word_number w

-- A look's number, word and part are the paper's.
pub record Shows (number : ℕ) (answer : List ℕ) (t : Lent) (x : After) : Type 0 where
  pub number_is : number ≡ answer_number x.answer
  pub word-is : number ≡ 0 → get8 answer 0 ≡ word_in x.answer
  pub part-is : number ≡ 0 → shown t.flash t.disk answer ≡ x.part

-- ---- an exam question

-- what it leaves: the number it returns and what is lent for the counts
pub record LeftScores : Type 0 where
  pub number : ℕ
  pub counts : List ℕ

unfoldable pub leaves_scores : Numbers → (disk : List ℕ) (k : ℕ) (counts : List ℕ) → LeftScores
leaves_scores N disk k s =
    let q = question N disk k (length s) in
    record { number = q.number; counts = counts_after q.counts s }
