-- What the calls promise: the code's types in the paper's words.
-- Assumes nothing.
use Rattle.std.specs.Prelude.{List, [], ℕ, Result, Ok, Err}
use Rattle.std.proofs.Math.Option.{Option}
use Rattle.parts.specs.declared.BoxRecord.{BoxRecord}
use Rattle.parts.specs.Rep.{numbers_of}
use Rattle.refusals.specs.Given.{counters_of, lent}
use Rattle.policy.specs.declared.Word as CodeWord
use Rattle.policy.specs.declared.Word.TheVariants.{Hit, Miss, Same, New, Cache, Disk, Done}
use Rattle.policy.specs.declared.Answered.{Answered}
use Rattle.policy.specs.declared.Batch.{Batch}
use Rattle.refusal.specs.declared.Refusal.{Refusal}
use Rattle.refusal.specs.Numbers.{code}
use Rattle.outcome.specs.declared.Outcome.{Outcome}
use Rattle.serve.specs.declared.Write.{Write}
use Rattle.serve.specs.declared.Write.TheVariants.{Through, Back, Invalidate}
use Rattle.paper.specs.Cache.{Numbers, Word, hit, miss, same_block, new_block, from_cache, from_disk, done}
use Rattle.paper.specs.Lent.{Lent, Ask, Answer, refused, answered, After, call}
use Rattle.paper.specs.BatchLent.{BatchAnswer, batched, BatchAfter, call_batch}

-- "Where an answer is an enum, the promises use a definition. That definition gives this paper's number and values for each of the enum's cases."
abbrev pub word_of : CodeWord.Word → Word
word_of Hit = hit
word_of Miss = miss
word_of Same = same_block
word_of New = new_block
word_of Cache = from_cache
word_of Disk = from_disk
word_of Done = done

abbrev pub answer_of : Result Answered Refusal → Answer
answer_of (Err r) = refused (code r)
answer_of (Ok a) = answered (word_of a.word) a.flashed a.primary

-- what a call tells and leaves: the numbers of its box record, its answer, what is lent, the one block and a look's part
pub record Told : Type 0 where
  pub numbers : Numbers
  pub after : After

abbrev pub told : Outcome Answered BoxRecord → (disk flash addresses blocks : List ℕ) → Option (List ℕ) → Told
told r disk flash addresses blocks block =
    record {
      numbers = numbers_of r.box_record;
      after = record {
        answer = answer_of r.answer;
        lent = lent r.box_record disk flash addresses blocks (counters_of r.counters);
        block = block;
        part = [];
      };
    }

-- the paper's call on what is lent
abbrev pub called : BoxRecord → Lent → Ask → Told
called b t q = record { numbers = numbers_of b; after = call (numbers_of b) t q }

-- a write of each kind, as it is asked
abbrev pub ask_of : Write → ℕ → List ℕ → (seat : ℕ) → Ask
ask_of Through a l z = Ask.through a l z
ask_of Back a l z = Ask.back a l z
ask_of Invalidate a l z = Ask.invalidate a l z

-- ---- a folder read

abbrev pub many_answer_of : Result Batch Refusal → BatchAnswer
many_answer_of (Err r) = BatchAnswer.refused (code r)
many_answer_of (Ok a) = batched a.hits a.flashed a.primary a.fetches

-- what it tells and leaves: the numbers of its box record, its answer, what is lent and the buffer
pub record ToldMany : Type 0 where
  pub numbers : Numbers
  pub after : BatchAfter

abbrev pub told_many : Outcome Batch BoxRecord → (disk flash addresses blocks buffer : List ℕ) → ToldMany
told_many r disk flash addresses blocks buffer =
    record {
      numbers = numbers_of r.box_record;
      after = record {
        answer = many_answer_of r.answer;
        lent = lent r.box_record disk flash addresses blocks (counters_of r.counters);
        buffer = buffer;
      };
    }

-- the paper's on what is lent
abbrev pub called_many : BoxRecord → Lent → (asked buffer : List ℕ) → ToldMany
called_many b t l buffer = record { numbers = numbers_of b; after = call_batch (numbers_of b) t l buffer }
