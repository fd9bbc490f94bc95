-- U2 on lent bytes: which folder reads are refused, and what each answers and leaves; and the calls of a list, of which they are one kind.
-- Assumes nothing.
use Rattle.std.specs.Prelude.{Bool, false, ◌||◌, cond, List, [], ◌∷◌, ℕ, ◌*◌, eqb, leb, ltb, length}
use Rattle.paper.specs.Cache.{Numbers, Counters}
use Rattle.paper.specs.Engine.{Fixed, labelled}
use Rattle.paper.specs.Lent.{Lent, Ask, Test, test, first, table_tests, unfit, limit_outside, wrong_buffers, other_length, over, box_in, lent_of, join, served}
use Rattle.paper.specs.Reports.{Reader}
use Rattle.paper.specs.Batch as Paper
use Rattle.paper.specs.Batch.{Batched, start, blocks_in}

-- "It refuses with 10 an empty list or one above 64"
abbrev pub bad_count : List ℕ → Bool
bad_count l = eqb (length l) 0 || ltb 64 (length l)

-- "and with 3 if any address is too large"
abbrev pub any_outside : ℕ → List ℕ → Bool
any_outside P [] = false
any_outside P (a ∷ l) = leb P a || any_outside P l

-- 10 is "checked after 2", "with 9 checked only before the first" read. "a buffer of as many blocks" as there are addresses, also where their number
-- gives 10.
abbrev pub batch_tests : Numbers → Lent → (asked buffer : List ℕ) → List Test
batch_tests N t l buffer =
    test (unfit N) 1
    ∷ test (limit_outside N) 12
    ∷ test (wrong_buffers N t || other_length buffer (length l * N.B)) 2
    ∷ test (bad_count l) 10
    ∷ test (any_outside N.P l) 3
    ∷ table_tests N t (test (over t.counters) 9 ∷ [])

unfoldable pub batch_refusal : Numbers → Lent → (asked buffer : List ℕ) → ℕ
batch_refusal N t l buffer = first (batch_tests N t l buffer)

-- "The answer carries the number of fetches", beside the hits and the writes.
pub data BatchAnswer : Type 0 where
  refused : ℕ → BatchAnswer
  batched : (hits flash_writes primary_writes fetches : ℕ) → BatchAnswer

pub record BatchAfter : Type 0 where
  pub answer : BatchAnswer
  pub lent : Lent
  pub buffer : List ℕ

abbrev pub batched_from : (N : Numbers) → Lent → List ℕ → Batched (Fixed 32) (Fixed N.B)
batched_from N t l = Paper.batch (labelled N) N (start (box_in N t) t.counters) l

unfoldable pub served_batch : Numbers → Lent → List ℕ → BatchAfter
served_batch N t l =
    let r = batched_from N t l in
    record {
      answer = batched r.hits r.flash_writes r.primary_writes r.fetches;
      lent = lent_of N r.box r.counters;
      buffer = join (blocks_in r.filled);
    }

-- the call: refused, with everything kept, or served
unfoldable pub call_batch : Numbers → Lent → (asked buffer : List ℕ) → BatchAfter
call_batch N t l buffer =
    cond (eqb (batch_refusal N t l buffer) 0)
    (served_batch N t l)
    (record { answer = refused (batch_refusal N t l buffer); lent = t; buffer = buffer })

-- "the reads done in turn, with 9 checked only before the first": each as a read that isn't refused is served
unfoldable pub served_in_turn : Numbers → Lent → List ℕ → Lent
served_in_turn N t [] = t
served_in_turn N t (a ∷ l) = served_in_turn N (served N t (Ask.read a [])).lent l

-- A call of a list: one of document 01's, a folder read with its addresses and the buffer lent to it, or a report with the bytes lent to it; or other
-- counters
pub data Asking : Type 0 where
  one : Ask → Asking
  many : (asked buffer : List ℕ) → Asking
  report : Reader → (lent : List ℕ) → Asking
  -- U10: after a restore the calls go on with counters of the caller's, since no image has them
  recount : Counters → Asking
