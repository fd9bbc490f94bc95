-- U12: what is asked of an exam question, its refusals and its counts.
-- Assumes nothing.
use Rattle.std.specs.Prelude.{Bool, not, ◌||◌, cond, List, [], ◌∷◌, ℕ, ◌*◌, eqb, ltb, Result, Ok, Err}
use Rattle.paper.specs.Cache.{Numbers}
use Rattle.paper.specs.Engine.{labelled}
use Rattle.paper.specs.Lent.{unfit, limit_outside, other_length, split, Test, test, first}
use Rattle.paper.specs.Machines.{content_of}
use Rattle.refusal.specs.declared.Refusal.{Refusal}
use Rattle.refusal.specs.Numbers.{code}
use Rattle.exam.specs.Scores.{nine_zeros, scores}

-- the bytes that are lent for the nine counts, 8 each
abbrev pub counts_bytes : ℕ
counts_bytes = 72

-- "2: a lent length isn't the one above": of the disk, of the label, and of what is lent for the counts
unfoldable pub wrong_lent : Numbers → (disk : List ℕ) (room : ℕ) → Bool
wrong_lent N disk room = other_length disk (N.P * N.B) || other_length N.label 64 || not (eqb room counts_bytes)

-- "if P is above 4, B isn't 64 or k is above 8"
unfoldable pub too_large : Numbers → (k : ℕ) → Bool
too_large N k = ltb 4 N.P || not (eqb N.B 64) || ltb 8 k

-- "It refuses with 17 .., checked after 2."; U8's 12 "in every call right after 1"
abbrev pub question_tests : Numbers → (disk : List ℕ) (k room : ℕ) → List Test
question_tests N disk k room = test (unfit N) 1 ∷ test (limit_outside N) 12 ∷ test (wrong_lent N disk room) 2 ∷ test (too_large N k) 17 ∷ []

unfoldable pub question_refusal : Numbers → (disk : List ℕ) (k room : ℕ) → ℕ
question_refusal N disk k room = first (question_tests N disk k room)

-- "Given the numbers, label and disk of a fresh D-LRU box .. count over all lists of k reads .. how many have 0, 1, up to k hits": the counts are of the
-- printed D-LRU, an address's content being its block on that disk, by its labelled fingerprint
abbrev pub counts_of : Numbers → (disk : List ℕ) (k : ℕ) → List ℕ
counts_of N disk k = scores (labelled N).same N.m N.d (content_of (labelled N) (split N.B N.P disk)) N.P k

-- the number of the refusal, 0 where there is none, and the counts
pub record Counted : Type 0 where
  pub number : ℕ
  pub counts : List ℕ

-- "in nine counts, 0 beyond k and in a refusal"
unfoldable pub question : Numbers → (disk : List ℕ) (k room : ℕ) → Counted
question N disk k room =
    let x = question_refusal N disk k room in
    record { number = x; counts = cond (eqb x 0) (counts_of N disk k) nine_zeros }

-- the code's answer: the counts, or a refusal, which has its number and nine zeros
abbrev pub told : Result (List ℕ) Refusal → Counted
told (Ok counts) = record { number = 0; counts = counts }
told (Err r) = record { number = code r; counts = nine_zeros }
