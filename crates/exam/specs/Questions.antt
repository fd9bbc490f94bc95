-- Worked questions, the contents being labels, and worked refusals.
use Rattle.std.specs.Prelude.{◌≡◌, refl, [], ◌∷◌, map, ℕ, eqb, get_or, replicate}
use Rattle.tables.specs.Unsound.{elem}
use Rattle.paper.specs.Lent.{unfit}
use Rattle.paper.specs.Machines.{put, printed_next, printed_hit}
use Rattle.exam.specs.Scores.{lists, hits, with_hits, scores}
use Rattle.exam.specs.Contract.{wrong_lent, too_large, question_refusal}

-- two addresses and one of each held: of 00, 01, 10, 11 the first and the last have a hit
pub of_two_lem : scores eqb 1 1 (λ a. a) 2 2 ≡ 2 ∷ 2 ∷ 0 ∷ 0 ∷ 0 ∷ 0 ∷ 0 ∷ 0 ∷ 0 ∷ []
unfolding scores with_hits lists hits printed_hit printed_next put
of_two_lem = refl

-- addresses 1 and 2 have one content
abbrev shared : ℕ → ℕ
shared a = get_or (0 ∷ 7 ∷ 7 ∷ []) a 0

-- three reads of three addresses: with room for two addresses and one block, then for all
pub of_three_lem : (scores eqb 2 1 shared 3 3 ≡ 10 ∷ 14 ∷ 3 ∷ 0 ∷ 0 ∷ 0 ∷ 0 ∷ 0 ∷ 0 ∷ [])
    × (scores eqb 3 3 shared 3 3 ≡ 6 ∷ 18 ∷ 3 ∷ 0 ∷ 0 ∷ 0 ∷ 0 ∷ 0 ∷ 0 ∷ [])
unfolding scores with_hits lists hits printed_hit printed_next put
of_three_lem = (refl, refl)

-- a question as it is asked: the numbers with a label of so many bytes and a limit, the bytes of the disk, k, and the bytes lent for the counts
pub record Asked : Type 0 where
  pub B : ℕ
  pub P : ℕ
  pub t : ℕ
  pub label : ℕ
  pub disk : ℕ
  pub k : ℕ
  pub room : ℕ

abbrev asked : (B P t label disk k room : ℕ) → Asked
asked B P t label disk k room = record { B = B; P = P; t = t; label = label; disk = disk; k = k; room = room }

-- its number, of a box that holds three addresses and two blocks
abbrev gets : Asked → ℕ
gets q =
    question_refusal (record { B = q.B; P = q.P; m = 3; d = 2; label = replicate q.label 0; t = q.t }) (replicate q.disk 0) q.k q.room

-- "It refuses with 17 if P is above 4, B isn't 64 or k is above 8, checked after 2."
pub of-refusals :
    map gets
    (asked 64 4 3 64 256 8 72
    ∷ asked 64 4 1 64 256 8 72
    ∷ asked 64 5 3 64 320 8 72
    ∷ asked 128 4 3 64 512 8 72
    ∷ asked 64 4 3 64 256 9 72
    ∷ asked 64 5 3 64 256 9 72
    ∷ asked 64 4 3 63 256 9 72
    ∷ asked 64 4 3 64 256 9 64
    ∷ asked 64 5 4 63 256 9 64
    ∷ asked 64 5 0 63 256 9 64
    ∷ asked 96 5 0 63 256 9 64
    ∷ [])
    ≡ 0 ∷ 0 ∷ 17 ∷ 17 ∷ 17 ∷ 2 ∷ 2 ∷ 2 ∷ 12 ∷ 12 ∷ 1 ∷ []
unfolding question_refusal unfit wrong_lent too_large elem
of-refusals = refl
