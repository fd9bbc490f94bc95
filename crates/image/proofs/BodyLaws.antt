-- A body that is written is read back.
use Rattle.std.specs.Prelude.{◌≡◌, refl, true, false, not, ◌||◌, eqb, length, take, drop, get_or}
use Rattle.std.proofs.Math.Path.{sym, ap, ap₂}
use Rattle.std.proofs.Common.{◌∙◌, arith, take_at, drop_at}
use mathlib.Core.List.{List, [], ◌∷◌, ◌++◌, map, append_assoc}
use Rattle.std.proofs.Math.Option.{Option, some}
use Prim.Native.Nat.{ℕ, ◌+◌, ◌*◌, ◌^◌, ◌≤◌, ◌<◌}
use Rattle.std.proofs.Math.ListN.{length-append}
use borrow.Author.Tests.{eq-eqb}
use Rattle.tables.specs.Rows.{flat, le4}
use Rattle.tables.proofs.OperationLaws.{le4-bytes4}
use Rattle.paper.specs.KeyedLaws.{All}
use Rattle.arc.specs.ArcLent.{words, word_bytes}
use Rattle.arc.proofs.ArcLentLaws.{length-words, words_back}
use Rattle.image.specs.Body.{pieces, total, Fields, body_of, Form, body_length, numbers_in, fields_in, fails_as, fails_in, no_body}
use Rattle.image.specs.BodyLaws.{Fits}

pub length-strings : (ss : List (List ℕ)) → length (flat ss) ≡ total (map length ss)
unfolding flat total
length-strings [] = refl
length-strings (s ∷ ss) = length-append s (flat ss) ∙ ap (λ k. length s + k) (length-strings ss)

pub pieces-back : (ss : List (List ℕ)) → pieces (map length ss) (flat ss) ≡ ss
unfolding flat pieces
pieces-back [] = refl
pieces-back (s ∷ ss) =
    ap₂ {C = List (List ℕ)} (λ a l. a ∷ l) (take_at s (flat ss) (length s) refl)
    (ap (pieces (map length ss)) (drop_at s (flat ss) (length s) refl) ∙ pieces-back ss)

module _ (f : Form) (x : Fields) (h : Fits f x) where
  pub length-body : length (body_of x) ≡ body_length f x.numbers
  unfolding body_of body_length
  length-body =
      length-append (word_bytes x.numbers) (flat x.strings)
      ∙ ap₂ ◌+◌ (length-words x.numbers ∙ ap (λ k. k * 4) h.count) (length-strings x.strings ∙ ap total h.sizes)

  pub numbers-back : numbers_in f (body_of x) ≡ x.numbers
  unfolding body_of numbers_in
  numbers-back = ap (λ k. words k (word_bytes x.numbers ++ flat x.strings)) (sym h.count) ∙ words_back x.numbers (flat x.strings) h.small

  strings-back : pieces (f.sizes (numbers_in f (body_of x))) (drop (f.count * 4) (body_of x)) ≡ x.strings
  unfolding body_of
  strings-back =
      ap₂ {C = List (List ℕ)} pieces (ap f.sizes numbers-back ∙ sym h.sizes)
      (drop_at (word_bytes x.numbers) (flat x.strings) (f.count * 4) (length-words x.numbers ∙ ap (λ k. k * 4) h.count))
      ∙ pieces-back x.strings

  -- what is written is read back
  pub fields_back : fields_in f (body_of x) ≡ x
  unfolding fields_in
  fields_back = let n = numbers-back in let s = strings-back in λ i. record { numbers = n i; strings = s i }

  pub body-passes : f.fails x ≡ false → fails_as f (body_of x) ≡ false
  unfolding fails_as
  body-passes e =
      let l = eq-eqb (length (body_of x)) (body_length f (numbers_in f (body_of x))) (length-body ∙ ap (body_length f) (sym numbers-back)) in
      rw (l, fields_back, e)

-- the first number says which form
first_word : (ns rest : List ℕ) → 1 ≤ length ns → All (λ k. k < 2 ^ 32) ns → le4 (word_bytes ns ++ rest) 0 ≡ get_or ns 0 0
unfolding word_bytes
first_word [] rest n h = absurd (omega arith)
first_word (k ∷ ns) rest n h = le4-bytes4 k h.0

pub first_back : (x : Fields) → 1 ≤ length x.numbers → All (λ k. k < 2 ^ 32) x.numbers → le4 (body_of x) 0 ≡ get_or x.numbers 0 0
unfolding body_of
first_back x n h = first_word x.numbers (flat x.strings) n h
