-- The forms of a line. A law follows the definition's cases, by what the code's tests showed. Assumes nothing.
use mathlib.Core.Path.{◌≡◌, refl, ◌∙◌}
use mathlib.Core.List.{List, [], ◌∷◌}
use Rattle.std.specs.Prelude.{None}
use Prim.Native.Nat.{ℕ, ◌≤◌, ◌<◌}
use native.Mathlib.Omega.{arith}
use lib.ListN.{length, get_or}
use borrow.Author.Tests.{lt-ltb, le-ltb}
use Rattle.lines.specs.Lines.{words, of_one, of_two, of_three, of_five, of_words, parsed}

-- the form by how many words there are
words-one : (ws : List (List ℕ)) → length ws ≡ 1 → of_words ws ≡ of_one (get_or ws 0 [])
unfolding of_words
words-one [] h = absurd (omega arith)
words-one (a ∷ []) h = refl
words-one (a ∷ b ∷ ws) h = absurd (omega arith)

words-two : (ws : List (List ℕ)) → length ws ≡ 2 → of_words ws ≡ of_two (get_or ws 0 []) (get_or ws 1 [])
unfolding of_words
words-two [] h = absurd (omega arith)
words-two (a ∷ []) h = absurd (omega arith)
words-two (a ∷ b ∷ []) h = refl
words-two (a ∷ b ∷ c ∷ ws) h = absurd (omega arith)

words-three : (ws : List (List ℕ)) → length ws ≡ 3 → of_words ws ≡ of_three (get_or ws 0 []) (get_or ws 1 []) (get_or ws 2 [])
unfolding of_words
words-three [] h = absurd (omega arith)
words-three (a ∷ []) h = absurd (omega arith)
words-three (a ∷ b ∷ []) h = absurd (omega arith)
words-three (a ∷ b ∷ c ∷ []) h = refl
words-three (a ∷ b ∷ c ∷ d ∷ ws) h = absurd (omega arith)

words-five : (ws : List (List ℕ)) → length ws ≡ 5 → of_words ws ≡ of_five (get_or ws 0 []) (get_or ws 1 []) (get_or ws 2 []) (get_or ws 3 []) (get_or ws 4 [])
unfolding of_words
words-five [] h = absurd (omega arith)
words-five (a ∷ []) h = absurd (omega arith)
words-five (a ∷ b ∷ []) h = absurd (omega arith)
words-five (a ∷ b ∷ c ∷ []) h = absurd (omega arith)
words-five (a ∷ b ∷ c ∷ d ∷ []) h = absurd (omega arith)
words-five (a ∷ b ∷ c ∷ d ∷ e ∷ []) h = refl
words-five (a ∷ b ∷ c ∷ d ∷ e ∷ f ∷ ws) h = absurd (omega arith)

words-other : (ws : List (List ℕ)) → (length ws ≡ 1 → ⊥) → (length ws ≡ 2 → ⊥) → (length ws ≡ 3 → ⊥) → (length ws ≡ 5 → ⊥) → of_words ws ≡ None
unfolding of_words
words-other [] h i j k = refl
words-other (a ∷ []) h i j k = absurd (h refl)
words-other (a ∷ b ∷ []) h i j k = absurd (i refl)
words-other (a ∷ b ∷ c ∷ []) h i j k = absurd (j refl)
words-other (a ∷ b ∷ c ∷ d ∷ []) h i j k = refl
words-other (a ∷ b ∷ c ∷ d ∷ e ∷ []) h i j k = absurd (k refl)
words-other (a ∷ b ∷ c ∷ d ∷ e ∷ f ∷ ws) h i j k = refl

module _ (l : List ℕ) where
  pub parsed-long : 32 < length l → parsed l ≡ None
  unfolding parsed
  parsed-long h = rw (lt-ltb _ _ h)

  module _ (short : length l ≤ 32) where
    in_words : parsed l ≡ of_words (words l)
    unfolding parsed
    in_words = rw (le-ltb _ _ short)

    pub parsed-one : length (words l) ≡ 1 → parsed l ≡ of_one (get_or (words l) 0 [])
    parsed-one h = in_words ∙ words-one (words l) h

    pub parsed-two : length (words l) ≡ 2 → parsed l ≡ of_two (get_or (words l) 0 []) (get_or (words l) 1 [])
    parsed-two h = in_words ∙ words-two (words l) h

    pub parsed-three : length (words l) ≡ 3 → parsed l ≡ of_three (get_or (words l) 0 []) (get_or (words l) 1 []) (get_or (words l) 2 [])
    parsed-three h = in_words ∙ words-three (words l) h

    pub parsed-five : length (words l) ≡ 5
        → parsed l ≡ of_five (get_or (words l) 0 []) (get_or (words l) 1 []) (get_or (words l) 2 []) (get_or (words l) 3 []) (get_or (words l) 4 [])
    parsed-five h = in_words ∙ words-five (words l) h

    pub parsed-other : (length (words l) ≡ 1 → ⊥) → (length (words l) ≡ 2 → ⊥) → (length (words l) ≡ 3 → ⊥) → (length (words l) ≡ 5 → ⊥) → parsed l ≡ None
    parsed-other h i j k = in_words ∙ words-other (words l) h i j k
