-- The words of a line, byte by byte, as the loops go. Each law is the definition at the byte that the index shows. Assumes nothing.
use mathlib.Core.Path.{◌≡◌, refl, sym, ap, ◌∙◌}
use mathlib.Core.Bool.{Bool, ◌&&◌}
use mathlib.Core.List.{List, [], ◌∷◌}
use Prim.Native.Nat.{ℕ, zero, suc, ◌+◌, ◌-◌, ◌≤◌, ◌<◌}
use native.Mathlib.Omega.{arith}
use native.Mathlib.Numerals.{add-one}
use lib.Dec.{eqb, ltb}
use lib.ListN.{length, take, drop, get_or, drop_of_length-le}
use lib.Seq.{drop-cons}
use borrow.Author.Tests.{eq-eqb, ne_eqb}
use Rattle.std.proofs.Common.{not, ltb-false, length-drop}
use Rattle.std.proofs.lemmas.List.{take_all}
use Rattle.std.proofs.lemmas.List.Sums.{prefix_len-le-length}
use Rattle.std.proofs.lemmas.Option.{cond_some, none-some}
use Rattle.std.specs.Prelude.{Some, None}
use Rattle.std.specs.List.{filter, position, position_or_len}
use Rattle.std.specs.Str.{bytes_eq}
use Rattle.paper.specs.KeyedLaws.{by-test}
use Rattle.lines.specs.Text.{same}
use Rattle.lines.specs.Lines.{onto, words}

-- a line has a word, and a byte that is no space adds none
onto-some : (c : ℕ) (ws : List (List ℕ)) → 1 ≤ length (onto c ws)
unfolding onto
onto-some c [] = omega arith
onto-some c (w ∷ ws) = omega arith

some_word : (l : List ℕ) → 1 ≤ length (words l)
unfolding words
some_word [] = omega arith
some_word (c ∷ l) = by-test (eqb c 32) (λ e. rw e (omega arith)) (λ e. rw e (onto-some c (words l)))

onto-length : (c : ℕ) (ws : List (List ℕ)) → 1 ≤ length ws → length (onto c ws) ≡ length ws
unfolding onto
onto-length c [] h = absurd (omega arith)
onto-length c (w ∷ ws) h = refl

onto-later : (c n : ℕ) (ws : List (List ℕ)) → 1 ≤ length ws → get_or (onto c ws) (suc n) [] ≡ get_or ws (suc n) []
unfolding onto
onto-later c n [] h = absurd (omega arith)
onto-later c n (w ∷ ws) h = refl

onto-first : (c : ℕ) (ws : List (List ℕ)) → get_or (onto c ws) 0 [] ≡ c ∷ get_or ws 0 []
unfolding onto
onto-first c [] = refl
onto-first c (w ∷ ws) = refl

abbrev pub space : ℕ → Bool
space c = eqb c 32

-- a word more than spaces
pub words-length : (l : List ℕ) → length (words l) ≡ length (filter space l) + 1
unfolding words
words-length [] = refl
words-length (c ∷ l) =
    by-test (space c)
    (λ e. rw e (omega (arith, words-length l)))
    (λ e. rw e (onto-length c (words l) (some_word l) ∙ words-length l))

-- the first word ends at the first space
pub first-word : (l : List ℕ) → get_or (words l) 0 [] ≡ take (position_or_len space l) l
unfolding words
first-word [] = refl
first-word (c ∷ l) =
    let q : 1 + position_or_len space l ≡ suc (position_or_len space l) = omega arith in
    by-test (space c) (λ e. rw e) (λ e. rw (e, q) (onto-first c (words l) ∙ ap (λ w. c ∷ w) (first-word l)))

pub first-ended : (l : List ℕ) (k : ℕ) → Some k ≡ position space l → (k ≤ length l) × (get_or (words l) 0 [] ≡ take k l)
first-ended l k e =
    let f = cond_some _ _ _ (sym e) in
    (omega (arith, f.1, prefix_len-le-length (λ c. not (space c)) l), first-word l ∙ ap (λ n. take n l) f.1)

pub first-whole : (l : List ℕ) → None ≡ position space l → get_or (words l) 0 [] ≡ l
first-whole l e =
    by-test (ltb (position_or_len space l) (length l))
    (λ t. absurd (none-some (position_or_len space l) (e ∙ rw t refl)))
    (λ t. first-word l ∙ take_all _ l (ltb-false (position_or_len space l) (length l) t))

pub to-end : (n : ℕ) (l : List ℕ) → take (length l - n) (drop n l) ≡ drop n l
to-end n l = take_all _ (drop n l) (omega (arith, length-drop n l))

-- from an index on
module _ (l : List ℕ) (i : ℕ) where
  at-space : i < length l → get_or l i 0 ≡ 32 → words (drop i l) ≡ [] ∷ words (drop (i + 1) l)
  unfolding words
  at-space h e = rw (add-one, drop-cons l i 0 h, eq-eqb _ _ e)

  at-letter : i < length l → (get_or l i 0 ≡ 32 → ⊥) → words (drop i l) ≡ onto (get_or l i 0) (words (drop (i + 1) l))
  unfolding words
  at-letter h e = rw (add-one, drop-cons l i 0 h, ne_eqb _ _ e)

  at-end : length l ≤ i → words (drop i l) ≡ [] ∷ []
  unfolding words
  at-end h = rw (drop_of_length-le l h)

  -- a later word
  pub later-space : (n : ℕ) → i < length l → get_or l i 0 ≡ 32 → 0 < n → get_or (words (drop i l)) n [] ≡ get_or (words (drop (i + 1) l)) (n - 1) []
  later-space zero h e p = absurd (omega arith)
  later-space (suc n) h e p = let q : suc n - 1 ≡ n = omega arith in rw (at-space h e, q)

  pub later-letter : (n : ℕ) → i < length l → (get_or l i 0 ≡ 32 → ⊥) → 0 < n → get_or (words (drop i l)) n [] ≡ get_or (words (drop (i + 1) l)) n []
  later-letter zero h e p = absurd (omega arith)
  later-letter (suc n) h e p = rw (at-letter h e) (onto-later _ n (words (drop (i + 1) l)) (some_word _))

  pub later-end : (n : ℕ) → length l ≤ i → get_or (words (drop i l)) n [] ≡ get_or (words (drop i l)) 0 []
  later-end zero h = refl
  later-end (suc n) h = rw (at-end h)

-- two texts are the same as std compares them
pub same-eq : (a b : List ℕ) → bytes_eq a b ≡ same a b
unfolding same
same-eq [] [] = refl
same-eq [] (y ∷ ys) = refl
same-eq (x ∷ xs) [] = refl
same-eq (x ∷ xs) (y ∷ ys) = ap (λ b. eqb x y && b) (same-eq xs ys)
