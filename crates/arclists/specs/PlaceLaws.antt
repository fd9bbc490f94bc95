-- The place of an address. Assumes nothing.
use Rattle.std.specs.Prelude.{◌≡◌, true, false, Option, None, Some, MatchOption, List, [], ◌∷◌, ◌++◌, eqb, length, get_or, drop}
use Rattle.std.proofs.Math.Path.{refl}
use Rattle.std.proofs.Common.{sym, ap, ◌∙◌, drop-cons, drop_of_length-le}
use Rattle.std.proofs.lemmas.Bool.{false≢true}
use Prim.Native.Nat.{ℕ, zero, suc, ◌+◌, ◌*◌, ◌≤◌, ◌<◌}
use native.Mathlib.Omega.{arith}
use borrow.Author.Tests.{eq-eqb, ne_eqb}
use Rattle.tables.specs.Rows.{remove_at, le4}
use Rattle.arc.proofs.ArcLentLaws.{length-words-in, words-at}
use Rattle.paper.specs.KeyedLaws.{by-test, or-false-left, or-false-right, without-absent}
use Rattle.arc.specs.Arc.{is_in, out}
use Rattle.arc.specs.Tally.{count, tally-has}
use Rattle.arc.specs.ArcLent.{words}
use Rattle.arclists.specs.Listed.{place_of}

-- a search's turn
module _ (a : ℕ) (ws : List ℕ) (k : ℕ) where
  pub place-hit : k < length ws → a ≡ get_or ws k 0 → place_of a (drop k ws) ≡ 0
  unfolding place_of
  place-hit h e = rw (drop-cons ws k 0 h, eq-eqb a (get_or ws k 0) e) refl

  pub place-miss : k < length ws → (a ≡ get_or ws k 0 → ⊥) → k + place_of a (drop k ws) ≡ k + 1 + place_of a (drop (k + 1) ws)
  unfolding place_of
  place-miss h e = let q : k + 1 ≡ suc k = omega arith in rw (drop-cons ws k 0 h, ne_eqb a (get_or ws k 0) e, q) (omega arith)

  pub place_end : length ws ≤ k → place_of a (drop k ws) ≡ 0
  unfolding place_of
  place_end h = rw (drop_of_length-le ws h) refl

-- what a search of the n addresses in bytes finds is the place of the first a
before-misses : (a n : ℕ) (t : List ℕ) (k : ℕ) → k ≤ n → ((j : ℕ) → 0 ≤ j → j < k → le4 t (j * 4) ≡ a → ⊥)
    → place_of a (words n t) ≡ k + place_of a (drop k (words n t))
before-misses a n t zero l h = omega arith
before-misses a n t (suc k) l h =
    let m : k + 1 ≡ suc k = omega arith in
    let b = length-words-in n t in
    rw m at (before-misses a n t k (omega arith) (λ j x y. h j x (omega arith))
    ∙ place-miss a (words n t) k (omega (arith, b)) (λ e. h k (omega arith) (omega arith) (sym (words-at n t k (omega arith)) ∙ sym e)))

pub place-found : (a n : ℕ) (t : List ℕ) (r : Option ℕ)
    → MatchOption r ((j : ℕ) → 0 ≤ j → j < n → le4 t (j * 4) ≡ a → ⊥)
    (λ i. (0 ≤ i) × (i < n) × (le4 t (i * 4) ≡ a) × ((j : ℕ) → 0 ≤ j → j < i → le4 t (j * 4) ≡ a → ⊥))
    → MatchOption r (place_of a (words n t) ≡ n) (λ k. (k < n) × (place_of a (words n t) ≡ k))
place-found a n t None h =
    let b = length-words-in n t in
    let m = before-misses a n t n (omega arith) h in
    let z = place_end a (words n t) n (omega (arith, b)) in
    omega (arith, m, z)
place-found a n t (Some i) h =
    let b = length-words-in n t in
    let m = before-misses a n t i (omega (arith, h.1)) h.3 in
    let z = place-hit a (words n t) i (omega (arith, b, h.1)) (sym h.2 ∙ sym (words-at n t i h.1)) in
    (h.1, omega (arith, m, z))

-- an address is at a place where it is in the list
pub place_in : (a : ℕ) (l : List ℕ) → is_in a l ≡ true → place_of a l < length l
unfolding place_of
place_in a [] h = absurd (false≢true h)
place_in a (x ∷ xs) h =
    by-test (eqb a x)
    (λ e. rw e (omega arith))
    (λ e. rw e (let ih = place_in a xs (rw e at h) in omega (arith, ih)))

pub place_out : (a : ℕ) (l : List ℕ) → is_in a l ≡ false → place_of a l ≡ length l
unfolding place_of
place_out a [] h = refl
place_out a (x ∷ xs) h =
    rw (or-false-left (eqb a x) (is_in a xs) h) (ap suc (place_out a xs (or-false-right (eqb a x) (is_in a xs) h)))

-- the place in two lists end to end
pub place-first : (a : ℕ) (xs ys : List ℕ) → is_in a xs ≡ true → place_of a (xs ++ ys) ≡ place_of a xs
unfolding place_of
place-first a [] ys h = absurd (false≢true h)
place-first a (x ∷ xs) ys h = by-test (eqb a x) (λ e. rw e refl) (λ e. rw e (ap suc (place-first a xs ys (rw e at h))))

pub place-second : (a : ℕ) (xs ys : List ℕ) → is_in a xs ≡ false → place_of a (xs ++ ys) ≡ length xs + place_of a ys
unfolding place_of
place-second a [] ys h = omega arith
place-second a (x ∷ xs) ys h =
    let ih = place-second a xs ys (or-false-right (eqb a x) (is_in a xs) h) in
    rw (or-false-left (eqb a x) (is_in a xs) h) (omega (arith, ih))

-- an address that is there once leaves from its place
pub out_at : (a : ℕ) (l : List ℕ) → count a l ≤ 1 → is_in a l ≡ true → out a l ≡ remove_at l (place_of a l)
unfolding place_of
out_at a [] n h = absurd (false≢true h)
out_at a (x ∷ xs) n h =
    by-test (eqb a x)
    (λ e. let n1 : suc (count a xs) ≤ 1 = rw e at n in
    rw e (without-absent eqb (λ z. z) a xs (by-test (is_in a xs) (λ i. let k = tally-has (λ z. z) a xs i in absurd (omega (arith, n1, k))) (λ f. f))))
    (λ e. rw e (ap (λ l. x ∷ l) (out_at a xs (rw e at n) (rw e at h))))
