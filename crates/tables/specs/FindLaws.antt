-- Laws of `find_from`, `all` and `same`. Assumes nothing.
use Rattle.std.specs.Prelude.{◌≡◌, refl, Bool, true, false, ℕ, suc, ◌+◌, ◌-◌, ◌≤◌, ◌<◌, List, [], ◌∷◌, length, get_or, drop, None, Some, cond}
use Rattle.std.proofs.Common.{subst, arith, add-one, drop_of_length-le, eq-eqb}
use Rattle.std.proofs.Math.Seq.{drop-cons}
use Rattle.tables.specs.Find.{find_from, all, same}

module _ {A : Type 0} (p : A → Bool) (xs : List A) (k : ℕ) (z : A) where
  -- the test holds at k
  pub find-hit : k < length xs → p (get_or xs k z) ≡ true → find_from p k (drop k xs) ≡ Some k
  unfolding find_from
  find-hit h e = rw (drop-cons xs k z h, e)

  -- it does not
  pub find-miss : k < length xs → p (get_or xs k z) ≡ false → find_from p k (drop k xs) ≡ find_from p (k + 1) (drop (k + 1) xs)
  unfolding find_from
  find-miss h e = rw (add-one, drop-cons xs k z h, e)

  -- the list's end
  pub find-end : length xs ≤ k → find_from p k (drop k xs) ≡ None
  unfolding find_from
  find-end h = rw (drop_of_length-le xs h)

  -- the same for `all`
  pub all-hit : k < length xs → p (get_or xs k z) ≡ true → all p (drop k xs) ≡ all p (drop (k + 1) xs)
  unfolding all
  all-hit h e = rw (add-one, drop-cons xs k z h, e)

  pub all-miss : k < length xs → p (get_or xs k z) ≡ false → all p (drop k xs) ≡ false
  unfolding all
  all-miss h e = rw (drop-cons xs k z h, e)

  pub all_end : length xs ≤ k → all p (drop k xs) ≡ true
  unfolding all
  all_end h = rw (drop_of_length-le xs h)

-- a list is the same as itself
pub same_refl : (xs : List ℕ) → same xs xs ≡ true
unfolding same
same_refl [] = refl
same_refl (x ∷ xs) = rw (eq-eqb x x refl, same_refl xs)

-- what a search found: the element is there, and the test holds of it
pub record Hit {A : Type 0} (p : A → Bool) (xs : List A) (z : A) (i : ℕ) : Type 0 where
  pub below : i < length xs
  pub holds : p (get_or xs i z) ≡ true

found-step : {A : Type 0} (p : A → Bool) (x : A) (xs : List A) (z : A) (k i : ℕ) (b : Bool) → p x ≡ b
    → (find_from p (suc k) xs ≡ Some i → (suc k ≤ i) × Hit p xs z (i - suc k))
    → cond b (Some k) (find_from p (suc k) xs) ≡ Some i → (k ≤ i) × Hit p (x ∷ xs) z (i - k)
found-step p x xs z k i true q ih f =
    let m : k ≡ i = cc in
    let o : i - k ≡ 0 = omega arith in
    (omega arith, record { below = omega arith; holds = rw o q })
found-step p x xs z k i false q ih f =
    let r = ih f in
    let o : i - k ≡ suc (i - suc k) = omega (arith, r.0) in
    (omega (arith, r.0), record { below = omega (arith, r.0, r.1.below); holds = rw o r.1.holds })

found_from : {A : Type 0} (p : A → Bool) (xs : List A) (z : A) (k i : ℕ) → find_from p k xs ≡ Some i → (k ≤ i) × Hit p xs z (i - k)
unfolding find_from
found_from p [] z k i e = let n : ◌≡◌ {A = ℕ} 0 1 = cc in absurd (omega arith)
found_from p (x ∷ xs) z k i e = found-step p x xs z k i (p x) refl (found_from p xs z (suc k) i) e

pub found_at : {A : Type 0} (p : A → Bool) (xs : List A) (z : A) (i : ℕ) → find_from p 0 xs ≡ Some i → Hit p xs z i
found_at p xs z i e = let o : i - 0 ≡ i = omega arith in subst (λ (m : ℕ). Hit p xs z m) o (found_from p xs z 0 i e).1
