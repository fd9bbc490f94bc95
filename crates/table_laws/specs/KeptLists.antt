-- Laws of the tests `all`, `every`, `elem` and `distinct` for a list with an element taken out, added or changed. Assumes nothing.
use Rattle.std.specs.Prelude.{◌≡◌, Bool, false, not, ◌&&◌, ◌||◌, eqb, length, get_or, set, drop, Option, Some, is_none, cond}
use Rattle.std.proofs.Math.Path.{refl}
use Rattle.std.proofs.Common.{sym, ap, arith, not-suc-le-zero, le_of_suc-le-suc, ne_eqb}
use Rattle.std.proofs.Math.Bool.{true}
use mathlib.Core.List.{List, [], ◌∷◌, ◌++◌}
use Prim.Native.Nat.{ℕ, zero, suc, ◌<◌}
use Rattle.std.proofs.lemmas.Bool.{eqb-false, not-true}
use Rattle.tables.specs.Rows.{zeros, remove_at}
use Rattle.tables.specs.Records.{slots_from}
use Rattle.tables.specs.Find.{all, every, find_from}
use Rattle.tables.specs.Unsound.{elem}
use Rattle.tables.specs.Sound.{distinct, is_zero}
use Rattle.tables.specs.SoundLaws.{and_left, and_right, or_left, or_right}

pub both : (a b : Bool) → a ≡ true → b ≡ true → a && b ≡ true
both a b p q = rw (p, q)

module _ {A : Type 0} (p : A → Bool) where
  pub all_append : (xs ys : List A) → all p xs ≡ true → all p ys ≡ true → all p (xs ++ ys) ≡ true
  unfolding all
  all_append [] ys e f = f
  all_append (x ∷ xs) ys e f = both (p x) (all p (xs ++ ys)) (and_left (p x) (all p xs) e) (all_append xs ys (and_right (p x) (all p xs) e) f)

  pub all-remove_at : (xs : List A) (i : ℕ) → all p xs ≡ true → all p (remove_at xs i) ≡ true
  unfolding all
  all-remove_at [] zero e = e
  all-remove_at [] (suc i) e = e
  all-remove_at (x ∷ xs) zero e = and_right (p x) (all p xs) e
  all-remove_at (x ∷ xs) (suc i) e = both (p x) (all p (remove_at xs i)) (and_left (p x) (all p xs) e) (all-remove_at xs i (and_right (p x) (all p xs) e))

  pub all_set : (xs : List A) (k : ℕ) (y : A) → all p xs ≡ true → p y ≡ true → all p (set xs k y) ≡ true
  unfolding all
  all_set [] k y e f = e
  all_set (x ∷ xs) zero y e f = both (p y) (all p xs) f (and_right (p x) (all p xs) e)
  all_set (x ∷ xs) (suc k) y e f = both (p x) (all p (set xs k y)) (and_left (p x) (all p xs) e) (all_set xs k y (and_right (p x) (all p xs) e) f)

  pub all_drop : (k : ℕ) (xs : List A) → all p xs ≡ true → all p (drop k xs) ≡ true
  unfolding all
  all_drop zero xs e = e
  all_drop (suc k) [] e = e
  all_drop (suc k) (x ∷ xs) e = all_drop k xs (and_right (p x) (all p xs) e)

pub zeros-zero : (n : ℕ) → all is_zero (zeros n) ≡ true
unfolding all zeros
zeros-zero zero = refl
zeros-zero (suc n) = zeros-zero n

pub neither : (a b : Bool) → a ≡ false → b ≡ false → a || b ≡ false
neither a b p q = rw (p, q)

pub elem-remove_at : (x : ℕ) (xs : List ℕ) (i : ℕ) → elem x xs ≡ false → elem x (remove_at xs i) ≡ false
unfolding elem
elem-remove_at x [] zero e = e
elem-remove_at x [] (suc i) e = e
elem-remove_at x (y ∷ xs) zero e = or_right (eqb x y) (elem x xs) e
elem-remove_at x (y ∷ xs) (suc i) e = neither (eqb x y) (elem x (remove_at xs i)) (or_left (eqb x y) (elem x xs) e)
    (elem-remove_at x xs i (or_right (eqb x y) (elem x xs) e))

pub distinct-remove_at : (xs : List ℕ) (i : ℕ) → distinct xs ≡ true → distinct (remove_at xs i) ≡ true
unfolding distinct
distinct-remove_at [] zero e = e
distinct-remove_at [] (suc i) e = e
distinct-remove_at (x ∷ xs) zero e = and_right (not (elem x xs)) (distinct xs) e
distinct-remove_at (x ∷ xs) (suc i) e =
    both (not (elem x (remove_at xs i))) (distinct (remove_at xs i))
    (ap not (elem-remove_at x xs i (not-true (elem x xs) (and_left (not (elem x xs)) (distinct xs) e))))
    (distinct-remove_at xs i (and_right (not (elem x xs)) (distinct xs) e))

elem-snoc : (y : ℕ) (xs : List ℕ) (x : ℕ) → elem y xs ≡ false → eqb y x ≡ false → elem y (xs ++ (x ∷ [])) ≡ false
unfolding elem
elem-snoc y [] x e f = neither (eqb y x) false f refl
elem-snoc y (z ∷ xs) x e f = neither (eqb y z) (elem y (xs ++ (x ∷ []))) (or_left (eqb y z) (elem y xs) e)
    (elem-snoc y xs x (or_right (eqb y z) (elem y xs) e) f)

pub eqb-sym : (a b : ℕ) → eqb a b ≡ false → eqb b a ≡ false
eqb-sym a b e = ne_eqb b a (λ h. eqb-false a b e (sym h))

pub distinct_snoc : (xs : List ℕ) (x : ℕ) → distinct xs ≡ true → elem x xs ≡ false → distinct (xs ++ (x ∷ [])) ≡ true
unfolding distinct elem
distinct_snoc [] x d e = refl
distinct_snoc (y ∷ xs) x d e =
    both (not (elem y (xs ++ (x ∷ [])))) (distinct (xs ++ (x ∷ [])))
    (ap not (elem-snoc y xs x (not-true (elem y xs) (and_left (not (elem y xs)) (distinct xs) d)) (eqb-sym x y (or_left (eqb x y) (elem x xs) e))))
    (distinct_snoc xs x (and_right (not (elem y xs)) (distinct xs) d) (or_right (eqb x y) (elem x xs) e))

-- what a search does not find
pub absent-all : {A : Type 0} (p : A → Bool) (k : ℕ) (xs : List A) → is_none (find_from p k xs) ≡ all (λ x. not (p x)) xs
unfolding find_from all
absent-all p k [] = refl
absent-all p k (x ∷ xs) = step (p x) (find_from p (suc k) xs) (all (λ y. not (p y)) xs) (absent-all p (suc k) xs)
  where
    step : (b : Bool) (f : Option ℕ) (r : Bool) → is_none f ≡ r → is_none (cond b (Some k) f) ≡ not b && r
    step true f r e = refl
    step false f r e = e

-- `every` where an element is taken out, and where one is added at the end
module _ {A : Type 0} (q : A → List A → Bool) where
  pub every-remove_at : ((r : A) (rs : List A) (j : ℕ) → q r rs ≡ true → q r (remove_at rs j) ≡ true) → (xs : List A) (i : ℕ) → every q xs ≡ true
      → every q (remove_at xs i) ≡ true
  unfolding every
  every-remove_at h [] zero e = e
  every-remove_at h [] (suc i) e = e
  every-remove_at h (x ∷ xs) zero e = and_right (q x xs) (every q xs) e
  every-remove_at h (x ∷ xs) (suc i) e =
      both (q x (remove_at xs i)) (every q (remove_at xs i)) (h x xs i (and_left (q x xs) (every q xs) e))
      (every-remove_at h xs i (and_right (q x xs) (every q xs) e))

  pub every-snoc : (x : A) (c : A → Bool) → ((r : A) (rs : List A) → c r ≡ true → q r rs ≡ true → q r (rs ++ (x ∷ [])) ≡ true) → (xs : List A)
      → all c xs ≡ true → every q xs ≡ true → q x [] ≡ true → every q (xs ++ (x ∷ [])) ≡ true
  unfolding every all
  every-snoc x c h [] a e l = both (q x []) true l refl
  every-snoc x c h (y ∷ xs) a e l =
      both (q y (xs ++ (x ∷ []))) (every q (xs ++ (x ∷ [])))
      (h y xs (and_left (c y) (all c xs) a) (and_left (q y xs) (every q xs) e))
      (every-snoc x c h xs (and_right (c y) (all c xs) a) (and_right (q y xs) (every q xs) e) l)

pub all-mono : {A : Type 0} (p r : A → Bool) → ((x : A) → p x ≡ true → r x ≡ true) → (xs : List A) → all p xs ≡ true → all r xs ≡ true
unfolding all
all-mono p r h [] e = e
all-mono p r h (x ∷ xs) e = both (r x) (all r xs) (h x (and_left (p x) (all p xs) e)) (all-mono p r h xs (and_right (p x) (all p xs) e))

-- the number at i is not among the others
elem_at : (x : ℕ) (xs : List ℕ) (i : ℕ) → elem x xs ≡ false → i < length xs → eqb x (get_or xs i 0) ≡ false
unfolding elem
elem_at x [] i e h = absurd (not-suc-le-zero h)
elem_at x (y ∷ xs) zero e h = or_left (eqb x y) (elem x xs) e
elem_at x (y ∷ xs) (suc i) e h = elem_at x xs i (or_right (eqb x y) (elem x xs) e) (le_of_suc-le-suc h)

pub elem_out : (xs : List ℕ) (i : ℕ) → distinct xs ≡ true → i < length xs → elem (get_or xs i 0) (remove_at xs i) ≡ false
unfolding distinct elem
elem_out [] i d h = absurd (not-suc-le-zero h)
elem_out (x ∷ xs) zero d h = not-true (elem x xs) (and_left (not (elem x xs)) (distinct xs) d)
elem_out (x ∷ xs) (suc i) d h =
    neither (eqb (get_or xs i 0) x) (elem (get_or xs i 0) (remove_at xs i))
    (eqb-sym x (get_or xs i 0) (elem_at x xs i (not-true (elem x xs) (and_left (not (elem x xs)) (distinct xs) d)) (le_of_suc-le-suc h)))
    (elem_out xs i (and_right (not (elem x xs)) (distinct xs) d) (le_of_suc-le-suc h))

pub distinct-last : (xs : List ℕ) (i : ℕ) → distinct xs ≡ true → i < length xs → distinct (remove_at xs i ++ (get_or xs i 0 ∷ [])) ≡ true
distinct-last xs i d h = distinct_snoc (remove_at xs i) (get_or xs i 0) (distinct-remove_at xs i d) (elem_out xs i d h)

pub distinct-first : (xs : List ℕ) (i : ℕ) → distinct xs ≡ true → i < length xs → distinct (get_or xs i 0 ∷ remove_at xs i) ≡ true
unfolding distinct
distinct-first xs i d h = both (not (elem (get_or xs i 0) (remove_at xs i))) (distinct (remove_at xs i)) (ap not (elem_out xs i d h)) (distinct-remove_at xs i d)

-- the slots of a fresh table differ
slots-above : (x a d : ℕ) → x < a → elem x (slots_from a d) ≡ false
unfolding elem
slots-above x a zero h = refl
slots-above x a (suc d) h = neither (eqb x a) (elem x (slots_from (suc a) d)) (ne_eqb x a (λ e. omega arith)) (slots-above x (suc a) d (omega arith))

pub slots-distinct : (a d : ℕ) → distinct (slots_from a d) ≡ true
unfolding distinct
slots-distinct a zero = refl
slots-distinct a (suc d) = both (not (elem a (slots_from (suc a) d))) (distinct (slots_from (suc a) d)) (ap not (slots-above a (suc a) d (omega arith)))
    (slots-distinct (suc a) d)
