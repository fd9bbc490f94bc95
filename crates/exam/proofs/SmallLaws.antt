-- The small machine is the printed D-LRU, where there are at most four addresses.
use mathlib.Core.Path.{◌≡◌, refl, sym, ap, ap₂, ◌∙◌, subst}
use mathlib.Core.Bool.{Bool, true, false, ◌||◌}
use mathlib.Core.List.{List, [], ◌∷◌}
use Prim.Native.Nat.{ℕ, zero, suc, ◌≤◌, ◌<◌}
use native.Mathlib.Omega.{arith}
use lib.Dec.{eqb, ltb}
use lib.ListN.{length, length-append, drop}
use borrow.Author.Tests.{eqb-true, eqb-false, eq-eqb, ne_eqb, lt-ltb, le-ltb}
use Rattle.paper.specs.Keyed.{has, without}
use Rattle.paper.specs.KeyedLaws.{All, Distinct, by-test, eqb→≡, eqb-self, or-false-left, or-false-right}
use Rattle.paper.specs.KeyedLaws.{all_append, all_without, distinct_without, distinct_snoc, has-without-self, without-absent}
use Rattle.paper.proofs.SoundLaws.{length-without-lt}
use Rattle.paper.specs.Machines.{put}
use Rattle.counting.proofs.Recency.{one_out}
use Rattle.exam.specs.Small.{four, kept, has_four, put_four}

-- the list that four numbers stand for
pub data Holds : List ℕ → List ℕ → Type 0 where
  of0 : Holds (four 4 4 4 4) []
  of1 : (z : ℕ) → Holds (four 4 4 4 z) (z ∷ [])
  of2 : (y z : ℕ) → Holds (four 4 4 y z) (y ∷ z ∷ [])
  of3 : (x y z : ℕ) → Holds (four 4 x y z) (x ∷ y ∷ z ∷ [])
  of4 : (w x y z : ℕ) → Holds (four w x y z) (w ∷ x ∷ y ∷ z ∷ [])

kept-none : (b : Bool) → kept b 4 ≡ 4
kept-none true = refl
kept-none false = refl

below-four : (k : ℕ) → k < 4 → eqb k 4 ≡ false
below-four k h = ne_eqb k 4 (λ e. omega arith)

-- k is z, which is not y
other : (k y z : ℕ) → eqb k z ≡ true → eqb y z ≡ false → eqb k y ≡ false
other k y z e n = ne_eqb k y (λ q. eqb-false y z n (sym q ∙ eqb-true k z e))

abbrev In : ℕ → List ℕ → Bool
In k l = has eqb (λ x. x) k l

-- at most n different numbers are below n
few : (n : ℕ) (l : List ℕ) → Distinct eqb (λ x. x) l → All (λ x. x < n) l → length l ≤ n
few zero [] d s = omega arith
few zero (x ∷ xs) d s = absurd (omega (arith, s.0))
few (suc n) l d s =
    let out = few n (without eqb (λ x. x) n l) (distinct_without eqb (λ x. x) n l d) (rest n l s) in
    by-test (In n l)
    (λ h. omega (arith, out, one_out eqb eqb→≡ eqb-self n l d h))
    (λ h. omega (arith, out, ap length (without-absent eqb (λ x. x) n l h)))
  where
    rest : (n : ℕ) (l : List ℕ) → All (λ x. x < suc n) l → All (λ x. x < n) (without eqb (λ x. x) n l)
    rest n [] s = tt
    rest n (x ∷ xs) s = by-test (eqb n x) (λ e. rw e (rest n xs s.1)) (λ e. rw e ((let ne = eqb-false n x e in omega (arith, s.0)), rest n xs s.1))

tested : (k x : ℕ) → eqb x k ≡ eqb k x
tested k x = by-test (eqb k x) (λ e. eq-eqb x k (sym (eqb-true k x e)) ∙ sym e) (λ e. ne_eqb x k (λ q. eqb-false k x e (sym q)) ∙ sym e)

any-in : (k : ℕ) (l : List ℕ) → has_four l k ≡ In k l
any-in k [] = refl
any-in k (x ∷ l) = ap₂ ◌||◌ (tested k x) (any-in k l)

pub has-four : {l s : List ℕ} (k : ℕ) → k < 4 → Holds l s → has_four l k ≡ In k s
has-four k h of0 = any-in k (four 4 4 4 4) ∙ rw (below-four k h) refl
has-four k h (of1 z) = any-in k (four 4 4 4 z) ∙ rw (below-four k h) refl
has-four k h (of2 y z) = any-in k (four 4 4 y z) ∙ rw (below-four k h) refl
has-four k h (of3 x y z) = any-in k (four 4 x y z) ∙ rw (below-four k h) refl
has-four k h (of4 w x y z) = any-in k (four w x y z)

pub put_four_lem : {l s : List ℕ} (n k : ℕ) → k < 4 → 1 ≤ n → Holds l s → All (λ x. x < 4) s → Distinct eqb (λ x. x) s → length s ≤ n
    → Holds (put_four l n k) (put eqb n k s)
unfolding put_four put
put_four_lem n k h n1 of0 a d l = rw (below-four k h, ne_eqb 0 n (λ e. omega arith), kept-none (ltb 3 n), kept-none (ltb 2 n), kept-none (ltb 1 n)) (of1 k)
put_four_lem n k h n1 (of1 z) a d l =
    by-test (eqb k z)
    (λ e. rw e (subst (λ j. Holds (four 4 4 4 z) (j ∷ [])) (sym (eqb-true k z e)) (of1 z)))
    (λ e. rw (e, below-four k h, kept-none (ltb 3 n), kept-none (ltb 2 n)) (by-test (eqb 1 n)
    (λ f. rw (f, le-ltb 1 n (omega (arith, eqb-true 1 n f))) (of1 k))
    (λ f. rw (f, lt-ltb 1 n (let ne = eqb-false 1 n f in omega arith)) (of2 z k))))
put_four_lem n k h n1 (of2 y z) a d l =
    by-test (eqb k z)
    (λ e. rw (e, other k y z e (or-false-left (eqb y z) false d.0)) (subst (λ j. Holds (four 4 4 y z) (y ∷ j ∷ [])) (sym (eqb-true k z e)) (of2 y z)))
    (λ e. by-test (eqb k y)
    (λ f. rw (e, f) (of2 z k))
    (λ f. rw (e, f, below-four k h, kept-none (ltb 3 n), lt-ltb 1 n (omega arith)) (by-test (eqb 2 n)
    (λ g. rw (g, le-ltb 2 n (omega (arith, eqb-true 2 n g))) (of2 z k))
    (λ g. rw (g, lt-ltb 2 n (let ne = eqb-false 2 n g in omega arith)) (of3 y z k)))))
put_four_lem n k h n1 (of3 x y z) a d l =
    let xy = or-false-left (eqb x y) (eqb x z || false) d.0 in
    let xz = or-false-left (eqb x z) false (or-false-right (eqb x y) (eqb x z || false) d.0) in
    let yz = or-false-left (eqb y z) false d.1.0 in
    by-test (eqb k z)
    (λ e. rw (e, other k y z e yz, other k x z e xz) (subst (λ j. Holds (four 4 x y z) (x ∷ y ∷ j ∷ [])) (sym (eqb-true k z e)) (of3 x y z)))
    (λ e. by-test (eqb k y)
    (λ f. rw (e, f, other k x y f xy) (of3 x z k))
    (λ f. by-test (eqb k x)
    (λ g. rw (e, f, g) (of3 y z k))
    (λ g. rw (e, f, g, lt-ltb 2 n (omega arith), lt-ltb 1 n (omega arith)) (by-test (eqb 3 n)
    (λ i. rw (i, le-ltb 3 n (omega (arith, eqb-true 3 n i))) (of3 y z k))
    (λ i. rw (i, lt-ltb 3 n (let ne = eqb-false 3 n i in omega arith)) (of4 x y z k))))))
put_four_lem n k h n1 (of4 w x y z) a d l =
    let wx = or-false-left (eqb w x) (eqb w y || (eqb w z || false)) d.0 in
    let wyz = or-false-right (eqb w x) (eqb w y || (eqb w z || false)) d.0 in
    let wy = or-false-left (eqb w y) (eqb w z || false) wyz in
    let wz = or-false-left (eqb w z) false (or-false-right (eqb w y) (eqb w z || false) wyz) in
    let xy = or-false-left (eqb x y) (eqb x z || false) d.1.0 in
    let xz = or-false-left (eqb x z) false (or-false-right (eqb x y) (eqb x z || false) d.1.0) in
    let yz = or-false-left (eqb y z) false d.1.1.0 in
    by-test (eqb k z)
    (λ e. rw (e, other k y z e yz, other k x z e xz, other k w z e wz)
    (subst (λ j. Holds (four w x y z) (w ∷ x ∷ y ∷ j ∷ [])) (sym (eqb-true k z e)) (of4 w x y z)))
    (λ e. by-test (eqb k y)
    (λ f. rw (e, f, other k x y f xy, other k w y f wy) (of4 w x z k))
    (λ f. by-test (eqb k x)
    (λ g. rw (e, f, g, other k w x g wx) (of4 w y z k))
    (λ g. rw (e, f, g, lt-ltb 3 n (omega arith), lt-ltb 2 n (omega arith), lt-ltb 1 n (omega arith)) (by-test (eqb k w)
    (λ i. rw i (of4 x y z k))
    (λ i. rw i (by-test (eqb 4 n)
    (λ j. rw j (of4 x y z k))
    (λ j. absurd (omega (arith, few 4 (k ∷ w ∷ x ∷ y ∷ z ∷ []) (rw (i, g, f, e) refl, d) (h, a))))))))))

-- what `put` keeps
module _ {K : Type 0} (same : K → K → Bool) (same→≡ : (j k : K) → same j k ≡ true → j ≡ k) (same_refl : (k : K) → same k k ≡ true)
    (n : ℕ) (k : K) where
  all_drop : (Q : K → Type 0) (s : List K) → All Q s → All Q (drop 1 s)
  all_drop Q [] a = tt
  all_drop Q (x ∷ s) a = a.1

  pub put_all : (Q : K → Type 0) (s : List K) → All Q s → Q k → All Q (put same n k s)
  unfolding put
  put_all Q s a q =
      by-test (has same (λ x. x) k s)
      (λ h. rw h (all_append Q (without same (λ x. x) k s) (k ∷ []) (all_without same (λ x. x) Q k s a) (q, tt)))
      (λ h. rw h (by-test (eqb (length s) n)
      (λ e. rw e (all_append Q (drop 1 s) (k ∷ []) (all_drop Q s a) (q, tt)))
      (λ e. rw e (all_append Q s (k ∷ []) a (q, tt)))))

  distinct-drop : (s : List K) → Distinct same (λ x. x) s → Distinct same (λ x. x) (drop 1 s)
  distinct-drop [] d = tt
  distinct-drop (x ∷ s) d = d.1

  absent-drop : (s : List K) → has same (λ x. x) k s ≡ false → has same (λ x. x) k (drop 1 s) ≡ false
  absent-drop [] h = refl
  absent-drop (x ∷ s) h = or-false-right (same k x) (has same (λ x. x) k s) h

  pub put-distinct : (s : List K) → Distinct same (λ x. x) s → Distinct same (λ x. x) (put same n k s)
  unfolding put
  put-distinct s d =
      by-test (has same (λ x. x) k s)
      (λ h. rw h (distinct_snoc same (λ x. x) same→≡ same_refl k (without same (λ x. x) k s) (distinct_without same (λ x. x) k s d)
      (has-without-self same (λ x. x) k s)))
      (λ h. rw h (by-test (eqb (length s) n)
      (λ e. rw e (distinct_snoc same (λ x. x) same→≡ same_refl k (drop 1 s) (distinct-drop s d) (absent-drop s h)))
      (λ e. rw e (distinct_snoc same (λ x. x) same→≡ same_refl k s d h))))

  shorter : (s : List K) → 1 ≤ n → length s ≡ n → suc (length (drop 1 s)) ≡ n
  shorter [] n1 e = absurd (omega arith)
  shorter (x ∷ s) n1 e = e

  pub put-length : (s : List K) → 1 ≤ n → length s ≤ n → length (put same n k s) ≤ n
  unfolding put
  put-length s n1 l =
      by-test (has same (λ x. x) k s)
      (λ h. rw h (omega (arith, length-append (without same (λ x. x) k s) (k ∷ []), length-without-lt same (λ x. x) k s h)))
      (λ h. rw h (by-test (eqb (length s) n)
      (λ e. rw e (omega (arith, length-append (drop 1 s) (k ∷ []), shorter s n1 (eqb-true (length s) n e))))
      (λ e. rw e (let ne = eqb-false (length s) n e in omega (arith, length-append s (k ∷ []))))))
