-- Rows by their index: the index of the first row that passes a test (the length where none does), and what `has`, `find`, `without` and `slot_of` are there.
use Rattle.std.specs.Prelude.{◌≡◌, Bool, true, false, not, cond, length, get_or, take, drop}
use Rattle.std.proofs.Math.Path.{refl, ap}
use Rattle.std.proofs.Common.{◌∙◌, le_of_suc-le-suc}
use mathlib.Core.List.{List, [], ◌∷◌, ◌++◌, map}
use Rattle.std.proofs.Math.Option.{none, some}
use Prim.Native.Nat.{ℕ, suc, zero, ◌≤◌, ◌<◌, ◌+◌}
use native.Mathlib.Omega.{arith}
use Rattle.paper.specs.Keyed.{has, without, find}
use Rattle.paper.specs.Cache.{Hashing, AddressRow, BlockRow, known, slot_of, oldest_unknown}
use Rattle.paper.specs.KeyedLaws.{by-test, clash, or_left, or_right, All, Distinct, without-absent}
use Rattle.paper.specs.Index.{index_where}

module _ {A : Type 0} (p : A → Bool) where
  pub index-none : (xs ys : List A) → All (λ x. p x ≡ false) xs → index_where p (xs ++ ys) ≡ length xs + index_where p ys
  unfolding index_where
  index-none [] ys q = omega arith
  index-none (x ∷ xs) ys q = rw q.0 (ap suc (index-none xs ys q.1) ∙ omega arith)

  pub index-holds : (xs : List A) (z : A) → index_where p xs < length xs → p (get_or xs (index_where p xs) z) ≡ true
  unfolding index_where
  index-holds [] z = λ h. absurd (omega arith)
  index-holds (x ∷ xs) z = by-test (p x) (λ e. rw e (λ h. e)) (λ e. rw e (λ h. index-holds xs z (le_of_suc-le-suc h)))

pub index-map : {A C : Type 0} (f : A → C) (p : C → Bool) (q : A → Bool) (Q : A → Type 0) → ((x : A) → Q x → p (f x) ≡ q x) → (xs : List A) → All Q xs
    → index_where p (map f xs) ≡ index_where q xs
unfolding index_where
index-map f p q Q e [] a = refl
index-map f p q Q e (x ∷ xs) a = rw (e x a.0, index-map f p q Q e xs a.1)

module _ {K R : Type 0} (same : K → K → Bool) (key : R → K) (k : K) where
  pub has-yes : (l : List R) → index_where (λ r. same k (key r)) l < length l → has same key k l ≡ true
  unfolding index_where
  has-yes [] = λ h. absurd (omega arith)
  has-yes (x ∷ xs) = by-test (same k (key x)) (λ e. rw e (λ h. refl)) (λ e. rw e (λ h. has-yes xs (le_of_suc-le-suc h)))

  pub has_no : (l : List R) → length l ≤ index_where (λ r. same k (key r)) l → has same key k l ≡ false
  unfolding index_where
  has_no [] = λ h. refl
  has_no (x ∷ xs) = by-test (same k (key x)) (λ e. rw e (λ h. absurd (omega arith))) (λ e. rw e (λ h. has_no xs (le_of_suc-le-suc h)))

  pub find-yes : (l : List R) (z : R) → index_where (λ r. same k (key r)) l < length l → find same key k l ≡ some (get_or l (index_where (λ r. same k (key r)) l) z)
  unfolding index_where
  find-yes [] z = λ h. absurd (omega arith)
  find-yes (x ∷ xs) z = by-test (same k (key x)) (λ e. rw e (λ h. refl)) (λ e. rw e (λ h. find-yes xs z (le_of_suc-le-suc h)))

  pub find-no : (l : List R) → length l ≤ index_where (λ r. same k (key r)) l → find same key k l ≡ none
  unfolding index_where
  find-no [] = λ h. refl
  find-no (x ∷ xs) = by-test (same k (key x)) (λ e. rw e (λ h. absurd (omega arith))) (λ e. rw e (λ h. find-no xs (le_of_suc-le-suc h)))

  pub without-yes : (same→≡ : (i j : K) → same i j ≡ true → i ≡ j) (l : List R) → Distinct same key l → index_where (λ r. same k (key r)) l < length l
      → without same key k l ≡ take (index_where (λ r. same k (key r)) l) l ++ drop (suc (index_where (λ r. same k (key r)) l)) l
  unfolding index_where
  without-yes eq [] d = λ h. absurd (omega arith)
  without-yes eq (x ∷ xs) d =
      by-test (same k (key x))
      (λ e. rw e (λ h. without-absent same key k xs (rw (← eq k (key x) e) at d.0)))
      (λ e. rw e (λ h. ap {B = List R} (λ l. x ∷ l) (without-yes eq xs d.1 (le_of_suc-le-suc h))))

-- a row by any index that is known
module _ {K R : Type 0} (same : K → K → Bool) (key : R → K) where
  pub has-at : (k : K) (l : List R) (i : ℕ) (z : R) → i < length l → same k (key (get_or l i z)) ≡ true → has same key k l ≡ true
  has-at k [] i z h e = absurd (omega arith)
  has-at k (x ∷ xs) zero z h e = or_left (same k (key x)) (has same key k xs) e
  has-at k (x ∷ xs) (suc i) z h e = or_right (same k (key x)) (has same key k xs) (has-at k xs i z (omega arith) e)

  -- where keys are distinct, the rows without that of row i
  pub without_at : (same→≡ : (j k : K) → same j k ≡ true → j ≡ k) (k : K) (l : List R) (i : ℕ) (z : R) → Distinct same key l → i < length l
      → same k (key (get_or l i z)) ≡ true
      → without same key k l ≡ take i l ++ drop (suc i) l
  without_at eq k [] i z d h e = absurd (omega arith)
  without_at eq k (x ∷ xs) zero z d h e = rw e (without-absent same key k xs (rw (← eq k (key x) e) at d.0))
  without_at eq k (x ∷ xs) (suc i) z d h e =
      by-test (same k (key x))
      (λ y. clash (has-at (key x) xs i z (omega arith) (rw (eq k (key x) y) at e)) d.0)
      (λ y. rw y (ap {B = List R} (λ l. x ∷ l) (without_at eq k xs i z d.1 (omega arith) e)))

module _ {F X : Type 0} (H : Hashing F X) where
  pub slot_of-yes : (g : F) (used : List (BlockRow F)) (z : BlockRow F) → index_where (λ u. H.same g u.fingerprint) used < length used
      → slot_of H g used ≡ (get_or used (index_where (λ u. H.same g u.fingerprint) used) z).slot
  unfolding index_where
  slot_of-yes g [] z = λ h. absurd (omega arith)
  slot_of-yes g (x ∷ xs) z = by-test (H.same g x.fingerprint) (λ e. rw e (λ h. refl)) (λ e. rw e (λ h. slot_of-yes g xs z (le_of_suc-le-suc h)))

  pub slot_of-no : (g : F) (used : List (BlockRow F)) → length used ≤ index_where (λ u. H.same g u.fingerprint) used → slot_of H g used ≡ 0
  unfolding index_where
  slot_of-no g [] = λ h. refl
  slot_of-no g (x ∷ xs) = by-test (H.same g x.fingerprint) (λ e. rw e (λ h. absurd (omega arith))) (λ e. rw e (λ h. slot_of-no g xs (le_of_suc-le-suc h)))

  -- the oldest row whose fingerprint no address row has
  pub unknown-yes : (rows : List (AddressRow F)) (used : List (BlockRow F)) (z : BlockRow F)
      → index_where (λ u. not (known H u.fingerprint rows)) used < length used
      → oldest_unknown H rows used ≡ some (get_or used (index_where (λ u. not (known H u.fingerprint rows)) used) z)
  unfolding index_where oldest_unknown
  unknown-yes rows [] z = λ h. absurd (omega arith)
  unknown-yes rows (x ∷ xs) z = by-test (known H x.fingerprint rows) (λ e. rw e (λ h. unknown-yes rows xs z (le_of_suc-le-suc h))) (λ e. rw e (λ h. refl))

  pub unknown-no : (rows : List (AddressRow F)) (used : List (BlockRow F)) → length used ≤ index_where (λ u. not (known H u.fingerprint rows)) used
      → oldest_unknown H rows used ≡ none
  unfolding index_where oldest_unknown
  unknown-no rows [] = λ h. refl
  unknown-no rows (x ∷ xs) = by-test (known H x.fingerprint rows) (λ e. rw e (λ h. unknown-no rows xs (le_of_suc-le-suc h)))
      (λ e. rw e (λ h. absurd (omega arith)))
