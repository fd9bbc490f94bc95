-- What a search of a range of rows finds. Assumes nothing.
use Rattle.std.proofs.Common.{◌≡◌, ℕ, suc, ◌+◌, ◌-◌, ◌≤◌, ◌<◌, Bool, true, false, Option, Some, None, List, [], ◌∷◌, length, get_or, drop, length-drop, get_or-drop, refl, sym, ap, ◌∙◌, arith}
use Rattle.std.proofs.lemmas.Iterator.{cases_from_all, YieldsList-from_range}
use Rattle.std.proofs.lemmas.List.FromFn.{length-range_with_len, get_or-range_with_len}
use Rattle.std.proofs.iter.Yields.{nat_range_steps}
use Rattle.std.specs.Bool.{MatchBool}
use Rattle.std.specs.Option.{MatchOption}
use Rattle.std.specs.Fn.{Called}
use Rattle.std.specs.Iterator.{YieldsThen}
use Rattle.std.specs.List.{range_with_len, FoldsTo, AllWithin, HoldsAt}
use Rattle.std.specs.declared.ops.Range.{Range}
use denote.Param.Members.{Mut}
use mathlib.Core.Bool.{false≢true}
use Rattle.tables.specs.Rows.{rows, row_at}
use Rattle.tables.specs.Find.{all, find_from}
use Rattle.tables.specs.RowLaws.{rows-length, rows_at, first-row}
use Rattle.tables.specs.SoundLaws.{all-at, not-true-false}

-- what holds of each holds of all
all-each : {A : Type 0} (p : A → Bool) (xs : List A) (z : A) → ((k : ℕ) → k < length xs → p (get_or xs k z) ≡ true) → all p xs ≡ true
unfolding all
all-each p [] z h = refl
all-each p (x ∷ xs) z h = rw (h 0 (omega arith)) (all-each p xs z (λ k l. h (suc k) (omega (arith, l))))

module _ (p : List ℕ → Bool) (m n : ℕ) (t : List ℕ) where
  -- row i of those from row m on
  row-from : (i : ℕ) → i < n - m → get_or (drop m (rows n t)) i [] ≡ row_at t (m + i)
  row-from i h = get_or-drop m (rows n t) i [] ∙ rows_at n t (m + i) (omega arith)

  rows-from : length (drop m (rows n t)) ≡ n - m
  rows-from = simp (length-drop, rows-length) refl

  -- what `all` of a range gives
  answer-is : (b : Bool) → MatchBool b (AllWithin (λ k. p (row_at t k) ≡ true) (range_with_len m (n - m)) 0 (length (range_with_len m (n - m))))
      ((i : ℕ) × (i < length (range_with_len m (n - m))) × HoldsAt (λ k. p (row_at t k) ≡ false) (range_with_len m (n - m)) i)
      → b ≡ all p (drop m (rows n t))
  answer-is true h = sym (all-each p (drop m (rows n t)) [] (λ i l.
      (let b : i < n - m = omega (arith, l, rows-from) in
      ap p (row-from i b) ∙ ap (λ k. p (row_at t k)) (sym (get_or-range_with_len m (n - m) i 0 b))
      ∙ h i 0 (omega arith) (omega (arith, b, length-range_with_len m (n - m))))))
  answer-is false h =
      let b : h.0 < n - m = omega (arith, h.1, length-range_with_len m (n - m)) in
      let e : p (get_or (drop m (rows n t)) h.0 []) ≡ false =
      ap p (row-from h.0 b) ∙ ap (λ k. p (row_at t k)) (sym (get_or-range_with_len m (n - m) h.0 0 b)) ∙ h.2 0 in
      sym (not-true-false (all p (drop m (rows n t))) (λ o. false≢true (sym e ∙ all-at p (drop m (rows n t)) h.0 [] o (omega (arith, b, rows-from)))))

-- `all` over a range of rows
pub all-rows : {F : Type 0} {g : Mut F (ℕ × Unit {0}) Bool} (s u : Range ℕ) (f : F) (b : Bool) (p : List ℕ → Bool) (t : List ℕ)
    → (xs : List ℕ) × (o : Option ℕ) × (j : F) × YieldsThen nat_range_steps s xs o u × FoldsTo (λ f x q. Called g f (x, tt) true q) f xs j
    × MatchOption o (b ≡ true) (λ x. (b ≡ false) × ((h : F) × Called g j (x, tt) false h))
    → ((x : ℕ) (q : F) → Called g f (x, tt) true q → (q ≡ f) × (p (row_at t x) ≡ true))
    → ((x : ℕ) (q : F) → Called g f (x, tt) false q → p (row_at t x) ≡ false) → b ≡ all p (drop s.start (rows s.end t))
all-rows s u f b p t ran passed failed =
    answer-is p s.start s.end t b (cases_from_all u f b (λ k. p (row_at t k) ≡ true) (λ k. p (row_at t k) ≡ false) ran
    (YieldsList-from_range s.start s.end (s.end - s.start) refl refl) passed failed)

-- the first that passes, where the test q of its place is p of the row
pub first-by-place : (p : List ℕ → Bool) (q : ℕ → Bool) (n : ℕ) (t : List ℕ) (r : Option ℕ) → ((k : ℕ) → k < n → q k ≡ p (row_at t k))
    → MatchOption r ((j : ℕ) → 0 ≤ j → j < n → q j ≡ false) (λ i. (0 ≤ i) × (i < n) × (q i ≡ true) × ((j : ℕ) → 0 ≤ j → j < i → q j ≡ false))
    → r ≡ find_from p 0 (rows n t)
first-by-place p q n t None e h = first-row p n t None (λ j a b. sym (e j b) ∙ h j a b)
first-by-place p q n t (Some i) e h =
    first-row p n t (Some i) (h.0, h.1, sym (e i h.1) ∙ h.2, λ j a b. sym (e j (omega (arith, b, h.1))) ∙ h.3 j a b)
