-- A flush of at most k: how many rows it cleans, and which it leaves dirty. Before that, rows of which the first ones are made clean.
-- Assumes nothing.
use Rattle.std.specs.Prelude.{◌≡◌, refl, true, false, ◌&&◌, ◌||◌, cond, ◌⊎◌, ℕ, zero, suc, ◌+◌, ◌-◌, ◌≤◌, ◌<◌, min, eqb, leb, take}
use Rattle.std.proofs.Math.Path.{sym, ap}
use Rattle.std.proofs.Common.{◌∙◌, inl, inr, arith}
use mathlib.Core.List.{List, [], ◌∷◌}
use Rattle.std.proofs.Math.Nat.{min-eq_left, min-eq_right}
use Rattle.std.proofs.Math.ListN.{length, drop, drop_of_length-le}
use borrow.Author.Tests.{leb-true, leb-false}
use Rattle.paper.specs.Cache.{Hashing, AddressRow, Box, held, known, partly, reach, dirty_rows, flushed}
use Rattle.paper.specs.KeyedLaws.{by-test, either, All, Distinct}
use Rattle.paper.specs.Partly.{dirty_of}

module _ {F X : Type 0} (H : Hashing F X) where
  -- what stays of rows of which the first i are made clean
  held-partly : (a i : ℕ) (rows : List (AddressRow F)) → held a (partly H i rows) ≡ held a rows
  held-partly a zero rows = refl
  held-partly a (suc i) [] = refl
  held-partly a (suc i) (r ∷ rs) = ap (λ b. eqb a r.address || b) (held-partly a i rs)

  pub distinct-partly : (i : ℕ) (rows : List (AddressRow F)) → Distinct eqb (λ r. r.address) rows → Distinct eqb (λ r. r.address) (partly H i rows)
  distinct-partly zero rows d = d
  distinct-partly (suc i) [] d = tt
  distinct-partly (suc i) (r ∷ rs) d = (held-partly r.address i rs ∙ d.0, distinct-partly i rs d.1)

  pub length-partly : (i : ℕ) (rows : List (AddressRow F)) → length (partly H i rows) ≡ length rows
  length-partly zero rows = refl
  length-partly (suc i) [] = refl
  length-partly (suc i) (r ∷ rs) = ap suc (length-partly i rs)

  pub known-partly : (i : ℕ) (f : F) (rows : List (AddressRow F)) → known H f (partly H i rows) ≡ known H f rows
  known-partly zero f rows = refl
  known-partly (suc i) f [] = refl
  known-partly (suc i) f (r ∷ rs) = ap (λ b. H.same f r.fingerprint || b) (known-partly i f rs)

  pub all-partly : (P Q : AddressRow F → Type 0)
      → ((r : AddressRow F) → P r → Q (record { address = r.address; fingerprint = r.fingerprint; dirty = r.dirty && false; seat = r.seat }))
      → ((r : AddressRow F) → P r → Q r) → (i : ℕ) (rows : List (AddressRow F)) → All P rows → All Q (partly H i rows)
  all-partly P Q f g zero [] p = tt
  all-partly P Q f g zero (r ∷ rs) p = (g r p.0, all-partly P Q f g zero rs p.1)
  all-partly P Q f g (suc i) [] p = tt
  all-partly P Q f g (suc i) (r ∷ rs) p = (f r p.0, all-partly P Q f g i rs p.1)

  pub all_take : (P : AddressRow F → Type 0) (i : ℕ) (rows : List (AddressRow F)) → All P rows → All P (take i rows)
  all_take P zero rows p = tt
  all_take P (suc i) [] p = tt
  all_take P (suc i) (r ∷ rs) p = (p.0, all_take P i rs p.1)

  -- of clean rows nothing is changed
  pub partly-clean : (i : ℕ) (rows : List (AddressRow F)) → All (λ r. r.dirty ≡ false) rows → partly H i rows ≡ rows
  partly-clean zero rows p = refl
  partly-clean (suc i) [] p = refl
  partly-clean (suc i) (r ∷ rs) p =
      let e : (r.dirty && false) ≡ r.dirty = rw p.0 refl in
      let t = partly-clean i rs p.1 in
      λ j. record { address = r.address; fingerprint = r.fingerprint; dirty = e j; seat = r.seat } ∷ t j

  -- what is counted and what is left dirty
  pub parts-sum : (i : ℕ) (rows : List (AddressRow F)) → dirty_rows H (take i rows) + dirty_rows H (partly H i rows) ≡ dirty_rows H rows
  parts-sum zero rows = omega arith
  parts-sum (suc i) [] = omega arith
  parts-sum (suc i) (r ∷ rs) = by-test r.dirty (λ e. rw e (omega (arith, parts-sum i rs))) (λ e. rw e (omega (arith, parts-sum i rs)))

  count-le : (k : ℕ) (rows : List (AddressRow F)) → dirty_rows H (take (reach H k rows) rows) ≤ k
  count-le k [] = omega arith
  count-le zero (r ∷ rs) = omega arith
  count-le (suc k) (r ∷ rs) = by-test r.dirty (λ e. rw e (omega (arith, count-le k rs))) (λ e. rw e (omega (arith, count-le (suc k) rs)))

  none-or-all : (k : ℕ) (rows : List (AddressRow F))
      → (dirty_rows H (partly H (reach H k rows) rows) ≡ 0) ⊎ (dirty_rows H (take (reach H k rows) rows) ≡ k)
  none-or-all k [] = inl refl
  none-or-all zero (r ∷ rs) = inr refl
  none-or-all (suc k) (r ∷ rs) =
      by-test r.dirty
      (λ e. rw e (either (none-or-all k rs) (λ h. inl (omega (arith, h))) (λ h. inr (omega (arith, h)))))
      (λ e. rw e (either (none-or-all (suc k) rs) (λ h. inl (omega (arith, h))) (λ h. inr (omega (arith, h)))))

  -- "The count is the smaller of k and the dirty rows before."
  pub count-is : (k : ℕ) (s : Box F X) → (flushed H k s).primary_writes ≡ min k (dirty_rows H s.rows)
  unfolding flushed
  count-is k s =
      let rows = s.rows in
      let n = dirty_rows H (take (reach H k rows) rows) in
      let t = parts-sum (reach H k rows) rows in
      let l = count-le k rows in
      either (none-or-all k rows)
      (λ h. let e : n ≡ dirty_rows H rows = omega (arith, t, h) in e ∙ sym (min-eq_right {n = dirty_rows H rows} {m = k} (omega (arith, e, l))))
      (λ h. h ∙ sym (min-eq_left {n = k} {m = dirty_rows H rows} (omega (arith, t, h))))

  -- so many are left dirty
  pub left-dirty : (k : ℕ) (s : Box F X) → dirty_rows H (flushed H k s).box.rows ≡ dirty_rows H s.rows - k
  unfolding flushed
  left-dirty k s =
      let t = parts-sum (reach H k s.rows) s.rows in
      let l = count-le k s.rows in
      either (none-or-all k s.rows) (λ h. omega (arith, t, l, h)) (λ h. omega (arith, t, h))

  drop-dirty : (k : ℕ) (rows : List (AddressRow F)) → dirty_of (partly H (reach H k rows) rows) ≡ drop k (dirty_of rows)
  drop-dirty zero [] = refl
  drop-dirty (suc k) [] = refl
  drop-dirty zero (r ∷ rs) = refl
  drop-dirty (suc k) (r ∷ rs) = by-test r.dirty (λ e. rw e (drop-dirty k rs)) (λ e. rw e (drop-dirty (suc k) rs))

  length-dirty : (rows : List (AddressRow F)) → length (dirty_of rows) ≡ dirty_rows H rows
  length-dirty [] = refl
  length-dirty (r ∷ rs) = by-test r.dirty (λ e. rw e (omega (arith, length-dirty rs))) (λ e. rw e (omega (arith, length-dirty rs)))

  -- "oldest first": the rows left dirty are the dirty rows before, but for the oldest, as many as are counted
  pub newest-stay : (k : ℕ) (s : Box F X) → dirty_of (flushed H k s).box.rows ≡ drop (min k (dirty_rows H s.rows)) (dirty_of s.rows)
  unfolding flushed
  newest-stay k s =
      let rows = s.rows in
      let n = dirty_rows H rows in
      let l = length-dirty rows in
      drop-dirty k rows
      ∙ by-test (leb k n)
      (λ e. ap {B = List (AddressRow F)} (λ i. drop i (dirty_of rows)) (sym (min-eq_left {n = k} {m = n} (leb-true k n e))))
      (λ e.
      let more : n < k = leb-false k n e in
      let few : length (dirty_of rows) ≤ k = omega (arith, l, more) in
      let all : length (dirty_of rows) ≤ n = omega (arith, l) in
      drop_of_length-le (dirty_of rows) few ∙ sym (drop_of_length-le (dirty_of rows) all)
      ∙ ap {B = List (AddressRow F)} (λ i. drop i (dirty_of rows)) (sym (min-eq_right {n = n} {m = k} (omega (arith, more)))))

  pub dirty-few : (rows : List (AddressRow F)) → dirty_rows H rows ≤ length rows
  dirty-few [] = omega arith
  dirty-few (r ∷ rs) = by-test r.dirty (λ e. rw e (omega (arith, dirty-few rs))) (λ e. rw e (omega (arith, dirty-few rs)))

  pub none-dirty : (rows : List (AddressRow F)) → dirty_rows H rows ≡ 0 → All (λ r. r.dirty ≡ false) rows
  none-dirty [] = λ h. tt
  none-dirty (r ∷ rs) = by-test r.dirty (λ e. rw e (λ h. absurd (omega (arith, h)))) (λ e. rw e (λ h. (refl, none-dirty rs (omega (arith, h)))))

  -- a loop over the rows that ends at the count k, or behind the last row, has gone through as many as `reach` says
  pub reach-le : (k : ℕ) (rows : List (AddressRow F)) → reach H k rows ≤ length rows
  reach-le k [] = omega arith
  reach-le zero (r ∷ rs) = omega arith
  reach-le (suc k) (r ∷ rs) = by-test r.dirty (λ e. rw e (omega (arith, reach-le k rs))) (λ e. rw e (omega (arith, reach-le (suc k) rs)))

  pub reach-more : (k i : ℕ) (rows : List (AddressRow F)) → i < length rows → dirty_rows H (take i rows) < k → i ≤ reach H k rows → suc i ≤ reach H k rows
  reach-more k i [] = λ l c h. absurd (omega arith)
  reach-more zero i (r ∷ rs) = λ l c h. absurd (omega arith)
  reach-more (suc k) zero (r ∷ rs) = λ l c h. omega arith
  reach-more (suc k) (suc i) (r ∷ rs) =
      by-test r.dirty
      (λ e. rw e (λ l c h. let ih = reach-more k i rs (omega arith) (omega arith) (omega arith) in omega (arith, ih)))
      (λ e. rw e (λ l c h. let ih = reach-more (suc k) i rs (omega arith) (omega arith) (omega arith) in omega (arith, ih)))

  pub reach-stop : (k i : ℕ) (rows : List (AddressRow F)) → dirty_rows H (take i rows) ≡ k → i ≤ reach H k rows → i ≡ reach H k rows
  reach-stop k zero [] = λ c h. refl
  reach-stop k (suc i) [] = λ c h. absurd (omega arith)
  reach-stop zero i (r ∷ rs) = λ c h. omega arith
  reach-stop (suc k) zero (r ∷ rs) = λ c h. absurd (omega arith)
  reach-stop (suc k) (suc i) (r ∷ rs) =
      by-test r.dirty
      (λ e. rw e (λ c h. let ih = reach-stop k i rs (omega arith) (omega arith) in omega (arith, ih)))
      (λ e. rw e (λ c h. let ih = reach-stop (suc k) i rs (omega arith) (omega arith) in omega (arith, ih)))
