-- Laws of the block rows of address rows. Assumes nothing.
use Rattle.std.specs.Prelude.{◌≡◌, Bool, ◌&&◌, ◌||◌, ℕ, zero, suc, ◌+◌, ◌≤◌, ◌<◌, length, get_or, None, Option, Some, is_none, cond}
use Rattle.std.proofs.Math.Path.{refl, ap}
use Rattle.std.proofs.Common.{sym, ◌∙◌, arith, add-zero, not-suc-le-zero, le_of_suc-le-suc}
use Rattle.std.proofs.Math.Bool.{true, false, not}
use mathlib.Core.List.{List, [], ◌∷◌, map}
use Rattle.std.proofs.Math.Nat.{zero-add}
use Rattle.std.proofs.Math.Dec.{eqb}
use borrow.Author.Tests.{eq-eqb, ne_eqb}
use Rattle.tables.specs.Rows.{rows, row_at}
use Rattle.tables.specs.Find.{find_from, every, caches, has_fingerprint, same, is_used}
use Rattle.tables.specs.Unsound.{elem}
use Rattle.tables.specs.Sound.{mark}
use Rattle.tables.specs.Index.{code, place_in, unknown_in, unique}
use Rattle.tables.specs.FindLaws.{found_at, same_refl}
use Rattle.tables.specs.RowLaws.{rows-length, rows_at}
use Rattle.tables.specs.SoundLaws.{same_true, not-true-false, and_left, and_right}
use Rattle.tables.specs.Records.{read_address, read_block}

clash : {A : Type 0} → true ≡ false → A
clash e = let z : ◌≡◌ {A = ℕ} 0 1 = cc in absurd (omega arith)

-- a number from a search: at most 256
module _ (f : Option ℕ) (b : (i : ℕ) → f ≡ Some i → i < 256) where
  code_below : code f < 257
  code_below = elim f as (λ q. ((i : ℕ) → q ≡ Some i → i < 256) → code q < 257) [ Some i ↦ λ h. (let l = h i refl in omega arith) | None ↦ λ h. omega arith ] b

module _ (rs : List (List ℕ)) (few : length rs ≤ 256) where
  found-few : (p : List ℕ → Bool) (i : ℕ) → find_from p 0 rs ≡ Some i → i < 256
  found-few p i e = omega (arith, (found_at p rs [] i e).below)

  block-below : (r : List ℕ) → place_in rs r < 257
  unfolding place_in
  block-below r = code_below (find_from (caches (read_address r).fingerprint) 0 rs) (found-few (caches (read_address r).fingerprint))

-- where nothing is found, the test holds of no element
absent-at : {A : Type 0} (p : A → Bool) (k : ℕ) (xs : List A) (j : ℕ) (z : A) → is_none (find_from p k xs) ≡ true → j < length xs → p (get_or xs j z) ≡ false
unfolding find_from
absent-at p k [] j z e h = absurd (not-suc-le-zero h)
absent-at p k (x ∷ xs) j z e h =
    elim (p x) as (λ q. p x ≡ q → is_none (cond q (Some k) (find_from p (suc k) xs)) ≡ true → p (get_or (x ∷ xs) j z) ≡ false) [
      | true ↦ λ o f. clash (sym f)
      | false ↦ λ o f. elim j as (λ i. i < length (x ∷ xs) → p (get_or (x ∷ xs) i z) ≡ false) [
        | zero ↦ λ l. o
        | suc i ↦ λ l. absent-at p (suc k) xs i z f (le_of_suc-le-suc l)
      ] h
    ] refl e

-- where no two used rows have one fingerprint, a search for row j's finds row j
self-other : (r s : List ℕ) (rs : List (List ℕ)) (j : ℕ) → unique r rs ≡ true → j < length rs → is_used (get_or rs j []) ≡ true
    → caches (read_block (get_or rs j [])).fingerprint r ≡ true → ⊥
self-other r s rs j u h e c =
    let o = and_left (is_used r) (same (read_block r).fingerprint (read_block (get_or rs j [])).fingerprint) c in
    let q = same_true (read_block r).fingerprint (read_block (get_or rs j [])).fingerprint
    (and_right (is_used r) (same (read_block r).fingerprint (read_block (get_or rs j [])).fingerprint) c) in
    let v : is_none (find_from (caches (read_block r).fingerprint) 0 rs) ≡ true = rw o at u in
    let n : caches (read_block r).fingerprint (get_or rs j []) ≡ false = absent-at (caches (read_block r).fingerprint) 0 rs j [] v h in
    let y : caches (read_block r).fingerprint (get_or rs j []) ≡ true = rw (e, q) (same_refl (read_block (get_or rs j [])).fingerprint) in
    clash (sym y ∙ n)

self-find : (rs : List (List ℕ)) (j k : ℕ) → every unique rs ≡ true → j < length rs → is_used (get_or rs j []) ≡ true
    → find_from (caches (read_block (get_or rs j [])).fingerprint) k rs ≡ Some (k + j)
unfolding every find_from
self-find [] j k u h e = absurd (not-suc-le-zero h)
self-find (r ∷ rs) zero k u h e = rw (e, same_refl (read_block r).fingerprint, add-zero)
self-find (r ∷ rs) (suc j) k u h e =
    let l = le_of_suc-le-suc h in
    let n = not-true-false (caches (read_block (get_or rs j [])).fingerprint r) (self-other r r rs j (and_left (unique r rs) (every unique rs) u) l e) in
    let s : suc k + j ≡ k + suc j = omega arith in
    rw n (self-find rs j (suc k) (and_right (unique r rs) (every unique rs) u) l e ∙ ap Some s)

module _ (rs : List (List ℕ)) (u : every unique rs ≡ true) (few : length rs ≤ 256) (j : ℕ) (h : j < length rs) (e : is_used (get_or rs j []) ≡ true) where
  -- the block row of an address row is row j if the two have one fingerprint
  held-hit : (r : List ℕ) → has_fingerprint (read_block (get_or rs j [])).fingerprint r ≡ true → eqb j (place_in rs r) ≡ true
  unfolding place_in
  held-hit r q =
      let s = same_true (read_address r).fingerprint (read_block (get_or rs j [])).fingerprint q in
      eq-eqb j (place_in rs r) (sym (ap (λ (g : List ℕ). code (find_from (caches g) 0 rs)) s ∙ ap code (self-find rs j 0 u h e) ∙ zero-add j))

  held_found : (r : List ℕ) (f : Option ℕ) → find_from (caches (read_address r).fingerprint) 0 rs ≡ f → j ≡ code f
      → has_fingerprint (read_block (get_or rs j [])).fingerprint r ≡ true
  held_found r (Some i) o q =
      let c : caches (read_address r).fingerprint (get_or rs j []) ≡ true = rw q (found_at (caches (read_address r).fingerprint) rs [] i o).holds in
      let s = same_true (read_block (get_or rs j [])).fingerprint (read_address r).fingerprint
      (and_right (is_used (get_or rs j [])) (same (read_block (get_or rs j [])).fingerprint (read_address r).fingerprint) c) in
      rw s (same_refl (read_address r).fingerprint)
  held_found r None o q = absurd (omega arith)

  held-is : (r : List ℕ) → eqb j (place_in rs r) ≡ has_fingerprint (read_block (get_or rs j [])).fingerprint r
  unfolding place_in
  held-is r = elim (has_fingerprint (read_block (get_or rs j [])).fingerprint r) as
      (λ q. has_fingerprint (read_block (get_or rs j [])).fingerprint r ≡ q → eqb j (place_in rs r) ≡ q) [
        | true ↦ held-hit r
        | false ↦ λ o. ne_eqb j (place_in rs r) (λ m. clash (sym (held_found r (find_from (caches (read_address r).fingerprint) 0 rs) refl m) ∙ o))
      ] refl

  -- row j is the block row of an address row, or none has its fingerprint
  elem-held : (k : ℕ) (hs : List (List ℕ)) → elem j (map (place_in rs) hs)
      ≡ not (is_none (find_from (has_fingerprint (read_block (get_or rs j [])).fingerprint) k hs))
  unfolding elem find_from
  elem-held k [] = refl
  elem-held k (r ∷ hs) = rw (held-is r) (elim (has_fingerprint (read_block (get_or rs j [])).fingerprint r) as
      (λ q. q || elem j (map (place_in rs) hs)
      ≡ not (is_none (cond q (Some k) (find_from (has_fingerprint (read_block (get_or rs j [])).fingerprint) (suc k) hs))))
      [ true ↦ refl | false ↦ elem-held (suc k) hs ])

mark-not : (b : Bool) → eqb (mark (not b)) 0 ≡ b
mark-not true = refl
mark-not false = refl

-- the bytes of `known` tell, of each used row of the d, whether none of the rows hs has its fingerprint
abbrev pub Tells : (d : ℕ) (t known : List ℕ) (hs : List (List ℕ)) → Type 0
Tells d t known hs = (k : ℕ) → k < d → is_used (row_at t k) && eqb (get_or known k 0) 0 ≡ unknown_in hs (row_at t k)

-- a used row's byte is 0 if no address row of hs has its fingerprint
pub unmarked-is : (d : ℕ) (t : List ℕ) (hs : List (List ℕ)) (known : List ℕ) → d ≤ 256 → every unique (rows d t) ≡ true
    → ((k : ℕ) → k < d → get_or known k 0 ≡ mark (elem k (map (place_in (rows d t)) hs))) → Tells d t known hs
unmarked-is d t hs known few u m k h =
    elim (is_used (row_at t k)) as (λ q. is_used (row_at t k) ≡ q → q && eqb (get_or known k 0) 0
    ≡ q && is_none (find_from (has_fingerprint (read_block (row_at t k)).fingerprint) 0 hs)) [
      | true ↦ λ o.
          (let r = rows_at d t k h in
          let i : get_or known k 0 ≡ mark (not (is_none (find_from (has_fingerprint (read_block (get_or (rows d t) k [])).fingerprint) 0 hs))) =
          m k h ∙ ap mark (elem-held (rows d t) u (rw rows-length few) k (rw rows-length h) (rw r o) 0 hs) in
          ap (λ (x : ℕ). eqb x 0) i ∙ mark-not (is_none (find_from (has_fingerprint (read_block (get_or (rows d t) k [])).fingerprint) 0 hs))
          ∙ ap (λ (s : List ℕ). is_none (find_from (has_fingerprint (read_block s).fingerprint) 0 hs)) r)
      | false ↦ λ o. refl
    ] refl

pub place-below : (d : ℕ) (t : List ℕ) (r : List ℕ) → d ≤ 256 → place_in (rows d t) r < 257
place-below d t r few = block-below (rows d t) (rw rows-length few) r
