-- Laws of `rows` and `flat`: a table's bytes as a list of rows of 40 bytes. Assumes nothing.
use Rattle.std.specs.Prelude.{◌≡◌, refl, ℕ, zero, suc, ◌+◌, ◌-◌, ◌*◌, ◌≤◌, ◌<◌, List, [], ◌∷◌, ◌++◌, length, get_or, take, drop, Bool, true, false, None, Some, Option, MatchOption}
use Rattle.std.proofs.Common.{sym, ap, ◌∙◌, append_assoc, arith, zero-add, suc-add, not-suc-le-zero, le_of_suc-le-suc, length-drop, length-take-le, get_or-drop, get_or-take, drop-drop, take-add, take-take, take_all}
use Rattle.std.proofs.Math.Seq.{take-nil}
use Rattle.tables.specs.Find.{find_from}
use Rattle.tables.specs.FindLaws.{find-hit, find-miss, find-end}
use Rattle.tables.specs.Rows.{rows, flat, remove_at, row_at, le4}

pub rows-length : (n : ℕ) (t : List ℕ) → length (rows n t) ≡ n
unfolding rows
rows-length zero t = refl
rows-length (suc n) t = ap suc (rows-length n (drop 40 t))

-- row i
pub rows_at : (n : ℕ) (t : List ℕ) (i : ℕ) → i < n → get_or (rows n t) i [] ≡ take 40 (drop (i * 40) t)
unfolding rows
rows_at zero t i h = absurd (not-suc-le-zero h)
rows_at (suc n) t zero h = refl
rows_at (suc n) t (suc i) h =
    let e : 40 + i * 40 ≡ suc i * 40 = omega arith in
    rows_at n (drop 40 t) i (le_of_suc-le-suc h) ∙ ap (take 40) (drop-drop (i * 40) 40 t) ∙ ap (λ (k : ℕ). take 40 (drop k t)) e

-- the bytes of the first n rows
pub flat_rows : (n : ℕ) (t : List ℕ) → flat (rows n t) ≡ take (n * 40) t
unfolding rows flat
flat_rows zero t = refl
flat_rows (suc n) t =
    let e : 40 + n * 40 ≡ suc n * 40 = omega arith in
    ap (λ (l : List ℕ). take 40 t ++ l) (flat_rows n (drop 40 t)) ∙ sym (take-add 40 (n * 40) t) ∙ ap (λ (k : ℕ). take k t) e

pub flat_append : (r s : List (List ℕ)) → flat (r ++ s) ≡ flat r ++ flat s
unfolding flat
flat_append [] s = refl
flat_append (x ∷ r) s = ap (λ (l : List ℕ). x ++ l) (flat_append r s) ∙ sym (append_assoc x (flat r) (flat s))

-- the first a rows of n, and the rows from a on
pub take-rows : (a n : ℕ) (t : List ℕ) → a ≤ n → take a (rows n t) ≡ rows a t
unfolding rows
take-rows zero n t h = refl
take-rows (suc a) zero t h = absurd (not-suc-le-zero h)
take-rows (suc a) (suc n) t h = ap (λ (l : List (List ℕ)). take 40 t ∷ l) (take-rows a n (drop 40 t) (le_of_suc-le-suc h))

pub drop-rows : (a n : ℕ) (t : List ℕ) → a ≤ n → drop a (rows n t) ≡ rows (n - a) (drop (a * 40) t)
unfolding rows
drop-rows zero n t h = let e : n ≡ n - 0 = omega arith in ap (λ (k : ℕ). rows k t) e
drop-rows (suc a) zero t h = absurd (not-suc-le-zero h)
drop-rows (suc a) (suc n) t h =
    let e : 40 + a * 40 ≡ suc a * 40 = omega arith in
    let f : n - a ≡ suc n - suc a = omega arith in
    drop-rows a n (drop 40 t) (le_of_suc-le-suc h) ∙ rw (drop-drop (a * 40) 40 t, e, f)

-- the bytes of the rows without row i
pub flat-remove_at : (n : ℕ) (t : List ℕ) (i : ℕ) → i < n → flat (remove_at (rows n t) i) ≡ take (i * 40) t ++ take (n * 40 - 40 - i * 40) (drop (i * 40 + 40) t)
flat-remove_at n t i h =
    let e : suc i * 40 ≡ i * 40 + 40 = omega arith in
    let f : (n - suc i) * 40 ≡ n * 40 - 40 - i * 40 = omega arith in
    flat_append (take i (rows n t)) (drop (suc i) (rows n t))
    ∙ rw (take-rows i n t (omega arith), drop-rows (suc i) n t h, flat_rows i t, flat_rows (n - suc i) (drop (suc i * 40) t), e, f)

-- bytes that are a whole number of rows
pub flat-all : (n : ℕ) (t : List ℕ) → length t ≡ n * 40 → flat (rows n t) ≡ t
flat-all n t h = flat_rows n t ∙ take_all (n * 40) t (omega arith)

-- a byte of row k
pub get_d-row_at : (t : List ℕ) (k j : ℕ) → j < 40 → get_or (row_at t k) j 0 ≡ get_or t (k * 40 + j) 0
get_d-row_at t k j h = get_or-take 40 (drop (k * 40) t) j 0 h ∙ get_or-drop (k * 40) t j 0

-- the four bytes at place j of row k
pub le4-row_at : (t : List ℕ) (k j : ℕ) → j + 3 < 40 → le4 (row_at t k) j ≡ le4 t (k * 40 + j)
le4-row_at t k j h =
    let e1 : k * 40 + (j + 1) ≡ k * 40 + j + 1 = omega arith in
    let e2 : k * 40 + (j + 2) ≡ k * 40 + j + 2 = omega arith in
    let e3 : k * 40 + (j + 3) ≡ k * 40 + j + 3 = omega arith in
    rw (get_d-row_at t k j (omega arith), get_d-row_at t k (j + 1) (omega arith), get_d-row_at t k (j + 2) (omega arith), get_d-row_at t k (j + 3) h, e1, e2, e3)

pub drop-take : (j m : ℕ) (l : List ℕ) → drop j (take (j + m) l) ≡ take m (drop j l)
drop-take zero m l = rw zero-add
drop-take (suc j) m [] = rw (take-nil (suc j + m), take-nil m)
drop-take (suc j) m (x ∷ l) = rw suc-add (drop-take j m l)

-- a part of row k
pub part-row_at : (t : List ℕ) (k j n : ℕ) → j + n ≤ 40 → take n (drop j (row_at t k)) ≡ take n (drop (k * 40 + j) t)
part-row_at t k j n h =
    let e : 40 ≡ j + (40 - j) = omega arith in
    ap (λ (m : ℕ). take n (drop j (take m (drop (k * 40) t)))) e
    ∙ rw (drop-take j (40 - j) (drop (k * 40) t), take-take n (40 - j) (drop j (drop (k * 40) t)) (omega arith), drop-drop j (k * 40) t)

-- the fingerprint of row k, as a part of the bytes
pub part-fp : (t : List ℕ) (k : ℕ) → take (k * 40 + 32 - k * 40) (drop (k * 40) t) ≡ take 32 (row_at t k)
part-fp t k = let e : k * 40 + 32 - k * 40 ≡ 32 = omega arith in rw (e, take-take 32 40 (drop (k * 40) t) (omega arith))

-- a search's turn on row k
module _ (p : List ℕ → Bool) (n : ℕ) (t : List ℕ) (k : ℕ) where
  pub turn-hit : k < n → p (row_at t k) ≡ true → find_from p k (drop k (rows n t)) ≡ Some k
  turn-hit h e = find-hit p (rows n t) k [] (rw rows-length h) (rw (rows_at n t k h) e)

  pub turn-miss : k < n → p (row_at t k) ≡ false → find_from p k (drop k (rows n t)) ≡ find_from p (k + 1) (drop (k + 1) (rows n t))
  turn-miss h e = find-miss p (rows n t) k [] (rw rows-length h) (rw (rows_at n t k h) e)

  pub turn_end : n ≤ k → find_from p k (drop k (rows n t)) ≡ None
  turn_end h = find-end p (rows n t) k [] (rw rows-length h)

-- the rows before k miss: the search goes on at k
misses : (p : List ℕ → Bool) (n : ℕ) (t : List ℕ) (k : ℕ) → k ≤ n → ((j : ℕ) → 0 ≤ j → j < k → p (row_at t j) ≡ false)
    → find_from p 0 (rows n t) ≡ find_from p k (drop k (rows n t))
misses p n t zero l h = refl
misses p n t (suc k) l h =
    let m : k + 1 ≡ suc k = omega arith in
    rw m at (misses p n t k (omega arith) (λ j a b. h j a (omega arith)) ∙ turn-miss p n t k (omega arith) (h k (omega arith) (omega arith)))

-- the first row that passes, by its place
pub first-row : (p : List ℕ → Bool) (n : ℕ) (t : List ℕ) (r : Option ℕ)
    → MatchOption r ((j : ℕ) → 0 ≤ j → j < n → p (row_at t j) ≡ false)
    (λ i. (0 ≤ i) × (i < n) × (p (row_at t i) ≡ true) × ((j : ℕ) → 0 ≤ j → j < i → p (row_at t j) ≡ false))
    → r ≡ find_from p 0 (rows n t)
first-row p n t None h = sym (misses p n t n (omega arith) h ∙ turn_end p n t n (omega arith))
first-row p n t (Some i) h = sym (misses p n t i (omega (arith, h.1)) h.3 ∙ turn-hit p n t i h.1 h.2)

-- n bytes from index at on: how many
pub length_part : (t : List ℕ) (at n : ℕ) → at + n ≤ length t → length (take n (drop at t)) ≡ n
length_part t at n h = length-take-le n (drop at t) (simp length-drop (omega arith))
