-- The tests for 6 and 7 in the positive, row by row, are those of `Unsound`. Assumes nothing.
use Rattle.std.specs.Prelude.{◌≡◌, Bool, true, false, not, cond, ◌&&◌, ℕ, zero, suc, ◌+◌, ◌-◌, ◌*◌, ◌≤◌, ◌<◌, eqb, leb, ltb, length, take, drop, get_or, Some, is_none}
use Rattle.std.proofs.Math.Path.{refl, ap, ap₂}
use Rattle.std.proofs.Common.{sym, ◌∙◌, arith, length-drop, take-append-drop, eq-eqb, eqb-true, ltb-true, ltb-false, leb-true, leb-false, lt-ltb, le-ltb, le-leb}
use Rattle.std.proofs.Math.Bool.{◌||◌}
use mathlib.Core.List.{List, [], ◌∷◌, ◌++◌, map}
use Rattle.std.proofs.lemmas.List.{length-map}
use Rattle.std.proofs.lemmas.Bool.{eqb-false, lt-leb, not-true, not-false}
use Rattle.tables.specs.Rows.{rows}
use Rattle.tables.specs.Records.{read_address, read_block, slots_from}
use Rattle.tables.specs.Find.{all, any, every, find_from, caches, is_used, is_dirty}
use Rattle.tables.specs.Unsound.{elem, twice, count, nonzero, nonzero_padding, nonzero_last, addresses_unsound, free_after_used, free_with_fingerprint, each_once}
use Rattle.tables.specs.Unsound.{used_twice, blocks_unsound, dirty_uncached}
use Rattle.tables.specs.Sound.{distinct, tail_ok, seated_tail, address_ok, is_zero, zero_row, sound_addresses, addresses_fit, blocks_fit, row_address, row_slot}
use Rattle.tables.specs.Index.{unique, row_ok, dirty_ok}
use Rattle.tables.specs.RowLaws.{rows-length, drop-rows}
use Rattle.tables.specs.SoundLaws.{and_left, and_right, or_left, or_right, not-true-false}
use Rattle.table_laws.specs.SoundSplit.{and-swap, every-and, every-same}

-- ---- tests of all and of some

not-or : (a b : Bool) → not a || not b ≡ not (a && b)
not-or true b = refl
not-or false b = refl

module _ {A : Type 0} where
  -- some fail where not all pass
  pub any-all : (p q : A → Bool) → ((x : A) → p x ≡ not (q x)) → (xs : List A) → any p xs ≡ not (all q xs)
  unfolding any all
  any-all p q e [] = refl
  any-all p q e (x ∷ xs) = ap₂ {C = Bool} ◌||◌ (e x) (any-all p q e xs) ∙ not-or (q x) (all q xs)

  pub all-and : (p q : A → Bool) (xs : List A) → all (λ x. p x && q x) xs ≡ all p xs && all q xs
  unfolding all
  all-and p q [] = refl
  all-and p q (x ∷ xs) = ap (λ b. (p x && q x) && b) (all-and p q xs) ∙ and-swap (p x) (q x) (all p xs) (all q xs)

  -- a test that does not look at the list behind
  every-all : (p : A → Bool) (xs : List A) → every (λ x ys. p x) xs ≡ all p xs
  unfolding every all
  every-all p [] = refl
  every-all p (x ∷ xs) = ap (λ b. p x && b) (every-all p xs)

-- ---- numbers

above : (a b : ℕ) → ltb a b ≡ not (leb b a)
above a b = elim (leb b a) as (λ x. leb b a ≡ x → ltb a b ≡ not x) [
  | true ↦ (λ e. le-ltb a b (leb-true b a e))
  | false ↦
      (λ e. lt-ltb a b (leb-false b a e))
] refl

below : (a b : ℕ) → leb a b ≡ not (ltb b a)
below a b = elim (ltb b a) as (λ x. ltb b a ≡ x → leb a b ≡ not x) [
  | true ↦ (λ e. lt-leb a b (ltb-true b a e))
  | false ↦
      (λ e. le-leb a b (ltb-false b a e))
] refl

twice-distinct : (xs : List ℕ) → twice xs ≡ not (distinct xs)
unfolding twice distinct
twice-distinct [] = refl
twice-distinct (x ∷ xs) = ap₂ {C = Bool} ◌||◌ (not-not (elem x xs)) (twice-distinct xs) ∙ not-or (not (elem x xs)) (distinct xs)
  where
    not-not : (b : Bool) → b ≡ not (not b)
    not-not true = refl
    not-not false = refl

-- ---- refusal 6

-- the three padding bytes are zero
abbrev pad_ok : List ℕ → Bool
pad_ok r = eqb (get_or r 37 0) 0 && (eqb (get_or r 38 0) 0 && eqb (get_or r 39 0) 0)

padding : (r : List ℕ) → nonzero_padding r ≡ not (pad_ok r)
unfolding any
padding r = three (eqb (get_or r 37 0) 0) (eqb (get_or r 38 0) 0) (eqb (get_or r 39 0) 0)
  where
    three : (a b c : Bool) → not a || (not b || (not c || false)) ≡ not (a && (b && c))
    three true true true = refl
    three true true false = refl
    three true false c = refl
    three false b c = refl

six-tests : (l a t f z r : Bool) → not l || not a || not t || not f || not z || not r ≡ not (l && ((a && (f && z)) && (t && r)))
six-tests false a t f z r = refl
six-tests true false t f z r = refl
six-tests true true false false z r = refl
six-tests true true false true false r = refl
six-tests true true false true true r = refl
six-tests true true true false z r = refl
six-tests true true true true false r = refl
six-tests true true true true true true = refl
six-tests true true true true true false = refl

-- the last padding byte is zero
abbrev last_ok : List ℕ → Bool
last_ok r = eqb (get_or r 39 0) 0

pub addresses-checked : (P m n : ℕ) (t : List ℕ) → addresses_unsound P m n t ≡ not (sound_addresses P m n t)
unfolding addresses_unsound sound_addresses read_address seated_tail
addresses-checked P m n t =
    let rs = rows n t in
    let a = any-all (λ r. leb P (read_address r).address) (λ r. ltb (row_address r) P) (λ r. below P (row_address r)) rs in
    let w = twice-distinct (map (λ r. (read_address r).address) rs) in
    let f = any-all (λ r. ltb 1 (read_address r).dirty) (λ r. leb (get_or r 36 0) 1) (λ r. above 1 (get_or r 36 0)) rs in
    let z = any-all nonzero_last last_ok (λ r. refl) rs in
    let r = any-all nonzero is_zero (λ x. refl) (drop (n * 40) t) in
    let each : all (address_ok P) rs ≡ all (λ r. ltb (row_address r) P) rs && (all (λ r. leb (get_or r 36 0) 1) rs && all last_ok rs) =
    all-and (λ r. ltb (row_address r) P) seated_tail rs ∙ ap (λ b. all (λ r. ltb (row_address r) P) rs && b) (all-and (λ r. leb (get_or r 36 0) 1) last_ok rs) in
    rw (above m n, a, w, f, z, r, each) (six-tests (leb n m) (all (λ r. ltb (row_address r) P) rs) (distinct (map row_address rs))
    (all (λ r. leb (get_or r 36 0) 1) rs) (all last_ok rs) (all is_zero (drop (n * 40) t)))

-- the bytes from row n on are zero where the rows are
all_both : {A : Type 0} (p : A → Bool) (xs ys : List A) → all p (xs ++ ys) ≡ all p xs && all p ys
unfolding all
all_both p [] ys = refl
all_both p (x ∷ xs) ys = ap (λ b. p x && b) (all_both p xs ys) ∙ outer (p x) (all p xs) (all p ys)
  where
    outer : (a b c : Bool) → a && (b && c) ≡ (a && b) && c
    outer true b c = refl
    outer false b c = refl

all-rows-zero : (j : ℕ) (t : List ℕ) → length t ≡ j * 40 → all zero_row (rows j t) ≡ all is_zero t
unfolding rows all
all-rows-zero zero [] l = refl
all-rows-zero zero (x ∷ t) l = absurd (omega arith)
all-rows-zero (suc j) t l =
    let h : length (drop 40 t) ≡ j * 40 = simp length-drop (omega arith) in
    ap (λ b. zero_row (take 40 t) && b) (all-rows-zero j (drop 40 t) h) ∙ sym (all_both is_zero (take 40 t) (drop 40 t)) ∙ ap (all is_zero) (take-append-drop 40 t)

pub rows-zero : (m n : ℕ) (t : List ℕ) → n ≤ m → length t ≡ m * 40 → all zero_row (drop n (rows m t)) ≡ all is_zero (drop (n * 40) t)
rows-zero m n t h l = ap (all zero_row) (drop-rows n m t h) ∙ all-rows-zero (m - n) (drop (n * 40) t) (simp length-drop (omega arith))

-- ---- refusal 7

-- free rows before used ones; a free row with no fingerprint; a fingerprint used once
ordered : (rs : List (List ℕ)) → free_after_used rs ≡ not (every (λ r l. cond (is_used r) (all is_used l) true) rs)
unfolding free_after_used every
ordered [] = refl
ordered (r ∷ rs) =
    ap₂ {C = Bool} ◌||◌ (ap (λ b. is_used r && b) (any-all (λ s. not (is_used s)) is_used (λ s. refl) rs) ∙ one (is_used r) (all is_used rs)) (ordered rs)
    ∙ not-or (cond (is_used r) (all is_used rs) true) (every (λ r l. cond (is_used r) (all is_used l) true) rs)
  where
    one : (u b : Bool) → u && not b ≡ not (cond u b true)
    one true b = refl
    one false b = refl

-- what a search does not find
absent-any : {A : Type 0} (p : A → Bool) (k : ℕ) (xs : List A) → is_none (find_from p k xs) ≡ not (any p xs)
unfolding find_from any
absent-any p k [] = refl
absent-any p k (x ∷ xs) = elim (p x) as (λ b. is_none (cond b (Some k) (find_from p (suc k) xs))
    ≡ not (b || any p xs)) [ true ↦ refl | false ↦ absent-any p (suc k) xs ]

once : (rs : List (List ℕ)) → used_twice rs ≡ not (every unique rs)
unfolding used_twice every
once [] = refl
once (r ∷ rs) =
    ap₂ {C = Bool} ◌||◌ (one (is_used r) (any (caches (read_block r).fingerprint) rs) (is_none (find_from (caches (read_block r).fingerprint) 0 rs))
    (absent-any (caches (read_block r).fingerprint) 0 rs)) (once rs)
    ∙ not-or (unique r rs) (every unique rs)
  where
    one : (u a b : Bool) → b ≡ not a → u && a ≡ not (cond u b true)
    one true true b e = rw e
    one true false b e = rw e
    one false a b e = refl

zeroed : (r : List ℕ) → free_with_fingerprint r ≡ not (cond (is_used r) true (all is_zero (read_block r).fingerprint))
zeroed r = ap (λ b. not (is_used r) && b) (any-all nonzero is_zero (λ x. refl) (read_block r).fingerprint)
    ∙ one (is_used r) (all is_zero (read_block r).fingerprint)
  where
    one : (u b : Bool) → not u && not b ≡ not (cond u true b)
    one true b = refl
    one false b = refl

near : (a b : ℕ) → a ≤ b → (a ≡ b → ⊥) → a < b
near a b g q = elim (ltb a b) as (λ x. ltb a b ≡ x → a < b) [
  | true ↦ (λ f. ltb-true a b f)
  | false ↦
      (λ f. let h = ltb-false a b f in let e : a ≡ b = omega arith in absurd (q e))
] refl

-- ---- "slots each of 0 to d − 1 once": as many as d, all below d, no two the same

-- how many of a list's numbers are below d: each number's count, added up
fewer : ℕ → List ℕ → ℕ
fewer d [] = 0
fewer d (x ∷ xs) = cond (ltb x d) 1 0 + fewer d xs

total : ℕ → List ℕ → ℕ
total zero xs = 0
total (suc d) xs = count d xs + total d xs

abbrev one_if : Bool → ℕ
one_if b = cond b 1 0

one_more : (d x : ℕ) → one_if (ltb x (suc d)) ≡ one_if (eqb d x) + one_if (ltb x d)
one_more d x = elim (eqb d x) as (λ b. eqb d x ≡ b → one_if (ltb x (suc d)) ≡ one_if b + one_if (ltb x d)) [ true ↦ hit | false ↦ other ] refl
  where
    hit : eqb d x ≡ true → one_if (ltb x (suc d)) ≡ 1 + one_if (ltb x d)
    hit e = let q = eqb-true d x e in rw (lt-ltb x (suc d) (omega arith), le-ltb x d (omega arith))

    other : eqb d x ≡ false → one_if (ltb x (suc d)) ≡ 0 + one_if (ltb x d)
    other e =
        let q = eqb-false d x e in
        elim (ltb x d) as (λ b. ltb x d ≡ b → one_if (ltb x (suc d)) ≡ 0 + one_if b) [
          | true ↦ (λ f. let g = ltb-true x d f in rw (lt-ltb x (suc d) (omega arith)))
          | false ↦ (λ f. let g = ltb-false x d f in let h : d < x = near d x g q in rw (le-ltb x (suc d) h))
        ] refl

fewer-more : (d : ℕ) (xs : List ℕ) → fewer (suc d) xs ≡ count d xs + fewer d xs
unfolding fewer count
fewer-more d [] = refl
fewer-more d (x ∷ xs) = omega (arith, one_more d x, fewer-more d xs)

total-fewer : (d : ℕ) (xs : List ℕ) → total d xs ≡ fewer d xs
unfolding total fewer
total-fewer zero xs = none xs
  where
    none : (xs : List ℕ) → 0 ≡ fewer 0 xs
    none [] = refl
    none (x ∷ xs) = let i = none xs in rw (le-ltb x 0 (omega arith)) (omega arith)
total-fewer (suc d) xs = ap (λ k. count d xs + k) (total-fewer d xs) ∙ sym (fewer-more d xs)

fewer-le : (d : ℕ) (xs : List ℕ) → fewer d xs ≤ length xs
unfolding fewer
fewer-le d [] = omega arith
fewer-le d (x ∷ xs) = let i = fewer-le d xs in elim (ltb x d) as (λ b. cond b 1 0 + fewer d xs ≤ suc (length xs)) [ true ↦ omega arith | false ↦ omega arith ]

-- all are below d where as many are
fewer-all : (d : ℕ) (xs : List ℕ) → fewer d xs ≡ length xs → all (λ x. ltb x d) xs ≡ true
unfolding fewer all
fewer-all d [] e = refl
fewer-all d (x ∷ xs) e =
    elim (ltb x d) as (λ b. cond b 1 0 + fewer d xs ≡ suc (length xs) → b && all (λ x. ltb x d) xs ≡ true) [
      | true ↦ (λ f. fewer-all d xs (omega arith))
      | false ↦ (λ f. let h = fewer-le d xs in absurd (omega arith))
    ] e

all-fewer : (d : ℕ) (xs : List ℕ) → all (λ x. ltb x d) xs ≡ true → fewer d xs ≡ length xs
unfolding fewer all
all-fewer d [] e = refl
all-fewer d (x ∷ xs) e =
    let i = all-fewer d xs (and_right (ltb x d) (all (λ x. ltb x d) xs) e) in
    rw (and_left (ltb x d) (all (λ x. ltb x d) xs) e) (omega arith)

-- a number in a list is counted; in a list of distinct numbers once at most
counted : (x : ℕ) (xs : List ℕ) → elem x xs ≡ true → 1 ≤ count x xs
unfolding elem count
counted x [] e = let z : ◌≡◌ {A = ℕ} 0 1 = cc in absurd (omega arith)
counted x (y ∷ ys) e = elim (eqb x y) as (λ b. b || elem x ys ≡ true → 1 ≤ cond b 1 0 + count x ys) [
  | true ↦ (λ f. omega arith)
  | false ↦
      (λ f. let i = counted x ys f in omega arith)
] e

uncounted : (x : ℕ) (xs : List ℕ) → elem x xs ≡ false → count x xs ≡ 0
unfolding elem count
uncounted x [] e = refl
uncounted x (y ∷ ys) e = let i = uncounted x ys (or_right (eqb x y) (elem x ys) e) in rw (or_left (eqb x y) (elem x ys) e) (omega arith)

distinct-count : (xs : List ℕ) (k : ℕ) → distinct xs ≡ true → count k xs ≤ 1
unfolding distinct count
distinct-count [] k e = omega arith
distinct-count (x ∷ xs) k e =
    let n = not-true (elem x xs) (and_left (not (elem x xs)) (distinct xs) e) in
    let i = distinct-count xs k (and_right (not (elem x xs)) (distinct xs) e) in
    elim (eqb k x) as (λ b. eqb k x ≡ b → cond b 1 0 + count k xs ≤ 1) [
      | true ↦ (λ f. let z : count k xs ≡ 0 = ap (λ j. count j xs) (eqb-true k x f) ∙ uncounted x xs n in omega arith)
      | false ↦ (λ f. omega arith)
    ] refl

count-distinct : (d : ℕ) (xs : List ℕ) → ((k : ℕ) → k < d → count k xs ≤ 1) → all (λ x. ltb x d) xs ≡ true → distinct xs ≡ true
unfolding distinct count all
count-distinct d [] f a = refl
count-distinct d (x ∷ xs) f a =
    let h = ltb-true x d (and_left (ltb x d) (all (λ x. ltb x d) xs) a) in
    let c : cond (eqb x x) 1 0 + count x xs ≤ 1 = f x h in
    let e : elem x xs ≡ false = not-true-false (elem x xs)
    (λ y. let q = counted x xs y in let c1 : 1 + count x xs ≤ 1 = rw (eq-eqb x x refl) at c in omega arith) in
    rw (e, count-distinct d xs (λ k g. less k (f k g)) (and_right (ltb x d) (all (λ x. ltb x d) xs) a))
  where
    less : (k : ℕ) → cond (eqb k x) 1 0 + count k xs ≤ 1 → count k xs ≤ 1
    less k = elim (eqb k x) as (λ b. cond b 1 0 + count k xs ≤ 1 → count k xs ≤ 1) [ true ↦ (λ y. omega arith) | false ↦ (λ y. omega arith) ]

-- d counts of at most 1 that add up to d are all 1
total-le : (d : ℕ) (xs : List ℕ) → ((k : ℕ) → k < d → count k xs ≤ 1) → total d xs ≤ d
unfolding total
total-le zero xs f = omega arith
total-le (suc d) xs f = omega (arith, total-le d xs (λ k h. f k (omega arith)), f d (omega arith))

total-ones : (d : ℕ) (xs : List ℕ) → ((k : ℕ) → k < d → count k xs ≤ 1) → total d xs ≡ d → (k : ℕ) → k < d → count k xs ≡ 1
unfolding total
total-ones zero xs f e k h = absurd (omega arith)
total-ones (suc d) xs f e k h =
    let t = total-le d xs (λ k h. f k (omega arith)) in
    let l = f d (omega arith) in
    elim (eqb k d) as (λ b. eqb k d ≡ b → count k xs ≡ 1) [
      | true ↦ (λ q. ap (λ j. count j xs) (eqb-true k d q) ∙ omega arith)
      | false ↦ (λ q. let n = eqb-false k d q in total-ones d xs (λ k h. f k (omega arith)) (omega arith) k (near k d (omega arith) n))
    ] refl

ones-total : (d : ℕ) (xs : List ℕ) → ((k : ℕ) → k < d → count k xs ≡ 1) → total d xs ≡ d
unfolding total
ones-total zero xs f = refl
ones-total (suc d) xs f = omega (arith, ones-total d xs (λ k h. f k (omega arith)), f d (omega arith))

-- a test of each slot
all_slots : (p : ℕ → Bool) (a d : ℕ) → all p (slots_from a d) ≡ true → (k : ℕ) → a ≤ k → k < a + d → p k ≡ true
unfolding all
all_slots p a zero e k g h = absurd (omega arith)
all_slots p a (suc d) e k g h =
    elim (eqb k a) as (λ b. eqb k a ≡ b → p k ≡ true) [
      | true ↦ (λ q. ap p (eqb-true k a q) ∙ and_left (p a) (all p (slots_from (suc a) d)) e)
      | false ↦ (λ q. let n = eqb-false k a q in all_slots p (suc a) d (and_right (p a) (all p (slots_from (suc a) d)) e) k (near a k g (λ y. n (sym y)))
          (omega arith))
    ] refl

slots-all : (p : ℕ → Bool) (a d : ℕ) → ((k : ℕ) → k < a + d → p k ≡ true) → all p (slots_from a d) ≡ true
unfolding all
slots-all p a zero f = refl
slots-all p a (suc d) f = rw (f a (omega arith), slots-all p (suc a) d (λ k h. f k (omega arith)))

pub each-once : (d : ℕ) (xs : List ℕ) → length xs ≡ d → each_once d xs ≡ all (λ x. ltb x d) xs && distinct xs
unfolding each_once
each-once d xs l =
    same_bool (all (λ k. eqb (count k xs) 1) (slots_from 0 d)) (all (λ x. ltb x d) xs && distinct xs)
    (λ e. let ones : (k : ℕ) → k < d → count k xs ≡ 1 = λ k h. eqb-true (count k xs) 1
    (all_slots (λ k. eqb (count k xs) 1) 0 d e k (omega arith) (omega arith)) in
    let a : all (λ x. ltb x d) xs ≡ true = fewer-all d xs (sym (total-fewer d xs) ∙ ones-total d xs ones ∙ sym l) in
    rw (a, count-distinct d xs (λ k h. omega (arith, ones k h)) a))
    (λ e. let a = and_left (all (λ x. ltb x d) xs) (distinct xs) e in
    let u = and_right (all (λ x. ltb x d) xs) (distinct xs) e in
    slots-all (λ k. eqb (count k xs) 1) 0 d
    (λ k h. eq-eqb (count k xs) 1 (total-ones d xs (λ k h. distinct-count xs k u) (total-fewer d xs ∙ all-fewer d xs a ∙ l) k (omega arith))))
  where
    same_bool : (a b : Bool) → (a ≡ true → b ≡ true) → (b ≡ true → a ≡ true) → a ≡ b
    same_bool true b f g = sym (f refl)
    same_bool false true f g = g refl
    same_bool false false f g = refl

seven-tests : (o f p z b e u : Bool) → not o || not f || not p || not z || not (b && e) || not u ≡ not ((b && ((f && p) && (o && z))) && (e && u))
seven-tests false f p z false e u = refl
seven-tests false false p z true e u = refl
seven-tests false true false z true e u = refl
seven-tests false true true z true e u = refl
seven-tests true false p z false e u = refl
seven-tests true false p z true e u = refl
seven-tests true true false z false e u = refl
seven-tests true true false z true e u = refl
seven-tests true true true false false e u = refl
seven-tests true true true false true e u = refl
seven-tests true true true true false e u = refl
seven-tests true true true true true false u = refl
seven-tests true true true true true true u = refl

all_map : {A B : Type 0} (g : A → B) (p : B → Bool) (xs : List A) → all p (map g xs) ≡ all (λ x. p (g x)) xs
unfolding all
all_map g p [] = refl
all_map g p (x ∷ xs) = ap (λ b. p (g x) && b) (all_map g p xs)

-- a block table passes in three tests: each row by itself, slots that differ, fingerprints used once
pub blocks-checked : (d : ℕ) (t : List ℕ) → blocks_unsound d t ≡ not (every (row_ok d) (rows d t) &&
    (distinct (map row_slot (rows d t)) && every unique (rows d t)))
unfolding blocks_unsound read_block tail_ok
blocks-checked d t =
    let rs = rows d t in
    let low : List ℕ → Bool = λ r. ltb (row_slot r) d in
    let flag : List ℕ → Bool = λ r. leb (get_or r 36 0) 1 in
    let first : List ℕ → List (List ℕ) → Bool = λ r l. cond (is_used r) (all is_used l) true in
    let bare : List ℕ → Bool = λ r. cond (is_used r) true (all is_zero (read_block r).fingerprint) in
    let f = any-all (λ r. ltb 1 (read_block r).used) flag (λ r. above 1 (get_or r 36 0)) rs in
    let z = any-all nonzero_padding pad_ok padding rs in
    let w = any-all free_with_fingerprint bare zeroed rs in
    let s : all (λ x. ltb x d) (map row_slot rs) ≡ all low rs = all_map row_slot (λ x. ltb x d) rs in
    let o = each-once d (map (λ r. (read_block r).slot) rs) (length-map rs (λ r. (read_block r).slot) ∙ rows-length d t) in
    let each : every (row_ok d) rs ≡ all low rs && ((all flag rs && all pad_ok rs) && (every first rs && all bare rs)) =
    every-same (row_ok d) (λ r l. low r && (tail_ok r && (first r l && bare r)))
    (λ r l. ap (λ b. low r && (tail_ok r && b)) (split (is_used r) (all is_used l) (all is_zero (read_block r).fingerprint))) rs
    ∙ every-and (λ r l. low r) (λ r l. tail_ok r && (first r l && bare r)) rs
    ∙ ap₂ {C = Bool} ◌&&◌ (every-all low rs) (every-and (λ r l. tail_ok r) (λ r l. first r l && bare r) rs
    ∙ ap₂ {C = Bool} ◌&&◌ (every-all tail_ok rs ∙ all-and flag pad_ok rs)
    (every-and first (λ r l. bare r) rs ∙ ap (λ b. every first rs && b) (every-all bare rs))) in
    rw (ordered rs, f, z, w, o, once rs, s, each) (seven-tests (every first rs) (all flag rs) (all pad_ok rs) (all bare rs) (all low rs)
    (distinct (map row_slot rs)) (every unique rs))
  where
    split : (u a b : Bool) → cond u a b ≡ cond u a true && cond u true b
    split true true b = refl
    split true false b = refl
    split false a b = refl

-- ---- refusal 8

pub dirty-checked : (n d : ℕ) (a b : List ℕ) → dirty_uncached n d a b ≡ not (all (dirty_ok (rows d b)) (rows n a))
unfolding dirty_uncached read_address
dirty-checked n d a b =
    any-all (λ r. eqb (read_address r).dirty 1 && not (any (caches (read_address r).fingerprint) (rows d b))) (dirty_ok (rows d b))
    (λ r. one (is_dirty r) (any (caches (read_address r).fingerprint) (rows d b)) (is_none (find_from (caches (read_address r).fingerprint) 0 (rows d b)))
    (absent-any (caches (read_address r).fingerprint) 0 (rows d b))) (rows n a)
  where
    one : (u a b : Bool) → b ≡ not a → u && not a ≡ not (cond u (not b) true)
    one true true b e = rw e
    one true false b e = rw e
    one false a b e = refl

-- ---- what a table that passes is

or_no : (a b : Bool) → not a || b ≡ false → (a ≡ true) × (b ≡ false)
or_no true b e = (refl, e)
or_no false b e = let z : ◌≡◌ {A = ℕ} 0 1 = cc in absurd (omega arith)

pub fit-addresses : (P m n : ℕ) (t : List ℕ) → not (addresses_fit P m t) || addresses_unsound P m n t ≡ false → (n ≤ m) × (m ≤ 1024) × (length t ≡ m * 40)
unfolding addresses_fit sound_addresses
fit-addresses P m n t e =
    let f = or_no (addresses_fit P m t) (addresses_unsound P m n t) e in
    let g = and_right (leb P 65536) (leb m 1024 && eqb (length t) (m * 40)) f.0 in
    let s = not-false (sound_addresses P m n t) (sym (addresses-checked P m n t) ∙ f.1) in (
      leb-true n m (and_left (leb n m) _ s),
      leb-true m 1024 (and_left (leb m 1024) (eqb (length t) (m * 40)) g),
      eqb-true (length t) (m * 40) (and_right (leb m 1024) (eqb (length t) (m * 40)) g),
    )

pub fit-blocks : (d : ℕ) (t : List ℕ) → not (blocks_fit d t) || blocks_unsound d t ≡ false → (d ≤ 256) × (length t ≡ d * 40)
unfolding blocks_fit
fit-blocks d t e =
    let f = (or_no (blocks_fit d t) (blocks_unsound d t) e).0 in
    (leb-true d 256 (and_left (leb d 256) (eqb (length t) (d * 40)) f), eqb-true (length t) (d * 40) (and_right (leb d 256) (eqb (length t) (d * 40)) f))
