-- Laws for the checks of a table's soundness. Assumes nothing.
use Rattle.std.specs.Prelude.{◌≡◌, refl, Bool, true, false, cond, ◌&&◌, ◌||◌, ℕ, zero, suc, ◌+◌, ◌-◌, ◌*◌, ◌≤◌, ◌<◌, eqb, leb, replicate, length, get_or, set, drop}
use Rattle.std.proofs.Math.Path.{sym, ap}
use Rattle.std.proofs.Common.{◌∙◌, not-suc-le-zero, le_of_suc-le-suc, arith, length-set, drop_of_length-le, drop-cons, get_or-set_same, get_or-set_other, eqb-true, ltb-true, leb-true, leb-false, le-leb, eq-eqb}
use Rattle.std.proofs.Math.Bool.{and-false}
use mathlib.Core.List.{List, [], ◌∷◌, map}
use Rattle.std.proofs.lemmas.List.{length-replicate, get_or-replicate, length-map}
use Rattle.std.proofs.lemmas.Bool.{eqb-false}
use Rattle.tables.specs.Rows.{rows, row_at, le4}
use Rattle.tables.specs.Find.{all, every, same}
use Rattle.tables.specs.Unsound.{elem}
use Rattle.tables.specs.Sound.{distinct, tail_ok, seated_tail, address_ok, mark, row_address, row_slot}
use Rattle.tables.specs.Index.{row_ok}
use Rattle.tables.specs.RowLaws.{rows-length, rows_at, get_d-row_at}
use Rattle.tables.specs.FindLaws.{all-hit, all-miss, all_end}

-- the last four bytes of row k
pub tail-row_at : (t : List ℕ) (k : ℕ)
    → tail_ok (row_at t k) ≡ leb (get_or t (k * 40 + 36) 0) 1 &&
    (eqb (get_or t (k * 40 + 37) 0) 0 && (eqb (get_or t (k * 40 + 38) 0) 0 && eqb (get_or t (k * 40 + 39) 0) 0))
unfolding tail_ok
tail-row_at t k = rw (get_d-row_at t k 36 (omega arith), get_d-row_at t k 37 (omega arith), get_d-row_at t k 38 (omega arith), get_d-row_at t k 39 (omega arith))

-- the dirty byte and the last byte of row k
pub seated-row_at : (t : List ℕ) (k : ℕ) → seated_tail (row_at t k) ≡ leb (get_or t (k * 40 + 36) 0) 1 && eqb (get_or t (k * 40 + 39) 0) 0
unfolding seated_tail
seated-row_at t k = rw (get_d-row_at t k 36 (omega arith), get_d-row_at t k 39 (omega arith))

-- a turn on row k of a check of all rows, or of those from some row on: b is what it finds
module _ {b : Bool} (p : List ℕ → Bool) (n : ℕ) (t : List ℕ) (k : ℕ) (i : b ≡ all p (drop k (rows n t))) where
  pub rows-all-more : k < n → p (row_at t k) ≡ true → b ≡ all p (drop (k + 1) (rows n t))
  rows-all-more h e = i ∙ all-hit p (rows n t) k [] (rw rows-length h) (rw (rows_at n t k h) e)

  pub rows-all-fails : k < n → p (row_at t k) ≡ false → false ≡ b
  rows-all-fails h e = sym (i ∙ all-miss p (rows n t) k [] (rw rows-length h) (rw (rows_at n t k h) e))

  pub rows-all-holds : n ≤ k → true ≡ b
  rows-all-holds h = sym (i ∙ all_end p (rows n t) k [] (rw rows-length h))

pub and_left : (a b : Bool) → a && b ≡ true → a ≡ true
and_left true b e = refl
and_left false b e = e

pub and_right : (a b : Bool) → a && b ≡ true → b ≡ true
and_right true b e = e
and_right false b e = let z : ◌≡◌ {A = ℕ} 0 1 = cc in absurd (omega arith)

-- what holds of all holds of each
pub all-at : {A : Type 0} (p : A → Bool) (xs : List A) (k : ℕ) (z : A) → all p xs ≡ true → k < length xs → p (get_or xs k z) ≡ true
unfolding all
all-at p [] k z e h = absurd (not-suc-le-zero h)
all-at p (x ∷ xs) zero z e h = and_left (p x) (all p xs) e
all-at p (x ∷ xs) (suc k) z e h = all-at p xs k z (and_right (p x) (all p xs) e) (le_of_suc-le-suc h)

-- element i of a list that is mapped
pub map_at : {A B : Type 0} (f : A → B) (l : List A) (i : ℕ) (e : B) (z : A) → i < length l → get_or (map f l) i e ≡ f (get_or l i z)
map_at f [] i e z h = absurd (not-suc-le-zero h)
map_at f (x ∷ xs) zero e z h = refl
map_at f (x ∷ xs) (suc i) e z h = map_at f xs i e z (le_of_suc-le-suc h)

-- a number of each row
pub values-at : (f : List ℕ → ℕ) (n : ℕ) (t : List ℕ) (k : ℕ) → k < n → get_or (map f (rows n t)) k 0 ≡ f (row_at t k)
values-at f n t k h = map_at f (rows n t) k 0 [] (rw rows-length h) ∙ ap f (rows_at n t k h)

pub values_length : (f : List ℕ → ℕ) (n : ℕ) (t : List ℕ) → length (map f (rows n t)) ≡ n
values_length f n t = length-map (rows n t) f ∙ rows-length n t

-- each number below q has a mark: 1 if it is in the list
abbrev pub Marked : (ℕ → ℕ) → ℕ → List ℕ → Type 0
Marked at q l = (x : ℕ) → x < q → at x ≡ mark (elem x l)

-- the marks are the bytes of seen
abbrev pub Marks : List ℕ → List ℕ → Type 0
Marks seen l = Marked (λ x. get_or seen x 0) (length seen) l

mark-off : (b : Bool) → mark b ≡ 0 → b ≡ false
mark-off true e = absurd (omega arith)
mark-off false e = refl

mark_on : (b : Bool) → (mark b ≡ 0 → ⊥) → b ≡ true
mark_on true e = refl
mark_on false e = absurd (e refl)

pub marked-none : (at : ℕ → ℕ) (q : ℕ) (l : List ℕ) (k : ℕ) → length l ≤ k → ((x : ℕ) → x < q → at x ≡ 0) → Marked at q (drop k l)
unfolding elem
marked-none at q l k h e x b = rw (drop_of_length-le l h) (e x b)

-- the mark of x set, and no other
marked_more : (at at' : ℕ → ℕ) (q : ℕ) (l : List ℕ) (x : ℕ) → ((y : ℕ) → y < q → at' y ≡ cond (eqb y x) 1 (at y)) → Marked at q l → Marked at' q (x ∷ l)
unfolding elem
marked_more at at' q l x f m y b = f y b ∙ ap (cond (eqb y x) 1) (m y b) ∙ both-marks (eqb y x) (elem y l)
  where
    both-marks : (a b : Bool) → cond a 1 (mark b) ≡ mark (a || b)
    both-marks true b = refl
    both-marks false b = refl

byte-set : (seen : List ℕ) (x : ℕ) → x < length seen → (y : ℕ) → get_or (set seen x 1) y 0 ≡ cond (eqb y x) 1 (get_or seen y 0)
byte-set seen x h y = elim (eqb y x) as (λ q. eqb y x ≡ q → get_or (set seen x 1) y 0 ≡ cond q 1 (get_or seen y 0)) [
  | true ↦ λ e. rw (eqb-true y x e) (get_or-set_same seen x 1 0 h)
  | false ↦ λ e. get_or-set_other seen x y 1 0 (eqb-false y x e)
] refl

-- a list with a number twice at its end has it twice
pub distinct-drop : (xs : List ℕ) (k : ℕ) → distinct (drop k xs) ≡ false → distinct xs ≡ false
unfolding distinct
distinct-drop xs zero e = e
distinct-drop [] (suc k) e = e
distinct-drop (x ∷ xs) (suc k) e = rw (distinct-drop xs k e, and-false)

-- the number x that a turn reads: it stands in the list ws before place k, and has a mark
pub record Read (ws : List ℕ) (q k x : ℕ) : Type 0 where
  pub some : 0 < k
  pub within : k ≤ length ws
  pub is : x ≡ get_or ws (k - 1) 0
  pub has : x < q

-- the number in row k - 1
pub read-row : (f : List ℕ → ℕ) (n : ℕ) (t : List ℕ) (q k x : ℕ) → 0 < k → k ≤ n → x ≡ f (row_at t (k - 1)) → x < q → Read (map f (rows n t)) q k x
read-row f n t q k x h l e b = record {
  some = h;
  within = omega (arith, values_length f n t);
  is = e ∙ sym (values-at f n t (k - 1) (omega arith));
  has = b;
}

module _ {ws : List ℕ} {q k x : ℕ} (r : Read ws q k x) (at : ℕ → ℕ) (m : Marked at q (drop k ws)) where
  before : drop (k - 1) ws ≡ x ∷ drop k ws
  before = let e : suc (k - 1) ≡ k = omega (arith, r.some) in drop-cons ws (k - 1) 0 (omega (arith, r.some, r.within)) ∙ rw (e, r.is)

  pub twice : (at x ≡ 0 → ⊥) → false ≡ distinct ws
  unfolding distinct
  twice h = sym (distinct-drop ws (k - 1) (rw (before, mark_on (elem x (drop k ws)) (rw (m x r.has) at h))))

  pub once : at x ≡ 0 → distinct (drop k ws) ≡ true → distinct (drop (k - 1) ws) ≡ true
  unfolding distinct
  once h d = rw (before, mark-off (elem x (drop k ws)) (rw (m x r.has) at h)) d

  pub marked : (at' : ℕ → ℕ) → ((y : ℕ) → y < q → at' y ≡ cond (eqb y x) 1 (at y)) → Marked at' q (drop (k - 1) ws)
  marked at' f = rw before (marked_more at at' q (drop k ws) x f m)

pub marks-set : {ws : List ℕ} (seen : List ℕ) {k x : ℕ} → Read ws (length seen) k x → Marks seen (drop k ws) → Marks (set seen x 1) (drop (k - 1) ws)
marks-set seen {x = x} r m y b = marked r (λ z. get_or seen z 0) m (λ z. get_or (set seen x 1) z 0) (λ z l. byte-set seen x r.has z) y (rw length-set at b)

-- an array of q numbers v; an array of q zeros has a byte, 0, for each number below q
pub filled-with : (q v x : ℕ) → x < length (replicate {A = ℕ} q v) → get_or {A = ℕ} (replicate q v) x 0 ≡ v
filled-with q v x h = get_or-replicate q x v 0 (rw length-replicate at h)

pub fresh : (q x : ℕ) → x < length (replicate {A = ℕ} q 0) → get_or {A = ℕ} (replicate q 0) x 0 ≡ 0
fresh q x h = filled-with q 0 x h

pub addrs-below : (q p n : ℕ) (t : List ℕ) → all (address_ok p) (rows n t) ≡ true → p ≤ q → (k : ℕ) → k < n → row_address (row_at t k) < q
addrs-below q p n t e h k b =
    let o : address_ok p (row_at t k) ≡ true = ap (address_ok p) (sym (rows_at n t k b)) ∙ all-at (address_ok p) (rows n t) k [] e (rw rows-length b) in
    let l : row_address (row_at t k) < p = ltb-true _ _ (and_left _ _ o) in
    omega (arith, l, h)

pub every-at : {A : Type 0} (q : A → List A → Bool) (xs : List A) (k : ℕ) (z : A) → every q xs ≡ true → k < length xs → q (get_or xs k z) (drop (suc k) xs) ≡ true
unfolding every
every-at q [] k z e h = absurd (not-suc-le-zero h)
every-at q (x ∷ xs) zero z e h = and_left (q x xs) (every q xs) e
every-at q (x ∷ xs) (suc k) z e h = every-at q xs k z (and_right (q x xs) (every q xs) e) (le_of_suc-le-suc h)

pub slots-below : (q d : ℕ) (t : List ℕ) → every (row_ok d) (rows d t) ≡ true → d ≤ q → (k : ℕ) → k < d → row_slot (row_at t k) < q
slots-below q d t e h k b =
    let o : row_ok d (row_at t k) (drop (suc k) (rows d t)) ≡ true = ap (λ (r : List ℕ). row_ok d r (drop (suc k) (rows d t))) (sym (rows_at d t k b))
    ∙ every-at (row_ok d) (rows d t) k [] e (rw rows-length b) in
    let l : row_slot (row_at t k) < d = ltb-true _ _ (and_left _ _ o) in
    omega (arith, l, h)

-- a turn of a check of `every` that goes down, at the element before place k
every_drop : {A : Type 0} (q : A → List A → Bool) (xs : List A) (k : ℕ) → every q (drop k xs) ≡ false → every q xs ≡ false
unfolding every
every_drop q xs zero e = e
every_drop q [] (suc k) e = e
every_drop q (x ∷ xs) (suc k) e = rw (every_drop q xs k e, and-false)

module _ (q : List ℕ → List (List ℕ) → Bool) (n : ℕ) (t : List ℕ) (k : ℕ) (hk : 0 < k) (hn : k ≤ n) where
  row_before : drop (k - 1) (rows n t) ≡ row_at t (k - 1) ∷ drop (suc (k - 1)) (rows n t)
  row_before =
      let h : k - 1 < n = omega arith in
      drop-cons (rows n t) (k - 1) [] (rw rows-length h) ∙ rw (rows_at n t (k - 1) h)

  pub same-behind : drop (suc (k - 1)) (rows n t) ≡ drop k (rows n t)
  same-behind = let e : suc (k - 1) ≡ k = omega arith in ap (λ (j : ℕ). drop j (rows n t)) e

  pub back-fails : q (row_at t (k - 1)) (drop (suc (k - 1)) (rows n t)) ≡ false → false ≡ every q (rows n t)
  unfolding every
  back-fails e = sym (every_drop q (rows n t) (k - 1) (ap (every q) row_before ∙ rw e))

  pub back_more : q (row_at t (k - 1)) (drop (suc (k - 1)) (rows n t)) ≡ true → every q (drop k (rows n t)) ≡ true → every q (drop (k - 1) (rows n t)) ≡ true
  unfolding every
  back_more e i = ap (every q) row_before ∙ rw e (ap (every q) same-behind ∙ i)

  pub back-all : (p : List ℕ → Bool) → all p (drop (k - 1) (rows n t)) ≡ p (row_at t (k - 1)) && all p (drop k (rows n t))
  unfolding all
  back-all p = ap (all p) row_before ∙ ap (λ (r : List (List ℕ)). p (row_at t (k - 1)) && all p r) same-behind

-- the same lists
pub same_true : (xs ys : List ℕ) → same xs ys ≡ true → xs ≡ ys
unfolding same
same_true [] [] e = refl
same_true [] (y ∷ ys) e = let z : ◌≡◌ {A = ℕ} 0 1 = cc in absurd (omega arith)
same_true (x ∷ xs) [] e = let z : ◌≡◌ {A = ℕ} 0 1 = cc in absurd (omega arith)
same_true (x ∷ xs) (y ∷ ys) e = rw (eqb-true x y (and_left (eqb x y) (same xs ys) e), same_true xs ys (and_right (eqb x y) (same xs ys) e))

pub not-true-false : (b : Bool) → (b ≡ true → ⊥) → b ≡ false
not-true-false true e = absurd (e refl)
not-true-false false e = refl

pub or_left : (a b : Bool) → a || b ≡ false → a ≡ false
or_left true b e = e
or_left false b e = refl

pub or_right : (a b : Bool) → a || b ≡ false → b ≡ false
or_right true b e = let z : ◌≡◌ {A = ℕ} 0 1 = cc in absurd (omega arith)
or_right false b e = e

-- they are right if the number that they make is at most 1
tail-small : (a b c d : ℕ) (q : Bool) → leb (a + 256 * b + 65536 * c + 16777216 * d) 1 ≡ q → q ≡ leb a 1 && (eqb b 0 && (eqb c 0 && eqb d 0))
tail-small a b c d true e =
    let h = leb-true (a + 256 * b + 65536 * c + 16777216 * d) 1 e in
    let ha : a ≤ 1 = omega arith in
    let hb : b ≡ 0 = omega arith in
    let hc : c ≡ 0 = omega arith in
    let hd : d ≡ 0 = omega arith in
    sym (rw (le-leb a 1 ha, eq-eqb b 0 hb, eq-eqb c 0 hc, eq-eqb d 0 hd))
tail-small a b c d false e =
    sym (not-true-false (leb a 1 && (eqb b 0 && (eqb c 0 && eqb d 0)))
    (λ o.
    (let h = leb-false (a + 256 * b + 65536 * c + 16777216 * d) 1 e in
    let ha = leb-true a 1 (and_left (leb a 1) (eqb b 0 && (eqb c 0 && eqb d 0)) o) in
    let o1 = and_right (leb a 1) (eqb b 0 && (eqb c 0 && eqb d 0)) o in
    let hb = eqb-true b 0 (and_left (eqb b 0) (eqb c 0 && eqb d 0) o1) in
    let o2 = and_right (eqb b 0) (eqb c 0 && eqb d 0) o1 in
    let hc = eqb-true c 0 (and_left (eqb c 0) (eqb d 0) o2) in
    let hd = eqb-true d 0 (and_right (eqb c 0) (eqb d 0) o2) in
    absurd (omega arith))))

pub tail-number : (t : List ℕ) (k : ℕ) → leb (le4 t (k * 40 + 36)) 1 ≡ tail_ok (row_at t k)
tail-number t k =
    let e1 : k * 40 + 36 + 1 ≡ k * 40 + 37 = omega arith in
    let e2 : k * 40 + 36 + 2 ≡ k * 40 + 38 = omega arith in
    let e3 : k * 40 + 36 + 3 ≡ k * 40 + 39 = omega arith in
    rw (e1, e2, e3) (tail-small (get_or t (k * 40 + 36) 0) (get_or t (k * 40 + 37) 0) (get_or t (k * 40 + 38) 0) (get_or t (k * 40 + 39) 0) _ refl
    ∙ sym (tail-row_at t k))
