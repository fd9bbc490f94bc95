-- The test for 6 in one pass over the names and one over the rows, with a bit for each address. Assumes nothing.
use Rattle.std.specs.Prelude.{◌≡◌, Bool, false, not, ◌&&◌, ◌||◌, cond, List, [], ◌∷◌, map, eqb, length, get_or, take}
use Rattle.std.proofs.Math.Path.{refl}
use Rattle.std.proofs.Common.{sym, ap, ap₂, ◌∙◌, subst, arith, drop-drop}
use Rattle.std.proofs.Math.Bool.{true}
use Rattle.std.proofs.lemmas.Bool.{false≢true}
use Rattle.std.proofs.lemmas.List.FromFn.{get_or-range_with_len, length-range_with_len}
use Rattle.std.specs.List.{range_with_len, AllWithin, HoldsAt}
use Rattle.std.specs.Bool.{MatchBool}
use Prim.Native.Nat.{ℕ, zero, suc, ◌+◌, ◌-◌, ◌*◌, ◌≤◌, ◌<◌}
use Rattle.std.proofs.Math.ListN.{drop}
use Rattle.std.proofs.Math.Seq.{drop-cons}
use borrow.Author.Tests.{eqb-true, eq-eqb, ne_eqb, lt-ltb, le-ltb, not-true}
use Rattle.tables.specs.Find.{all}
use Rattle.tables.specs.Rows.{rows, row_at, le4}
use Rattle.tables.specs.RowLaws.{rows-length, rows_at}
use Rattle.tables.specs.Unsound.{elem}
use Rattle.tables.specs.Sound.{mark, distinct, row_address}
use Rattle.tables.specs.SoundLaws.{Read, Marked, twice, once, all-at, values_length, rows-all-more, rows-all-holds}
use Rattle.paper.specs.KeyedLaws.{by-test, either, clash, or_cases, or_left, or_right, or-false-left, or-false-right}
use Rattle.paper.specs.KeyedLaws.{and_left, and_right, eqb→≡, eqb-self, All, Distinct}
use Rattle.arc.specs.Arc.{is_in, out}
use Rattle.arc.specs.Tally.{count, tally-has, tally-some, tally-distinct, tally-append, tally-without-other}
use Rattle.arc.specs.ArcLent.{misnamed, words}
use Rattle.arc.proofs.ArcLentLaws.{same_length, length-words-in, words-at}
use Rattle.arc.specs.ArcTicks.{ticked}
use Rattle.arc.proofs.ArcTicksLaws.{ticks-tell, named-same, same-named}
use Rattle.arclists.specs.Names.{possible, fine}

abbrev Once : List ℕ → Type 0
Once l = Distinct eqb (λ x. x) l

-- a turn that takes the name before the first k
module _ (ws : List ℕ) (k x : ℕ) (some : 0 < k) (within : k ≤ length ws) (is : x ≡ get_or ws (k - 1) 0) where
  pub too-big : 65536 ≤ x → false ≡ fine ws
  unfolding fine
  too-big h =
      by-test (all possible ws)
      (λ e. clash (all-at possible ws (k - 1) 0 e (omega arith)) (rw (← is) (le-ltb x 65536 h)))
      (λ e. rw e refl)

module _ {ws : List ℕ} {k x : ℕ} (r : Read ws 65536 k x) (at : ℕ → ℕ) (m : Marked at 65536 (drop k ws)) where
  pub named-twice : (at x ≡ 0 → ⊥) → false ≡ fine ws
  unfolding fine
  named-twice h = by-test (all possible ws) (λ e. rw e (twice r at m h)) (λ e. rw e refl)

  pub more-fine : at x ≡ 0 → fine (drop k ws) ≡ true → fine (drop (k - 1) ws) ≡ true
  unfolding fine all
  more-fine h f =
      let e : suc (k - 1) ≡ k = omega (arith, r.some) in
      let q : drop (k - 1) ws ≡ x ∷ drop k ws = drop-cons ws (k - 1) 0 (omega (arith, r.some, r.within)) ∙ rw (e, r.is) refl in
      let b : all possible (drop (k - 1) ws) ≡ true = rw (q, lt-ltb x 65536 r.has) (and_left (all possible (drop k ws)) (distinct (drop k ws)) f) in
      rw (b, once r at m h (and_right (all possible (drop k ws)) (distinct (drop k ws)) f)) refl

-- the name read before the first k
pub name-is : (n : ℕ) (t : List ℕ) (k x : ℕ) → 0 < k → k ≤ n → x ≡ le4 t ((k - 1) * 4) → x ≡ get_or (words n t) (k - 1) 0
name-is n t k x some h e = e ∙ sym (words-at n t (k - 1) (omega arith))

pub read-name : (n : ℕ) (t : List ℕ) (k x : ℕ) → 0 < k → k ≤ n → x ≡ le4 t ((k - 1) * 4) → x < 65536 → Read (words n t) 65536 k x
read-name n t k x some h e b =
    record { some = some; within = omega (arith, length-words-in n t); is = name-is n t k x some h e; has = b }

zero-add : (k : ℕ) → 0 + k ≡ k
zero-add k = omega arith

-- a test of each of n rows, as it goes over their places
pub all-over : (n : ℕ) (r : Bool) (Yes No : ℕ → Type 0)
    → MatchBool r (AllWithin Yes (range_with_len 0 n) 0 (length (range_with_len 0 n)))
    ((k : ℕ) × (k < length (range_with_len 0 n)) × HoldsAt No (range_with_len 0 n) k)
    → MatchBool r ((k : ℕ) → k < n → Yes k) ((k : ℕ) × (k < n) × No k)
all-over n true Yes No h =
    λ k b. subst Yes (get_or-range_with_len 0 n k 0 b ∙ zero-add k) (h k 0 (omega arith) (omega (arith, length-range_with_len 0 n)))
all-over n false Yes No h =
    let b : h.0 < n = omega (arith, h.1, length-range_with_len 0 n) in
    (h.0, b, subst No (get_or-range_with_len 0 n h.0 0 b ∙ zero-add h.0) (h.2 0))

rows-pass : (p : List ℕ → Bool) (n : ℕ) (t : List ℕ) (k : ℕ) → k ≤ n → ((j : ℕ) → j < n → p (row_at t j) ≡ true)
    → all p (rows n t) ≡ all p (drop k (rows n t))
rows-pass p n t zero l h = refl
rows-pass p n t (suc k) l h =
    let m : k + 1 ≡ suc k = omega arith in
    rw m at (rows-all-more p n t k (rows-pass p n t k (omega arith) h) (omega arith) (h k (omega arith)))

pub rows-tested : (p : List ℕ → Bool) (n : ℕ) (t : List ℕ) (r : Bool)
    → MatchBool r ((k : ℕ) → k < n → p (row_at t k) ≡ true) ((k : ℕ) × (k < n) × (p (row_at t k) ≡ false)) → r ≡ all p (rows n t)
rows-tested p n t true h = rows-all-holds p n t n (rows-pass p n t n (omega arith) h) (omega arith)
rows-tested p n t false h =
    by-test (all p (rows n t))
    (λ e. clash (ap p (sym (rows_at n t h.0 h.1)) ∙ all-at p (rows n t) h.0 [] e (rw rows-length h.1)) h.2)
    (λ e. sym e)

pub mark-test : (b : Bool) → eqb (mark b) 1 ≡ b
mark-test true = refl
mark-test false = refl

pub elem_in : (x : ℕ) (l : List ℕ) → elem x l ≡ is_in x l
unfolding elem
elem_in x [] = refl
elem_in x (y ∷ ys) = ap (λ b. eqb x y || b) (elem_in x ys)

-- numbers that differ are each there once, and the other way
pub distinct-once : (l : List ℕ) → distinct l ≡ true → Once l
unfolding distinct
distinct-once [] h = tt
distinct-once (x ∷ xs) h = (
  sym (elem_in x xs) ∙ not-true (elem x xs) (and_left (not (elem x xs)) (distinct xs) h),
  distinct-once xs (and_right (not (elem x xs)) (distinct xs) h),
)

once-distinct : (l : List ℕ) → ((x : ℕ) → count x l ≤ 1) → distinct l ≡ true
unfolding distinct
once-distinct [] c = refl
once-distinct (x ∷ xs) c =
    let e = ap (λ t. cond {A = ℕ} t (suc (count x xs)) (count x xs)) (eqb-self x) in
    let cx = c x in
    let n : is_in x xs ≡ false = by-test (is_in x xs) (λ i. let k = tally-has (λ z. z) x xs i in absurd (omega (arith, k, e, cx))) (λ f. f) in
    rw (elem_in x xs ∙ n) (once-distinct xs (λ y. let t = tally-append (λ z. z) y (x ∷ []) xs in let cy = c y in omega (arith, t, cy)))

-- a test of all, one by one
all-each : (p : ℕ → Bool) (l : List ℕ) → all p l ≡ true → All (λ x. p x ≡ true) l
unfolding all
all-each p [] h = tt
all-each p (x ∷ xs) h = (and_left (p x) (all p xs) h, all-each p xs (and_right (p x) (all p xs) h))

each_all : (p : ℕ → Bool) (l : List ℕ) → ((x : ℕ) → is_in x l ≡ true → p x ≡ true) → all p l ≡ true
unfolding all
each_all p [] h = refl
each_all p (x ∷ xs) h = rw (h x (or_left (eqb x x) (is_in x xs) (eqb-self x))) (each_all p xs (λ y i. h y (or_right (eqb y x) (is_in y xs) i)))

-- each held address is named: they tick names off
still-in : (x y : ℕ) (l : List ℕ) → eqb x y ≡ false → is_in y l ≡ true → is_in y (out x l) ≡ true
still-in x y l n h = tally-some (λ z. z) y (out x l) (let k = tally-has (λ z. z) y l h in let e = tally-without-other (λ z. z) x y l n in omega (arith, k, e))

others-in : (x : ℕ) (xs names : List ℕ) → is_in x xs ≡ false → All (λ a. is_in a names ≡ true) xs → All (λ a. is_in a (out x names) ≡ true) xs
others-in x [] names n h = tt
others-in x (y ∷ ys) names n h =
    (still-in x y names (or-false-left (eqb x y) (is_in x ys) n) h.0, others-in x ys names (or-false-right (eqb x y) (is_in x ys) n) h.1)

in-ticked : (held names : List ℕ) → Once held → All (λ a. is_in a names ≡ true) held → ticked names held ≡ true
unfolding ticked
in-ticked [] names d h = refl
in-ticked (x ∷ xs) names d h = rw h.0 (in-ticked xs (out x names) d.1 (others-in x xs names d.0 h.1))

below : (held : List ℕ) → All (λ a. a < 65536) held → (x : ℕ) → is_in x held ≡ true → x < 65536
below [] a x i = absurd (false≢true i)
below (y ∷ ys) a x i = either (or_cases (eqb x y) (is_in x ys) i) (λ e. subst (λ z. z < 65536) (sym (eqb→≡ x y e)) a.0) (λ e. below ys a.1 x e)

-- as many names as held addresses, all fine, and each held address is named: that is the test
pub names-tell : (held names : List ℕ) → Once held → All (λ a. a < 65536) held
    → misnamed held names ≡ not (eqb (length names) (length held) && (fine names && all (λ a. is_in a names) held))
unfolding fine
names-tell held names d low =
    let A = eqb (length names) (length held) in
    let B = fine names in
    let C = all (λ a. is_in a names) held in
    by-test (misnamed held names)
    (λ e. e ∙ sym (ap not (by-test (A && (B && C))
    (λ y. let n = eqb-true (length names) (length held) (and_left A (B && C) y) in
    let o = distinct-once names (and_right (all possible names) (distinct names) (and_left B C (and_right A (B && C) y))) in
    let t = in-ticked held names d (all-each (λ a. is_in a names) held (and_right B C (and_right A (B && C) y))) in
    let u : misnamed names held ≡ false = ticks-tell names held o ∙ rw (eq-eqb (length held) (length names) (sym n), t) refl in
    let s = named-same names held o u in
    clash e (same-named held names d (λ x. sym (s x))))
    (λ y. y))))
    (λ e. let s = named-same held names d e in
    let l = same_length (λ z. z) (length held) held names (omega arith) s in
    let p = each_all possible names
    (λ x i. lt-ltb x 65536 (below held low x (tally-some (λ z. z) x held (let k = tally-has (λ z. z) x names i in let q = s x in omega (arith, k, q))))) in
    let o = once-distinct names (λ x. let k = tally-distinct (λ z. z) x held d in let q = s x in omega (arith, k, q)) in
    let c : C ≡ true = each_all (λ a. is_in a names) held
    (λ x i. tally-some (λ z. z) x names (let k = tally-has (λ z. z) x held i in let q = s x in omega (arith, k, q))) in
    let v : (A && (B && C)) ≡ true = rw (eq-eqb (length names) (length held) (sym l), p, o, c) refl in
    e ∙ sym (ap not v))

-- the rows' addresses
pub rows-below : (n : ℕ) (t : List ℕ) → ((k : ℕ) → k < n → row_address (row_at t k) < 65536) → All (λ a. a < 65536) (map row_address (rows n t))
unfolding rows
rows-below zero t h = tt
rows-below (suc n) t h = (
  h 0 (omega arith),
  rows-below n (drop 40 t) (λ k l. (let e : 40 + k * 40 ≡ suc k * 40 = omega arith in
      subst (λ (r : List ℕ). row_address (take 40 r) < 65536) (sym (drop-drop (k * 40) 40 t ∙ ap (λ (j : ℕ). drop j t) e)) (h (suc k) (omega (arith, l))))),
)

pub all-marked : (at : ℕ → ℕ) (names : List ℕ) (rs : List (List ℕ)) → Marked at 65536 names → All (λ a. a < 65536) (map row_address rs)
    → all (λ r. eqb (at (row_address r)) 1) rs ≡ all (λ a. is_in a names) (map row_address rs)
unfolding all
all-marked at names [] m b = refl
all-marked at names (r ∷ rs) m b =
    ap₂ {C = Bool} (λ x y. x && y) (ap (λ n. eqb n 1) (m (row_address r) b.0) ∙ mark-test (elem (row_address r) names) ∙ elem_in (row_address r) names)
    (all-marked at names rs m b.1)

-- the three ends of the check
module _ (n total : ℕ) (t lists : List ℕ) (low : (k : ℕ) → k < n → row_address (row_at t k) < 65536) (d : distinct (map row_address (rows n t)) ≡ true) where
  abbrev held : List ℕ
  held = map row_address (rows n t)

  abbrev names : List ℕ
  names = words total lists

  tells : misnamed held names ≡ not (eqb (length names) (length held) && (fine names && all (λ a. is_in a names) held))
  tells = names-tell held names (distinct-once held d) (rows-below n t low)

  lengths : (length names ≡ total) × (length held ≡ n)
  lengths = (length-words-in total lists, values_length row_address n t)

  pub wrong-count : (total ≡ n → ⊥) → true ≡ misnamed held names
  wrong-count h = let l = lengths in sym (tells ∙ rw (ne_eqb (length names) (length held) (λ e. h (sym l.0 ∙ e ∙ l.1))) refl)

  pub wrong_name : fine names ≡ false → true ≡ misnamed held names
  wrong_name h = sym (tells ∙ rw h (by-test (eqb (length names) (length held)) (λ e. rw e refl) (λ e. rw e refl)))

  pub rest-tells : total ≡ n → fine names ≡ true → (at : ℕ → ℕ) → Marked at 65536 names
      → not (all (λ r. eqb (at (row_address r)) 1) (rows n t)) ≡ misnamed held names
  rest-tells e f at m =
      let l = lengths in
      sym (tells ∙ rw (eq-eqb (length names) (length held) (l.0 ∙ e ∙ sym l.1), f) (ap not (sym (all-marked at names (rows n t) m (rows-below n t low)))))
