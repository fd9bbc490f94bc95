-- The test for 6 in one pass over the names: each ticks off a held address. This is what code can do with a set of bits, in time m.
use Rattle.std.specs.Prelude.{◌≡◌, refl, Bool, true, false, not, ◌&&◌, cond, List, [], ◌∷◌, ℕ, suc, ◌+◌, eqb, length}
use Rattle.std.proofs.Common.{sym, ap, ◌∙◌, subst, arith, eqb-true, eq-eqb}
use Rattle.std.proofs.lemmas.Bool.{false≢true, not-false}
use Rattle.tables.specs.Find.{any}
use Rattle.paper.specs.KeyedLaws.{by-test, either, clash, or_cases, or-both, or-false-left, or-false-right, and_left, and_right, eqb→≡, eqb-self}
use Rattle.paper.specs.KeyedLaws.{eqb_swap, All, all_map, Distinct, distinct_without}
use Rattle.arc.specs.Arc.{is_in, out}
use Rattle.arc.specs.Tally.{count, tally-has, tally-none, tally-some, tally-distinct, tally-without-self, tally-without-other, length_without}
use Rattle.arc.specs.Tally.{length_none}
use Rattle.arc.specs.ArcLent.{misnamed}
use Rattle.arc.proofs.ArcLentLaws.{any_none, none_any, all_in, same_length}
use Rattle.arc.specs.ArcTicks.{Same, ticked}

-- what is left of the set
unfoldable unticked : List ℕ → List ℕ → List ℕ
unticked set [] = set
unticked set (x ∷ xs) = unticked (out x set) xs

abbrev Once : List ℕ → Type 0
Once l = Distinct eqb (λ x. x) l

in_all : (p : ℕ → Bool) (l : List ℕ) → All (λ x. p x ≡ false) l → (x : ℕ) → is_in x l ≡ true → p x ≡ false
in_all p [] a x i = absurd (false≢true i)
in_all p (y ∷ ys) a x i = either (or_cases (eqb x y) (is_in x ys) i) (λ e. subst (λ z. p z ≡ false) (sym (eqb→≡ x y e)) a.0) (λ e. in_all p ys a.1 x e)

pub named-same : (held names : List ℕ) → Once held → misnamed held names ≡ false → Same held names
unfolding misnamed
named-same held names d m x =
    let f = any (λ a. not (eqb (count a names) 1)) held in
    let g = any (λ x. not (is_in x held)) names in
    by-test (is_in x held)
    (λ y. let one = in_all (λ a. not (eqb (count a names) 1)) held (none_any (λ a. not (eqb (count a names) 1)) held (or-false-left f g m)) x y in
    let q = eqb-true (count x names) 1 (not-false (eqb (count x names) 1) one) in
    let k = tally-has (λ z. z) x held y in
    let e = tally-distinct (λ z. z) x held d in
    omega (arith, q, k, e))
    (λ y. tally-none (λ z. z) x held y ∙ sym (by-test (is_in x names)
    (λ z. clash (not-false (is_in x held) (in_all (λ x. not (is_in x held)) names (none_any (λ x. not (is_in x held)) names (or-false-right f g m)) x z)) y)
    (λ z. tally-none (λ z. z) x names z)))

pub same-named : (held names : List ℕ) → Once held → Same held names → misnamed held names ≡ false
unfolding misnamed
same-named held names d h =
    or-both (any (λ a. not (eqb (count a names) 1)) held) (any (λ x. not (is_in x held)) names)
    (any_none (λ a. not (eqb (count a names) 1)) held
    (all_map (λ x. is_in x held ≡ true) (λ a. not (eqb (count a names) 1) ≡ false)
    (λ x e. ap not (eq-eqb (count x names) 1 (let k = tally-has (λ z. z) x held e in let m = tally-distinct (λ z. z) x held d in let hx = h x in omega
    (arith, k, m, hx)))) held (all_in held)))
    (any_none (λ x. not (is_in x held)) names
    (all_map (λ x. is_in x names ≡ true) (λ x. not (is_in x held) ≡ false)
    (λ x e. ap not (tally-some (λ z. z) x held (let k = tally-has (λ z. z) x names e in let hx = h x in omega (arith, k, hx)))) names (all_in names)))

-- ticking
same-ticked : (held names : List ℕ) → Once held → Same held names → ticked held names ≡ true
unfolding ticked
same-ticked held [] d h = refl
same-ticked held (x ∷ xs) d h =
    let hx : count x held ≡ suc (count x xs) = h x ∙ ap (λ b. cond b (suc (count x xs)) (count x xs)) (eqb-self x) in
    let i : is_in x held ≡ true = tally-some (λ z. z) x held (omega (arith, hx)) in
    let most = tally-distinct (λ z. z) x held d in
    rw i (same-ticked (out x held) xs (distinct_without eqb (λ z. z) x held d)
    (λ y. by-test (eqb x y)
    (λ q. subst (λ z. count z (out x held) ≡ count z xs) (eqb→≡ x y q) (tally-without-self (λ z. z) x held ∙ (omega (arith, hx, most))))
    (λ q. tally-without-other (λ z. z) x y held q ∙ h y ∙ ap (λ b. cond b (suc (count y xs)) (count y xs)) (eqb_swap x y q))))

ticked-rest : (held names : List ℕ) → Once held → ticked held names ≡ true
    → (length names + length (unticked held names) ≡ length held) × ((x : ℕ) → count x names + count x (unticked held names) ≡ count x held)
unfolding ticked unticked
ticked-rest held [] d h = (omega arith, λ x. omega arith)
ticked-rest held (x ∷ xs) d h =
    let i = and_left (is_in x held) (ticked (out x held) xs) h in
    let r = ticked-rest (out x held) xs (distinct_without eqb (λ z. z) x held d) (and_right (is_in x held) (ticked (out x held) xs) h) in
    let l = length_without (λ z. z) x held in
    let k = tally-has (λ z. z) x held i in
    let most = tally-distinct (λ z. z) x held d in
    let r0 = r.0 in (
      omega (arith, l, k, most, r0),
      λ y. by-test (eqb x y)
          (λ q. subst (λ z. count z (x ∷ xs) + count z (unticked (out x held) xs) ≡ count z held) (eqb→≡ x y q)
          (let e = ap (λ b. cond b (suc (count x xs)) (count x xs)) (eqb-self x) in let rx = r.1 x in let s = tally-without-self (λ z. z) x held in omega
          (arith, e, rx, s, k, most)))
          (λ q. let e = ap (λ b. cond b (suc (count y xs)) (count y xs)) (eqb_swap x y q) in let ry = r.1 y in let s = tally-without-other
          (λ z. z) x y held q in omega (arith, e, ry, s)),
    )

-- as many names as held addresses, and each ticks one off: that is the test
pub ticks-tell : (held names : List ℕ) → Once held → misnamed held names ≡ not (eqb (length names) (length held) && ticked held names)
ticks-tell held names d =
    by-test (misnamed held names)
    (λ e. e ∙ sym (ap not (by-test (eqb (length names) (length held) && ticked held names)
    (λ y. let n = eqb-true (length names) (length held) (and_left (eqb (length names) (length held)) (ticked held names) y) in
    let r = ticked-rest held names d (and_right (eqb (length names) (length held)) (ticked held names) y) in
    let r0 = r.0 in
    let none = length_none (unticked held names) (omega (arith, n, r0)) in
    clash e (same-named held names d (λ x. let rx = r.1 x in let z = ap (count x) none in omega (arith, rx, z))))
    (λ y. y))))
    (λ e. let s = named-same held names d e in
    let l = same_length (λ z. z) (length held) held names (omega arith) s in
    let y : (eqb (length names) (length held) && ticked held names) ≡ true
    = rw (eq-eqb (length names) (length held) (sym l), same-ticked held names d s) refl in
    e ∙ sym (ap not y))
