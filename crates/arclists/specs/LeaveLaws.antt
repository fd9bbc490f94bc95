-- An address leaves its list, or joins one: what the bytes and the sizes do. Assumes nothing.
use Rattle.std.specs.Prelude.{◌≡◌, refl, true, false, Option, None, Some, cond, List, ◌++◌, ℕ, ◌+◌, ◌-◌, ◌≤◌, ◌<◌, eqb, ltb, unwrap_or, MatchOption}
use Rattle.std.proofs.Common.{sym, ap, ap₂, ◌∙◌, subst, arith, ltb-false}
use Rattle.std.proofs.lemmas.Option.{none-some}
use borrow.Author.Tests.{lt-ltb, le-ltb, ltb-true}
use Rattle.tables.specs.Rows.{remove_at}
use Rattle.paper.specs.KeyedLaws.{by-test, without-absent}
use Rattle.arc.specs.Arc.{Lists, list_of, left, is_in, out}
use Rattle.arc.specs.Tally.{count, tally-append, tally-has, tally-none, length_without}
use Rattle.arc.specs.ArcLent.{words, end_to_end}
use Rattle.arc.proofs.ArcLentLaws.{words_back}
use Rattle.arc.proofs.ArcEndsLaws.{end-left}
use Rattle.arclists.specs.declared.ListSizes.{ListSizes}
use Rattle.arclists.specs.declared.ListName.{ListName}
use Rattle.arclists.specs.declared.ListName.TheVariants.{T1, T2, B1, B2, B3}
use Rattle.arclists.specs.Listed.{listed, place_of, Removes}
use Rattle.arclists.specs.ListedLaws.{lists-listed}
use Rattle.arclists.specs.PlaceLaws.{place_in, place_out, place-first, place-second, out_at}
use Rattle.arclists.specs.Holding.{total, Sized, Holds, was_of, which_at, size_of, less_of, left_sizes, Low}
use Rattle.arclists.specs.MoveLaws.{total-is, resized-by}

-- a chain of tests, one at a time
pub lt_yes : {A : Type 0} (m n : ℕ) (z x y : A) → m < n → z ≡ x → z ≡ cond (ltb m n) x y
lt_yes m n z x y h e = rw (lt-ltb m n h) e

pub lt_no : {A : Type 0} (m n : ℕ) (z x y : A) → n ≤ m → z ≡ y → z ≡ cond (ltb m n) x y
lt_no m n z x y h e = rw (le-ltb m n h) e

-- the addresses read from the bytes
pub read_back : {m : ℕ} {s : ListSizes} {t : List ℕ} {l : Lists} → Holds m s t l → Low l → (n : ℕ) → n ≡ total s → words n t ≡ end_to_end l
unfolding listed
read_back {m} {s} {t} {l} h low n e =
    let z = total-is s l h.sized in
    ap₂ {C = List ℕ} words (e ∙ sym z) (h.bytes ∙ lists-listed m l) ∙ words_back (end_to_end l) _ low

-- by the list that an address is in: the first of them, as `list_of` goes through them
module _ (a : ℕ) (s : ListSizes) (l : Lists) (z : Sized s l) where
  abbrev r2 : List ℕ
  r2 = l.T2 ++ (l.B1 ++ (l.B2 ++ l.B3))

  abbrev r3 : List ℕ
  r3 = l.B1 ++ (l.B2 ++ l.B3)

  abbrev r4 : List ℕ
  r4 = l.B2 ++ l.B3

  abbrev place : ℕ
  place = place_of a (end_to_end l)

  pub which-is : was_of (which_at s (place_of a (end_to_end l))) ≡ list_of a l
  unfolding which_at list_of
  which-is =
      by-test (is_in a l.T1)
      (λ e. let i = place_in a l.T1 e in let p = place-first a l.T1 r2 e in
      rw (e, lt-ltb place s.t1 (omega (arith, i, p, z.t1-is))) refl)
      (λ e1. let p1 = place-second a l.T1 r2 e1 in
      rw (e1, le-ltb place s.t1 (omega (arith, p1, z.t1-is)))
      (by-test (is_in a l.T2)
      (λ e. let i = place_in a l.T2 e in let p = place-first a l.T2 r3 e in
      rw (e, lt-ltb place (s.t1 + s.t2) (omega (arith, i, p, p1, z.t1-is, z.t2-is))) refl)
      (λ e2. let p2 = place-second a l.T2 r3 e2 in
      rw (e2, le-ltb place (s.t1 + s.t2) (omega (arith, p1, p2, z.t1-is, z.t2-is)))
      (by-test (is_in a l.B1)
      (λ e. let i = place_in a l.B1 e in let p = place-first a l.B1 r4 e in
      rw (e, lt-ltb place (s.t1 + s.t2 + s.b1) (omega (arith, i, p, p1, p2, z.t1-is, z.t2-is, z.b1-is))) refl)
      (λ e3. let p3 = place-second a l.B1 r4 e3 in
      rw (e3, le-ltb place (s.t1 + s.t2 + s.b1) (omega (arith, p1, p2, p3, z.t1-is, z.t2-is, z.b1-is)))
      (by-test (is_in a l.B2)
      (λ e. let i = place_in a l.B2 e in let p = place-first a l.B2 l.B3 e in
      rw (e, lt-ltb place (s.t1 + s.t2 + s.b1 + s.b2) (omega (arith, i, p, p1, p2, p3, z.t1-is, z.t2-is, z.b1-is, z.b2-is))) refl)
      (λ e4. let p4 = place-second a l.B2 l.B3 e4 in
      rw (e4, le-ltb place (s.t1 + s.t2 + s.b1 + s.b2) (omega (arith, p1, p2, p3, p4, z.t1-is, z.t2-is, z.b1-is, z.b2-is)))
      (by-test (is_in a l.B3)
      (λ e. let i = place_in a l.B3 e in
      rw (e, lt-ltb place (s.t1 + s.t2 + s.b1 + s.b2 + s.b3) (omega (arith, i, p1, p2, p3, p4, z.t1-is, z.t2-is, z.b1-is, z.b2-is, z.b3-is))) refl)
      (λ e5. let p5 = place_out a l.B3 e5 in
      rw (
        e5,
        le-ltb place (s.t1 + s.t2 + s.b1 + s.b2 + s.b3)
            (omega (arith, p1, p2, p3, p4, p5, z.t1-is, z.t2-is, z.b1-is, z.b2-is, z.b3-is)),
      ) refl)))))))))

  -- how often each list has it
  module _ (once : count a (end_to_end l) ≤ 1) where
    all-counts : count a l.T1 + count a l.T2 + count a l.B1 + count a l.B2 + count a l.B3 ≤ 1
    all-counts =
        omega (
          arith,
          once,
          tally-append (λ x. x) a l.T1 r2,
          tally-append (λ x. x) a l.T2 r3,
          tally-append (λ x. x) a l.B1 r4,
          tally-append (λ x. x) a l.B2 l.B3,
        )

    sized-by : (r : ListSizes) → r.t1 + count a l.T1 ≡ s.t1 → r.t2 + count a l.T2 ≡ s.t2 → r.b1 + count a l.B1 ≡ s.b1
        → r.b2 + count a l.B2 ≡ s.b2 → r.b3 + count a l.B3 ≡ s.b3 → r.p ≡ s.p → Sized r (left a l)
    sized-by r e1 e2 e3 e4 e5 e6 =
        record {
          t1-is = omega (arith, e1, z.t1-is, length_without (λ x. x) a l.T1);
          t2-is = omega (arith, e2, z.t2-is, length_without (λ x. x) a l.T2);
          b1-is = omega (arith, e3, z.b1-is, length_without (λ x. x) a l.B1);
          b2-is = omega (arith, e4, z.b2-is, length_without (λ x. x) a l.B2);
          b3-is = omega (arith, e5, z.b3-is, length_without (λ x. x) a l.B3);
          p-is = e6 ∙ z.p-is;
        }

    pub left-sized : Sized (left_sizes (which_at s (place_of a (end_to_end l))) s) (left a l)
    unfolding which_at
    left-sized =
        let c = all-counts in
        let z1 = z.t1-is in
        let z2 = z.t2-is in
        let z3 = z.b1-is in
        let z4 = z.b2-is in
        let z5 = z.b3-is in
        by-test (is_in a l.T1)
        (λ e. let i = place_in a l.T1 e in let p = place-first a l.T1 r2 e in let k = tally-has (λ x. x) a l.T1 e in
        rw (lt-ltb place s.t1 (omega (arith, i, p, z1))) (sized-by _ (omega (arith, c, k, i, z1)) (omega (arith, c, k)) (omega (arith, c, k))
        (omega (arith, c, k)) (omega (arith, c, k)) refl))
        (λ e1. let p1 = place-second a l.T1 r2 e1 in let k1 = tally-none (λ x. x) a l.T1 e1 in
        rw (le-ltb place s.t1 (omega (arith, p1, z1)))
        (by-test (is_in a l.T2)
        (λ e. let i = place_in a l.T2 e in let p = place-first a l.T2 r3 e in let k = tally-has (λ x. x) a l.T2 e in
        rw (lt-ltb place (s.t1 + s.t2) (omega (arith, i, p, p1, z1, z2)))
        (sized-by _ (omega (arith, k1)) (omega (arith, c, k, i, z2)) (omega (arith, c, k)) (omega (arith, c, k)) (omega (arith, c, k)) refl))
        (λ e2. let p2 = place-second a l.T2 r3 e2 in let k2 = tally-none (λ x. x) a l.T2 e2 in
        rw (le-ltb place (s.t1 + s.t2) (omega (arith, p1, p2, z1, z2)))
        (by-test (is_in a l.B1)
        (λ e. let i = place_in a l.B1 e in let p = place-first a l.B1 r4 e in let k = tally-has (λ x. x) a l.B1 e in
        rw (lt-ltb place (s.t1 + s.t2 + s.b1) (omega (arith, i, p, p1, p2, z1, z2, z3)))
        (sized-by _ (omega (arith, k1)) (omega (arith, k2)) (omega (arith, c, k, i, z3)) (omega (arith, c, k)) (omega (arith, c, k)) refl))
        (λ e3. let p3 = place-second a l.B1 r4 e3 in let k3 = tally-none (λ x. x) a l.B1 e3 in
        rw (le-ltb place (s.t1 + s.t2 + s.b1) (omega (arith, p1, p2, p3, z1, z2, z3)))
        (by-test (is_in a l.B2)
        (λ e. let i = place_in a l.B2 e in let p = place-first a l.B2 l.B3 e in let k = tally-has (λ x. x) a l.B2 e in
        rw (lt-ltb place (s.t1 + s.t2 + s.b1 + s.b2) (omega (arith, i, p, p1, p2, p3, z1, z2, z3, z4)))
        (sized-by _ (omega (arith, k1)) (omega (arith, k2)) (omega (arith, k3)) (omega (arith, c, k, i, z4)) (omega (arith, c, k)) refl))
        (λ e4. let p4 = place-second a l.B2 l.B3 e4 in let k4 = tally-none (λ x. x) a l.B2 e4 in
        rw (le-ltb place (s.t1 + s.t2 + s.b1 + s.b2) (omega (arith, p1, p2, p3, p4, z1, z2, z3, z4)))
        (by-test (is_in a l.B3)
        (λ e. let i = place_in a l.B3 e in let k = tally-has (λ x. x) a l.B3 e in
        rw (lt-ltb place (s.t1 + s.t2 + s.b1 + s.b2 + s.b3) (omega (arith, i, p1, p2, p3, p4, z1, z2, z3, z4, z5)))
        (sized-by _ (omega (arith, k1)) (omega (arith, k2)) (omega (arith, k3)) (omega (arith, k4)) (omega (arith, c, k, i, z5)) refl))
        (λ e5. let p5 = place_out a l.B3 e5 in let k5 = tally-none (λ x. x) a l.B3 e5 in
        rw (le-ltb place (s.t1 + s.t2 + s.b1 + s.b2 + s.b3) (omega (arith, p1, p2, p3, p4, p5, z1, z2, z3, z4, z5)))
        (sized-by _ (omega (arith, k1)) (omega (arith, k2)) (omega (arith, k3)) (omega (arith, k4)) (omega (arith, k5)) refl))))))))))

-- a place from the total on is in no list, and only such a place is
pub past-all : (s : ListSizes) (i : ℕ) → total s ≤ i → which_at s i ≡ None
unfolding which_at
past-all s i h =
    rw (
      le-ltb i s.t1 (omega (arith, h)),
      le-ltb i (s.t1 + s.t2) (omega (arith, h)),
      le-ltb i (s.t1 + s.t2 + s.b1) (omega (arith, h)),
      le-ltb i (s.t1 + s.t2 + s.b1 + s.b2) (omega (arith, h)),
      le-ltb i (s.t1 + s.t2 + s.b1 + s.b2 + s.b3) h,
    ) refl

pub in-some : (s : ListSizes) (i : ℕ) (x : ListName) → which_at s i ≡ Some x → i < total s
in-some s i x w =
    by-test (ltb i (total s)) (λ e. ltb-true i (total s) e)
    (λ e. absurd (none-some x (sym (past-all s i (ltb-false i (total s) e)) ∙ w)))

pub in-none : (s : ListSizes) (i : ℕ) → which_at s i ≡ None → total s ≤ i
unfolding which_at
in-none s i =
    by-test (ltb i s.t1) (λ e. rw e (λ w. absurd (none-some T1 (sym w))))
    (λ e. rw e (by-test (ltb i (s.t1 + s.t2)) (λ e. rw e (λ w. absurd (none-some T2 (sym w))))
    (λ e. rw e (by-test (ltb i (s.t1 + s.t2 + s.b1)) (λ e. rw e (λ w. absurd (none-some B1 (sym w))))
    (λ e. rw e (by-test (ltb i (s.t1 + s.t2 + s.b1 + s.b2)) (λ e. rw e (λ w. absurd (none-some B2 (sym w))))
    (λ e. rw e (by-test (ltb i (s.t1 + s.t2 + s.b1 + s.b2 + s.b3)) (λ e. rw e (λ w. absurd (none-some B3 (sym w))))
    (λ e. rw e (λ _. ltb-false i (s.t1 + s.t2 + s.b1 + s.b2 + s.b3) e))))))))))

-- the place found, or the total where none is
pub found-at : (r : Option ℕ) (n p : ℕ) → MatchOption r (p ≡ n) (λ k. (k < n) × (p ≡ k)) → p ≡ unwrap_or r n
found-at None n p f = f
found-at (Some k) n p f = f.1

-- an address leaves from its place, and the list of that place is the one that it was in
module _ {m : ℕ} {s : ListSizes} {t : List ℕ} {l : Lists} (h : Holds m s t l) (low : Low l) (a : ℕ) where
  place-read : (i n : ℕ) → n ≡ total s → place_of a (words n t) ≡ i → place_of a (end_to_end l) ≡ i
  place-read i n en e = ap (place_of a) (sym (read_back h low n en)) ∙ e

  which-read : (i n : ℕ) (o : Option ListName) → n ≡ total s → place_of a (words n t) ≡ i → which_at s i ≡ o
      → which_at s (place_of a (end_to_end l)) ≡ o
  which-read i n o en e w = ap (which_at s) (place-read i n en e) ∙ w

  pub was-is : (i n : ℕ) (o : Option ListName) → n ≡ total s → place_of a (words n t) ≡ i → which_at s i ≡ o → was_of o ≡ list_of a l
  was-is i n o en e w = ap was_of (sym (which-read i n o en e w)) ∙ which-is a s l h.sized

  left-is : (r : ListSizes) (t' : List ℕ) → Sized r (left a l) → t' ≡ listed m (out a (end_to_end l)) → total r ≤ m → Holds m r t' (left a l)
  left-is r t' z e b =
      record { sized = z; bytes = e ∙ ap (listed m) (sym (end-left a l)) ∙ sym (lists-listed m (left a l)); room = b }

  pub left-none : (i n : ℕ) → n ≡ total s → place_of a (words n t) ≡ i → which_at s i ≡ None → count a (end_to_end l) ≤ 1 → Holds m s t (left a l)
  left-none i n en e w once =
      let E = end_to_end l in
      let q = place-read i n en e in
      let z = total-is s l h.sized in
      let g = in-none s i w in
      let k : is_in a E ≡ false = by-test (is_in a E) (λ y. let b = place_in a E y in absurd (omega (arith, b, q, z, g))) (λ y. y) in
      left-is s t (subst (λ o. Sized (left_sizes o s) (left a l)) (which-read i n None en e w) (left-sized a s l h.sized once))
      (h.bytes ∙ lists-listed m l ∙ ap (listed m) (sym (without-absent eqb (λ x. x) a E k))) h.room

  pub left-some : {t' : List ℕ} (i n : ℕ) (x : ListName) → n ≡ total s → place_of a (words n t) ≡ i → which_at s i ≡ Some x → Removes i n t t'
      → count a (end_to_end l) ≤ 1 → Holds m (less_of x s) t' (left a l)
  left-some {t'} i n x en e w f once =
      let E = end_to_end l in
      let q = place-read i n en e in
      let z = total-is s l h.sized in
      let g = in-some s i x w in
      let k : is_in a E ≡ true = by-test (is_in a E) (λ y. y) (λ y. let b = place_out a E y in absurd (omega (arith, b, q, z, g))) in
      let b = (resized-by x (size_of x s - 1) s).total-is in
      left-is (less_of x s) t' (subst (λ o. Sized (left_sizes o s) (left a l)) (which-read i n (Some x) en e w) (left-sized a s l h.sized once))
      (f m E (z ∙ sym en) (omega (arith, en, h.room)) (h.bytes ∙ lists-listed m l) ∙ ap (listed m) (ap (remove_at E) (sym q) ∙ sym (out_at a E once k)))
      (omega (arith, b, h.room))
