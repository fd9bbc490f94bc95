-- Refusals: each number is given exactly when its test is the first to hold, and a refused call keeps everything.
use Rattle.std.specs.Prelude.{◌≡◌, refl, Bool, true, false, ◌&&◌, ◌||◌, cond, ◌↔◌, ◌≢◌, ℕ, eqb, take, drop}
use Rattle.std.proofs.Common.{sym, ap, ◌∙◌, ne_eqb, subst}
use Rattle.std.proofs.lemmas.Bool.{false≢true}
use mathlib.Core.List.{List, [], ◌∷◌, ◌++◌, map}
use Rattle.tables.specs.Rows.{zeros}
use Rattle.tables.specs.Unsound.{addresses_unsound, blocks_unsound, dirty_uncached}
use Rattle.paper.specs.KeyedLaws.{All, Distinct, by-test, either, clash, eqb→≡, eqb-self, or_cases, or_left, or_right, or-false-left, or-false-right}
use Rattle.paper.specs.Cache.{Numbers}
use Rattle.paper.specs.Lent.{Lent, Ask, opening, calling, address_of, lent_block, unfit, limit_outside, wrong_buffers, wrong_block, outside, over_limit, over}
use Rattle.paper.specs.Lent.{counts}
use Rattle.paper.specs.Lent.{Test, test, first, one_of, tests, refusal, refused}
use Rattle.paper.specs.Lent.{served, kept, call, fresh, unopened, opened, label_after}
use Rattle.paper.specs.RefusalLaws.{Apart, ExactlyOpening, Keeps, KeepsOpening, NoneOf, holdings, test_numbers}

in-middle : (before : List Test) (x : Test) (after : List Test) → one_of x.number (test_numbers (before ++ (x ∷ after))) ≡ true
in-middle [] x after = rw (eqb-self x.number) refl
in-middle (y ∷ ys) x after = or_right (eqb x.number y.number) (one_of x.number (test_numbers (ys ++ (x ∷ after)))) (in-middle ys x after)

-- what is given is 0 or one of the numbers
pub in-first : (l : List Test) → one_of (first l) (0 ∷ test_numbers l) ≡ true
in-first [] = refl
in-first (x ∷ xs) =
    by-test x.holds
    (λ e. let is : first (x ∷ xs) ≡ x.number = rw e refl in
    subst (λ (n : ℕ). one_of n (0 ∷ test_numbers (x ∷ xs)) ≡ true) (sym is)
    (or_right (eqb x.number 0) (one_of x.number (test_numbers (x ∷ xs))) (in-middle [] x xs)))
    (λ e. let is : first (x ∷ xs) ≡ first xs = rw e refl in
    subst (λ (n : ℕ). one_of n (0 ∷ test_numbers (x ∷ xs)) ≡ true) (sym is) (either (or_cases (eqb (first xs) 0) (one_of (first xs) (test_numbers xs)) (in-first xs))
    (λ y. or_left (eqb (first xs) 0) (one_of (first xs) (test_numbers (x ∷ xs))) y)
    (λ y. or_right (eqb (first xs) 0) (one_of (first xs) (test_numbers (x ∷ xs))) (or_right (eqb (first xs) x.number) (one_of (first xs) (test_numbers xs)) y))))

-- the tests but the first are apart too
apart-rest : (x : Test) (xs : List Test) → Apart (x ∷ xs) → Apart xs
apart-rest x xs d = (or-false-right (eqb 0 x.number) (one_of 0 (test_numbers xs)) d.0, d.1.1)

not-zero : (x : Test) (xs : List Test) → Apart (x ∷ xs) → x.number ≢ 0
not-zero x xs d e = clash (rw e refl) (or-false-left (eqb 0 x.number) (one_of 0 (test_numbers xs)) d.0)

-- Each number is given exactly where its test holds and none before it does, and 0 exactly where none holds.
pub gives : (before : List Test) (x : Test) (after : List Test) → Apart (before ++ (x ∷ after))
    → first (before ++ (x ∷ after)) ≡ x.number ↔ (NoneOf (holdings before) × (x.holds ≡ true))
gives [] x after d = (
  by-test x.holds
      (λ y. rw y (λ e. (tt, refl)))
      (λ y. rw y (λ e. either (or_cases (eqb (first after) 0) (one_of (first after) (test_numbers after)) (in-first after))
      (λ z. absurd (not-zero x after d (sym e ∙ eqb→≡ (first after) 0 z)))
      (λ z. clash (rw e at z) d.1.0))),
  λ h. rw h.1 refl,
)
gives (y ∷ ys) x after d =
    let ih = gives ys x after (apart-rest y (ys ++ (x ∷ after)) d) in (
      by-test y.holds
          (λ z. rw z (λ e. clash (in-middle ys x after) (rw e at d.1.0)))
          (λ z. rw z (λ e. let h = ih.0 e in ((refl, h.0), h.1))),
      λ h. rw h.0.0 (ih.1 (h.0.1, h.1)),
    )

pub gives_none : (l : List Test) → Apart l → first l ≡ 0 ↔ NoneOf (holdings l)
gives_none [] d = (λ e. tt, λ h. refl)
gives_none (x ∷ xs) d =
    let ih = gives_none xs (apart-rest x xs d) in (
      by-test x.holds (λ z. rw z (λ e. absurd (not-zero x xs d e))) (λ z. rw z (λ e. (refl, ih.0 e))),
      λ h. rw h.0 (ih.1 h.1),
    )

-- the tests of a call by their numbers
module _ (N : Numbers) (t : Lent) (q : Ask) where
  abbrev pub test1 : Bool
  test1 = unfit N

  abbrev pub test12 : Bool
  test12 = limit_outside N

  abbrev pub test2 : Bool
  test2 = wrong_buffers N t || wrong_block N.B (lent_block q)

  abbrev pub test3 : Bool
  test3 = outside N.P (address_of q)

  abbrev pub test6 : Bool
  test6 = addresses_unsound N.P N.m t.n t.addresses

  abbrev pub test7 : Bool
  test7 = blocks_unsound N.d t.blocks

  abbrev pub test8 : Bool
  test8 = dirty_uncached t.n N.d t.addresses t.blocks

  abbrev pub test13 : Bool
  test13 = over_limit N t

  abbrev pub test9 : Bool
  test9 = counts q && over t.counters

  abbrev pub number : ℕ
  number = refusal N t (calling q)

  -- "Checked in the order 1, 2, 3, 6, 7, 8, 9, the first that applies", 12 "right after 1" and 13 "right after 8": a call gets a number exactly when its
  -- test holds and none before it does
  pub record Exactly : Type 0 where
    pub gives-1 : number ≡ 1 ↔ (NoneOf [] × (test1 ≡ true))
    pub gives-12 : number ≡ 12 ↔ (NoneOf (test1 ∷ []) × (test12 ≡ true))
    pub gives-2 : number ≡ 2 ↔ (NoneOf (test1 ∷ test12 ∷ []) × (test2 ≡ true))
    pub gives-3 : number ≡ 3 ↔ (NoneOf (test1 ∷ test12 ∷ test2 ∷ []) × (test3 ≡ true))
    pub gives-6 : number ≡ 6 ↔ (NoneOf (test1 ∷ test12 ∷ test2 ∷ test3 ∷ []) × (test6 ≡ true))
    pub gives-7 : number ≡ 7 ↔ (NoneOf (test1 ∷ test12 ∷ test2 ∷ test3 ∷ test6 ∷ []) × (test7 ≡ true))
    pub gives-8 : number ≡ 8 ↔ (NoneOf (test1 ∷ test12 ∷ test2 ∷ test3 ∷ test6 ∷ test7 ∷ []) × (test8 ≡ true))
    pub gives-13 : number ≡ 13 ↔ (NoneOf (test1 ∷ test12 ∷ test2 ∷ test3 ∷ test6 ∷ test7 ∷ test8 ∷ []) × (test13 ≡ true))
    pub gives-9 : number ≡ 9 ↔ (NoneOf (test1 ∷ test12 ∷ test2 ∷ test3 ∷ test6 ∷ test7 ∷ test8 ∷ test13 ∷ []) × (test9 ≡ true))
    pub gives-0 : number ≡ 0 ↔ NoneOf (test1 ∷ test12 ∷ test2 ∷ test3 ∷ test6 ∷ test7 ∷ test8 ∷ test13 ∷ test9 ∷ [])
    pub no_other : one_of number (0 ∷ 1 ∷ 12 ∷ 2 ∷ 3 ∷ 6 ∷ 7 ∷ 8 ∷ 13 ∷ 9 ∷ []) ≡ true

  pub exactly : Exactly
  unfolding refusal
  exactly =
      let l = tests N t (calling q) in
      let d : Apart l = (refl, (refl, (refl, (refl, (refl, (refl, (refl, (refl, (refl, (refl, tt)))))))))) in
      record {
        gives-1 = gives [] (test test1 1) (drop 1 l) d;
        gives-12 = gives (take 1 l) (test test12 12) (drop 2 l) d;
        gives-2 = gives (take 2 l) (test test2 2) (drop 3 l) d;
        gives-3 = gives (take 3 l) (test test3 3) (drop 4 l) d;
        gives-6 = gives (take 4 l) (test test6 6) (drop 5 l) d;
        gives-7 = gives (take 5 l) (test test7 7) (drop 6 l) d;
        gives-8 = gives (take 6 l) (test test8 8) (drop 7 l) d;
        gives-13 = gives (take 7 l) (test test13 13) (drop 8 l) d;
        gives-9 = gives (take 8 l) (test test9 9) [] d;
        gives-0 = gives_none l d;
        no_other = in-first l;
      }

-- "Flush has no 3, look no 9"
pub flush-no-3 : (N : Numbers) (t : Lent) (k : ℕ) → refusal N t (calling (Ask.flush k)) ≢ 3
flush-no-3 N t k e = false≢true ((exactly N t (Ask.flush k)).gives-3.0 e).1

pub look-no-9 : (N : Numbers) (t : Lent) (a : ℕ) → refusal N t (calling (Ask.look a)) ≢ 9
look-no-9 N t a e = false≢true ((exactly N t (Ask.look a)).gives-9.0 e).1

pub exactly-opening : (N : Numbers) (t : Lent) → ExactlyOpening N t
unfolding refusal
exactly-opening N t =
    let l = tests N t opening in
    let d : Apart l = (refl, (refl, (refl, (refl, tt)))) in
    record {
      gives-1 = gives [] (test (unfit N) 1) (drop 1 l) d;
      gives-12 = gives (take 1 l) (test (limit_outside N) 12) (drop 2 l) d;
      gives-2 = gives (take 2 l) (test (wrong_buffers N t) 2) [] d;
      gives-0 = gives_none l d;
      no_other = in-first l;
    }

-- a served call, and "a refused call returns its number and the box record as given ..; every buffer and counter keeps its bytes"
pub served-is : (N : Numbers) (t : Lent) (q : Ask) → refusal N t (calling q) ≡ 0 → call N t q ≡ served N t q
unfolding call
served-is N t q e = rw e refl

pub refused-keeps : (N : Numbers) (t : Lent) (q : Ask) → refusal N t (calling q) ≢ 0 → call N t q ≡ kept (refusal N t (calling q)) t q
unfolding call
refused-keeps N t q n = rw (ne_eqb (refusal N t (calling q)) 0 n) refl

pub keeps : (N : Numbers) (t : Lent) (q : Ask) → refusal N t (calling q) ≢ 0 → Keeps N t q
unfolding kept
keeps N t q n =
    let e = refused-keeps N t q n in
    record { answer = ap (λ a. a.answer) e; lent = ap (λ a. a.lent) e; block = ap (λ a. a.block) e; part = ap (λ a. a.part) e }

-- "a refused opening: the numbers given, with n = 0"
pub refused-opening : (N : Numbers) (t : Lent) → refusal N t opening ≢ 0 → opened N t ≡ unopened t
unfolding opened
refused-opening N t n = rw (ne_eqb (refusal N t opening) 0 n) refl

pub keeps-opening : (N : Numbers) (t : Lent) → refusal N t opening ≢ 0 → KeepsOpening N t
unfolding unopened
keeps-opening N t z =
    let e = refused-opening N t z in
    record {
      n = ap (λ a. a.n) e;
      disk = ap (λ a. a.disk) e;
      flash = ap (λ a. a.flash) e;
      addresses = ap (λ a. a.addresses) e;
      blocks = ap (λ a. a.blocks) e;
      counters = ap (λ a. a.counters) e;
    }

pub opened-is : (N : Numbers) (t : Lent) → refusal N t opening ≡ 0 → opened N t ≡ fresh N t
unfolding opened
opened-is N t e = rw e refl

-- U6: "The box record carries the label, given at opening (zeros if refused)."
pub label-carried : (N : Numbers) (t : Lent) → refusal N t opening ≡ 0 → label_after N t ≡ N.label
unfolding label_after
label-carried N t e = rw e refl

pub label-zeros : (N : Numbers) (t : Lent) → refusal N t opening ≢ 0 → label_after N t ≡ zeros 64
unfolding label_after
label-zeros N t n = rw (ne_eqb (refusal N t opening) 0 n) refl
