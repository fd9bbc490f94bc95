-- Names of four bytes stay so in every move; lists that are empty. Assumes nothing.
use mathlib.Core.Path.{◌≡◌, refl, sym, ap, ◌∙◌, subst}
use mathlib.Core.Bool.{true, false, cond}
use mathlib.Core.List.{List, [], ◌∷◌, ◌++◌, append_assoc}
use Prim.Native.Nat.{ℕ, suc, ◌+◌, ◌^◌, ◌≤◌, ◌<◌}
use native.Mathlib.Omega.{arith}
use lib.Dec.{eqb}
use lib.ListN.{length, take, drop, length-append}
use lib.Seq.{take-append_seam}
use borrow.Author.Tests.{lt-ltb}
use Rattle.tables.specs.Find.{all}
use Rattle.tables.specs.Sound.{distinct}
use Rattle.paper.specs.KeyedLaws.{All, all_append, all_map, by-test, eqb-self}
use Rattle.arc.specs.Arc.{Lists, is_in}
use Rattle.arc.specs.Tally.{count, tally-first, tally-append, tally-has, length_none}
use Rattle.arc.specs.ArcMid.{named}
use Rattle.arc.specs.ArcLent.{words, end_to_end}
use Rattle.arc.proofs.ArcLentLaws.{words_take}
use Rattle.arclists.specs.declared.ListSizes.{ListSizes}
use Rattle.arclists.specs.declared.ListName.{ListName}
use Rattle.arclists.specs.declared.ListName.TheVariants.{T1, T2, B1, B2, B3}
use Rattle.arclists.specs.Holding.{total, Sized, Holds, Low, names_of, with_names, out_of, moved, size_of, rank}
use Rattle.arclists.specs.MoveLaws.{size-is, others}
use Rattle.arclists.specs.LeaveLaws.{read_back}
use Rattle.arclists.specs.Names.{possible, fine}
use Rattle.arclists.specs.NameLaws.{elem_in}
use Rattle.arcstep.specs.Runs.{Small}

abbrev P : ℕ → Type 0
P a = a < 65536

all-later : (l : List ℕ) → All P l → All P (drop 1 l)
all-later [] h = tt
all-later (x ∷ l) h = h.1

all_first : (l : List ℕ) → All P l → All P (take 1 l)
all_first [] h = tt
all_first (x ∷ l) h = (h.0, tt)

pub small_low : (l : Lists) → Small l → Low l
small_low l h =
    all_map P (λ a. a < 2 ^ 32) (λ a b. omega (arith, b)) (end_to_end l)
    (all_append P l.T1 (l.T2 ++ (l.B1 ++ (l.B2 ++ l.B3))) h.t1
    (all_append P l.T2 (l.B1 ++ (l.B2 ++ l.B3)) h.t2
    (all_append P l.B1 (l.B2 ++ l.B3) h.b1 (all_append P l.B2 l.B3 h.b2 h.b3))))

-- the names list by list
all-of : (x : ListName) {l : Lists} → Small l → All P (names_of x l)
all-of T1 h = h.t1
all-of T2 h = h.t2
all-of B1 h = h.b1
all-of B2 h = h.b2
all-of B3 h = h.b3

named-with : (x : ListName) (xs : List ℕ) (l : Lists) (a : ℕ) → named a (with_names x xs l) + count a (names_of x l) ≡ named a l + count a xs
named-with T1 xs l a = omega arith
named-with T2 xs l a = omega arith
named-with B1 xs l a = omega arith
named-with B2 xs l a = omega arith
named-with B3 xs l a = omega arith

small-with : (x : ListName) (xs : List ℕ) {l : Lists} → Small l → All P xs → ((a : ℕ) → named a (with_names x xs l) ≤ 1) → Small (with_names x xs l)
small-with T1 xs h b n = record { t1 = b; t2 = h.t2; b1 = h.b1; b2 = h.b2; b3 = h.b3; single = n }
small-with T2 xs h b n = record { t1 = h.t1; t2 = b; b1 = h.b1; b2 = h.b2; b3 = h.b3; single = n }
small-with B1 xs h b n = record { t1 = h.t1; t2 = h.t2; b1 = b; b2 = h.b2; b3 = h.b3; single = n }
small-with B2 xs h b n = record { t1 = h.t1; t2 = h.t2; b1 = h.b1; b2 = b; b3 = h.b3; single = n }
small-with B3 xs h b n = record { t1 = h.t1; t2 = h.t2; b1 = h.b1; b2 = h.b2; b3 = b; single = n }

-- the names when the oldest of x has left, or has become the newest of y
pub small-out : (l : Lists) → Small l → (x : ListName) → Small (out_of x l)
small-out l h x =
    let xs = names_of x l in
    small-with x (drop 1 xs) h (all-later xs (all-of x h))
    (λ a. let e = named-with x (drop 1 xs) l a in let f = tally-first (λ z. z) a xs in let s = h.single a in omega (arith, e, f, s))

pub small-moved : (x y : ListName) → rank x < rank y → (l : Lists) → Small l → Small (moved x y l)
small-moved x y r l h =
    let xs = names_of x l in
    let ys = names_of y l in
    let o = out_of x l in
    small-with y (ys ++ take 1 xs) (small-out l h x) (all_append P ys (take 1 xs) (all-of y h) (all_first xs (all-of x h)))
    (λ a.
    let d = named-with x (drop 1 xs) l a in
    let e = named-with y (ys ++ take 1 xs) o a in
    let k = ap (count a) (others x y (drop 1 xs) l r) in
    let f = tally-first (λ z. z) a xs in
    let g = tally-append (λ z. z) a ys (take 1 xs) in
    let s = h.single a in
    omega (arith, d, e, k, f, g, s))

-- names that are each there once are different
counted-distinct : (l : List ℕ) → ((x : ℕ) → count x l ≤ 1) → distinct l ≡ true
unfolding distinct
counted-distinct [] h = refl
counted-distinct (x ∷ xs) h =
    let none : is_in x xs ≡ false = by-test (is_in x xs)
    (λ e. let k = tally-has (λ z. z) x xs e in
    let one : suc (count x xs) ≤ 1 = subst (λ b. cond b (suc (count x xs)) (count x xs) ≤ 1) (eqb-self x) (h x) in absurd (omega (arith, k, one)))
    (λ e. e) in
    rw (elem_in x xs ∙ none) (counted-distinct xs (λ y. let e = h y in
    by-test (eqb y x) (λ q. let f = rw q at e in omega (arith, f)) (λ q. let f = rw q at e in f)))

all-possible : (l : List ℕ) → All P l → all possible l ≡ true
unfolding all
all-possible [] h = refl
all-possible (x ∷ xs) h = rw (lt-ltb x 65536 h.0) (all-possible xs h.1)

-- T1 and T2 end to end
abbrev pub tops : Lists → List ℕ
tops l = l.T1 ++ l.T2

pub tops-fine : (l : Lists) → Small l → fine (tops l) ≡ true
unfolding fine
tops-fine l h =
    rw (
      all-possible (tops l) (all_append P l.T1 l.T2 h.t1 h.t2),
      counted-distinct (tops l) (λ x. let e = tally-append (λ z. z) x l.T1 l.T2 in let f = h.single x in omega (arith, e, f)),
    ) refl

pub tops-read : {m : ℕ} {s : ListSizes} {t : List ℕ} {l : Lists} → Holds m s t l → Small l → (n : ℕ) → n ≡ s.t1 + s.t2 → words n t ≡ tops l
tops-read {m} {s} {t} {l} h q n e =
    let rest = l.B1 ++ (l.B2 ++ l.B3) in
    let k : n ≡ length (tops l) = omega (arith, e, length-append l.T1 l.T2, h.sized.t1-is, h.sized.t2-is) in
    sym (words_take n (total s) t (omega (arith, e)))
    ∙ ap (take n) (read_back h (small_low l q) (total s) refl ∙ sym (append_assoc l.T1 l.T2 rest))
    ∙ ap (λ (i : ℕ). take i (tops l ++ rest)) k ∙ take-append_seam (tops l) rest

pub names-none : (x : ListName) (s : ListSizes) (l : Lists) → Sized s l → size_of x s ≡ 0 → names_of x l ≡ []
names-none x s l z e = length_none (names_of x l) (sym (size-is x z) ∙ e)
