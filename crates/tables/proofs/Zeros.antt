-- Zeros by words of eight bytes. Assumes nothing.
use mathlib.Core.Path.{◌≡◌, refl, sym, ap, ◌∙◌}
use mathlib.Core.Bool.{Bool, true, false, ◌&&◌}
use mathlib.Core.List.{List}
use Prim.Native.Nat.{ℕ, ◌+◌, ◌≤◌, ◌<◌}
use native.Mathlib.Omega.{arith}
use lib.Dec.{eqb}
use lib.ListN.{length, get_or, drop, length-drop}
use lib.Seq.{get_or-drop}
use borrow.Author.Tests.{eq-eqb, eqb-true, eqb-false}
use Rattle.tables.specs.Rows.{le8}
use Rattle.tables.specs.Find.{all}
use Rattle.tables.specs.Sound.{is_zero}
use Rattle.tables.specs.FindLaws.{all-hit, all_end}
use Rattle.tables.specs.SoundLaws.{all-at, not-true-false}

next-zero : (t : List ℕ) (i j : ℕ) → j ≡ i + 1 → i < length t → get_or t i 0 ≡ 0 → all is_zero (drop i t) ≡ all is_zero (drop j t)
next-zero t i j e h z = all-hit is_zero t i 0 h (eq-eqb (get_or t i 0) 0 z) ∙ ap (λ (k : ℕ). all is_zero (drop k t)) (sym e)

-- a word that is zero has zeros only
word-zero : (t : List ℕ) (i j : ℕ) → j ≡ i + 8 → j ≤ length t → le8 t i ≡ 0 → all is_zero (drop i t) ≡ all is_zero (drop j t)
word-zero t i j e h w =
    next-zero t i (i + 1) refl (omega arith) (omega (arith, w))
    ∙ next-zero t (i + 1) (i + 2) (omega arith) (omega arith) (omega (arith, w))
    ∙ next-zero t (i + 2) (i + 3) (omega arith) (omega arith) (omega (arith, w))
    ∙ next-zero t (i + 3) (i + 4) (omega arith) (omega arith) (omega (arith, w))
    ∙ next-zero t (i + 4) (i + 5) (omega arith) (omega arith) (omega (arith, w))
    ∙ next-zero t (i + 5) (i + 6) (omega arith) (omega arith) (omega (arith, w))
    ∙ next-zero t (i + 6) (i + 7) (omega arith) (omega arith) (omega (arith, w))
    ∙ next-zero t (i + 7) j (omega arith) (omega arith) (omega (arith, w))

zero-at : (t : List ℕ) (i j : ℕ) → i + j < length t → all is_zero (drop i t) ≡ true → get_or t (i + j) 0 ≡ 0
zero-at t i j b e =
    let l : j < length (drop i t) = simp length-drop (omega arith) in
    sym (get_or-drop i t j 0) ∙ eqb-true (get_or (drop i t) j 0) 0 (all-at is_zero (drop i t) j 0 e l)

-- zeros only make a word of zero
zero_word : (t : List ℕ) (i : ℕ) → i + 8 ≤ length t → all is_zero (drop i t) ≡ true → le8 t i ≡ 0
zero_word t i b e =
    let n : i + 0 ≡ i = omega arith in
    let z0 : get_or t i 0 ≡ 0 = ap (λ (k : ℕ). get_or t k 0) (sym n) ∙ zero-at t i 0 (omega arith) e in
    let z1 = zero-at t i 1 (omega arith) e in
    let z2 = zero-at t i 2 (omega arith) e in
    let z3 = zero-at t i 3 (omega arith) e in
    let z4 = zero-at t i 4 (omega arith) e in
    let z5 = zero-at t i 5 (omega arith) e in
    let z6 = zero-at t i 6 (omega arith) e in
    let z7 = zero-at t i 7 (omega arith) e in
    omega (arith, z0, z1, z2, z3, z4, z5, z6, z7)

-- a word, then the bytes behind it
word-step : (t : List ℕ) (i j : ℕ) → j ≡ i + 8 → j ≤ length t → all is_zero (drop i t) ≡ eqb (le8 t i) 0 && all is_zero (drop j t)
word-step t i j e h = elim (eqb (le8 t i) 0) as (λ q. eqb (le8 t i) 0 ≡ q → all is_zero (drop i t) ≡ q && all is_zero (drop j t)) [
  | true ↦ λ q. word-zero t i j e h (eqb-true (le8 t i) 0 q)
  | false ↦ λ q. not-true-false (all is_zero (drop i t)) (λ z. eqb-false (le8 t i) 0 q (zero_word t i (omega arith) z))
] refl

-- four words, then the bytes behind them
four-words : (t : List ℕ) → 32 ≤ length t → all is_zero t ≡ eqb (le8 t 0) 0 && (eqb (le8 t 8) 0 && (eqb (le8 t 16) 0 && (eqb (le8 t 24) 0 && all is_zero (drop 32 t))))
four-words t h =
    word-step t 0 8 refl (omega arith)
    ∙ ap (λ (b : Bool). eqb (le8 t 0) 0 && b)
    (word-step t 8 16 refl (omega arith)
    ∙ ap (λ (b : Bool). eqb (le8 t 8) 0 && b)
    (word-step t 16 24 refl (omega arith) ∙ ap (λ (b : Bool). eqb (le8 t 16) 0 && b) (word-step t 24 32 refl (omega arith))))

gather : (a b c d e : Bool) → (((a && b) && c) && d) && e ≡ a && (b && (c && (d && e)))
gather true true true true e = refl
gather true true true false e = refl
gather true true false d e = refl
gather true false c d e = refl
gather false b c d e = refl

nowhere : (a b c d : Bool) → a && (b && (c && (d && false))) ≡ false
nowhere true true true true = refl
nowhere true true true false = refl
nowhere true true false d = refl
nowhere true false c d = refl
nowhere false b c d = refl

-- four words that are all z, where z is zero
abbrev pub AllAre : List ℕ → ℕ → Bool
AllAre t z = ((eqb (le8 t 0) z && eqb (le8 t 8) z) && eqb (le8 t 16) z) && eqb (le8 t 24) z

all_are : (t : List ℕ) (z : ℕ) → AllAre t z && eqb z 0 ≡ eqb (le8 t 0) 0 && (eqb (le8 t 8) 0 && (eqb (le8 t 16) 0 && (eqb (le8 t 24) 0 && eqb z 0)))
all_are t z =
    let w0 = le8 t 0 in
    let w1 = le8 t 8 in
    let w2 = le8 t 16 in
    let w3 = le8 t 24 in
    gather (eqb w0 z) (eqb w1 z) (eqb w2 z) (eqb w3 z) (eqb z 0)
    ∙ elim (eqb z 0) as (λ q. eqb z 0 ≡ q → eqb w0 z && (eqb w1 z && (eqb w2 z && (eqb w3 z && q))) ≡ eqb w0 0 && (eqb w1 0 && (eqb w2 0 && (eqb w3 0 && q)))) [
      | true ↦ λ e. ap (λ (x : ℕ). eqb w0 x && (eqb w1 x && (eqb w2 x && (eqb w3 x && true)))) (eqb-true z 0 e)
      | false ↦ λ e. nowhere (eqb w0 z) (eqb w1 z) (eqb w2 z) (eqb w3 z) ∙ sym (nowhere (eqb w0 0) (eqb w1 0) (eqb w2 0) (eqb w3 0))
    ] refl

-- a row of forty bytes, and the 32 of a fingerprint, are zero
pub zero_row_lem : (r : List ℕ) → length r ≡ 40 → AllAre r (le8 r 32) && eqb (le8 r 32) 0 ≡ all is_zero r
zero_row_lem r l =
    let last : all is_zero (drop 32 r) ≡ eqb (le8 r 32) 0 = word-step r 32 40 refl (omega arith) ∙ ap (λ (b : Bool). eqb (le8 r 32) 0 && b) (all_end is_zero r 40 0 (omega arith)) ∙ and_yes (eqb (le8 r 32) 0) in
    all_are r (le8 r 32)
    ∙ sym (four-words r (omega arith) ∙ ap (λ (b : Bool). eqb (le8 r 0) 0 && (eqb (le8 r 8) 0 && (eqb (le8 r 16) 0 && (eqb (le8 r 24) 0 && b)))) last)
  where
    and_yes : (b : Bool) → b && true ≡ b
    and_yes true = refl
    and_yes false = refl

pub zero-print : (g : List ℕ) → length g ≡ 32 → AllAre g (le8 g 24) && eqb (le8 g 24) 0 ≡ all is_zero g
zero-print g l =
    all_are g (le8 g 24)
    ∙ ap (λ (b : Bool). eqb (le8 g 0) 0 && (eqb (le8 g 8) 0 && (eqb (le8 g 16) 0 && b))) (same-twice (eqb (le8 g 24) 0))
    ∙ sym (four-words g (omega arith) ∙ ap (λ (b : Bool). eqb (le8 g 0) 0 && (eqb (le8 g 8) 0 && (eqb (le8 g 16) 0 && (eqb (le8 g 24) 0 && b)))) (all_end is_zero g 32 0 (omega arith)))
  where
    same-twice : (b : Bool) → b && b ≡ b && true
    same-twice true = refl
    same-twice false = refl
