-- Two fingerprints compared by words of eight bytes. Assumes nothing.
use mathlib.Core.Path.{◌≡◌, refl, sym, ap, ◌∙◌}
use mathlib.Core.Bool.{true, false}
use Prim.Native.Nat.{ℕ, zero, suc, ◌+◌, ◌-◌, ◌*◌, ◌<◌}
use mathlib.Core.List.{List}
use native.Mathlib.Omega.{arith}
use lib.Dec.{ltb}
use lib.ListN.{length, get_or}
use lib.Seq.{ext_get_or}
use borrow.Author.Tests.{ltb-true, ltb-false}
use Rattle.tables.specs.Rows.{le8}
use Rattle.tables.specs.Find.{same}
use Rattle.tables.specs.FindLaws.{same_refl}
use Rattle.tables.specs.SoundLaws.{same_true, not-true-false}

digit : (a b x y : ℕ) → a < 256 → b < 256 → a + 256 * x ≡ b + 256 * y → (a ≡ b) × (x ≡ y)
digit a b x y h g e = (omega arith, omega arith)

eight : (P : ℕ → Type 0) → P 0 → P 1 → P 2 → P 3 → P 4 → P 5 → P 6 → P 7 → (i : ℕ) → i < 8 → P i
eight P a b c d e f g h zero l = a
eight P a b c d e f g h (suc zero) l = b
eight P a b c d e f g h (suc (suc zero)) l = c
eight P a b c d e f g h (suc (suc (suc zero))) l = d
eight P a b c d e f g h (suc (suc (suc (suc zero)))) l = e
eight P a b c d e f g h (suc (suc (suc (suc (suc zero))))) l = f
eight P a b c d e f g h (suc (suc (suc (suc (suc (suc zero)))))) l = g
eight P a b c d e f g h (suc (suc (suc (suc (suc (suc (suc zero))))))) l = h
eight P a b c d e f g h (suc (suc (suc (suc (suc (suc (suc (suc i)))))))) l = absurd (omega arith)

-- a number of eight digits below 256
abbrev horner : (ℕ → ℕ) → ℕ
horner f = f 0 + 256 * (f 1 + 256 * (f 2 + 256 * (f 3 + 256 * (f 4 + 256 * (f 5 + 256 * (f 6 + 256 * f 7))))))

digits : (f g : ℕ → ℕ) → ((i : ℕ) → f i < 256) → ((i : ℕ) → g i < 256) → horner f ≡ horner g → (i : ℕ) → i < 8 → f i ≡ g i
digits f g h k e =
    let d0 = digit (f 0) (g 0) _ _ (h 0) (k 0) e in
    let d1 = digit (f 1) (g 1) _ _ (h 1) (k 1) d0.1 in
    let d2 = digit (f 2) (g 2) _ _ (h 2) (k 2) d1.1 in
    let d3 = digit (f 3) (g 3) _ _ (h 3) (k 3) d2.1 in
    let d4 = digit (f 4) (g 4) _ _ (h 4) (k 4) d3.1 in
    let d5 = digit (f 5) (g 5) _ _ (h 5) (k 5) d4.1 in
    let d6 = digit (f 6) (g 6) _ _ (h 6) (k 6) d5.1 in
    eight (λ i. f i ≡ g i) d0.0 d1.0 d2.0 d3.0 d4.0 d5.0 d6.0 d6.1

le8-horner : (t : List ℕ) (at : ℕ) → le8 t at ≡ horner (λ i. get_or t (at + i) 0)
le8-horner t at = let z : at + 0 ≡ at = omega arith in rw z (omega arith)

-- f and g agree up to place k
abbrev pub Agree : List ℕ → List ℕ → ℕ → Type 0
Agree f g k = (i : ℕ) → i < k → get_or f i 0 ≡ get_or g i 0

module _ (f g : List ℕ) where
  pub agree-more : (k : ℕ) → ((i : ℕ) → get_or f i 0 < 256) → ((i : ℕ) → get_or g i 0 < 256) → le8 f k ≡ le8 g k → Agree f g k → Agree f g (k + 8)
  agree-more k h l e a i b =
      elim (ltb i k) as (λ q. ltb i k ≡ q → get_or f i 0 ≡ get_or g i 0) [
        | true ↦ λ o. a i (ltb-true i k o)
        | false ↦ λ o.
            (let m = ltb-false i k o in
            let y : k + (i - k) ≡ i = omega arith in
            let d : get_or f (k + (i - k)) 0 ≡ get_or g (k + (i - k)) 0 =
            digits (λ j. get_or f (k + j) 0) (λ j. get_or g (k + j) 0) (λ j. h (k + j)) (λ j. l (k + j)) (sym (le8-horner f k) ∙ e ∙ le8-horner g k) (i - k) (omega arith) in
            ap (λ (z : ℕ). get_or f z 0) (sym y) ∙ d ∙ ap (λ (z : ℕ). get_or g z 0) y)
      ] refl

  pub words-differ : (k : ℕ) → (le8 f k ≡ le8 g k → ⊥) → false ≡ same f g
  words-differ k n = sym (not-true-false (same f g) (λ e. n (ap (λ (l : List ℕ). le8 l k) (same_true f g e))))

  pub agree_same : length f ≡ 32 → length g ≡ 32 → Agree f g 32 → true ≡ same f g
  agree_same h l a =
      let e : f ≡ g = ext_get_or 0 f g (h ∙ sym l) (λ i b. a i (omega arith)) in
      sym (rw e (same_refl g))
