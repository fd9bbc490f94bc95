-- What `io::decimal` puts into its array is `decimal`, by induction on the count of digits.
use mathlib.Core.Path.{◌≡◌, sym, ap, ap₂, ◌∙◌, subst}
use mathlib.Core.List.{List, [], ◌∷◌, ◌++◌}
use Prim.Native.Nat.{ℕ, zero, suc, ◌+◌, ◌-◌, ◌/◌, ◌%◌, ◌^◌, ◌≤◌, ◌<◌}
use native.Mathlib.Nat.{mod-eq_of_lt, not-suc-le-zero, sub-zero, pow-le-pow_right}
use native.Mathlib.Omega.{arith}
use lib.Dec.{leb, lit<}
use lib.ListN.{take}
use borrow.Author.Tests.{lt-ltb, le-ltb, leb-true, leb-false}
use Rattle.io.specs.Digits.{last_digits, hex_digit_ascii, IsDigitCount}
use Rattle.paper.specs.KeyedLaws.{by-test}
use Rattle.lines.specs.Text.{decimal_in, decimal}
pub use Rattle.print.specs.DecimalLaws.{decimal-length}

glyph-is : (n : ℕ) → hex_digit_ascii (n % 10) ≡ 48 + n % 10
glyph-is n = rw (lt-ltb (n % 10) 10 (omega arith))

down : (k : ℕ) → suc k - 1 ≡ k
down k = omega arith

tenth : (k n : ℕ) → 10 ^ suc k ≤ n → 10 ^ (suc k - 1) ≤ n / 10
tenth k n b = subst (λ j. 10 ^ j ≤ n / 10) (sym (down k)) (omega arith)

fewest-is : (f k n : ℕ) → suc k ≤ f → n < 10 ^ suc k → (1 < suc k → 10 ^ (suc k - 1) ≤ n) → decimal_in f n ≡ last_digits 10 (suc k) n
unfolding decimal_in
fewest-is zero k n h lt le = absurd (not-suc-le-zero h)
fewest-is (suc f) zero n h lt le =
    let small : n < 10 = omega arith in
    rw (lt-ltb n 10 small) (ap {B = List ℕ} (λ x. x ∷ []) (sym (glyph-is n ∙ ap (λ y. 48 + y) (mod-eq_of_lt small))))
fewest-is (suc f) (suc k) n h lt le =
    let big : 10 ^ suc k ≤ n = subst (λ j. 10 ^ j ≤ n) (down (suc k)) (le (omega arith)) in
    rw (le-ltb n 10 (omega arith))
    (ap₂ {C = List ℕ} (λ xs y. xs ++ (y ∷ []))
    (fewest-is f k (n / 10) (omega arith) (omega arith) (λ m. tenth k n big))
    (sym (glyph-is n)))

pub decimal-is : (n k : ℕ) → IsDigitCount 10 1 n k → k ≤ 20 → decimal n ≡ last_digits 10 k n
unfolding decimal
decimal-is n zero e h = absurd (not-suc-le-zero e.0)
decimal-is n (suc k) e h = fewest-is 20 k n h e.1 e.2

-- a number of 64 bits has at most 20 digits
fewest-few : (n k : ℕ) → n < 2 ^ 64 → IsDigitCount 10 1 n k → k ≤ 20
fewest-few n k h f =
    by-test (leb k 20)
    (λ y. leb-true k 20 y)
    (λ y.
    let far : 20 < k = leb-false k 20 y in
    let big : 10 ^ 20 ≤ 10 ^ (k - 1) = pow-le-pow_right {n = 10} (lit< tt) {i = 20} {j = k - 1} (omega arith) in
    let low : 10 ^ (k - 1) ≤ n = f.2 (omega arith) in
    absurd (too_many (10 ^ (k - 1)) n big low h))
  where
    too_many : (p n : ℕ) → 10 ^ 20 ≤ p → p ≤ n → n < 2 ^ 64 → ⊥
    too_many p n a b c = omega arith

-- the first k bytes of the array, as they are handed on
pub spelled : (n k : ℕ) (l : List ℕ) → n < 2 ^ 64 → IsDigitCount 10 1 n k → take k l ≡ last_digits 10 k n → take (k - 0) l ≡ decimal n
spelled n k l m f e = ap (λ j. take j l) (sub-zero k) ∙ e ∙ sym (decimal-is n k f (fewest-few n k m f))
