-- The numbers that may be missing. A law follows the definition's tests, by what the code's tests showed. Assumes nothing.
use mathlib.Core.Path.{◌≡◌, refl}
use mathlib.Core.Bool.{Bool, true, false, ◌&&◌}
use mathlib.Core.List.{List}
use Rattle.std.specs.Prelude.{Some, None}
use Prim.Native.Nat.{ℕ, zero, suc, ◌+◌, ◌-◌, ◌*◌, ◌≤◌, ◌<◌}
use native.Mathlib.Omega.{arith}
use native.Mathlib.Numerals.{add-one}
use lib.ListN.{length, drop, get_or, drop_of_length-le}
use lib.Seq.{drop-cons}
use borrow.Author.Tests.{eq-eqb, ne_eqb, le-leb, lt-leb, lt-ltb, le-ltb}
use Rattle.lines.specs.Lines.{digits_from, number, hex_digit, pair, byte}

and-right : (a : Bool) {b : Bool} → b ≡ false → (a && b) ≡ false
and-right true e = e
and-right false e = refl

-- the first number that has so many digits more than one
abbrev pub ten : ℕ → ℕ
ten zero = 1
ten (suc k) = ten k * 10

pub ten-more : (k v d : ℕ) → v < ten k → d ≤ 9 → v * 10 + d < ten (k + 1)
ten-more k v d h e = rw add-one (omega arith)

pub ten-most : (k : ℕ) → k ≤ 5 → ten k ≤ 100000
ten-most zero h = omega arith
ten-most (suc zero) h = omega arith
ten-most (suc (suc zero)) h = omega arith
ten-most (suc (suc (suc zero))) h = omega arith
ten-most (suc (suc (suc (suc zero)))) h = omega arith
ten-most (suc (suc (suc (suc (suc zero))))) h = omega arith
ten-most (suc (suc (suc (suc (suc (suc k)))))) h = absurd (omega arith)

-- digit by digit
module _ (n : ℕ) (w : List ℕ) (i : ℕ) where
  pub digit : i < length w → 48 ≤ get_or w i 0 → get_or w i 0 ≤ 57 → digits_from n (drop i w) ≡ digits_from (n * 10 + (get_or w i 0 - 48)) (drop (i + 1) w)
  unfolding digits_from
  digit h a b = rw (add-one, drop-cons w i 0 h, le-leb _ _ a, le-leb _ _ b)

  pub digit-below : i < length w → get_or w i 0 < 48 → digits_from n (drop i w) ≡ None
  unfolding digits_from
  digit-below h a = rw (drop-cons w i 0 h, lt-leb _ _ a)

  pub digit-above : i < length w → 48 ≤ get_or w i 0 → 57 < get_or w i 0 → digits_from n (drop i w) ≡ None
  unfolding digits_from
  digit-above h a b = rw (drop-cons w i 0 h, le-leb _ _ a, lt-leb _ _ b)

  pub digits-end : length w ≤ i → digits_from n (drop i w) ≡ Some n
  unfolding digits_from
  digits-end h = rw (drop_of_length-le w h)

-- a word that is no decimal: none, too long, or a zero before other digits
module _ (w : List ℕ) where
  pub number-none : length w < 1 → number w ≡ None
  unfolding number
  number-none h = rw (lt-leb _ _ h)

  pub number-long : 5 < length w → number w ≡ None
  unfolding number
  number-long h = let a : 1 ≤ length w = omega arith in rw (le-leb _ _ a, lt-leb _ _ h)

  pub number-zero : 1 < length w → length w ≤ 5 → get_or w 0 0 ≡ 48 → number w ≡ None
  unfolding number
  number-zero h k e = let a : 1 ≤ length w = omega arith in rw (le-leb _ _ a, le-leb _ _ k, eq-eqb _ _ e, lt-ltb _ _ h)

  -- one that is
  pub number_short : 1 ≤ length w → length w ≤ 1 → number w ≡ digits_from 0 w
  unfolding number
  number_short a h = let k : length w ≤ 5 = omega arith in rw (le-leb _ _ a, le-leb _ _ k, and-right _ (le-ltb _ _ h))

  pub number-plain : 1 ≤ length w → length w ≤ 5 → (get_or w 0 0 ≡ 48 → ⊥) → number w ≡ digits_from 0 w
  unfolding number
  number-plain a k e = rw (le-leb _ _ a, le-leb _ _ k, ne_eqb _ _ e)

-- a hexadecimal digit, or none
module _ (c : ℕ) where
  pub hex-low : 48 ≤ c → c ≤ 57 → hex_digit c ≡ Some (c - 48)
  unfolding hex_digit
  hex-low a b = rw (le-leb _ _ a, le-leb _ _ b)

  pub hex-high : 65 ≤ c → c ≤ 70 → hex_digit c ≡ Some (c - 65 + 10)
  unfolding hex_digit
  hex-high a b =
      let d : 57 < c = omega arith in
      let e : c - 55 ≡ c - 65 + 10 = omega arith in
      rw (and-right _ (lt-leb _ _ d), le-leb _ _ a, le-leb _ _ b, e)

  pub hex-below : c < 48 → hex_digit c ≡ None
  unfolding hex_digit
  hex-below a = let d : c < 65 = omega arith in rw (lt-leb _ _ a, lt-leb _ _ d)

  pub hex-between : 57 < c → c < 65 → hex_digit c ≡ None
  unfolding hex_digit
  hex-between a b = rw (and-right _ (lt-leb _ _ a), lt-leb _ _ b)

  pub hex-above : 70 < c → hex_digit c ≡ None
  unfolding hex_digit
  hex-above a = let d : 57 < c = omega arith in rw (and-right _ (lt-leb _ _ d), and-right _ (lt-leb _ _ a))

-- two of them
module _ (w : List ℕ) where
  pub byte-length : (length w ≡ 2 → ⊥) → byte w ≡ None
  unfolding byte
  byte-length h = rw (ne_eqb _ _ h)

  module _ (two : length w ≡ 2) where
    pub byte-first : hex_digit (get_or w 0 0) ≡ None → byte w ≡ None
    unfolding byte pair
    byte-first h = rw (eq-eqb _ _ two, h)

    module _ (x : ℕ) (first : hex_digit (get_or w 0 0) ≡ Some x) where
      pub byte-second : hex_digit (get_or w 1 0) ≡ None → byte w ≡ None
      unfolding byte pair
      byte-second h = rw (eq-eqb _ _ two, first, h)

      pub byte-both : (y : ℕ) → hex_digit (get_or w 1 0) ≡ Some y → byte w ≡ Some (x * 16 + y)
      unfolding byte pair
      byte-both y h = rw (eq-eqb _ _ two, first, h)
