-- Bits in an array of bytes, eight numbers to a byte: what the check for distinct numbers marks. Assumes nothing.
use Rattle.std.specs.Prelude.{◌≡◌, refl, Bool, true, false, cond, ◌&&◌, List, ℕ, zero, suc, ◌+◌, ◌*◌, ◌/◌, ◌%◌, ◌^◌, ◌≤◌, ◌<◌, eqb, ltb, length, get_or, set, replicate}
use Rattle.std.proofs.Common.{sym, ap, ◌∙◌, mod-eq_of_lt, one-mul, arith, get_or-set_same, get_or-set_other, eqb-true, ltb-true, eq-eqb, ne_eqb}
use Rattle.std.proofs.Math.Nat.{zero-div}
use Rattle.std.proofs.lemmas.List.{get_or-replicate, length-replicate}
use Rattle.std.proofs.lemmas.Bool.{eqb-false}
use Rattle.tables.specs.Records.{slots_from}
use Rattle.tables.specs.Find.{all}
use Rattle.tables.specs.SoundLaws.{and_left, and_right}

-- the bit of x
abbrev pub bit_at : List ℕ → ℕ → ℕ
bit_at s x = get_or s (x / 8) 0 / 2 ^ (x % 8) % 2

-- bit i of the byte b, where it is clear, set: what bit j is then
sets_one : ℕ → ℕ → ℕ → Bool
sets_one b i j = cond (eqb (b / 2 ^ i % 2) 0) (ltb (b + 2 ^ i) 256 && eqb ((b + 2 ^ i) / 2 ^ j % 2) (cond (eqb j i) 1 (b / 2 ^ j % 2))) true

tested : all (λ b. all (λ i. all (sets_one b i) (slots_from 0 8)) (slots_from 0 8)) (slots_from 0 256) ≡ true
unfolding all sets_one
tested = refl

-- a test that holds of d numbers from k on
all-below : (p : ℕ → Bool) (k d i : ℕ) → all p (slots_from k d) ≡ true → k ≤ i → i < k + d → p i ≡ true
unfolding all
all-below p k zero i e h l = absurd (omega arith)
all-below p k (suc d) i e h l = elim (eqb i k) as (λ q. eqb i k ≡ q → p i ≡ true) [
  | true ↦ λ q. ap p (eqb-true i k q) ∙ and_left (p k) (all p (slots_from (suc k) d)) e
  | false ↦ λ q. (let n = eqb-false i k q in all-below p (suc k) d i (and_right (p k) (all p (slots_from (suc k) d)) e) (omega arith) (omega arith))
] refl

one_bit : (b i j : ℕ) → b < 256 → i < 8 → j < 8 → b / 2 ^ i % 2 ≡ 0 → (b + 2 ^ i < 256) × ((b + 2 ^ i) / 2 ^ j % 2 ≡ cond (eqb j i) 1 (b / 2 ^ j % 2))
unfolding sets_one
one_bit b i j hb hi hj e =
    let ts = all-below (λ b. all (λ i. all (sets_one b i) (slots_from 0 8)) (slots_from 0 8)) 0 256 b tested (omega arith) (omega arith) in
    let t : sets_one b i j ≡ true = all-below (sets_one b i) 0 8 j (all-below (λ i. all (sets_one b i) (slots_from 0 8)) 0 8 i ts (omega arith) (omega arith))
    (omega arith) (omega arith) in
    let l = ltb (b + 2 ^ i) 256 in
    let r = eqb ((b + 2 ^ i) / 2 ^ j % 2) (cond (eqb j i) 1 (b / 2 ^ j % 2)) in
    let u : l && r ≡ true = rw (eq-eqb (b / 2 ^ i % 2) 0 e) at t in
    (ltb-true (b + 2 ^ i) 256 (and_left l r u), eqb-true ((b + 2 ^ i) / 2 ^ j % 2) (cond (eqb j i) 1 (b / 2 ^ j % 2)) (and_right l r u))

-- two numbers of one byte are the same where their bits are
same_byte : (x y : ℕ) → y / 8 ≡ x / 8 → eqb (y % 8) (x % 8) ≡ eqb y x
same_byte x y e = elim (eqb y x) as (λ q. eqb y x ≡ q → eqb (y % 8) (x % 8) ≡ q) [
  | true ↦ λ q. ap (λ (z : ℕ). eqb (z % 8) (x % 8)) (eqb-true y x q) ∙ eq-eqb (x % 8) (x % 8) refl
  | false ↦ λ q. (let n = eqb-false y x q in ne_eqb (y % 8) (x % 8) (λ m. n (omega arith)))
] refl

-- the bit of x, which was clear, set: there is room for it in its byte, and the others stay
module _ (s : List ℕ) (bytes : (i : ℕ) → get_or s i 0 < 256) (x : ℕ) (clear : bit_at s x ≡ 0) where
  pub bit-room : get_or s (x / 8) 0 + 2 ^ (x % 8) < 256
  bit-room = (one_bit (get_or s (x / 8) 0) (x % 8) 0 (bytes (x / 8)) (omega arith) (omega arith) clear).0

  -- a shift of 1 in a byte
  pub bit_shifted : 1 * 2 ^ (x % 8) % 256 ≡ 2 ^ (x % 8)
  bit_shifted = let h : 1 * 2 ^ (x % 8) < 256 = omega (arith, bit-room) in mod-eq_of_lt h ∙ one-mul (2 ^ (x % 8))

  pub bit-set : (y : ℕ) → x / 8 < length s → bit_at (set s (x / 8) (get_or s (x / 8) 0 + 2 ^ (x % 8))) y ≡ cond (eqb y x) 1 (bit_at s y)
  bit-set y h = elim (eqb (y / 8) (x / 8)) as (λ q. eqb (y / 8) (x / 8) ≡ q → bit_at (set s (x / 8) (get_or s (x / 8) 0 + 2 ^ (x % 8))) y
      ≡ cond (eqb y x) 1 (bit_at s y)) [
        | true ↦ λ q.
            (let e = eqb-true (y / 8) (x / 8) q in
            let v = get_or s (x / 8) 0 + 2 ^ (x % 8) in
            ap (λ (k : ℕ). get_or (set s (x / 8) v) k 0 / 2 ^ (y % 8) % 2) e
            ∙ ap (λ (k : ℕ). k / 2 ^ (y % 8) % 2) (get_or-set_same s (x / 8) v 0 h)
            ∙ (one_bit (get_or s (x / 8) 0) (x % 8) (y % 8) (bytes (x / 8)) (omega arith) (omega arith) clear).1
            ∙ ap (λ (b : Bool). cond b 1 (get_or s (x / 8) 0 / 2 ^ (y % 8) % 2)) (same_byte x y e)
            ∙ ap (λ (k : ℕ). cond (eqb y x) 1 (get_or s k 0 / 2 ^ (y % 8) % 2)) (sym e))
        | false ↦ λ q.
            (let n = eqb-false (y / 8) (x / 8) q in
            let v = get_or s (x / 8) 0 + 2 ^ (x % 8) in
            ap (λ (k : ℕ). k / 2 ^ (y % 8) % 2) (get_or-set_other s (x / 8) (y / 8) v 0 n)
            ∙ sym (ap (λ (b : Bool). cond b 1 (bit_at s y)) (ne_eqb y x (λ m. n (ap (λ (z : ℕ). z / 8) m)))))
      ] refl

-- an array of q zeros has a bit for each number below q * 8, and none is set
pub has-bit : (q x : ℕ) → x < q * 8 → x < length (replicate {A = ℕ} q 0) * 8
has-bit q x h = rw length-replicate h

pub no_bits : (q x : ℕ) → x < length (replicate {A = ℕ} q 0) * 8 → bit_at (replicate q 0) x ≡ 0
no_bits q x h = ap (λ (k : ℕ). k / 2 ^ (x % 8) % 2)
    (get_or-replicate q (x / 8) 0 0 (let l : length (replicate {A = ℕ} q 0) ≡ q = length-replicate q 0 in omega arith)) ∙ zero-part (2 ^ (x % 8))
  where
    zero-part : (n : ℕ) → 0 / n % 2 ≡ 0
    zero-part n = ap (λ (k : ℕ). k % 2) (zero-div n)
