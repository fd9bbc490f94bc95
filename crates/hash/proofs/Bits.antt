-- Laws on bits: `Ch` in three operations, and `Σ0` as one rotation in another.
-- Assumes nothing.
use Rattle.std.proofs.Common.{◌≡◌, ℕ, zero, suc, ◌+◌, ◌-◌, ◌*◌, ◌/◌, ◌%◌, ◌^◌, ◌<◌, sym, refl, ap, ◌∙◌, subst, add-zero, add_assoc, mod-lt, mul_assoc, mul_comm, div-lt_iff_lt-mul, add-mul, add_comm, pow-suc, mul-div_cancel, arith, pow_pos, pow-add}
use native.Mathlib.Nat.{mul-add-mod_self_right, add-mul-div_right, div-div-eq-div-mul, mul-mod_left}
use lib.Arith.{bin_ind, mod-mul, digits_lt}
use lib.Bits.{bit_and, bit_or, bit_xor, and_shr, and_mod, xor_shr, xor_mod, xor_block, xor_lt, or_shifted_r}
use Rattle.hash.specs.Sha256.{ROTR, Σ0}

-- a bit is 0 or 1
bit : (P : ℕ → Type 0) → P 0 → P 1 → (x : ℕ) → x < 2 → P x
bit P a b zero h = a
bit P a b (suc zero) h = b
bit P a b (suc (suc x)) h = absurd (omega arith)

-- two functions of three bits that agree at each of the eight
agree : (f g : ℕ → ℕ → ℕ → ℕ) → f 0 0 0 ≡ g 0 0 0 → f 0 0 1 ≡ g 0 0 1 → f 0 1 0 ≡ g 0 1 0 → f 0 1 1 ≡ g 0 1 1
    → f 1 0 0 ≡ g 1 0 0 → f 1 0 1 ≡ g 1 0 1 → f 1 1 0 ≡ g 1 1 0 → f 1 1 1 ≡ g 1 1 1
    → (x y z : ℕ) → x < 2 → y < 2 → z < 2 → f x y z ≡ g x y z
agree f g e0 e1 e2 e3 e4 e5 e6 e7 x y z p q r =
    bit (λ (x : ℕ). f x y z ≡ g x y z)
    (bit (λ (y : ℕ). f 0 y z ≡ g 0 y z) (bit (λ (z : ℕ). f 0 0 z ≡ g 0 0 z) e0 e1 z r) (bit (λ (z : ℕ). f 0 1 z ≡ g 0 1 z) e2 e3 z r) y q)
    (bit (λ (y : ℕ). f 1 y z ≡ g 1 y z) (bit (λ (z : ℕ). f 1 0 z ≡ g 1 0 z) e4 e5 z r) (bit (λ (z : ℕ). f 1 1 z ≡ g 1 1 z) e6 e7 z r) y q) x p

ch-bit : (x y z : ℕ) → x < 2 → y < 2 → z < 2 → bit_xor z (bit_and x (bit_xor y z)) ≡ bit_xor (bit_and x y) (bit_and (1 - x) z)
ch-bit = agree (λ x y z. bit_xor z (bit_and x (bit_xor y z))) (λ x y z. bit_xor (bit_and x y) (bit_and (1 - x) z)) refl refl refl refl refl refl refl refl

xor-bit : (x y z : ℕ) → x < 2 → y < 2 → z < 2 → bit_xor (bit_xor x y) z ≡ bit_xor x (bit_xor y z)
xor-bit = agree (λ x y z. bit_xor (bit_xor x y) z) (λ x y z. bit_xor x (bit_xor y z)) refl refl refl refl refl refl refl refl

two_digits : (a b : ℕ) → a / 2 ≡ b / 2 → a % 2 ≡ b % 2 → a ≡ b
two_digits a b p q = omega arith

ones_half : (p x : ℕ) → x < p * 2 → (p * 2 - 1 - x) / 2 ≡ p - 1 - x / 2
ones_half p x h = omega arith

ones_odd : (p x : ℕ) → x < p * 2 → (p * 2 - 1 - x) % 2 ≡ 1 - x % 2
ones_odd p x h = omega arith

pub ch-short : (k x y z : ℕ) → x < 2 ^ k → y < 2 ^ k → z < 2 ^ k
    → bit_xor z (bit_and x (bit_xor y z)) ≡ bit_xor (bit_and x y) (bit_and (2 ^ k - 1 - x) z)
ch-short zero x y z p q r =
    let ex : x ≡ 0 = omega arith in
    let ez : z ≡ 0 = omega arith in
    rw (ex, ez)
ch-short (suc k) x y z p q r =
    let e : 2 ^ suc k ≡ 2 ^ k * 2 = pow-suc 2 k in
    let p' : x < 2 ^ k * 2 = subst (λ (m : ℕ). x < m) e p in
    let q' : y < 2 ^ k * 2 = subst (λ (m : ℕ). y < m) e q in
    let r' : z < 2 ^ k * 2 = subst (λ (m : ℕ). z < m) e r in
    let half : (2 ^ suc k - 1 - x) / 2 ≡ 2 ^ k - 1 - x / 2 = rw e (ones_half (2 ^ k) x p') in
    let odd : (2 ^ suc k - 1 - x) % 2 ≡ 1 - x % 2 = rw e (ones_odd (2 ^ k) x p') in
    let n : ℕ = 2 ^ suc k - 1 - x in
    two_digits (bit_xor z (bit_and x (bit_xor y z))) (bit_xor (bit_and x y) (bit_and n z))
    (rw (xor_shr z (bit_and x (bit_xor y z)) 1, and_shr x (bit_xor y z) 1, xor_shr y z 1, xor_shr (bit_and x y) (bit_and n z) 1, and_shr x y 1, and_shr n z 1, half) (ch-short k (x / 2) (y / 2) (z / 2) (omega arith) (omega arith) (omega arith)))
    (rw (xor_mod z (bit_and x (bit_xor y z)) 1, and_mod x (bit_xor y z) 1, xor_mod y z 1, xor_mod (bit_and x y) (bit_and n z) 1, and_mod x y 1, and_mod n z 1, odd) (ch-bit (x % 2) (y % 2) (z % 2) (omega arith) (omega arith) (omega arith)))

xor_assoc : (x y z : ℕ) → bit_xor (bit_xor x y) z ≡ bit_xor x (bit_xor y z)
xor_assoc =
    bin_ind (λ (x : ℕ). (y z : ℕ) → bit_xor (bit_xor x y) z ≡ bit_xor x (bit_xor y z)) (λ y z. refl)
    (λ x ih y z.
    two_digits (bit_xor (bit_xor x y) z) (bit_xor x (bit_xor y z))
    (rw (xor_shr (bit_xor x y) z 1, xor_shr x y 1, xor_shr x (bit_xor y z) 1, xor_shr y z 1) (ih (y / 2) (z / 2)))
    (rw (xor_mod (bit_xor x y) z 1, xor_mod x y 1, xor_mod x (bit_xor y z) 1, xor_mod y z 1) (xor-bit (x % 2) (y % 2) (z % 2) (omega arith) (omega arith) (omega arith))))

-- a rotation by n of a word of n + k bits, as a sum
unfoldable R : ℕ → ℕ → ℕ → ℕ
R n k x = x % 2 ^ n * 2 ^ k + x / 2 ^ n

R-xor : (n k x y : ℕ) → x / 2 ^ n < 2 ^ k → y / 2 ^ n < 2 ^ k → R n k (bit_xor x y) ≡ bit_xor (R n k x) (R n k y)
unfolding R
R-xor n k x y p q = rw (xor_mod x y n, xor_shr x y n) (sym (xor_block k (x % 2 ^ n) (y % 2 ^ n) (x / 2 ^ n) (y / 2 ^ n) p q))

-- a rotation by b and then by a, in words of powers and then for R
sums : (u b c r v : ℕ) → u * (b * c) + (v + r * c) ≡ (u * b + r) * c + v
sums u b c r v =
    ap (λ (m : ℕ). u * (b * c) + m) (add_comm v (r * c)) ∙ sym (add_assoc (u * (b * c)) (r * c) v) ∙ ap (λ (m : ℕ). m + r * c + v) (sym (mul_assoc u b c))
    ∙ ap (λ (m : ℕ). m + v) (sym (add-mul (u * b) r c))

twice : (a b c x : ℕ) → 0 < a → 0 < b
    → (x % b * (a * c) + x / b) % a * (b * c) + (x % b * (a * c) + x / b) / a ≡ x % (a * b) * c + x / (a * b)
twice a b c x p q =
    let s : x % b * (a * c) ≡ x % b * c * a = ap (λ (m : ℕ). x % b * m) (mul_comm a c) ∙ sym (mul_assoc (x % b) c a) in
    let m : (x % b * c * a + x / b) % a ≡ x / b % a = mul-add-mod_self_right (x % b * c) a (x / b) in
    let d : (x % b * c * a + x / b) / a ≡ x / b / a + x % b * c =
    ap (λ (m : ℕ). m / a) (add_comm (x % b * c * a) (x / b)) ∙ add-mul-div_right (x / b) (x % b * c) p in
    let f : x / (a * b) ≡ x / b / a = ap (λ (m : ℕ). x / m) (mul_comm a b) ∙ sym (div-div-eq-div-mul x b a) in
    rw (s, m, d, mod-mul x p q, f) (sums (x / b % a) b c (x % b) (x / b / a))

R-R : (a b c x : ℕ) → R a (b + c) (R b (a + c) x) ≡ R (a + b) c x
unfolding R
R-R a b c x = rw (pow-add 2 b c, pow-add 2 a c, pow-add 2 a b) (twice (2 ^ a) (2 ^ b) (2 ^ c) x (pow_pos a) (pow_pos b))

-- the standard's rotation of a 32-bit word is R, and stays a word
below : (n k x : ℕ) → n + k ≡ 32 → x < 2 ^ 32 → x / 2 ^ n < 2 ^ k
below n k x e h =
    (div-lt_iff_lt-mul (pow_pos n)).1 (subst (λ (m : ℕ). x < m) (ap (λ (m : ℕ). 2 ^ m) (sym e) ∙ pow-add 2 n k ∙ mul_comm (2 ^ n) (2 ^ k)) h)

shifted : (a b x : ℕ) → 0 < a → 0 < b → x * b % (a * b) ≡ x % a * b
shifted a b x p q = rw (mod-mul (x * b) p q, mul-div_cancel x q, mul-mod_left x b) (add-zero (x % a * b))

ROTR-is : (n k x : ℕ) → n + k ≡ 32 → x < 2 ^ 32 → bit_or (x / 2 ^ n) (x * 2 ^ k % 2 ^ 32) ≡ R n k x
unfolding R
ROTR-is n k x e h =
    let m : x * 2 ^ k % 2 ^ 32 ≡ x % 2 ^ n * 2 ^ k =
    ap (λ (m : ℕ). x * 2 ^ k % m) (ap (λ (m : ℕ). 2 ^ m) (sym e) ∙ pow-add 2 n k) ∙ shifted (2 ^ n) (2 ^ k) x (pow_pos n) (pow_pos k) in
    rw m (or_shifted_r (x % 2 ^ n) k (x / 2 ^ n) (below n k x e h))

R-lt : (n k x : ℕ) → n + k ≡ 32 → x < 2 ^ 32 → R n k x < 2 ^ 32
unfolding R
R-lt n k x e h = subst (λ (m : ℕ). R n k x < m) (sym (pow-add 2 n k) ∙ ap (λ (m : ℕ). 2 ^ m) e) (digits_lt (mod-lt x (pow_pos n)) (below n k x e h))

pub sigma0-short : (x : ℕ) → x < 2 ^ 32 → ROTR 2 (bit_xor x (ROTR 11 (bit_xor x (ROTR 9 x)))) ≡ Σ0 x
unfolding Σ0
sigma0-short x h =
    let y : ℕ = R 9 23 x in
    let hy : y < 2 ^ 32 = R-lt 9 23 x refl h in
    let u : ℕ = R 11 21 x in
    let hu : u < 2 ^ 32 = R-lt 11 21 x refl h in
    let v : ℕ = R 20 12 x in
    let hv : v < 2 ^ 32 = R-lt 20 12 x refl h in
    let inner : ROTR 11 (bit_xor x (ROTR 9 x)) ≡ bit_xor u v =
    rw (ROTR-is 9 23 x refl h, ROTR-is 11 21 (bit_xor x y) refl (xor_lt 32 x y h hy), R-xor 11 21 x y (omega arith) (omega arith), R-R 11 9 12 x) in
    rw (
      inner,
      ROTR-is 2 30 (bit_xor x (bit_xor u v)) refl (xor_lt 32 x (bit_xor u v) h (xor_lt 32 u v hu hv)),
      R-xor 2 30 x (bit_xor u v) (omega arith) (omega (arith, xor_lt 32 u v hu hv)),
      R-xor 2 30 u v (omega arith) (omega arith),
      R-R 2 11 19 x,
      R-R 2 20 10 x,
      ROTR-is 2 30 x refl h,
      ROTR-is 13 19 x refl h,
      ROTR-is 22 10 x refl h,
    ) (sym (xor_assoc (R 2 30 x) (R 13 19 x) (R 22 10 x)))
