-- A text that is filled two digits at a time. By the laws of stores. Assumes nothing.
use mathlib.Core.Path.{◌≡◌, sym, ap, ap₂, ◌∙◌}
use mathlib.Core.List.{List, [], ◌∷◌, ◌++◌, append_assoc}
use Prim.Native.Nat.{ℕ, suc, ◌+◌, ◌*◌, ◌/◌, ◌%◌, ◌<◌, ◌≤◌}
use native.Mathlib.Omega.{arith}
use lib.ListN.{length, take, get_or, set, length-set}
use lib.Seq.{take-suc-set, take-length}
use Rattle.io.specs.Digits.{hex_digit_ascii}
use Rattle.hash_vectors.specs.Hex.{hex}

-- two stores, one after the other
two : (t : List ℕ) (k a b : ℕ) → k + 1 < length t → take (suc (suc k)) (set (set t k a) (suc k) b) ≡ take k t ++ (a ∷ b ∷ [])
two t k a b h =
    let l : suc k < length (set t k a) = simp length-set (omega arith) in
    take-suc-set (set t k a) (suc k) b l ∙ ap (λ s. s ++ (b ∷ [])) (take-suc-set t k a (omega arith)) ∙ append_assoc (take k t) (a ∷ []) (b ∷ [])

-- the digits of one byte more
pub next : (d t : List ℕ) (i a b : ℕ) → i < 32 → length t ≡ 64 → take (2 * i) t ≡ hex d i → a ≡ hex_digit_ascii (get_or d i 0 / 16 % 16)
    → b ≡ hex_digit_ascii (get_or d i 0 % 16) → take (2 * (i + 1)) (set (set t (2 * i) a) (2 * i + 1) b) ≡ hex d (i + 1)
unfolding hex
next d t i a b h l e ea eb =
    let n1 : i + 1 ≡ suc i = omega arith in
    let n2 : 2 * i + 1 ≡ suc (2 * i) = omega arith in
    let n3 : 2 * (i + 1) ≡ suc (suc (2 * i)) = omega arith in
    ap₂ (λ m j. take m (set (set t (2 * i) a) j b)) n3 n2
    ∙ two t (2 * i) a b (omega arith)
    ∙ ap₂ (λ p q. p ++ q) e (ap₂ (λ x y. x ∷ y ∷ []) ea eb)
    ∙ ap (hex d) (sym n1)

-- the whole text
pub whole : (d t : List ℕ) (i : ℕ) → length t ≡ 64 → 32 ≤ i → i ≤ 32 → take (2 * i) t ≡ hex d i → t ≡ hex d 32
whole d t i l g h e =
    let n : i ≡ 32 = omega arith in
    sym (take-length t) ∙ ap (λ k. take k t) (l ∙ sym (ap (λ k. 2 * k) n)) ∙ e ∙ ap (hex d) n
