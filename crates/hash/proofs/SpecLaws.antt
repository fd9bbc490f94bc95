-- Laws on SHA-256 for those who cite it: how long a digest is and what its bytes are, and that the padding is the standard's, its length bytes included,
-- the last chunk of a block of the cache too.
-- Assumes nothing.
use Rattle.std.specs.Prelude.{◌≡◌, ℕ, zero, suc, ◌+◌, ◌-◌, ◌*◌, ◌/◌, ◌%◌, ◌^◌, ◌<◌, ◌≤◌, List, [], ◌∷◌, ◌++◌, length, drop, replicate, slice_index, refl}
use Rattle.std.proofs.Common.{sym, ap, ◌∙◌, append_assoc, inl, inr, arith, length-append, drop_at}
use Rattle.std.proofs.lemmas.List.{length-replicate}
use Rattle.std.proofs.lemmas.Nat.{mod-pow-add}
use Rattle.hash.specs.Sha256.{zeros, padded, pad, bytes32, bytes64, H0, blocks, digest, sha256}
use Rattle.hash.specs.LastChunk.{Size, bit_length, last_chunk}
use Rattle.hash.specs.Laws.{value}

length-digest : (h : List ℕ) (n : ℕ) → length (digest h n) ≡ 4 * n
unfolding digest bytes32
length-digest h zero = refl
length-digest h (suc n) = length-append (digest h n) (bytes32 (slice_index h n)) ∙ ap (λ k. k + 4) (length-digest h n) ∙ omega arith

-- a digest has 32 bytes
pub sha256-length : (m : List ℕ) → length (sha256 m) ≡ 32
unfolding sha256
sha256-length m = length-digest (blocks H0 (pad m) (length (pad m) / 64)) 8

below-append : (a b : List ℕ) → ((i : ℕ) → slice_index a i < 256) → ((i : ℕ) → slice_index b i < 256) → (i : ℕ) → slice_index (a ++ b) i < 256
below-append [] b p q i = q i
below-append (x ∷ a) b p q zero = p 0
below-append (x ∷ a) b p q (suc i) = below-append a b (λ j. p (suc j)) q i

below_word : (x i : ℕ) → slice_index (bytes32 x) i < 256
unfolding bytes32
below_word x zero = omega arith
below_word x (suc zero) = omega arith
below_word x (suc (suc zero)) = omega arith
below_word x (suc (suc (suc zero))) = omega arith
below_word x (suc (suc (suc (suc i)))) = omega arith

below-digest : (h : List ℕ) (n i : ℕ) → slice_index (digest h n) i < 256
unfolding digest
below-digest h zero i = omega arith
below-digest h (suc n) i = below-append (digest h n) (bytes32 (slice_index h n)) (below-digest h n) (below_word (slice_index h n)) i

-- each byte of a digest is below 256
pub sha256-bytes : (m : List ℕ) (i : ℕ) → slice_index (sha256 m) i < 256
unfolding sha256
sha256-bytes m i = below-digest (blocks H0 (pad m) (length (pad m) / 64)) 8 i

-- 5.1.1, with l = 8 n and k = 7 + 8 (zeros n): l + 1 + k = 448 mod 512
pub zeros-solve : (n : ℕ) → (8 * n + 1 + (7 + 8 * zeros n)) % 512 ≡ 448
zeros-solve n = omega arith

-- 5.1.1: no smaller k solves it
pub zeros-least : (n k : ℕ) → (8 * n + 1 + k) % 512 ≡ 448 → 7 + 8 * zeros n ≤ k
zeros-least n k h = omega arith

-- 5.2.1: a padded message is a whole number of blocks
pub pad-whole : (m : List ℕ) → length (pad m) % 64 ≡ 0
unfolding pad padded bytes64
pad-whole m = simp (length-append, length-replicate) (omega arith)

-- 3.1: the eight bytes of any number are, as a number, that number modulo 2 ^ 64
pub bytes64-value : (x : ℕ) → value (bytes64 x) ≡ x % 2 ^ 64
unfolding bytes64
bytes64-value x =
    let one : x % 256 * 1 + 0 ≡ x % 256 = omega arith in
    let digit : (n k : ℕ) → n ≡ x % 2 ^ k → x / 2 ^ k % 2 ^ 8 * 2 ^ k + n ≡ x % 2 ^ (8 + k) =
    λ n k e. ap (λ r. x / 2 ^ k % 2 ^ 8 * 2 ^ k + r) e ∙ sym (mod-pow-add x 8 k) in
    digit _ 56 (digit _ 48 (digit _ 40 (digit _ 32 (digit _ 24 (digit _ 16 (digit _ 8 one))))))

-- 5.1.1: "Then append the 64-bit block that is equal to the number l", for every length: the last eight bytes of a padded message are, as a number,
-- its length in bits modulo 2 ^ 64
pub pad-length : (m : List ℕ) → value (drop (length (pad m) - 8) (pad m)) ≡ 8 * length m % 2 ^ 64
unfolding pad padded bytes64
pad-length m =
    let n : ℕ = length m in
    let p : List ℕ = m ++ (0x80 ∷ replicate (zeros n) 0) in
    let q : List ℕ = bytes64 (8 * n % 2 ^ 64) in
    let e : pad m ≡ p ++ q = sym (append_assoc m (0x80 ∷ replicate (zeros n) 0) q) in
    let l : length (p ++ q) ≡ length p + 8 = length-append p q in
    ap (λ t. value (drop (length t - 8) t)) e ∙ ap value (drop_at p q (length (p ++ q) - 8) (omega (arith, l))) ∙ bytes64-value (8 * n % 2 ^ 64) ∙ omega arith

-- the cases are eight times the bytes, the label's 64 and the block's
pub bit-length-is : (B : ℕ) → Size B → bit_length B ≡ 8 * B + 512
unfolding bit_length
bit-length-is B (inl e) = rw e
bit-length-is B (inr (inl e)) = rw e
bit-length-is B (inr (inr (inl e))) = rw e
bit-length-is B (inr (inr (inr (inl e)))) = rw e
bit-length-is B (inr (inr (inr (inr (inl e))))) = rw e
bit-length-is B (inr (inr (inr (inr (inr (inl e)))))) = rw e
bit-length-is B (inr (inr (inr (inr (inr (inr e)))))) = rw e

-- a size is a number of whole chunks, and at most 4,096
pub size-whole : (B : ℕ) → Size B → (B % 64 ≡ 0) × (B ≤ 4096)
size-whole B (inl e) = (omega (arith, e), omega (arith, e))
size-whole B (inr (inl e)) = (omega (arith, e), omega (arith, e))
size-whole B (inr (inr (inl e))) = (omega (arith, e), omega (arith, e))
size-whole B (inr (inr (inr (inl e)))) = (omega (arith, e), omega (arith, e))
size-whole B (inr (inr (inr (inr (inl e))))) = (omega (arith, e), omega (arith, e))
size-whole B (inr (inr (inr (inr (inr (inl e)))))) = (omega (arith, e), omega (arith, e))
size-whole B (inr (inr (inr (inr (inr (inr e)))))) = (omega (arith, e), omega (arith, e))

-- U4: "B is a multiple of 64, so padding always fills one chunk"; U6: "Each padded bit length grows by 512.": a label and a block of each of the seven
-- sizes, padded as any message is, are the two and then their last chunk
pub one_chunk : (label m : List ℕ) → length label ≡ 64 → Size (length m) → pad (label ++ m) ≡ (label ++ m) ++ last_chunk (bit_length (length m))
unfolding pad padded last_chunk
one_chunk label m l s =
    let w = size-whole (length m) s in
    let w₀ = w.0 in
    let w₁ = w.1 in
    let e = bit-length-is (length m) s in
    let n : length (label ++ m) ≡ 64 + length m = length-append label m ∙ ap (λ k. k + length m) l in
    let z : zeros (64 + length m) ≡ 55 = omega arith in
    let b : 8 * (64 + length m) % 2 ^ 64 ≡ bit_length (length m) = omega (arith, w₁, e) in
    rw (n, z, b)
