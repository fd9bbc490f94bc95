-- A label, the chunks of a block of the cache, and then one chunk of padding.
-- Assumes nothing.
use Rattle.std.proofs.Common.{◌≡◌, ℕ, ◌+◌, ◌/◌, List, ◌++◌, length, refl, ap, ◌∙◌, arith, length-append, take_all}
use Rattle.hash.specs.Sha256.{H0, blocks, compress, digest, bytes64, sha256}
use Rattle.hash.specs.LastChunk.{Size, bit_length, last_chunk}
use Rattle.hash.proofs.SpecLaws.{size-whole, one_chunk}
use Rattle.hash.proofs.Laws.{blocks-after}

length_last : (bits : ℕ) → length (last_chunk bits) ≡ 64
unfolding last_chunk bytes64
length_last bits = refl

one_block : (h l : List ℕ) → length l ≡ 64 → blocks h l 1 ≡ compress h l
unfolding blocks
one_block h l e = ap (compress h) (take_all 64 l (omega arith))

-- the fingerprint of a block under a label
pub whole : (label m : List ℕ) → length label ≡ 64 → Size (length m)
    → sha256 (label ++ m) ≡ digest (compress (blocks (compress H0 label) m (length m / 64)) (last_chunk (bit_length (length m)))) 8
unfolding sha256
whole label m el s =
    let e = (size-whole (length m) s).0 in
    let n = length m / 64 in
    let bits = bit_length (length m) in
    let l = last_chunk bits in
    let a = length-append label m in
    let c : length ((label ++ m) ++ l) / 64 ≡ (1 + n) + 1 = omega (arith, e, el, a, length-append (label ++ m) l, length_last bits) in
    rw (one_chunk label m el s, c)
    (ap (λ x. digest x 8)
    (blocks-after H0 (label ++ m) l (1 + n) 1 (omega (arith, e, el, a))
    ∙ one_block (blocks H0 (label ++ m) (1 + n)) l (length_last bits)
    ∙ ap (λ x. compress x l) (blocks-after H0 label m 1 n (omega (arith, el)) ∙ ap (λ x. blocks x m n) (one_block H0 label el))))
