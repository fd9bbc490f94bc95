-- Laws on SHA-256 for those who cite it: how long a digest is and what its bytes are, and that the padding is the standard's, its length bytes included,
-- the last chunk of a block of the cache too.
-- Assumes nothing.
use Rattle.std.specs.Prelude.{◌≡◌, ℕ, zero, suc, ◌+◌, ◌-◌, ◌*◌, ◌/◌, ◌%◌, ◌^◌, ◌<◌, ◌≤◌, ◌⊎◌, List, [], ◌∷◌, ◌++◌, length, drop, replicate, slice_index, refl}
use Rattle.std.proofs.Common.{sym, ap, ◌∙◌, append_assoc, inl, inr, arith, length-append, drop_at}
use Rattle.std.proofs.lemmas.List.{length-replicate}
use Rattle.std.proofs.lemmas.Nat.{mod-pow-add}
use Rattle.hash.specs.Sha256.{zeros, padded, pad, bytes32, bytes64, H0, blocks, digest, sha256}
use Rattle.hash.specs.LastChunk.{Size, bit_length, last_chunk}

-- 3.1: the number that some bytes are, the most significant first
abbrev pub value : List ℕ → ℕ
value [] = 0
value (x ∷ xs) = x * 2 ^ (8 * length xs) + value xs
