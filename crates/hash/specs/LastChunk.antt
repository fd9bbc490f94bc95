-- The padding of a label and a block of the cache, whose length is one of seven. A chunk is 64 bytes, the standard's block.
-- Assumes nothing.
use Rattle.std.specs.Prelude.{◌≡◌, ℕ, cond, ◌⊎◌, List, ◌∷◌, ◌++◌, replicate, ◌==◌}
use Rattle.hash.specs.Sha256.{bytes64}

-- n is the length of a block: "a power of two from 64 to 4,096"
abbrev pub Size : ℕ → Type 0
Size n = (n ≡ 64) ⊎ ((n ≡ 128) ⊎ ((n ≡ 256) ⊎ ((n ≡ 512) ⊎ ((n ≡ 1024) ⊎ ((n ≡ 2048) ⊎ (n ≡ 4096))))))

-- U4: "Choose that length by cases on B, from 512 doubling to 32,768 bits."; U6: "Each padded bit length grows by 512." 0 for what is no size.
unfoldable pub bit_length : ℕ → ℕ
bit_length B =
    cond (B == 64) 1024
    (cond (B == 128) 1536
    (cond (B == 256) 2560
    (cond (B == 512) 4608
    (cond (B == 1024) 8704
    (cond (B == 2048) 16896
    (cond (B == 4096) 33280
    0))))))

-- U4: "padding always fills one chunk: 80 hexadecimal, 55 zero bytes, then the bit length in 8 bytes, big-endian"
unfoldable pub last_chunk : ℕ → List ℕ
last_chunk bits = 0x80 ∷ replicate 55 0 ++ bytes64 bits
