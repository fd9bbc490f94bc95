-- Addresses in lent bytes, four bytes each, and the place of one. Assumes nothing.
use Rattle.std.specs.Prelude.{◌≡◌, cond, List, [], ◌∷◌, ◌++◌, ℕ, suc, ◌-◌, ◌*◌, ◌≤◌, ◌<◌, eqb, length}
use Rattle.tables.specs.Rows.{zeros, remove_at}
use Rattle.arc.specs.ArcLent.{word_bytes}
use Rattle.arc.specs.ArcEnds.{insert_at, rotated}

-- "end to end in m × 4 bytes, little-endian, zeros after": the bytes of the addresses ws
unfoldable pub listed : ℕ → List ℕ → List ℕ
listed m ws = word_bytes ws ++ zeros ((m - length ws) * 4)

-- the place of the first a, or how many there are
unfoldable pub place_of : ℕ → List ℕ → ℕ
place_of a [] = 0
place_of a (x ∷ xs) = cond (eqb a x) 0 (suc (place_of a xs))

-- What code does to the bytes t of n addresses, whatever the addresses are, where m have room. The address at place i is taken out
abbrev pub Removes : (i n : ℕ) (t t' : List ℕ) → Type 0
Removes i n t t' = (m : ℕ) (ws : List ℕ) → length ws ≡ n → n ≤ m → t ≡ listed m ws → t' ≡ listed m (remove_at ws i)

-- a is put in at place i
abbrev pub Inserts : (i n a : ℕ) (t t' : List ℕ) → Type 0
Inserts i n a t t' = (m : ℕ) (ws : List ℕ) → length ws ≡ n → n < m → t ≡ listed m ws → t' ≡ listed m (insert_at i a ws)

-- the address at place i goes to place j
abbrev pub Rotates : (i j : ℕ) (t t' : List ℕ) → Type 0
Rotates i j t t' = (m : ℕ) (ws : List ℕ) → j < length ws → length ws ≤ m → t ≡ listed m ws → t' ≡ listed m (rotated i j ws)
