-- A table's bytes as a list of rows of 40 bytes, and what the tables' functions do to that list.
-- Assumes nothing.
use Rattle.std.specs.Prelude.{ℕ, zero, suc, ◌+◌, ◌*◌, ◌≤◌, ◌≡◌, List, [], ◌∷◌, ◌++◌, length, take, drop, get_or, replicate}

-- "address table (m × 40), block table (d × 40)": the bytes of a row, and of n rows
abbrev pub row_bytes : ℕ
row_bytes = 40

abbrev pub table_bytes : ℕ → ℕ
table_bytes n = n * row_bytes

-- the bytes t have n rows; they have row k; g is a fingerprint
abbrev pub HasRows : List ℕ → ℕ → Type 0
HasRows t n = table_bytes n ≤ length t

abbrev pub HasRow : List ℕ → ℕ → Type 0
HasRow t k = HasRows t (k + 1)

abbrev pub IsPrint : List ℕ → Type 0
IsPrint g = length g ≡ 32

-- the first n rows of the bytes t
unfoldable pub rows : ℕ → List ℕ → List (List ℕ)
rows zero t = []
rows (suc n) t = take 40 t ∷ rows n (drop 40 t)

-- the bytes of a list of rows
unfoldable pub flat : List (List ℕ) → List ℕ
flat [] = []
flat (r ∷ rs) = r ++ flat rs

-- row k
abbrev pub row_at : List ℕ → ℕ → List ℕ
row_at t k = take 40 (drop (k * 40) t)

unfoldable pub zeros : ℕ → List ℕ
zeros n = replicate n 0

-- the four bytes from index at on, "little-endian", as a number, and the eight bytes
abbrev pub le4 : List ℕ → ℕ → ℕ
le4 t at = get_or t at 0 + 256 * get_or t (at + 1) 0 + 65536 * get_or t (at + 2) 0 + 16777216 * get_or t (at + 3) 0

abbrev pub le8 : List ℕ → ℕ → ℕ
le8 t at =
    get_or t at 0 + 256 * get_or t (at + 1) 0 + 65536 * get_or t (at + 2) 0 + 16777216 * get_or t (at + 3) 0
    + 4294967296 * get_or t (at + 4) 0 + 1099511627776 * get_or t (at + 5) 0 + 281474976710656 * get_or t (at + 6) 0 + 72057594037927936 * get_or t (at + 7) 0

-- "its row is taken out": the list without its element i
abbrev pub remove_at : {A : Type 0} → List A → ℕ → List A
remove_at rs i = take i rs ++ drop (suc i) rs
