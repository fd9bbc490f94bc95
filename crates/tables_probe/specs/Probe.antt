-- What the probe's functions answer, and where what they are given fits. Assumes nothing.
use Rattle.std.specs.Prelude.{ℕ, ◌+◌, Bool, not, cond, ◌&&◌, ◌||◌, List, eqb, leb, ltb, length, None, Option, Some}
use Rattle.tables.specs.Sound.{addresses_fit, blocks_fit}
use Rattle.tables.specs.Unsound.{addresses_unsound, blocks_unsound, dirty_uncached}
use Rattle.tables.specs.Rows.{table_bytes}

-- the answer where there is no such row, or what is given does not fit
abbrev pub none : ℕ
none = 4294967295

abbrev pub number : Option ℕ → ℕ
number (Some i) = i
number None = none

-- n rows, at most 1,024, are in t
unfoldable pub fits : ℕ → List ℕ → Bool
fits n t = leb n 1024 && leb (table_bytes n) (length t)

-- and g has 32 bytes
abbrev pub fits_with : ℕ → List ℕ → List ℕ → Bool
fits_with n t g = eqb (length g) 32 && fits n t

-- row i is one of n rows
abbrev pub fits_row : ℕ → List ℕ → ℕ → Bool
fits_row n t i = ltb i n && fits n t

-- a row more is in t behind n, and g has 32 bytes
abbrev pub fits_more : ℕ → List ℕ → List ℕ → Bool
fits_more n t g = eqb (length g) 32 && (leb n 1023 && leb (table_bytes (n + 1)) (length t))

-- t is a table of m rows, at most 1,024
abbrev pub fits_table : ℕ → List ℕ → Bool
fits_table m t = leb m 1024 && eqb (length t) (table_bytes m)

-- row i is one of the d rows of a block table
abbrev pub fits_block : ℕ → List ℕ → ℕ → Bool
fits_block d t i = ltb i d && blocks_fit d t

abbrev pub fits_block_with : ℕ → List ℕ → ℕ → List ℕ → Bool
fits_block_with d t i g = eqb (length g) 32 && fits_block d t i

-- the number that `tables_refused` gives
unfoldable pub refused : (P m n d : ℕ) → List ℕ → List ℕ → ℕ
refused P m n d a b =
    cond (not (addresses_fit P m a) || addresses_unsound P m n a) 6 (cond (not (blocks_fit d b) || blocks_unsound d b) 7 (cond (dirty_uncached n d a b) 8 0))

-- x where both tables pass
unfoldable pub if_sound : (P m n d : ℕ) → List ℕ → List ℕ → ℕ → ℕ
if_sound P m n d a b x = cond (eqb (refused P m n d a b) 0) x none
