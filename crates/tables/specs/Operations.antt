-- What each operation leaves of a table's bytes, said of its list of rows. Assumes nothing.
use Rattle.std.specs.Prelude.{ℕ, ◌+◌, ◌*◌, List, [], ◌∷◌, ◌++◌, take, drop, get_or, set}
use Rattle.tables.specs.Rows.{rows, flat, zeros, remove_at}

-- "its row is taken out" of the first n; "the other rows are zero"
unfoldable pub row_out : (n i : ℕ) → List ℕ → List ℕ
row_out n i t = flat (remove_at (rows n t) i) ++ (zeros 40 ++ drop (n * 40) t)

-- the row r "is added as newest", behind the first n
unfoldable pub row_added : ℕ → List ℕ → List ℕ → List ℕ
row_added n r t = flat (rows n t ++ (r ∷ [])) ++ drop (n * 40 + 40) t

-- row k of an address table "made clean": its dirty byte is 0
unfoldable pub row_cleaned : ℕ → List ℕ → List ℕ
row_cleaned k t = set t (k * 40 + 36) 0

-- "its block row becomes newest"
unfoldable pub row_newest : (d i : ℕ) → List ℕ → List ℕ
row_newest d i t = flat (remove_at (rows d t) i ++ (get_or (rows d t) i [] ∷ []))

-- a block row freed: "Free rows (used 0, zero fingerprint)"; "A row freed later keeps its slot."
unfoldable pub freed_row : List ℕ → List ℕ
freed_row r = zeros 32 ++ (take 4 (drop 32 r) ++ zeros 4)

-- "q's block row becomes free and moves to the front"
unfoldable pub row_freed : (d i : ℕ) → List ℕ → List ℕ
row_freed d i t = flat (freed_row (get_or (rows d t) i []) ∷ remove_at (rows d t) i)

-- a block row taken for the fingerprint g: used 1, the slot kept
unfoldable pub filled : List ℕ → List ℕ → List ℕ
filled g r = g ++ (take 4 (drop 32 r) ++ (1 ∷ zeros 3))

-- "one block row is taken .. and the row with g becomes newest"
unfoldable pub row_filled : (d i : ℕ) → List ℕ → List ℕ → List ℕ
row_filled d i g t = flat (remove_at (rows d t) i ++ (filled g (get_or (rows d t) i []) ∷ []))
