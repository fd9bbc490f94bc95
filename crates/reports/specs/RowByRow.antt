-- A report as the code fills it, row by row of the table's bytes. `Rattle.paper.specs.Reports` has the definition. Assumes nothing.
use Rattle.std.specs.Prelude.{cond, List, [], ◌∷◌, ◌++◌, ℕ, zero, suc, ltb, take}
use Rattle.tables.specs.Rows.{row_at, zeros}
use Rattle.tables.specs.Records.{bytes4, read_address}
use Rattle.tables.specs.Find.{is_dirty}
use Rattle.paper.specs.Lent.{bit}

-- address, dirty byte and seat of a row of the table
abbrev pub row_report : List ℕ → List ℕ
row_report r = bytes4 (read_address r).address ++ (bit (is_dirty r) ∷ (read_address r).seat.0 ∷ (read_address r).seat.1 ∷ [])

-- row k of the manager's report, where n rows are held
abbrev pub row_in : ℕ → List ℕ → ℕ → List ℕ
row_in n t k = cond (ltb k n) (row_report (row_at t k)) (zeros 7)

-- the first k rows, so many bytes of each
unfoldable pub rows_in : (bytes n : ℕ) → List ℕ → ℕ → List ℕ
rows_in bytes n t zero = []
rows_in bytes n t (suc k) = rows_in bytes n t k ++ take bytes (row_in n t k)
