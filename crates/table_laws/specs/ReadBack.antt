-- For the crates above: the records that are read of any table after each operation. Assumes nothing.
use Rattle.std.specs.Prelude.{◌≡◌, ℕ, ◌+◌, ◌-◌, ◌*◌, ◌^◌, ◌≤◌, ◌<◌, length, set}
use Rattle.std.proofs.Math.Path.{ap}
use Rattle.std.proofs.Common.{◌∙◌, arith}
use mathlib.Core.List.{List, [], ◌∷◌, ◌++◌, map}
use Rattle.std.proofs.Math.ListN.{drop}
use Rattle.tables.specs.Rows.{rows, zeros, row_at, remove_at, row_bytes, table_bytes}
use Rattle.tables.specs.Records.{AddressRow, BlockRow, block_row, free_row, address_bytes, read_address, read_block, held_rows, block_rows}
use Rattle.tables.specs.Operations.{freed_row, filled, row_out, row_added, row_cleaned, row_newest, row_freed, row_filled}
use Rattle.tables.specs.RowLaws.{rows_at, length_part}
use Rattle.tables.specs.ShiftLaws.{length-freed, length-filled}
use Rattle.tables.proofs.OperationLaws.{map-++, map-remove_at, map-set, rows-removed, rows_pushed, rows-set, addr-forth, address-clean, block-freed}
use Rattle.tables.proofs.OperationLaws.{block-filled, blocks_last, blocks-first}
use Rattle.table_laws.specs.Written.{clean_row, address-wide}

-- ---- the n held rows of an address table
module _ (n : ℕ) (t : List ℕ) (g : table_bytes n ≤ length t) where
  pub read_out : (i : ℕ) → i < n → held_rows (n - 1) (row_out n i t) ≡ remove_at (held_rows n t) i
  unfolding row_out held_rows
  read_out i h = ap (map read_address) (rows-removed n t (zeros 40 ++ drop (n * 40) t) i h g) ∙ map-remove_at read_address (rows n t) i

  pub read-added : (r : AddressRow) → r.address < 2 ^ 32 → length r.fingerprint ≡ 32
      → held_rows (n + 1) (row_added n (address_bytes r) t) ≡ held_rows n t ++ (r ∷ [])
  unfolding row_added held_rows
  read-added r h l =
      ap (map read_address) (rows_pushed n t (address_bytes r) (drop (n * 40 + 40) t) g (address-wide r l))
      ∙ map-++ read_address (rows n t) (address_bytes r ∷ [])
      ∙ ap (λ (x : AddressRow). map read_address (rows n t) ++ (x ∷ [])) (addr-forth r.address r.fingerprint r.dirty r.seat h l)

  pub read-cleaned : (k : ℕ) → k < n → held_rows n (row_cleaned k t) ≡ set (held_rows n t) k (clean_row (read_address (row_at t k)))
  unfolding row_cleaned held_rows
  read-cleaned k h =
      ap (map read_address) (rows-set n t k 36 0 (omega arith))
      ∙ map-set read_address (rows n t) k (set (row_at t k) 36 0)
      ∙ ap (set (map read_address (rows n t)) k) (address-clean (row_at t k) (length_part t (k * 40) 40 (omega arith)))

-- ---- row i of the d rows of a block table
module _ (d : ℕ) (t : List ℕ) (i : ℕ) (h : i < d) (g : table_bytes d ≤ length t) where
  wide : length (row_at t i) ≡ row_bytes
  wide = length_part t (i * 40) 40 (omega arith)

  pub read-newest : block_rows d (row_newest d i t) ≡ remove_at (block_rows d t) i ++ (read_block (row_at t i) ∷ [])
  unfolding row_newest
  read-newest = rw (rows_at d t i h) (blocks_last d t i h g (row_at t i) wide)

  pub read_freed : block_rows d (row_freed d i t) ≡ free_row (read_block (row_at t i)).slot ∷ remove_at (block_rows d t) i
  unfolding row_freed
  read_freed =
      rw (rows_at d t i h)
      (blocks-first d t i h g (freed_row (row_at t i)) (length-freed (row_at t i) wide)
      ∙ ap (λ (x : BlockRow). x ∷ remove_at (block_rows d t) i) (block-freed (row_at t i) wide))

  pub read-filled : (f : List ℕ) → length f ≡ 32 → block_rows d (row_filled d i f t)
      ≡ remove_at (block_rows d t) i ++ (block_row f (read_block (row_at t i)).slot 1 ∷ [])
  unfolding row_filled
  read-filled f l =
      rw (rows_at d t i h)
      (blocks_last d t i h g (filled f (row_at t i)) (length-filled f (row_at t i) l wide)
      ∙ ap (λ (x : BlockRow). remove_at (block_rows d t) i ++ (x ∷ [])) (block-filled f (row_at t i) l wide))
