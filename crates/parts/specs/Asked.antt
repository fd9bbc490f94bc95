-- What the rows are asked for: the row that is taken, and the slot of a row.
use Rattle.std.specs.Prelude.{Bool, not, cond, List, [], ◌∷◌, ℕ, ltb, length}
use Rattle.tables.specs.Rows.{row_at}
use Rattle.paper.specs.Cache.{AddressRow, BlockRow, block_row, known}
use Rattle.paper.specs.Engine.{Fixed, fit, comparing}
use Rattle.paper.specs.Index.{index_where}
use Rattle.tables.specs.Records.{read_block}
use Rattle.tables.specs.Find.{is_used}

-- a block row that stands for none
abbrev pub no_block : BlockRow (Fixed 32)
no_block = block_row (fit 32 []) 0

-- the place of the row that is taken: the first free one; else the oldest whose fingerprint no address row has; else the oldest
abbrev pub or_first : ℕ → ℕ → ℕ
or_first j n = cond (ltb j n) j 0

unfoldable pub victim_place : List (AddressRow (Fixed 32)) → List ℕ → List (BlockRow (Fixed 32)) → ℕ
victim_place rows (k ∷ free) used = 0
victim_place rows [] used = or_first (index_where (λ u. not (known comparing u.fingerprint rows)) used) (length used)

-- the slot of the block row at a place, 0 where there is none
abbrev pub slot_in : List ℕ → ℕ → ℕ → ℕ
slot_in blocks d j = cond (ltb j d) (read_block (row_at blocks j)).slot 0

-- no block row is free: the first one is used
abbrev pub full : List ℕ → Bool
full blocks = is_used (row_at blocks 0)
