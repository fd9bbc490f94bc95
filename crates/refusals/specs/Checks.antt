-- The parts of a refusal that the checks go through. Assumes nothing.
use Rattle.std.specs.Prelude.{Bool, not, ◌||◌, cond, List, [], ◌∷◌, ℕ, ◌*◌, eqb, ltb, length}
use Rattle.tables.specs.Unsound.{addresses_unsound, blocks_unsound, dirty_uncached}
use Rattle.paper.specs.Cache.{Counters}
use Rattle.paper.specs.Lent.{test, first, over}
use Rattle.paper.specs.BatchLent.{bad_count, any_outside}
use Rattle.parts.specs.declared.BoxRecord.{BoxRecord}
use Rattle.tables.specs.Rows.{rows, table_bytes}
use Rattle.parts.specs.Limit.{dirty_in}

-- the block sizes
abbrev pub sizes : List ℕ
sizes = 64 ∷ 128 ∷ 256 ∷ 512 ∷ 1024 ∷ 2048 ∷ 4096 ∷ []

-- a length of the four buffers is another than the box's
unfoldable pub wrong_lengths : BoxRecord → (disk flash addresses blocks : ℕ) → Bool
wrong_lengths b disk flash addresses blocks =
    not (eqb disk (b.blocks * b.size)) || not (eqb flash (b.slots * b.size)) || not (eqb addresses (table_bytes b.rows))
    || not (eqb blocks (table_bytes b.slots))

-- the first of 6, 7 and 8, 0 for none
unfoldable pub sound_refusal : BoxRecord → (addresses blocks : List ℕ) → ℕ
sound_refusal b addresses blocks =
    cond (addresses_unsound b.blocks b.rows b.held addresses) 6
    (cond (blocks_unsound b.slots blocks) 7 (cond (dirty_uncached b.held b.slots addresses blocks) 8 0))

-- more rows are dirty than the limit
abbrev pub over_in : BoxRecord → List ℕ → Bool
over_in b addresses = ltb b.limit (dirty_in (rows b.held addresses))

-- the first of 6, 7, 8 and 13, 0 for none
unfoldable pub tables_refusal : BoxRecord → (addresses blocks : List ℕ) → ℕ
tables_refusal b addresses blocks =
    cond (addresses_unsound b.blocks b.rows b.held addresses) 6
    (cond (blocks_unsound b.slots blocks) 7
    (cond (dirty_uncached b.held b.slots addresses blocks) 8
    (cond (over_in b addresses) 13 0)))

-- the first of 6, 7, 8, 13 and 9, 0 for none
unfoldable pub state_refusal : BoxRecord → (addresses blocks : List ℕ) → Counters → ℕ
state_refusal b addresses blocks k =
    cond (addresses_unsound b.blocks b.rows b.held addresses) 6
    (cond (blocks_unsound b.slots blocks) 7
    (cond (dirty_uncached b.held b.slots addresses blocks) 8
    (cond (over_in b addresses) 13
    (cond (over k) 9 0))))

-- the first of 2, 10 and 3 that the list of a folder read gets, with a buffer of so many bytes; 0 for none
unfoldable pub list_refusal : BoxRecord → (asked : List ℕ) → ℕ → ℕ
list_refusal b l len =
    first (test (not (eqb len (length l * b.size))) 2 ∷ test (bad_count l) 10 ∷ test (any_outside b.blocks l) 3 ∷ [])
