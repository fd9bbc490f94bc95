-- The parts of a refusal that the checks go through. Assumes nothing.
use Rattle.std.specs.Prelude.{◌≡◌, Bool, true, cond, ◌||◌, List, map, ℕ, ◌*◌, ◌≤◌, eqb, length}
use Rattle.tables.specs.Rows.{table_bytes}
use Rattle.tables.specs.Records.{held_rows}
use Rattle.tables.specs.Unsound.{addresses_unsound, blocks_unsound, dirty_uncached}
use Rattle.tables.specs.Bits.{bit_at}
use Rattle.tables.specs.Sound.{row_address}
use Rattle.tables.specs.Index.{cached_in}
use Rattle.paper.specs.Lent.{as_held}
use Rattle.arc.specs.Arc.{m_of}
use Rattle.arc.specs.ArcLent.{lists_unsound}
use Rattle.arclists.specs.Holding.{rec_of}
use Rattle.arcrefusals.specs.declared.ArcRecord.{ArcRecord}
use Rattle.arcrefusals.specs.Given.{sizes_of}

-- the address of an address row has no bit in `seen`, or its fingerprint is cached
abbrev pub top_ok : (seen : List ℕ) → (blocks : List (List ℕ)) → List ℕ → Bool
top_ok seen bs r = cond (eqb (bit_at seen (row_address r)) 1) (cached_in bs r) true

-- what 11 and 2 leave: numbers that are not too large, tables and lists of the box's lengths
pub record Fits (a : ArcRecord) (addresses blocks lists : List ℕ) : Type 0 where
  pub disk-most : a.blocks ≤ 65536
  pub cached-most : a.sizes.cached ≤ 256
  pub rows-most : m_of (sizes_of a) ≤ 1024
  pub addresses-are : length addresses ≡ table_bytes (m_of (sizes_of a))
  pub blocks-are : length blocks ≡ table_bytes a.sizes.cached
  pub lists-are : length lists ≡ m_of (sizes_of a) * 4

-- the first of 6, 7 and 8, but for 8 of the lists; 0 for none
unfoldable pub sound_refusal : ArcRecord → (addresses blocks lists : List ℕ) → ℕ
sound_refusal a addresses blocks lists =
    let Z = sizes_of a in
    cond (addresses_unsound Z.P (m_of Z) a.held addresses || lists_unsound Z (map as_held (held_rows a.held addresses)) (rec_of a.sizes) lists) 6
    (cond (blocks_unsound Z.C blocks) 7 (cond (dirty_uncached a.held Z.C addresses blocks) 8 0))
