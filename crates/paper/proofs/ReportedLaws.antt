-- The reports by example, each computed: their bytes, and which are refused with which number.
-- Assumes nothing.
use Rattle.std.specs.Prelude.{◌≡◌, refl, List, [], ◌∷◌, ◌++◌, map, ℕ, ◌+◌, ◌^◌, replicate, set}
use Rattle.tables.specs.Rows as Rows
use Rattle.tables.specs.Records as Records
use Rattle.tables.specs.Records.{address_row, bytes2, block_row, free_row, padding_byte, address_table, block_table}
use Rattle.tables.specs.Find as Find
use Rattle.tables.specs.Unsound as Unsound
use Rattle.paper.specs.Cache.{Numbers, Counters, no_counts}
use Rattle.paper.specs.Engine as Engine
use Rattle.paper.specs.Lent as Lent
use Rattle.paper.specs.Lent.{Lent}
use Rattle.paper.specs.Refused.{numbers, counters}
use Rattle.paper.specs.Reports.{Reader, manager, desk, report_of, report_refusal, reported}
use Rattle.paper.specs.Reported.{office, table, two-held}

-- "address, dirty byte and seat of every held row, oldest first ..; the desk's gives address and dirty byte only ..; zeros follow". A byte short or
-- long, the lent bytes stay.
pub reports-are :
    (reported office two-held manager (replicate 21 5)
    ≡ 2 ∷ 1 ∷ 0 ∷ 0 ∷ 1 ∷ 7 ∷ 8 ∷ 1 ∷ 0 ∷ 0 ∷ 0 ∷ 0 ∷ 9 ∷ 0 ∷ 0 ∷ 0 ∷ 0 ∷ 0 ∷ 0 ∷ 0 ∷ 0 ∷ [])
    × (reported office two-held desk (replicate 15 5) ≡ 2 ∷ 1 ∷ 0 ∷ 0 ∷ 1 ∷ 1 ∷ 0 ∷ 0 ∷ 0 ∷ 0 ∷ 0 ∷ 0 ∷ 0 ∷ 0 ∷ 0 ∷ [])
    × (reported office two-held manager (replicate 20 5) ≡ replicate 20 5)
    × (reported office two-held desk (replicate 16 5) ≡ replicate 16 5)
unfolding reported report_of report_refusal Lent.unfit Lent.wrong_buffers Lent.box_in Lent.split Lent.free_slots Lent.used_rows Engine.fit Rows.rows Rows.flat
    Rows.zeros Records.address_bytes Records.block_bytes Records.read_address Records.read_block address_table block_table Records.held_rows Records.block_rows
    Find.any Find.all Find.same Unsound.elem Unsound.twice Unsound.count Unsound.addresses_unsound Unsound.free_after_used Unsound.each_once
    Unsound.used_twice Unsound.blocks_unsound Unsound.dirty_uncached
reports-are = (refl, refl, refl, refl)

pub reports-refused-with : map (λ c. report_refusal c.numbers c.lent c.reader (replicate c.length 5)) table ≡ map (λ c. c.number) table
unfolding report_refusal Lent.unfit Lent.wrong_buffers Lent.box_in Records.held_rows Rows.rows Rows.flat Rows.zeros Records.address_bytes Records.block_bytes
    Records.read_address Records.read_block address_table block_table Find.any Find.all Find.same Unsound.elem Unsound.twice Unsound.count Unsound.addresses_unsound
    Unsound.free_after_used Unsound.each_once Unsound.used_twice Unsound.blocks_unsound Unsound.dirty_uncached
reports-refused-with = refl
