-- U2's call by example: worked folder reads, and which are refused with which number. Each is computed. In the worked ones the content k is its own
-- fingerprint, as in the worked states. Assumes nothing.
use Rattle.std.specs.Prelude.{◌≡◌, refl, false, List, [], ◌∷◌, map, ℕ, ◌+◌, ◌^◌, replicate, set}
use Rattle.tables.specs.Rows as Rows
use Rattle.tables.specs.Records as Records
use Rattle.tables.specs.Records.{address_table}
use Rattle.tables.specs.Find as Find
use Rattle.tables.specs.Unsound as Unsound
use Rattle.paper.specs.Cache as Cache
use Rattle.paper.specs.Cache.{Numbers, Box, AddressRow, newest, back, Counters, no_counts, fresh, serve}
use Rattle.paper.specs.Worked.{labels}
use Rattle.paper.specs.Lent as Lent
use Rattle.paper.specs.Lent.{Lent}
use Rattle.paper.specs.Refused.{numbers, counters, small, up_to, blocks, sound, counting, worst, uncached, crowded, single, damaged, much}
use Rattle.paper.specs.Batch.{Batched, blocks_in, start, batch, in_turn, batch_read}
use Rattle.paper.specs.BatchLent.{batch_refusal}
use Rattle.paper.specs.BatchWorked.{Shown, folders, strange, table, tiny}

abbrev shown : Batched ℕ ℕ → Shown
shown t =
    record {
      blocks = blocks_in t.filled;
      rows = t.box.rows;
      disk = t.box.disk;
      counters = t.counters;
      misses = t.misses;
      fetches = t.fetches;
    }

pub worked-folders : map (λ f. shown (batch labels tiny (start f.box no_counts) f.asked)) folders ≡ map (λ f. f.after) folders
unfolding batch batch_read Cache.oldest_out Cache.step1 Cache.freed Cache.step3 Cache.oldest_unknown Cache.victim Cache.taken_used Cache.taken Cache.stored
    Cache.step4 Cache.step Cache.if_cached Cache.answer Cache.read_as Cache.write_back Cache.flushed Cache.serve Cache.counted
worked-folders = refl

-- there the reads done in turn return the disk's block
pub strange-in-turn : shown (in_turn labels tiny (start strange no_counts) (0 ∷ 1 ∷ 0 ∷ []))
    ≡ record {
      blocks = 9 ∷ 1 ∷ 3 ∷ [];
      rows = newest 0 3 false (0, 0) ∷ [];
      disk = 3 ∷ 1 ∷ [];
      counters = counters 3 1 2 0;
      misses = 2;
      fetches = 2;
    }
unfolding in_turn Cache.oldest_out Cache.step1 Cache.freed Cache.step3 Cache.oldest_unknown Cache.victim Cache.taken_used Cache.taken Cache.stored
    Cache.step4 Cache.step Cache.if_cached Cache.answer Cache.read_as Cache.serve Cache.counted
strange-in-turn = refl

pub folders-refused-with : map (λ c. batch_refusal c.numbers c.lent c.asked (replicate c.length 5)) table ≡ map (λ c. c.number) table
unfolding batch_refusal Lent.unfit Lent.wrong_buffers Lent.over Lent.box_in Records.held_rows Rows.rows Rows.flat Rows.zeros Records.address_bytes Records.block_bytes
    Records.read_address Records.read_block address_table Records.block_table Find.any Find.all Find.same Unsound.elem Unsound.twice Unsound.count
    Unsound.addresses_unsound Unsound.free_after_used Unsound.each_once Unsound.used_twice Unsound.blocks_unsound Unsound.dirty_uncached
folders-refused-with = refl
