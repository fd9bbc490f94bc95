-- Which calls are refused and with which number, what a refused call leaves, and a few calls that are served: tables, by computation.
-- Assumes nothing.
use Rattle.std.specs.Prelude.{◌≡◌, refl, true, false, List, [], ◌∷◌, ◌++◌, map, ℕ, ◌+◌, ◌-◌, ◌^◌, take, replicate, set}
use Rattle.std.proofs.Math.Option.{Option, none, some}
use Rattle.tables.specs.Rows as Rows
use Rattle.tables.specs.Rows.{table_bytes}
use Rattle.tables.specs.Records as Records
use Rattle.tables.specs.Records.{AddressRow, BlockRow, address_row, block_row, free_row, padding_byte, address_table, block_table}
use Rattle.tables.specs.Find as Find
use Rattle.tables.specs.Unsound as Unsound
use Rattle.paper.specs.Cache as Cache
use Rattle.paper.specs.Cache.{Numbers, hit, from_cache, from_disk, done, Counters, no_counts}
use Rattle.paper.specs.Engine as Engine
use Rattle.paper.specs.Lent as Lent
use Rattle.paper.specs.Lent.{Lent, Ask, Asked, opening, calling, Answer, refused, answered, After, unfit, refusal, call, opened, label_after}
use Rattle.paper.specs.Refused.{kept_calls, labelled_by, numbers, openings, served_calls, sound, table}

pub refused-with : map (λ c. refusal c.numbers c.lent c.asked) table ≡ map (λ c. c.number) table
unfolding refusal unfit Lent.wrong_buffers Lent.over Lent.box_in Rows.rows Rows.flat Rows.zeros Records.address_bytes Records.block_bytes
    Records.read_address Records.read_block Records.held_rows address_table block_table Find.any Find.all Find.same Unsound.elem Unsound.twice
    Unsound.count Unsound.addresses_unsound
    Unsound.free_after_used Unsound.each_once Unsound.used_twice Unsound.blocks_unsound Unsound.dirty_uncached
refused-with = refl

-- The edges of the four numbers
abbrev right : List Numbers
right =
    numbers 64 1 1 1
    ∷ numbers 128 65536 1 1
    ∷ numbers 256 1 1024 1
    ∷ numbers 512 1 1 256
    ∷ numbers 1024 65536 1024 256
    ∷ numbers 2048 2 2 2
    ∷ numbers 4096 65536 1024 256
    ∷ []

abbrev wrong : List Numbers
wrong =
    numbers 0 1 1 1
    ∷ numbers 32 1 1 1
    ∷ numbers 63 1 1 1
    ∷ numbers 65 1 1 1
    ∷ numbers 96 1 1 1
    ∷ numbers 8192 1 1 1
    ∷ numbers 64 0 1 1
    ∷ numbers 64 65537 1 1
    ∷ numbers 64 1 0 1
    ∷ numbers 64 1 1025 1
    ∷ numbers 64 1 1 0
    ∷ numbers 64 1 1 257
    ∷ []

pub fit-numbers : map unfit right ≡ map (λ N. false) right
unfolding unfit Unsound.elem
fit-numbers = refl

pub unfit-numbers : map unfit wrong ≡ map (λ N. true) wrong
unfolding unfit Unsound.elem
unfit-numbers = refl

pub calls-leave : map (λ c. call c.numbers c.lent c.ask) (kept_calls ++ served_calls) ≡ map (λ c. c.after) (kept_calls ++ served_calls)
unfolding call refusal unfit Lent.wrong_buffers Lent.over Lent.served Lent.kept Lent.box_in Lent.lent_of Lent.split Lent.free_slots Lent.used_rows
    Lent.call_of Engine.fit Rows.rows Rows.flat Rows.zeros Records.address_bytes Records.block_bytes Records.read_address Records.read_block address_table
    block_table Records.held_rows Records.block_rows Find.any Find.all Find.same Unsound.elem Unsound.twice Unsound.count Unsound.addresses_unsound
    Unsound.free_after_used Unsound.each_once Unsound.used_twice Unsound.blocks_unsound Unsound.dirty_uncached Cache.serve Cache.read_as Cache.look_as
    Cache.flushed Cache.if_cached Cache.answer Cache.step Cache.step1 Cache.step3 Cache.step4 Cache.freed Cache.counted
calls-leave = refl

-- U6: "given at opening (zeros if refused)"
pub labels-after :
    (label_after (labelled_by 64 64) sound ≡ replicate 64 7)
    × (label_after (labelled_by 32 64) sound ≡ replicate 64 0)
    × (label_after (labelled_by 64 63) sound ≡ replicate 64 0)
unfolding label_after refusal unfit Lent.wrong_buffers Unsound.elem Rows.zeros Rows.flat address_table block_table Records.address_bytes Records.block_bytes
labels-after = (refl, refl, refl)

pub openings-leave : map (λ c. opened c.numbers c.lent) openings ≡ map (λ c. c.after) openings
unfolding opened refusal unfit Lent.wrong_buffers Lent.fresh Lent.unopened Unsound.elem Rows.flat Rows.zeros Records.address_bytes Records.block_bytes
    Records.read_address Records.read_block address_table block_table Records.fresh_addresses Records.fresh_blocks
openings-leave = refl
