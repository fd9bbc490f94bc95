-- Which D-ARC calls are refused and with which number, and a call and reports that are served, in bytes: tables, by computation.
-- Assumes nothing.
use Rattle.std.specs.Prelude.{◌≡◌, refl, List, [], ◌∷◌, ◌++◌, map, ℕ, ◌+◌, ◌^◌, replicate, set, take}
use Rattle.std.proofs.Math.Option.{some}
use Rattle.tables.specs.Rows as Rows
use Rattle.tables.specs.Records as Records
use Rattle.tables.specs.Records.{AddressRow, address_row, block_row, padding_byte, address_table, block_table}
use Rattle.tables.specs.Find as Find
use Rattle.tables.specs.Unsound as Unsound
use Rattle.paper.specs.Cache as Cache
use Rattle.paper.specs.Cache.{hit, no_counts}
use Rattle.paper.specs.Engine as Engine
use Rattle.paper.specs.Lent as Lent
use Rattle.paper.specs.Lent.{Lent, Ask, Asked, opening, calling, answered}
use Rattle.paper.specs.Reports as Reports
use Rattle.paper.specs.Reports.{Reader, manager, desk}
use Rattle.arc.specs.Policy as Policy
use Rattle.arc.specs.Arc as Arc
use Rattle.arc.specs.Arc.{Sizes}
use Rattle.arc.specs.ArcLent as Bytes
use Rattle.arc.specs.ArcFolder.{arc_folder_refusal}
use Rattle.arc.specs.ArcReports.{arc_report_refusal, arc_reported}
use Rattle.arc.specs.ArcLent.{ListRecord, ArcLent, arc_refusal, arc_call, arc_label_after, word_bytes}
use Rattle.arc.specs.ArcRefused.{filled, folders, labelled_by, print, report_cases, right, row, sizes, small, table}

pub refusals-given : map (λ c. arc_refusal c.numbers c.lent c.asked) table ≡ map (λ c. c.number) table
unfolding arc_refusal Bytes.unfit_arc Bytes.words word_bytes Bytes.misnamed Bytes.oversized Bytes.lists_unsound Bytes.top_uncached Lent.wrong_buffers Lent.over
    Lent.box_in Lent.split Lent.free_slots Lent.used_rows Engine.fit Rows.rows Rows.flat Rows.zeros Records.address_bytes Records.block_bytes Records.read_address
    Records.read_block address_table block_table Records.held_rows Records.block_rows Find.any Find.all Find.same Unsound.elem Unsound.twice Unsound.count
    Unsound.addresses_unsound Unsound.free_after_used Unsound.each_once Unsound.used_twice Unsound.blocks_unsound Unsound.dirty_uncached
refusals-given = refl

pub labels-after : (arc_label_after (labelled_by 64) right ≡ replicate 64 7) × (arc_label_after (labelled_by 63) right ≡ replicate 64 0)
unfolding arc_label_after arc_refusal Bytes.unfit_arc Lent.wrong_buffers Unsound.elem Rows.zeros Rows.flat address_table block_table Records.address_bytes
    Records.block_bytes word_bytes
labels-after = (refl, refl)

pub folder-refusals-given : map (λ c. arc_folder_refusal c.numbers c.lent c.asked c.buffer) folders ≡ map (λ c. c.number) folders
unfolding arc_folder_refusal Bytes.unfit_arc Bytes.words word_bytes Bytes.misnamed Bytes.oversized Bytes.lists_unsound Bytes.top_uncached Lent.wrong_buffers
    Lent.over Lent.box_in Lent.split Lent.free_slots Lent.used_rows Engine.fit Rows.rows Rows.flat Rows.zeros Records.address_bytes Records.block_bytes
    Records.read_address Records.read_block address_table block_table Records.held_rows Records.block_rows Find.any Find.all Find.same Unsound.elem Unsound.twice
    Unsound.count Unsound.addresses_unsound Unsound.free_after_used Unsound.each_once Unsound.used_twice Unsound.blocks_unsound Unsound.dirty_uncached
folder-refusals-given = refl

pub report-refusals-given : map (λ c. arc_report_refusal c.numbers c.lent c.reader (replicate c.bytes 0)) report_cases
    ≡ map (λ c. c.number) report_cases
unfolding arc_report_refusal Bytes.unfit_arc Bytes.words word_bytes Bytes.misnamed Bytes.oversized Bytes.lists_unsound Bytes.top_uncached Lent.wrong_buffers
    Lent.over Lent.box_in Lent.split Lent.free_slots Lent.used_rows Engine.fit Rows.rows Rows.flat Rows.zeros Records.address_bytes Records.block_bytes
    Records.read_address Records.read_block address_table block_table Records.held_rows Records.block_rows Find.any Find.all Find.same Unsound.elem Unsound.twice
    Unsound.count Unsound.addresses_unsound Unsound.free_after_used Unsound.each_once Unsound.used_twice Unsound.blocks_unsound Unsound.dirty_uncached
report-refusals-given = refl

-- "The manager's report gives address, dirty byte and seat of every held row, oldest first, in m × 7 lent bytes; the desk's gives address and dirty
-- byte only, in m × 5; zeros follow."
pub managers-report : arc_reported small right manager (replicate 35 9)
    ≡ 0 ∷ 0 ∷ 0 ∷ 0 ∷ 0 ∷ 7 ∷ 8 ∷ 1 ∷ 0 ∷ 0 ∷ 0 ∷ 1 ∷ 7 ∷ 8 ∷ 3 ∷ 0 ∷ 0 ∷ 0 ∷ 0 ∷ 7 ∷ 8 ∷ replicate 14 0
unfolding arc_reported Reports.report_of arc_report_refusal Bytes.unfit_arc Bytes.words word_bytes Bytes.misnamed Bytes.oversized Bytes.lists_unsound
    Bytes.top_uncached Lent.wrong_buffers
    Lent.over Lent.box_in Lent.split Lent.free_slots Lent.used_rows Engine.fit Rows.rows Rows.flat Rows.zeros Records.address_bytes Records.block_bytes
    Records.read_address Records.read_block address_table block_table Records.held_rows Records.block_rows Find.any Find.all Find.same Unsound.elem Unsound.twice
    Unsound.count Unsound.addresses_unsound Unsound.free_after_used Unsound.each_once Unsound.used_twice Unsound.blocks_unsound Unsound.dirty_uncached
managers-report = refl

-- and one that is refused keeps its bytes
pub desks-report : (arc_reported small right desk (replicate 25 9) ≡ 0 ∷ 0 ∷ 0 ∷ 0 ∷ 0 ∷ 1 ∷ 0 ∷ 0 ∷ 0 ∷ 1 ∷ 3 ∷ 0 ∷ 0 ∷ 0 ∷ 0 ∷ replicate 10 0)
    × (arc_reported small right desk (replicate 24 9) ≡ replicate 24 9)
unfolding arc_reported Reports.report_of arc_report_refusal Bytes.unfit_arc Bytes.words word_bytes Bytes.misnamed Bytes.oversized Bytes.lists_unsound
    Bytes.top_uncached Lent.wrong_buffers
    Lent.over Lent.box_in Lent.split Lent.free_slots Lent.used_rows Engine.fit Rows.rows Rows.flat Rows.zeros Records.address_bytes Records.block_bytes
    Records.read_address Records.read_block address_table block_table Records.held_rows Records.block_rows Find.any Find.all Find.same Unsound.elem Unsound.twice
    Unsound.count Unsound.addresses_unsound Unsound.free_after_used Unsound.each_once Unsound.used_twice Unsound.blocks_unsound Unsound.dirty_uncached
desks-report = (refl, refl)

-- A read of address 1 is a hit (nothing is hashed): it goes from T1 to T2, its row and its block row become newest.
pub a-hit-in-bytes : arc_call small right (Ask.read 1 (filled 0))
    ≡ record {
      answer = answered hit 0 0;
      lent = record {
        base = record {
          n = 3;
          disk = filled 4 ++ (filled 5 ++ (filled 6 ++ filled 7));
          flash = filled 8 ++ filled 9;
          addresses = address_table 5 (row 0 (print 3) 0 ∷ row 3 (print 2) 0 ∷ row 1 (print 1) 1 ∷ []);
          blocks = block_table (block_row (print 2) 1 1 ∷ block_row (print 1) 0 1 ∷ []);
          counters = record { reads = 1; hits = 1; flash_writes = 0; primary_writes = 0 };
        };
        sizes = sizes 0 2 1 0 0 1;
        lists = take 20 (word_bytes (3 ∷ 1 ∷ 0 ∷ []) ++ replicate 20 0);
      };
      block = some (filled 8);
      part = [];
    }
unfolding arc_call arc_refusal Bytes.arc_served Bytes.arc_lent_of Bytes.list_bytes Bytes.parts Bytes.unfit_arc Bytes.words word_bytes Bytes.misnamed Bytes.oversized
    Bytes.lists_unsound Bytes.top_uncached Lent.wrong_buffers Lent.over Lent.box_in Lent.lent_of Lent.split Lent.call_of Lent.free_slots Lent.used_rows Engine.fit
    Rows.rows Rows.flat Rows.zeros Records.address_bytes Records.block_bytes Records.read_address Records.read_block address_table block_table Records.held_rows
    Records.block_rows Find.any Find.all Find.same Unsound.elem Unsound.twice Unsound.count Unsound.addresses_unsound Unsound.free_after_used Unsound.each_once
    Unsound.used_twice Unsound.blocks_unsound Unsound.dirty_uncached Policy.serve_by Policy.answered_by Policy.read_by Cache.if_cached Cache.answer Cache.counted
    Arc.list_of Arc.new_p Arc.block_newest Arc.inserted Arc.parted Arc.checked Arc.to_t2 Arc.joined Arc.arc_step_as Arc.arc_step
a-hit-in-bytes = refl
