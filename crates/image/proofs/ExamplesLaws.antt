-- Images of two small boxes, power cuts and the numbers of damaged areas, by computing.
-- Assumes nothing.
use Rattle.std.specs.Prelude.{◌≡◌, refl, List, [], ◌∷◌, ◌++◌, map, ℕ, take, drop, replicate, set}
use Rattle.tables.specs.Rows as Rows
use Rattle.tables.specs.Records as Records
use Rattle.tables.specs.Records.{address_row, block_row, free_row, address_table, block_table, bytes4, bytes2}
use Rattle.tables.specs.Find as Find
use Rattle.tables.specs.Unsound as Unsound
use Rattle.block.specs.Blocks.{splice}
use Rattle.paper.specs.Cache as Cache
use Rattle.paper.specs.Cache.{Numbers, Counters, no_counts}
use Rattle.paper.specs.Engine as Engine
use Rattle.paper.specs.Lent as Lent
use Rattle.paper.specs.Lent.{Lent}
use Rattle.arc.specs.Policy as Policy
use Rattle.arc.specs.Arc as Arc
use Rattle.arc.specs.Arc.{Sizes}
use Rattle.arc.specs.ArcLent as ArcLent
use Rattle.arc.specs.ArcLent.{ArcLent, word_bytes}
use Rattle.image.specs.Body as Body
use Rattle.image.specs.Body.{body_of}
use Rattle.image.specs.Area as Area
use Rattle.image.specs.Area.{writes_for, header, save_writes, applied, cut_at}
use Rattle.image.specs.Image as Image
use Rattle.image.specs.Image.{image_refusal}
use Rattle.image.specs.Kinds as Kinds
use Rattle.image.specs.Kinds.{lru_fields, arc_fields, kinds}
use Rattle.image.specs.Saved.{Saved, lru_saver, arc_saver, save_refusal, save, Restored, fields_found, wrong_tables, restore_refusal, restored, restore}
use Rattle.image.specs.Examples.{Lending, arc_blocks, arc_image, areas, blocks, body, dirty, filled, image, lending, lent-to, over, rows, saves, small, unsaved}

-- a header, byte by byte
pub header-bytes : header 70000 ≡ (86 ∷ 66 ∷ 88 ∷ 1 ∷ 0 ∷ 112 ∷ 17 ∷ 1 ∷ 0 ∷ []) ++ replicate 55 0
unfolding header Rows.zeros
header-bytes = refl

-- "in writes of 64 bytes"
pub how-many : map writes_for (1 ∷ 63 ∷ 64 ∷ 65 ∷ 128 ∷ 129 ∷ 252 ∷ []) ≡ 1 ∷ 1 ∷ 1 ∷ 2 ∷ 2 ∷ 3 ∷ 4 ∷ []
unfolding writes_for
how-many = refl

abbrev memory : Lent
memory = record { n = 1; disk = []; flash = []; addresses = rows; blocks = blocks; counters = no_counts }

-- A D-ARC box with C = 1 and X = 0, so that m = 2 and d = 1: address 1 is held, in T1. The body has 52 + 64 + 80 + 40 + 8 bytes.
abbrev arc_small : Sizes
arc_small = record { B = 64; P = 2; C = 1; X = 0; label = filled 9; t = 2 }

abbrev arc_memory : ArcLent
arc_memory =
    record {
      base = record { n = 1; disk = []; flash = []; addresses = rows; blocks = arc_blocks; counters = no_counts };
      sizes = record { t1 = 1; t2 = 0; b1 = 0; b2 = 0; b3 = 0; p = 1 };
      lists = 1 ∷ 0 ∷ 0 ∷ 0 ∷ 0 ∷ 0 ∷ 0 ∷ 0 ∷ [];
    }

-- "0, B, P, m, d, n, t, or for D-ARC 1, B, P, C, X, n, t, p and the five list sizes": boxes in which no two numbers are equal
pub in_order : (lru_fields (record { B = 64; P = 2; m = 3; d = 4; label = []; t = 6 }) (record {
  n = 5;
  disk = [];
  flash = [];
  addresses = [];
  blocks = [];
  counters = no_counts;
})).numbers ≡ 0 ∷ 64 ∷ 2 ∷ 3 ∷ 4 ∷ 5 ∷ 6 ∷ []
in_order = refl

pub arc-in-order : (arc_fields (record { B = 64; P = 2; C = 3; X = 4; label = []; t = 6 }) (record {
  base = record { n = 5; disk = []; flash = []; addresses = []; blocks = []; counters = no_counts };
  sizes = record { t1 = 8; t2 = 9; b1 = 10; b2 = 11; b3 = 12; p = 7 };
  lists = [];
})).numbers ≡ 1 ∷ 64 ∷ 2 ∷ 3 ∷ 4 ∷ 5 ∷ 6 ∷ 7 ∷ 8 ∷ 9 ∷ 10 ∷ 11 ∷ 12 ∷ []
arc-in-order = refl

-- "bytes after the fill are kept": the areas have 3 bytes more
pub images : map (λ x. applied (save_writes (body_of x)) (replicate 323 7)) (lru_fields small memory ∷ arc_fields arc_small arc_memory ∷ [])
    ≡ (image ++ replicate 3 7) ∷ (arc_image ++ replicate 3 7) ∷ []
unfolding applied Area.padded Area.body_write Area.body_writes header writes_for save_writes splice body_of word_bytes Rows.flat Rows.zeros address_table block_table
    Records.address_bytes Records.block_bytes
images = refl

-- "earlier writes are new, later ones old, and the one at the cut is junk": at the body's second write
pub cut-leaves : cut_at (save_writes body) 2 (filled 170) (replicate 320 7) ≡ filled 0 ++ (take 64 body ++ (filled 170 ++ replicate 128 7))
unfolding cut_at Area.padded Area.body_write Area.body_writes header writes_for save_writes splice Rows.flat Rows.zeros address_table block_table
    Records.address_bytes Records.block_bytes
cut-leaves = refl

pub areas-refused : map (λ c. image_refusal kinds c.area) areas ≡ map (λ c. c.number) areas
unfolding image_refusal Image.no_image Image.is_image Image.length_in Image.body_in Image.too_short kinds Kinds.lru_form Kinds.arc_form Body.no_body Body.fails_in
    Body.fails_as Body.fields_in Body.numbers_in Body.body_length Body.total Body.pieces ArcLent.words ArcLent.unfit_arc ArcLent.misnamed ArcLent.oversized
    ArcLent.lists_unsound ArcLent.top_uncached Lent.unfit Lent.box_in Lent.free_slots Lent.used_rows Lent.split Engine.fit cut_at Area.padded
    Area.body_write Area.body_writes header writes_for save_writes splice Rows.rows Rows.flat Rows.zeros Records.address_bytes Records.block_bytes Records.read_address
    Records.read_block Records.held_rows Records.block_rows address_table block_table Find.any Find.all Find.same Unsound.elem Unsound.twice Unsound.count
    Unsound.addresses_unsound Unsound.free_after_used Unsound.each_once Unsound.used_twice Unsound.blocks_unsound Unsound.dirty_uncached
areas-refused = refl

abbrev made : Lending → Restored
made c = restore kinds c.area (replicate c.addresses 5) (replicate c.blocks 5) (replicate c.lists 5)

-- "gives back the saved box"
abbrev back : Restored
back =
    record {
      number = 0;
      given = record { numbers = 0 ∷ 64 ∷ 2 ∷ 2 ∷ 2 ∷ 1 ∷ 2 ∷ []; strings = filled 9 ∷ [] };
      area = filled 0 ++ drop 64 image;
      addresses = rows;
      blocks = blocks;
      lists = [];
    }

-- "A refused restore returns a record of zeros."
abbrev not_back : Restored
not_back =
    record {
      number = 2;
      given = record { numbers = replicate 13 0; strings = filled 0 ∷ [] };
      area = image;
      addresses = replicate 79 5;
      blocks = replicate 80 5;
      lists = [];
    }

pub restores : (map (λ c. (made c).number) lent-to ≡ map (λ c. c.number) lent-to) × (made (lending image 80 80 0 0) ≡ back)
    × (made (lending image 79 80 0 2) ≡ not_back)
unfolding restore restore_refusal restored wrong_tables fields_found Image.no_image Image.is_image Image.length_in Image.body_in Image.too_short kinds
    Kinds.lru_form Kinds.arc_form Body.no_body Body.fails_in Body.fails_as Body.fields_in Body.numbers_in Body.body_length Body.total Body.pieces ArcLent.words
    ArcLent.unfit_arc ArcLent.misnamed ArcLent.oversized ArcLent.lists_unsound ArcLent.top_uncached Lent.unfit Lent.box_in Lent.free_slots Lent.used_rows Lent.split
    Engine.fit writes_for splice Rows.rows Rows.flat Rows.zeros Records.address_bytes Records.block_bytes Records.read_address
    Records.read_block Records.held_rows Records.block_rows address_table block_table Find.any Find.all Find.same Unsound.elem Unsound.twice Unsound.count
    Unsound.addresses_unsound Unsound.free_after_used Unsound.each_once Unsound.used_twice Unsound.blocks_unsound Unsound.dirty_uncached
restores = (refl, refl, refl)

-- "A save call flushes, then writes a body": the row is clean in the table and in the image, and its block is on the disk
abbrev after : Saved Lent
after = save (lru_saver small) (unsaved no_counts) (replicate 323 7)

pub saves-made : (map (λ c. save_refusal (lru_saver c.numbers) c.memory (replicate c.area 7)) saves ≡ map (λ c. c.number) saves)
    × (after.lent.disk ∷ after.lent.addresses ∷ after.area ∷ [] ≡ (filled 4 ++ filled 3) ∷ rows ∷ (image ++ replicate 3 7) ∷ [])
unfolding save save_refusal Cache.serve Cache.flushed applied body_of word_bytes Lent.call Lent.served Lent.refusal Lent.wrong_buffers Lent.over Lent.call_of
    Lent.lent_of Image.too_short Lent.unfit Lent.box_in Lent.free_slots Lent.used_rows Lent.split Engine.fit Area.padded
    Area.body_write Area.body_writes header writes_for save_writes splice Rows.rows Rows.flat Rows.zeros Records.address_bytes Records.block_bytes Records.read_address
    Records.read_block Records.held_rows Records.block_rows address_table block_table Find.any Find.all Find.same Unsound.elem Unsound.twice Unsound.count
    Unsound.addresses_unsound Unsound.free_after_used Unsound.each_once Unsound.used_twice Unsound.blocks_unsound Unsound.dirty_uncached
saves-made = (refl, refl)

-- The same of a D-ARC box: the one above, with its row dirty
abbrev arc_unsaved : Counters → ArcLent
arc_unsaved k =
    record {
      base = record { n = 1; disk = replicate 128 4; flash = filled 3; addresses = dirty; blocks = arc_blocks; counters = k };
      sizes = arc_memory.sizes;
      lists = arc_memory.lists;
    }

abbrev arc_after : Saved ArcLent
arc_after = save (arc_saver arc_small) (arc_unsaved no_counts) (replicate 323 7)

pub arc-saves-made : (map (save_refusal (arc_saver arc_small) (arc_unsaved no_counts)) (replicate 320 7 ∷ replicate 319 7 ∷ []) ≡ 0 ∷ 14 ∷ [])
    × (save_refusal (arc_saver arc_small) (arc_unsaved over) [] ≡ 9)
    × (arc_after.lent.base.disk ∷ arc_after.lent.lists ∷ arc_after.area ∷ [] ≡ (filled 4 ++ filled 3) ∷ arc_memory.lists ∷ (arc_image ++ replicate 3 7) ∷ [])
unfolding save save_refusal Policy.serve_by Cache.flushed applied body_of word_bytes ArcLent.arc_call ArcLent.arc_served ArcLent.arc_refusal
    ArcLent.arc_lent_of ArcLent.list_bytes ArcLent.parts ArcLent.words ArcLent.unfit_arc ArcLent.misnamed ArcLent.oversized ArcLent.lists_unsound
    ArcLent.top_uncached Lent.wrong_buffers Lent.over Lent.call_of
    Lent.lent_of Image.too_short Lent.unfit Lent.box_in Lent.free_slots Lent.used_rows Lent.split Engine.fit Area.padded
    Area.body_write Area.body_writes header writes_for save_writes splice Rows.rows Rows.flat Rows.zeros Records.address_bytes Records.block_bytes Records.read_address
    Records.read_block Records.held_rows Records.block_rows address_table block_table Find.any Find.all Find.same Unsound.elem Unsound.twice Unsound.count
    Unsound.addresses_unsound Unsound.free_after_used Unsound.each_once Unsound.used_twice Unsound.blocks_unsound Unsound.dirty_uncached
arc-saves-made = (refl, refl, refl)
