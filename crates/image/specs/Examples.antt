-- Images of two small boxes, power cuts and the numbers of damaged areas, by computing.
-- Assumes nothing.
use Rattle.std.specs.Prelude.{◌≡◌, refl, List, [], ◌∷◌, ◌++◌, map, ℕ, take, drop, replicate, set}
use Rattle.tables.specs.Rows as Rows
use Rattle.tables.specs.Records as Records
use Rattle.tables.specs.Records.{address_row, block_row, free_row, address_table, block_table, bytes4, bytes2}
use Rattle.tables.specs.Find as Find
use Rattle.tables.specs.Unsound as Unsound
use Rattle.block.specs.Blocks.{splice}
use Rattle.paper.specs.Cache as Cache
use Rattle.paper.specs.Cache.{Numbers, Counters, no_counts}
use Rattle.paper.specs.Engine as Engine
use Rattle.paper.specs.Lent as Lent
use Rattle.paper.specs.Lent.{Lent}
use Rattle.arc.specs.Policy as Policy
use Rattle.arc.specs.Arc as Arc
use Rattle.arc.specs.Arc.{Sizes}
use Rattle.arc.specs.ArcLent as ArcLent
use Rattle.arc.specs.ArcLent.{ArcLent, word_bytes}
use Rattle.image.specs.Body as Body
use Rattle.image.specs.Body.{body_of}
use Rattle.image.specs.Area as Area
use Rattle.image.specs.Area.{writes_for, header, save_writes, applied, cut_at}
use Rattle.image.specs.Image as Image
use Rattle.image.specs.Image.{image_refusal}
use Rattle.image.specs.Kinds as Kinds
use Rattle.image.specs.Kinds.{lru_fields, arc_fields, kinds}
use Rattle.image.specs.Saved.{Saved, lru_saver, arc_saver, save_refusal, save, Restored, fields_found, wrong_tables, restore_refusal, restored, restore}

abbrev pub filled : ℕ → List ℕ
filled k = replicate 64 k

abbrev one : List ℕ
one = replicate 32 1

abbrev two : List ℕ
two = replicate 32 2

-- Blocks of 64 bytes, two of them on disk; at most two addresses held, two blocks cached, two dirty rows. Address 1 is held, from seat 770, and its block is in
-- slot 0; slot 1 is free. The body has 28 + 64 + 80 + 80 bytes.
abbrev pub small : Numbers
small = record { B = 64; P = 2; m = 2; d = 2; label = filled 9; t = 2 }

abbrev pub rows : List ℕ
rows = address_table 2 (address_row 1 one 0 (bytes2 770) ∷ [])

abbrev pub blocks : List ℕ
blocks = block_table (free_row 1 ∷ block_row one 0 1 ∷ [])

abbrev numbers : List ℕ
numbers =
    0 ∷ 0 ∷ 0 ∷ 0 ∷ 64 ∷ 0 ∷ 0 ∷ 0 ∷ 2 ∷ 0 ∷ 0 ∷ 0 ∷ 2 ∷ 0 ∷ 0 ∷ 0 ∷ 2 ∷ 0 ∷ 0 ∷ 0 ∷ 1 ∷ 0 ∷ 0 ∷ 0 ∷ 2 ∷ 0 ∷ 0 ∷ 0 ∷ []

abbrev pub body : List ℕ
body = numbers ++ (filled 9 ++ (rows ++ blocks))

abbrev headed : ℕ → List ℕ → List ℕ
headed n b = (86 ∷ 66 ∷ 88 ∷ 1 ∷ 0 ∷ n ∷ 0 ∷ 0 ∷ 0 ∷ []) ++ (replicate 55 0 ++ b)

abbrev pub image : List ℕ
image = headed 252 (body ++ replicate 4 0)

abbrev pub arc_blocks : List ℕ
arc_blocks = block_table (block_row one 0 1 ∷ [])

abbrev arc_numbers : List ℕ
arc_numbers =
    (1 ∷ 0 ∷ 0 ∷ 0 ∷ 64 ∷ 0 ∷ 0 ∷ 0 ∷ 2 ∷ 0 ∷ 0 ∷ 0 ∷ 1 ∷ 0 ∷ 0 ∷ 0 ∷ 0 ∷ 0 ∷ 0 ∷ 0 ∷ 1 ∷ 0 ∷ 0 ∷ 0 ∷ 2 ∷ 0 ∷ 0 ∷ 0 ∷ 1 ∷ 0 ∷ 0 ∷ 0 ∷ [])
    ++ (1 ∷ 0 ∷ 0 ∷ 0 ∷ replicate 16 0)

abbrev pub arc_image : List ℕ
arc_image = headed 244 (arc_numbers ++ (filled 9 ++ (rows ++ (arc_blocks ++ (1 ∷ replicate 19 0)))))

-- An area and the number that a restore refuses it with before it looks at the tables lent, 0 if it doesn't
pub record Given : Type 0 where
  pub area : List ℕ
  pub number : ℕ

abbrev given : List ℕ → ℕ → Given
given area k = record { area = area; number = k }

-- byte k of an image changed to x; the first image with n, t and the address table changed; a save of the first box that is cut
abbrev changed : ℕ → ℕ → List ℕ
changed k x = set image k x

abbrev arc_changed : ℕ → ℕ → List ℕ
arc_changed k x = set arc_image k x

abbrev with_rows : ℕ → ℕ → List ℕ → List ℕ
with_rows n t table = take 156 (set (set image 84 n) 88 t) ++ (table ++ (blocks ++ replicate 4 0))

abbrev cut : ℕ → List ℕ → List ℕ
cut j left = cut_at (save_writes body) j left (replicate 320 7)

-- an area with an older image in it, of the same box with nothing held
abbrev older : List ℕ
older = take 156 (set image 84 0) ++ (replicate 80 0 ++ (block_table (free_row 0 ∷ free_row 1 ∷ []) ++ replicate 4 0))

abbrev pub areas : List Given
areas =
    given image 0
    ∷ given (image ++ replicate 3 7) 0
    ∷ given arc_image 0
    -- the fill isn't looked at
    ∷ given (changed 319 1) 0
    -- 15: "an area under 64 bytes", "a header that isn't an image of version 1": the mark, the version, the zeros
    ∷ given [] 15
    ∷ given (take 63 image) 15
    ∷ given (changed 0 87) 15
    ∷ given (changed 1 98) 15
    ∷ given (changed 2 0) 15
    ∷ given (changed 3 2) 15
    ∷ given (changed 4 1) 15
    ∷ given (changed 9 1) 15
    ∷ given (changed 63 1) 15
    ∷ given (filled 0 ++ drop 64 image) 15
    -- 14: "an area too short for header, body and fill"
    ∷ given (take 319 image) 14
    ∷ given (take 64 image) 14
    ∷ given (changed 6 1) 14
    ∷ given (changed 8 255) 14
    -- 16: "a body that starts above 1"
    ∷ given (changed 64 2) 16
    ∷ given (changed 67 1) 16
    -- "isn't as long as its record says": a body of the other kind, one byte less or more, none, a row more
    ∷ given (changed 64 1) 16
    ∷ given (changed 5 251) 16
    ∷ given (changed 5 253) 16
    ∷ given (changed 5 0) 16
    ∷ given (changed 76 3) 16
    ∷ given (arc_changed 80 1) 16
    -- "or fails 1, 11": B, P
    ∷ given (changed 68 65) 16
    ∷ given (changed 72 0) 16
    ∷ given (arc_changed 68 65) 16
    ∷ given (arc_changed 72 0) 16
    -- 12: t is 0, above m
    ∷ given (changed 88 0) 16
    ∷ given (changed 88 3) 16
    ∷ given (arc_changed 88 0) 16
    -- 6: n above m, a row from n on not zero, an address ≥ P; p above C, a list's size, another name, a byte after the lists
    ∷ given (changed 84 3) 16
    ∷ given (changed 84 0) 16
    ∷ given (changed 156 2) 16
    ∷ given (arc_changed 92 2) 16
    ∷ given (arc_changed 96 0) 16
    ∷ given (arc_changed 300 0) 16
    ∷ given (arc_changed 304 1) 16
    -- 7: a slot twice
    ∷ given (changed 268 0) 16
    -- 8: a dirty row whose fingerprint isn't cached; an address of T1 without its block
    ∷ given (with_rows 1 2 (address_table 2 (address_row 1 two 1 (bytes2 0) ∷ []))) 16
    ∷ given (arc_changed 184 2) 16
    -- 13: two dirty rows, with the limit 2 and 1
    ∷ given (with_rows 2 2 (address_table 2 (address_row 0 one 1 (bytes2 0) ∷ address_row 1 one 1 (bytes2 0) ∷ []))) 0
    ∷ given (with_rows 2 1 (address_table 2 (address_row 0 one 1 (bytes2 0) ∷ address_row 1 one 1 (bytes2 0) ∷ []))) 16
    -- the order: all three apply, then one less each time
    ∷ given (take 319 (set (changed 0 87) 64 2)) 15
    ∷ given (take 319 (changed 64 2)) 14
    -- power fails at each of the six writes, with junk, with the old bytes, with the new ones; "a header write is wholly old or wholly new"
    ∷ given (cut 0 (filled 7)) 15
    ∷ given (cut 0 (filled 0)) 15
    ∷ given (cut 1 (filled 170)) 15
    ∷ given (cut 2 (filled 7)) 15
    ∷ given (cut 3 (take 64 image)) 15
    ∷ given (cut 4 (filled 255)) 15
    ∷ given (cut 5 (filled 0)) 15
    ∷ given (cut 5 (take 64 image)) 0
    -- why "if the area's header was no image before it" is needed: cut at the first write, wholly old, the older box is found
    ∷ given (cut_at (save_writes body) 0 (take 64 older) older) 0
    ∷ given (cut_at (save_writes body) 0 (filled 0) older) 15
    ∷ []

-- What is lent to a restore beside the area, and the number that it gets: 15, 14 and 16 as above, "then 2"
pub record Lending : Type 0 where
  pub area : List ℕ
  pub addresses : ℕ
  pub blocks : ℕ
  pub lists : ℕ
  pub number : ℕ

abbrev pub lending : List ℕ → (addresses blocks lists number : ℕ) → Lending
lending area a b l k = record { area = area; addresses = a; blocks = b; lists = l; number = k }

abbrev pub lent-to : List Lending
lent-to =
    lending image 80 80 0 0
    ∷ lending arc_image 80 40 8 0
    -- each length alone; "for a D-LRU image the lists' buffer has length 0"
    ∷ lending image 79 80 0 2
    ∷ lending image 80 81 0 2
    ∷ lending image 80 80 1 2
    ∷ lending image 80 80 8 2
    ∷ lending arc_image 80 80 8 2
    ∷ lending arc_image 80 40 0 2
    -- 2 comes last
    ∷ lending (changed 0 87) 0 0 0 15
    ∷ lending (take 319 image) 0 0 0 14
    ∷ lending (changed 64 2) 0 0 0 16
    -- "clears it": a second restore
    ∷ lending (restore kinds image (replicate 80 5) (replicate 80 5) []).area 80 80 0 15
    ∷ []

-- A save: the memory, the area's length and the number that it gets. The box above with its row dirty, its block of 3s in flash.
pub record Saving : Type 0 where
  pub numbers : Numbers
  pub memory : Lent
  pub area : ℕ
  pub number : ℕ

abbrev pub dirty : List ℕ
dirty = address_table 2 (address_row 1 one 1 (bytes2 770) ∷ [])

abbrev pub unsaved : Counters → Lent
unsaved k = record { n = 1; disk = replicate 128 4; flash = filled 3 ++ filled 6; addresses = dirty; blocks = blocks; counters = k }

abbrev pub over : Counters
over = record { reads = 9223372036854775809; hits = 0; flash_writes = 0; primary_writes = 0 }

abbrev saving : Numbers → Lent → ℕ → ℕ → Saving
saving N t area k = record { numbers = N; memory = t; area = area; number = k }

abbrev pub saves : List Saving
saves =
    saving small (unsaved no_counts) 320 0
    ∷ saving small (unsaved no_counts) 500 0
    -- "14 .. in a save after all else"
    ∷ saving small (unsaved no_counts) 319 14
    ∷ saving small (unsaved no_counts) 0 14
    ∷ saving small (unsaved over) 319 9
    ∷ saving small (record { n = 3; disk = replicate 128 4; flash = replicate 128 3; addresses = dirty; blocks = blocks; counters = over }) 319 6
    ∷ saving (record { B = 65; P = 2; m = 2; d = 2; label = filled 9; t = 2 }) (unsaved over) 319 1
    ∷ []
