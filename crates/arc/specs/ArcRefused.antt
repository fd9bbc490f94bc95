-- Which D-ARC calls are refused and with which number, and a call and reports that are served, in bytes: tables, by computation.
-- Assumes nothing.
use Rattle.std.specs.Prelude.{◌≡◌, refl, List, [], ◌∷◌, ◌++◌, map, ℕ, ◌+◌, ◌^◌, replicate, set, take}
use Rattle.std.proofs.Math.Option.{some}
use Rattle.tables.specs.Rows as Rows
use Rattle.tables.specs.Records as Records
use Rattle.tables.specs.Records.{AddressRow, address_row, block_row, padding_byte, address_table, block_table}
use Rattle.tables.specs.Find as Find
use Rattle.tables.specs.Unsound as Unsound
use Rattle.paper.specs.Cache as Cache
use Rattle.paper.specs.Cache.{hit, no_counts}
use Rattle.paper.specs.Engine as Engine
use Rattle.paper.specs.Lent as Lent
use Rattle.paper.specs.Lent.{Lent, Ask, Asked, opening, calling, answered}
use Rattle.paper.specs.Reports as Reports
use Rattle.paper.specs.Reports.{Reader, manager, desk}
use Rattle.arc.specs.Policy as Policy
use Rattle.arc.specs.Arc as Arc
use Rattle.arc.specs.Arc.{Sizes}
use Rattle.arc.specs.ArcLent as Bytes
use Rattle.arc.specs.ArcFolder.{arc_folder_refusal}
use Rattle.arc.specs.ArcReports.{arc_report_refusal, arc_reported}
use Rattle.arc.specs.ArcLent.{ListRecord, ArcLent, arc_refusal, arc_call, arc_label_after, word_bytes}

-- with a limit of m
abbrev numbers : ℕ → ℕ → ℕ → ℕ → Sizes
numbers B P C X = record { B = B; P = P; C = C; X = X; label = replicate 64 0; t = C + C + X }

-- Blocks of 64 bytes, four on disk; C 2 and X 1, so m is 5.
abbrev pub small : Sizes
small = numbers 64 4 2 1

-- its label of so many bytes
abbrev pub labelled_by : ℕ → Sizes
labelled_by k = record { B = 64; P = 4; C = 2; X = 1; label = replicate k 7; t = 5 }

-- so many of its rows may be dirty
abbrev up_to : ℕ → Sizes
up_to limit = record { B = 64; P = 4; C = 2; X = 1; label = replicate 64 0; t = limit }

abbrev pub filled : ℕ → List ℕ
filled k = replicate 64 k

abbrev pub print : ℕ → List ℕ
print k = replicate 32 k

-- an address row, which the seat 0x0807 wrote
abbrev pub row : ℕ → List ℕ → ℕ → AddressRow
row a g x = address_row a g x (7, 8)

abbrev memory : List AddressRow → ℕ → Lent
memory rs n =
    record {
      n = n;
      disk = filled 4 ++ (filled 5 ++ (filled 6 ++ filled 7));
      flash = filled 8 ++ filled 9;
      addresses = address_table 5 rs;
      blocks = block_table (block_row (print 1) 0 1 ∷ block_row (print 2) 1 1 ∷ []);
      counters = no_counts;
    }

-- Address 0 is without its block; 1 is dirty; 3 is clean.
abbrev three : Lent
three = memory (row 0 (print 3) 0 ∷ row 1 (print 1) 1 ∷ row 3 (print 2) 0 ∷ []) 3

-- all four are held, with their blocks
abbrev four : Lent
four = memory (row 0 (print 1) 0 ∷ row 1 (print 1) 1 ∷ row 2 (print 2) 0 ∷ row 3 (print 2) 0 ∷ []) 4

-- two of them dirty
abbrev dirty_two : Lent
dirty_two = memory (row 0 (print 1) 1 ∷ row 1 (print 1) 1 ∷ row 2 (print 2) 0 ∷ row 3 (print 2) 0 ∷ []) 4

abbrev pub sizes : ℕ → ℕ → ℕ → ℕ → ℕ → ℕ → ListRecord
sizes t1 t2 b1 b2 b3 p = record { t1 = t1; t2 = t2; b1 = b1; b2 = b2; b3 = b3; p = p }

-- a box with its lists' names end to end and zeros after
abbrev box : Lent → ListRecord → List ℕ → ArcLent
box b r names = record { base = b; sizes = r; lists = take 20 (word_bytes names ++ replicate 20 0) }

-- T1 has 1, T2 has 3, B1 has 0
abbrev pub right : ArcLent
right = box three (sizes 1 1 1 0 0 1) (1 ∷ 3 ∷ 0 ∷ [])

abbrev byte : ℕ → ℕ → ArcLent
byte k x = record { base = right.base; sizes = right.sizes; lists = set right.lists k x }

-- with a byte of the address table, of the block table
abbrev address_byte : ℕ → ℕ → ArcLent
address_byte k x =
    record {
      base = record {
        n = 3;
        disk = three.disk;
        flash = three.flash;
        addresses = set three.addresses k x;
        blocks = three.blocks;
        counters = no_counts;
      };
      sizes = right.sizes;
      lists = right.lists;
    }

abbrev block_byte : ℕ → ℕ → ArcLent
block_byte k x =
    record {
      base = record {
        n = 3;
        disk = three.disk;
        flash = three.flash;
        addresses = three.addresses;
        blocks = set three.blocks k x;
        counters = no_counts;
      };
      sizes = right.sizes;
      lists = right.lists;
    }

pub record Case : Type 0 where
  pub numbers : Sizes
  pub lent : ArcLent
  pub asked : Asked
  pub number : ℕ

abbrev asks : ArcLent → ℕ → Case
asks t k = record { numbers = small; lent = t; asked = calling (Ask.read 1 (filled 0)); number = k }

abbrev asks_up_to : ℕ → ArcLent → ℕ → Case
asks_up_to limit t k = record { numbers = up_to limit; lent = t; asked = calling (Ask.read 1 (filled 0)); number = k }

abbrev opens : ℕ → ℕ → ℕ → ℕ → ℕ → Case
opens B P C X k = record { numbers = numbers B P C X; lent = right; asked = opening; number = k }

abbrev pub table : List Case
table =
    asks right 0
    -- 6: an address that is held isn't named, or named twice, in one list or two
    ∷ asks (box three (sizes 1 1 0 0 0 1) (1 ∷ 3 ∷ [])) 6
    ∷ asks (box three (sizes 2 1 1 0 0 1) (1 ∷ 1 ∷ 3 ∷ 0 ∷ [])) 6
    ∷ asks (box three (sizes 1 1 1 1 0 1) (1 ∷ 3 ∷ 0 ∷ 0 ∷ [])) 6
    -- one that isn't held is named; so is one beyond the disk
    ∷ asks (box three (sizes 1 1 1 1 0 1) (1 ∷ 3 ∷ 0 ∷ 2 ∷ [])) 6
    ∷ asks (box three (sizes 1 1 1 0 0 1) (1 ∷ 2 ∷ 0 ∷ [])) 6
    ∷ asks (byte 7 1) 6
    -- T1, T2 and B3 hold more than C + X; B1 and B2 more than C
    ∷ asks (box four (sizes 2 1 1 0 0 0) (0 ∷ 1 ∷ 2 ∷ 3 ∷ [])) 0
    ∷ asks (box four (sizes 2 2 0 0 0 0) (0 ∷ 1 ∷ 2 ∷ 3 ∷ [])) 6
    ∷ asks (box four (sizes 2 1 0 0 1 0) (0 ∷ 1 ∷ 2 ∷ 3 ∷ [])) 6
    ∷ asks (box four (sizes 1 0 2 1 0 0) (0 ∷ 1 ∷ 2 ∷ 3 ∷ [])) 6
    ∷ asks (box four (sizes 1 1 1 1 0 0) (0 ∷ 1 ∷ 2 ∷ 3 ∷ [])) 0
    -- a nonzero byte after them
    ∷ asks (byte 12 1) 6
    ∷ asks (byte 19 1) 6
    -- p above C
    ∷ asks (box three (sizes 1 1 1 0 0 2) (1 ∷ 3 ∷ 0 ∷ [])) 0
    ∷ asks (box three (sizes 1 1 1 0 0 3) (1 ∷ 3 ∷ 0 ∷ [])) 6
    -- U7: "In a held row refusal 6 now wants only the last padding byte zero."; in a row from n on every byte
    ∷ asks (address_byte (padding_byte 0 0) 1) 0
    ∷ asks (address_byte (padding_byte 2 1) 1) 0
    ∷ asks (address_byte (padding_byte 0 2) 1) 6
    ∷ asks (address_byte (padding_byte 3 0) 1) 6
    ∷ asks (address_byte (padding_byte 3 1) 1) 6
    -- 8: address 0, in T1 or T2, is without its block
    ∷ asks (box three (sizes 1 1 1 0 0 1) (0 ∷ 3 ∷ 1 ∷ [])) 8
    ∷ asks (box three (sizes 1 1 1 0 0 1) (1 ∷ 0 ∷ 3 ∷ [])) 8
    ∷ asks (box three (sizes 1 1 0 1 0 1) (1 ∷ 3 ∷ 0 ∷ [])) 0
    ∷ asks (box three (sizes 1 1 0 0 1 1) (1 ∷ 3 ∷ 0 ∷ [])) 0
    -- 6 comes before 8
    ∷ asks (box three (sizes 1 1 1 0 0 3) (0 ∷ 3 ∷ 1 ∷ [])) 6
    -- 2: the lists' buffer is a byte short or long
    ∷ asks (record { base = three; sizes = sizes 1 1 1 0 0 1; lists = take 19 right.lists }) 2
    ∷ asks (record { base = three; sizes = sizes 1 1 1 0 0 1; lists = right.lists ++ (0 ∷ []) }) 2
    -- so is the label
    ∷ record { numbers = labelled_by 63; lent = right; asked = calling (Ask.read 1 (filled 0)); number = 2 }
    ∷ record { numbers = labelled_by 65; lent = right; asked = opening; number = 2 }
    ∷ record { numbers = labelled_by 64; lent = right; asked = opening; number = 0 }
    -- 12: a limit outside 1 to m, which is 5; before 2, after 11
    ∷ asks_up_to 0 right 12
    ∷ asks_up_to 1 right 0
    ∷ asks_up_to 6 right 12
    ∷ asks_up_to 6 (record { base = three; sizes = sizes 1 1 1 0 0 1; lists = take 19 right.lists }) 12
    ∷ record { numbers = up_to 0; lent = right; asked = opening; number = 12 }
    ∷ record { numbers = up_to 1; lent = right; asked = opening; number = 0 }
    ∷ record { numbers = record { B = 64; P = 4; C = 2; X = 1021; label = replicate 64 0; t = 0 }; lent = right; asked = opening; number = 11 }
    -- 13: two dirty rows; after 8
    ∷ asks_up_to 1 (box dirty_two (sizes 2 1 1 0 0 0) (0 ∷ 1 ∷ 2 ∷ 3 ∷ [])) 13
    ∷ asks_up_to 2 (box dirty_two (sizes 2 1 1 0 0 0) (0 ∷ 1 ∷ 2 ∷ 3 ∷ [])) 0
    ∷ asks_up_to 1 (box (memory (row 0 (print 3) 1 ∷ row 1 (print 1) 1 ∷ row 3 (print 2) 0 ∷ []) 3) (sizes 1 1 1 0 0 1) (1 ∷ 3 ∷ 0 ∷ [])) 8
    -- 11
    ∷ opens 64 4 2 1 0
    ∷ opens 96 4 2 1 11
    ∷ opens 64 0 2 1 11
    ∷ opens 64 65537 2 1 11
    ∷ opens 64 4 0 1 11
    ∷ opens 64 4 257 0 11
    ∷ opens 64 4 256 513 11
    ∷ opens 64 4 2 1021 11
    ∷ opens 64 4 2 1020 2
    ∷ []

-- folder reads of these addresses, with a buffer of so many blocks and bytes more
pub record FolderCase : Type 0 where
  pub numbers : Sizes
  pub lent : ArcLent
  pub asked : List ℕ
  pub buffer : List ℕ
  pub number : ℕ

abbrev folder_asks : ArcLent → List ℕ → ℕ → ℕ → FolderCase
folder_asks t l bytes k = record { numbers = small; lent = t; asked = l; buffer = replicate bytes 0; number = k }

abbrev pub folders : List FolderCase
folders =
    folder_asks right (1 ∷ 3 ∷ 1 ∷ []) 192 0
    ∷ folder_asks right [] 0 10
    ∷ folder_asks right (replicate 64 1) 4096 0
    ∷ folder_asks right (replicate 65 1) 4160 10
    -- 2 comes before 10, 10 before 3, 3 before 6
    ∷ folder_asks right [] 1 2
    ∷ folder_asks right (1 ∷ []) 63 2
    ∷ folder_asks right (replicate 65 4) 4160 10
    ∷ folder_asks right (1 ∷ 4 ∷ []) 128 3
    ∷ folder_asks (byte 12 1) (1 ∷ 4 ∷ []) 128 3
    ∷ folder_asks (byte 12 1) (1 ∷ 3 ∷ []) 128 6
    ∷ folder_asks (box three (sizes 1 1 1 0 0 1) (0 ∷ 3 ∷ 1 ∷ [])) (1 ∷ 3 ∷ []) 128 8
    -- 12 before 2, 13
    ∷ record { numbers = up_to 0; lent = right; asked = []; buffer = 0 ∷ []; number = 12 }
    ∷ record { numbers = up_to 1; lent = box dirty_two (sizes 2 1 1 0 0 0) (0 ∷ 1 ∷ 2 ∷ 3 ∷ []); asked = 1 ∷ []; buffer = filled 0; number = 13 }
    ∷ []

-- reports, in so many bytes: 5 rows of 7 for the manager and of 5 for the desk
pub record ReportCase : Type 0 where
  pub numbers : Sizes
  pub lent : ArcLent
  pub reader : Reader
  pub bytes : ℕ
  pub number : ℕ

abbrev reports : ArcLent → Reader → ℕ → ℕ → ReportCase
reports t w bytes k = record { numbers = small; lent = t; reader = w; bytes = bytes; number = k }

-- a counter is too large
abbrev much : ArcLent
much =
    record {
      base = record {
        n = 3;
        disk = three.disk;
        flash = three.flash;
        addresses = three.addresses;
        blocks = three.blocks;
        counters = record { reads = 2 ^ 63 + 1; hits = 0; flash_writes = 0; primary_writes = 0 };
      };
      sizes = right.sizes;
      lists = right.lists;
    }

abbrev pub report_cases : List ReportCase
report_cases =
    reports right manager 35 0
    ∷ reports right desk 25 0
    -- 2: the report's bytes are too few or too many, the other reader's, or the lists' buffer is short
    ∷ reports right manager 34 2
    ∷ reports right manager 36 2
    ∷ reports right manager 25 2
    ∷ reports right desk 24 2
    ∷ reports right desk 26 2
    ∷ reports right desk 35 2
    ∷ reports (record { base = three; sizes = sizes 1 1 1 0 0 1; lists = take 19 right.lists }) desk 25 2
    -- 6 of the tables and of the lists, 7, 8 of the lists
    ∷ reports (address_byte (padding_byte 0 2) 1) manager 35 6
    ∷ reports (byte 12 1) desk 25 6
    ∷ reports (block_byte (padding_byte 0 0) 1) manager 35 7
    ∷ reports (box three (sizes 1 1 1 0 0 1) (0 ∷ 3 ∷ 1 ∷ [])) desk 25 8
    -- "no 9"
    ∷ reports much manager 35 0
    ∷ reports much desk 25 0
    -- 12 before 2, 13
    ∷ record { numbers = up_to 0; lent = right; reader = desk; bytes = 24; number = 12 }
    ∷ record { numbers = up_to 1; lent = box dirty_two (sizes 2 1 1 0 0 0) (0 ∷ 1 ∷ 2 ∷ 3 ∷ []); reader = desk; bytes = 25; number = 13 }
    -- 11 before 2
    ∷ record { numbers = numbers 64 4 2 1021; lent = right; reader = desk; bytes = 24; number = 11 }
    ∷ []
