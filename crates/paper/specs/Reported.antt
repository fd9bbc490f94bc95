-- The reports by example, each computed: their bytes, and which are refused with which number.
-- Assumes nothing.
use Rattle.std.specs.Prelude.{◌≡◌, refl, List, [], ◌∷◌, ◌++◌, map, ℕ, ◌+◌, ◌^◌, replicate, set}
use Rattle.tables.specs.Rows as Rows
use Rattle.tables.specs.Records as Records
use Rattle.tables.specs.Records.{address_row, bytes2, block_row, free_row, padding_byte, address_table, block_table}
use Rattle.tables.specs.Find as Find
use Rattle.tables.specs.Unsound as Unsound
use Rattle.paper.specs.Cache.{Numbers, Counters, no_counts}
use Rattle.paper.specs.Engine as Engine
use Rattle.paper.specs.Lent as Lent
use Rattle.paper.specs.Lent.{Lent}
use Rattle.paper.specs.Refused.{numbers, counters}
use Rattle.paper.specs.Reports.{Reader, manager, desk, report_of, report_refusal, reported}

-- 259 blocks of 64 bytes on disk; at most three addresses held, two blocks cached
abbrev pub office : Numbers
office = numbers 64 259 3 2

abbrev print : ℕ → List ℕ
print k = replicate 32 k

-- Address 258 is held and dirty, last written by the seat 2055, and its block is in slot 0; address 1 is clean, last written by the seat 9.
abbrev rows : ℕ → List ℕ
rows g = address_table 3 (address_row 258 (print g) 1 (bytes2 2055) ∷ address_row 1 (print 2) 0 (bytes2 9) ∷ [])

abbrev blocks : List ℕ
blocks = block_table (free_row 1 ∷ block_row (print 1) 0 1 ∷ [])

abbrev memory : (disk n : ℕ) → List ℕ → List ℕ → Counters → Lent
memory disk n addresses blocks k =
    record { n = n; disk = replicate disk 6; flash = replicate 128 8; addresses = addresses; blocks = blocks; counters = k }

abbrev pub two-held : Lent
two-held = memory 16576 2 (rows 1) blocks no_counts

-- A case: numbers, lent memory, whose report, the length of the bytes lent for it, and the number of the refusal, 0 where it is served
pub record Case : Type 0 where
  pub numbers : Numbers
  pub lent : Lent
  pub reader : Reader
  pub length : ℕ
  pub number : ℕ

abbrev asks : Reader → ℕ → Lent → ℕ → Case
asks w n t k = record { numbers = office; lent = t; reader = w; length = n; number = k }

-- with another block size, and so many rows that may be dirty
abbrev asks_up_to : (B limit : ℕ) → Reader → ℕ → Lent → ℕ → Case
asks_up_to B limit w n t k =
    record { numbers = record { B = B; P = 259; m = 3; d = 2; label = replicate 64 0; t = limit }; lent = t; reader = w; length = n; number = k }

-- both rows dirty, with their block
abbrev crowded : List ℕ
crowded = address_table 3 (address_row 258 (print 1) 1 (bytes2 2055) ∷ address_row 1 (print 1) 1 (bytes2 9) ∷ [])

-- the last byte of padding of the first row is 1
abbrev damaged : List ℕ → List ℕ
damaged t = set t (padding_byte 0 2) 1

-- "have no 3 and no 9": a counter above 2 to the power 63
abbrev much : Counters
much = counters 0 0 0 (2 ^ 63 + 1)

-- 2: the report's bytes, and the disk. The order 1, 12, 2, 6, 7, 8, 13: in the first case of these the tests before 13 apply, and in each later case one
-- less.
abbrev cases : Reader → (right : ℕ) → List Case
cases w n =
    asks w n two-held 0
    ∷ asks w (n + 1) two-held 2
    ∷ asks w 0 two-held 2
    ∷ asks w n (memory 16575 2 (rows 1) blocks no_counts) 2
    ∷ asks w n (memory 16576 0 (address_table 3 []) blocks no_counts) 0
    ∷ asks_up_to 32 0 w 1 (memory 16576 2 (damaged (rows 2)) (damaged blocks) much) 1
    ∷ asks_up_to 64 0 w 1 (memory 16576 2 (damaged (rows 2)) (damaged blocks) much) 12
    ∷ asks_up_to 64 4 w n two-held 12
    ∷ asks w 1 (memory 16576 2 (damaged (rows 2)) (damaged blocks) much) 2
    ∷ asks w n (memory 16576 2 (damaged (rows 2)) (damaged blocks) much) 6
    ∷ asks w n (memory 16576 2 (rows 2) (damaged blocks) much) 7
    ∷ asks w n (memory 16576 2 (rows 2) blocks much) 8
    ∷ asks_up_to 64 1 w n (memory 16576 2 crowded blocks much) 13
    ∷ asks_up_to 64 2 w n (memory 16576 2 crowded blocks much) 0
    ∷ asks_up_to 64 1 w n (memory 16576 2 (rows 1) blocks much) 0
    ∷ asks w n (memory 16576 2 (rows 1) blocks much) 0
    ∷ []

-- the manager's has 21 bytes and the desk's 15: not each other's
abbrev pub table : List Case
table = cases manager 21 ++ cases desk 15 ++ (asks manager 20 two-held 2 ∷ asks desk 14 two-held 2 ∷ asks manager 15 two-held 2 ∷ asks desk 21 two-held 2 ∷ [])
