-- Which calls are refused and with which number, what a refused call leaves, and a few calls that are served: tables, by computation.
-- Assumes nothing.
use Rattle.std.specs.Prelude.{◌≡◌, refl, true, false, List, [], ◌∷◌, ◌++◌, map, ℕ, ◌+◌, ◌-◌, ◌^◌, take, replicate, set}
use Rattle.std.proofs.Math.Option.{Option, none, some}
use Rattle.tables.specs.Rows as Rows
use Rattle.tables.specs.Rows.{table_bytes}
use Rattle.tables.specs.Records as Records
use Rattle.tables.specs.Records.{AddressRow, BlockRow, address_row, block_row, free_row, padding_byte, address_table, block_table}
use Rattle.tables.specs.Find as Find
use Rattle.tables.specs.Unsound as Unsound
use Rattle.paper.specs.Cache as Cache
use Rattle.paper.specs.Cache.{Numbers, hit, from_cache, from_disk, done, Counters, no_counts}
use Rattle.paper.specs.Engine as Engine
use Rattle.paper.specs.Lent as Lent
use Rattle.paper.specs.Lent.{Lent, Ask, Asked, opening, calling, Answer, refused, answered, After, unfit, refusal, call, opened, label_after}

-- with a limit of m, as in replay
abbrev pub numbers : ℕ → ℕ → ℕ → ℕ → Numbers
numbers B P m d = record { B = B; P = P; m = m; d = d; label = replicate 64 0; t = m }

abbrev pub counters : ℕ → ℕ → ℕ → ℕ → Counters
counters r h f p = record { reads = r; hits = h; flash_writes = f; primary_writes = p }

-- Blocks of 64 bytes, two of them on disk; at most two addresses held, two blocks cached.
abbrev pub small : Numbers
small = numbers 64 2 2 2

abbrev filled : ℕ → List ℕ
filled k = replicate 64 k

abbrev memory : ℕ → List ℕ → List ℕ → Counters → Lent
memory n addresses blocks k = record { n = n; disk = filled 6 ++ filled 7; flash = filled 8 ++ filled 9; addresses = addresses; blocks = blocks; counters = k }

-- the same with so many bytes of each buffer, one more than there are being a zero
abbrev cut : ℕ → ℕ → ℕ → ℕ → Lent → Lent
cut disk flash addresses blocks t =
    record {
      n = t.n;
      disk = take disk (t.disk ++ (0 ∷ []));
      flash = take flash (t.flash ++ (0 ∷ []));
      addresses = take addresses (t.addresses ++ (0 ∷ []));
      blocks = take blocks (t.blocks ++ (0 ∷ []));
      counters = t.counters;
    }

-- three fingerprints
abbrev nought : List ℕ
nought = replicate 32 0

abbrev one : List ℕ
one = replicate 32 1

abbrev pub two : List ℕ
two = replicate 32 2

-- an address row, which the seat 0x0807 wrote
abbrev row : ℕ → List ℕ → ℕ → AddressRow
row a g x = address_row a g x (7, 8)

-- Sound tables: address 1 is held and dirty, its block is in slot 0, and slot 1 is free.
abbrev pub rows : List ℕ
rows = address_table 2 (row 1 one 1 ∷ [])

abbrev pub blocks : List ℕ
blocks = block_table (free_row 1 ∷ block_row one 0 1 ∷ [])

abbrev pub sound : Lent
sound = memory 1 rows blocks no_counts

-- with other held rows, other block rows, other counters; with byte k of a table changed to x
abbrev held : ℕ → List AddressRow → Lent
held n rs = memory n (address_table 2 rs) blocks no_counts

abbrev cached : List BlockRow → Lent
cached rs = memory 1 rows (block_table rs) no_counts

abbrev pub counting : ℕ → ℕ → ℕ → ℕ → Lent
counting r h f p = memory 1 rows blocks (counters r h f p)

abbrev address_byte : ℕ → ℕ → Lent
address_byte k x = memory 1 (set rows k x) blocks no_counts

abbrev block_byte : ℕ → ℕ → Lent
block_byte k x = memory 1 rows (set blocks k x) no_counts

-- A case: numbers, lent memory, what is asked, and the number of the refusal, 0 where it is served
pub record Case : Type 0 where
  pub numbers : Numbers
  pub lent : Lent
  pub asked : Asked
  pub number : ℕ

abbrev asks : Asked → Lent → ℕ → Case
asks q t k = record { numbers = small; lent = t; asked = q; number = k }

-- two rows may be held, and so many of them dirty
abbrev pub up_to : (B limit : ℕ) → Numbers
up_to B limit = record { B = B; P = 2; m = 2; d = 2; label = replicate 64 0; t = limit }

abbrev asks_up_to : ℕ → Asked → Lent → ℕ → Case
asks_up_to limit q t k = record { numbers = up_to 64 limit; lent = t; asked = q; number = k }

-- what is asked of address a; a flush and an opening have none
abbrev reading : ℕ → Asked
reading a = calling (Ask.read a (filled 5))

abbrev writing : ℕ → Asked
writing a = calling (Ask.through a (filled 5) 9)

abbrev backing : ℕ → Asked
backing a = calling (Ask.back a (filled 5) 9)

abbrev invalidating : ℕ → Asked
invalidating a = calling (Ask.invalidate a (filled 5) 9)

abbrev looking : ℕ → Asked
looking a = calling (Ask.look a)

abbrev flushing : ℕ → Asked
flushing a = calling (Ask.flush a)

abbrev starting : ℕ → Asked
starting a = opening

-- 1. "B 64 and 4,096 open, 32, 96 and 8,192 give 1." The lengths are right.
abbrev opens : ℕ → ℕ → Case
opens B k = record {
  numbers = numbers B 1 1 1;
  lent = record {
    n = 0;
    disk = replicate B 0;
    flash = replicate B 0;
    addresses = replicate 40 0;
    blocks = replicate 40 0;
    counters = no_counts;
  };
  asked = opening;
  number = k;
}

abbrev sizes : List Case
sizes = opens 64 0 ∷ opens 4096 0 ∷ opens 32 1 ∷ opens 96 1 ∷ opens 8192 1 ∷ []

-- 2. Each buffer is a byte short, then a byte long; at last so is the one block.
abbrev lengths : Asked → List Case
lengths q =
    asks q (cut 128 128 80 80 sound) 0
    ∷ asks q (cut 127 128 80 80 sound) 2
    ∷ asks q (cut 129 128 80 80 sound) 2
    ∷ asks q (cut 128 127 80 80 sound) 2
    ∷ asks q (cut 128 129 80 80 sound) 2
    ∷ asks q (cut 128 128 79 80 sound) 2
    ∷ asks q (cut 128 128 81 80 sound) 2
    ∷ asks q (cut 128 128 80 79 sound) 2
    ∷ asks q (cut 128 128 80 81 sound) 2
    ∷ []

-- a label of so many bytes
abbrev pub labelled_by : ℕ → ℕ → Numbers
labelled_by B k = record { B = B; P = 2; m = 2; d = 2; label = replicate k 7; t = 2 }

-- 2, of the label: a byte short, a byte long, none; 1 comes before it, 3 after it
abbrev labels : (ℕ → Asked) → List Case
labels q =
    record { numbers = labelled_by 64 64; lent = sound; asked = q 1; number = 0 }
    ∷ record { numbers = labelled_by 64 63; lent = sound; asked = q 1; number = 2 }
    ∷ record { numbers = labelled_by 64 65; lent = sound; asked = q 1; number = 2 }
    ∷ record { numbers = labelled_by 64 0; lent = sound; asked = q 1; number = 2 }
    ∷ record { numbers = labelled_by 96 63; lent = sound; asked = q 1; number = 1 }
    ∷ record { numbers = labelled_by 64 63; lent = sound; asked = q 2; number = 2 }
    ∷ []

-- 12. U8: "a limit t from 1 to m", of which m is 2
abbrev limits : Asked → List Case
limits q = asks_up_to 0 q sound 12 ∷ asks_up_to 1 q sound 0 ∷ asks_up_to 2 q sound 0 ∷ asks_up_to 3 q sound 12 ∷ []

abbrev block_lengths : (List ℕ → Ask) → List Case
block_lengths q = asks (calling (q (replicate 63 5))) sound 2 ∷ asks (calling (q (replicate 64 5))) sound 0 ∷ asks (calling (q (replicate 65 5))) sound 2 ∷ []

-- 3. "Address P − 1 is served, P gives 3." "Flush has no 3"
abbrev addresses : (ℕ → Asked) → List Case
addresses q = asks (q 0) sound 0 ∷ asks (q 1) sound 0 ∷ asks (q 2) sound 3 ∷ asks (q 258) sound 3 ∷ []

-- 6. Sound are: two rows held of two, none held, an address held without its block.
abbrev address_tables : Asked → List Case
address_tables q =
    asks q (held 2 (row 1 one 1 ∷ row 0 two 0 ∷ [])) 0
    ∷ asks q (held 0 []) 0
    -- "n above m"
    ∷ record { numbers = numbers 64 2 1 2; lent = memory 2 (address_table 1 (row 1 one 1 ∷ [])) blocks no_counts; asked = q; number = 6 }
    -- "a held address ≥ P", by its first byte and by its second
    ∷ asks q (held 1 (row 2 one 1 ∷ [])) 6
    ∷ asks q (held 1 (row 256 one 1 ∷ [])) 6
    -- "or held twice"
    ∷ asks q (held 2 (row 1 one 1 ∷ row 1 one 1 ∷ [])) 6
    -- "dirty byte above 1"
    ∷ asks q (held 1 (row 1 one 2 ∷ [])) 6
    -- U7: "In a held row refusal 6 now wants only the last padding byte zero."
    ∷ asks q (address_byte (padding_byte 0 0) 1) 0
    ∷ asks q (address_byte (padding_byte 0 1) 1) 0
    ∷ asks q (address_byte (padding_byte 0 2) 1) 6
    -- "a row from n on not zero": its first byte, a byte of its seat, its last byte, a whole row
    ∷ asks q (address_byte (table_bytes 1) 1) 6
    ∷ asks q (address_byte (padding_byte 1 0) 1) 6
    ∷ asks q (address_byte (table_bytes 2 - 1) 1) 6
    ∷ asks q (held 0 (row 1 one 1 ∷ [])) 6
    ∷ []

-- 7. Sound are: both rows used, and a used fingerprint of all zeros, which the dirty row has.
abbrev block_tables : Asked → List Case
block_tables q =
    asks q (cached (block_row two 1 1 ∷ block_row one 0 1 ∷ [])) 0
    ∷ asks q (memory 1 (address_table 2 (row 1 nought 1 ∷ [])) (block_table (free_row 1 ∷ block_row nought 0 1 ∷ [])) no_counts) 0
    -- "a free row after a used one"
    ∷ asks q (cached (block_row one 0 1 ∷ free_row 1 ∷ [])) 7
    -- "used byte above 1"
    ∷ asks q (cached (block_row nought 1 2 ∷ block_row one 0 1 ∷ [])) 7
    -- "nonzero padding", of the free row and of the used one
    ∷ asks q (block_byte (padding_byte 0 0) 1) 7
    ∷ asks q (block_byte (padding_byte 0 1) 1) 7
    ∷ asks q (block_byte (padding_byte 0 2) 1) 7
    ∷ asks q (block_byte (padding_byte 1 0) 1) 7
    -- "a free row with a fingerprint"
    ∷ asks q (cached (block_row (set nought 0 1) 1 0 ∷ block_row one 0 1 ∷ [])) 7
    ∷ asks q (cached (block_row (set nought 31 1) 1 0 ∷ block_row one 0 1 ∷ [])) 7
    -- "slots not each of 0 to d − 1 once": 0 twice; 0 and 2; 0 and 257
    ∷ asks q (cached (free_row 0 ∷ block_row one 0 1 ∷ [])) 7
    ∷ asks q (cached (free_row 2 ∷ block_row one 0 1 ∷ [])) 7
    ∷ asks q (cached (free_row 257 ∷ block_row one 0 1 ∷ [])) 7
    -- "a fingerprint used twice"
    ∷ asks q (cached (block_row one 0 1 ∷ block_row one 1 1 ∷ [])) 7
    ∷ []

-- 8. A clean row's fingerprint need not be cached. The fingerprint of a free row is not: it is all zeros.
abbrev dirty_rows : Asked → List Case
dirty_rows q =
    asks q (held 1 (row 1 two 0 ∷ [])) 0
    ∷ asks q (held 1 (row 1 two 1 ∷ [])) 8
    ∷ asks q (held 2 (row 1 one 1 ∷ row 0 two 1 ∷ [])) 8
    ∷ asks q (held 1 (row 1 nought 1 ∷ [])) 8
    ∷ []

-- 13. U8: "a state with more than t dirty rows": two rows share a block; both are dirty, then one is.
abbrev shared : (first second : ℕ) → List ℕ
shared x y = address_table 2 (row 1 one x ∷ row 0 one y ∷ [])

abbrev many_dirty : Asked → List Case
many_dirty q =
    asks_up_to 1 q (memory 2 (shared 1 1) blocks no_counts) 13
    ∷ asks_up_to 2 q (memory 2 (shared 1 1) blocks no_counts) 0
    ∷ asks_up_to 1 q (memory 2 (shared 0 1) blocks no_counts) 0
    ∷ asks_up_to 1 q (memory 2 (shared 1 0) blocks no_counts) 0
    ∷ asks_up_to 1 q (memory 2 (shared 0 0) blocks no_counts) 0
    ∷ []

-- 9. "a counter above 2 to the power 63": each at 2^63, then one of them one above it. "look no 9": the number is then 0.
abbrev counts : Asked → ℕ → List Case
counts q k =
    asks q (counting (2 ^ 63) (2 ^ 63) (2 ^ 63) (2 ^ 63)) 0
    ∷ asks q (counting (2 ^ 63 + 1) 0 0 0) k
    ∷ asks q (counting 0 (2 ^ 63 + 1) 0 0) k
    ∷ asks q (counting 0 0 (2 ^ 63 + 1) 0) k
    ∷ asks q (counting 0 0 0 (2 ^ 63 + 1)) k
    ∷ []

-- "Checked in the order 1, 2, 3, 6, 7, 8, 9, the first that applies.", with 12 "right after 1" and 13 "right after 8". In the first case all nine apply,
-- and in each later case one less.
abbrev pub worst : ℕ → List ℕ → List ℕ → Counters → Lent
worst disk rs bs k = cut disk 128 80 80 (memory 2 rs bs k)

-- two dirty rows, one of them without its block; two with their block; one
abbrev pub uncached : List ℕ
uncached = address_table 2 (row 1 two 1 ∷ row 0 one 1 ∷ [])

abbrev pub crowded : List ℕ
crowded = shared 1 1

abbrev pub single : List ℕ
single = shared 1 0

abbrev pub damaged : List ℕ → List ℕ
damaged t = set t (padding_byte 0 2) 1

abbrev pub much : Counters
much = counters (2 ^ 63 + 1) 0 0 0

abbrev order : (ℕ → Asked) → (n₁ n₁₂ n₂ n₃ n₆ n₇ n₈ n₁₃ n₉ served : ℕ) → List Case
order q n₁ n₁₂ n₂ n₃ n₆ n₇ n₈ n₁₃ n₉ served =
    record { numbers = up_to 32 0; lent = worst 127 (damaged uncached) (damaged blocks) much; asked = q 2; number = n₁ }
    ∷ asks_up_to 0 (q 2) (worst 127 (damaged uncached) (damaged blocks) much) n₁₂
    ∷ asks_up_to 1 (q 2) (worst 127 (damaged uncached) (damaged blocks) much) n₂
    ∷ asks_up_to 1 (q 2) (worst 128 (damaged uncached) (damaged blocks) much) n₃
    ∷ asks_up_to 1 (q 1) (worst 128 (damaged uncached) (damaged blocks) much) n₆
    ∷ asks_up_to 1 (q 1) (worst 128 uncached (damaged blocks) much) n₇
    ∷ asks_up_to 1 (q 1) (worst 128 uncached blocks much) n₈
    ∷ asks_up_to 1 (q 1) (worst 128 crowded blocks much) n₁₃
    ∷ asks_up_to 1 (q 1) (worst 128 single blocks much) n₉
    ∷ asks_up_to 1 (q 1) (worst 128 single blocks no_counts) served
    ∷ []

-- "Flush has no 3, look no 9, opening only 1 and 2.", and 12
abbrev orders : List Case
orders =
    order reading 1 12 2 3 6 7 8 13 9 0
    ++ order writing 1 12 2 3 6 7 8 13 9 0
    ++ order backing 1 12 2 3 6 7 8 13 9 0
    ++ order invalidating 1 12 2 3 6 7 8 13 9 0
    ++ order looking 1 12 2 3 6 7 8 13 0 0
    ++ order flushing 1 12 2 6 6 7 8 13 9 0
    ++ order starting 1 12 2 0 0 0 0 0 0 0

abbrev pub table : List Case
table =
    sizes
    ++ lengths (reading 1)
    ++ lengths (looking 1)
    ++ lengths (flushing 1)
    ++ lengths opening
    ++ labels reading
    ++ labels backing
    ++ labels looking
    ++ labels flushing
    ++ labels starting
    ++ limits (reading 1)
    ++ limits (looking 1)
    ++ limits (flushing 1)
    ++ limits opening
    ++ block_lengths (Ask.read 1)
    ++ block_lengths (λ l. Ask.through 1 l 9)
    ++ block_lengths (λ l. Ask.back 1 l 9)
    ++ block_lengths (λ l. Ask.invalidate 1 l 9)
    ++ addresses reading
    ++ addresses writing
    ++ addresses backing
    ++ addresses invalidating
    ++ addresses looking
    ++ address_tables (reading 1)
    ++ address_tables (flushing 1)
    ++ block_tables (reading 1)
    ++ block_tables (flushing 1)
    ++ dirty_rows (reading 1)
    ++ dirty_rows (flushing 1)
    ++ many_dirty (reading 1)
    ++ many_dirty (backing 1)
    ++ many_dirty (looking 1)
    ++ many_dirty (flushing 1)
    ++ counts (reading 1) 9
    ++ counts (flushing 1) 9
    ++ counts (looking 1) 0
    ++ orders

-- A call, and what it answers and leaves
pub record Called : Type 0 where
  pub numbers : Numbers
  pub lent : Lent
  pub ask : Ask
  pub after : After

abbrev leaves : Answer → Lent → Option (List ℕ) → List ℕ → After
leaves w t b p = record { answer = w; lent = t; block = b; part = p }

-- "A refused call returns its number and the box record as given ..; every buffer and counter keeps its bytes", the lent block too; "a refused look's
-- part is empty"
abbrev keeps : Numbers → Lent → Ask → ℕ → Option (List ℕ) → Called
keeps N t q k b = record { numbers = N; lent = t; ask = q; after = leaves (refused k) t b [] }

abbrev pub kept_calls : List Called
kept_calls =
    keeps small sound (Ask.read 2 (filled 5)) 3 (some (filled 5))
    ∷ keeps small sound (Ask.read 1 (replicate 63 5)) 2 (some (replicate 63 5))
    ∷ keeps small (counting 0 0 0 (2 ^ 63 + 1)) (Ask.through 1 (filled 5) 9) 9 (some (filled 5))
    ∷ keeps small (held 1 (row 1 two 1 ∷ [])) (Ask.back 1 (filled 5) 9) 8 (some (filled 5))
    ∷ keeps (numbers 32 2 2 2) sound (Ask.invalidate 1 (filled 5) 9) 1 (some (filled 5))
    ∷ keeps small (block_byte (padding_byte 0 2) 1) (Ask.look 1) 7 none
    ∷ keeps small (memory 3 rows blocks no_counts) (Ask.flush 3) 6 none
    ∷ []

-- Calls that are served and hash nothing
abbrev serves : Lent → Ask → Answer → Lent → Option (List ℕ) → List ℕ → Called
serves t q w after b p = record { numbers = small; lent = t; ask = q; after = leaves w after b p }

abbrev pub served_calls : List Called
served_calls =
    -- the block of address 1 is in slot 0 of the flash; disk 1 has an older one
    serves sound (Ask.look 1) (answered from_cache 0 0) sound none (filled 8)
    ∷ serves sound (Ask.look 0) (answered from_disk 0 0) sound none (filled 6)
    -- a look has no 9, and counts nothing
    ∷ serves (counting (2 ^ 63 + 1) 0 0 0) (Ask.look 1) (answered from_cache 0 0) (counting (2 ^ 63 + 1) 0 0 0) none (filled 8)
    -- a read hit: the answer is in the lent block, the row stays dirty
    ∷ serves (counting (2 ^ 63) (2 ^ 63) 0 0) (Ask.read 1 (filled 5)) (answered hit 0 0) (counting (2 ^ 63 + 1) (2 ^ 63 + 1) 0 0) (some (filled 8)) []
    -- a flush: disk 1 has the block, the row is clean
    ∷ serves sound (Ask.flush 1) (answered done 0 1)
    (record {
      n = 1;
      disk = filled 6 ++ filled 8;
      flash = filled 8 ++ filled 9;
      addresses = address_table 2 (row 1 one 0 ∷ []);
      blocks = blocks;
      counters = counters 0 0 0 1;
    })
    none
    []
    ∷ []

-- An opening: the numbers, the lent memory, and what it leaves. A refused one has n = 0 and keeps all else; a damaged box is opened, and is fresh.
pub record Opening : Type 0 where
  pub numbers : Numbers
  pub lent : Lent
  pub after : Lent

abbrev pub openings : List Opening
openings =
    record { numbers = numbers 32 2 2 2; lent = counting 1 2 3 4; after = memory 0 rows blocks (counters 1 2 3 4) }
    ∷ record { numbers = small; lent = cut 127 128 80 80 (counting 1 2 3 4); after = cut 127 128 80 80 (memory 0 rows blocks (counters 1 2 3 4)) }
    ∷ record {
      numbers = small;
      lent = memory 9 (replicate 80 255) (replicate 80 255) (counters (2 ^ 63 + 1) 2 3 4);
      after = memory 0 (replicate 80 0) (block_table (free_row 0 ∷ free_row 1 ∷ [])) no_counts;
    }
    ∷ []
