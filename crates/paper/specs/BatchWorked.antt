-- U2's call by example: worked folder reads, and which are refused with which number. Each is computed. In the worked ones the content k is its own
-- fingerprint, as in the worked states. Assumes nothing.
use Rattle.std.specs.Prelude.{◌≡◌, refl, false, List, [], ◌∷◌, map, ℕ, ◌+◌, ◌^◌, replicate, set}
use Rattle.tables.specs.Rows as Rows
use Rattle.tables.specs.Records as Records
use Rattle.tables.specs.Records.{address_table}
use Rattle.tables.specs.Find as Find
use Rattle.tables.specs.Unsound as Unsound
use Rattle.paper.specs.Cache as Cache
use Rattle.paper.specs.Cache.{Numbers, Box, AddressRow, newest, back, Counters, no_counts, fresh, serve}
use Rattle.paper.specs.Worked.{labels}
use Rattle.paper.specs.Lent as Lent
use Rattle.paper.specs.Lent.{Lent}
use Rattle.paper.specs.Refused.{numbers, counters, small, up_to, blocks, sound, counting, worst, uncached, crowded, single, damaged, much}
use Rattle.paper.specs.Batch.{Batched, blocks_in, start, batch, in_turn, batch_read}
use Rattle.paper.specs.BatchLent.{batch_refusal}

-- ---- worked folder reads
-- what is shown: the blocks, the held rows, the disk, the counters, and the call's misses and fetches
pub record Shown : Type 0 where
  pub blocks : List ℕ
  pub rows : List (AddressRow ℕ)
  pub disk : List ℕ
  pub counters : Counters
  pub misses : ℕ
  pub fetches : ℕ

-- one address held, one block cached
abbrev pub tiny : Numbers
tiny = numbers 64 2 1 1

-- address 0 was written back with 7
abbrev written : Box ℕ ℕ
written = (serve labels tiny (fresh 1 (0 ∷ []) (0 ∷ 1 ∷ [])) (back 0 7 (0, 0))).box

-- a lent box that no list reaches under the premise: the row of 0 has the fingerprint 5, the block in its slot is 9, and the disk's block is 3
abbrev pub strange : Box ℕ ℕ
strange = record { rows = newest 0 5 false (0, 0) ∷ []; free = []; used = Cache.block_row 5 0 ∷ []; flash = 9 ∷ []; disk = 3 ∷ 1 ∷ [] }

-- A folder read of a box, and what is shown of it
pub record Folder : Type 0 where
  pub box : Box ℕ ℕ
  pub asked : List ℕ
  pub after : Shown

abbrev pub folders : List Folder
folders =
    -- fetched at each read's own turn: the read of 1 puts 7 on disk, and the read of 0 fetches after it
    record {
      box = written;
      asked = 1 ∷ 0 ∷ [];
      after = record {
        blocks = 1 ∷ 7 ∷ [];
        rows = newest 0 7 false (0, 0) ∷ [];
        disk = 7 ∷ 1 ∷ [];
        counters = counters 2 0 2 1;
        misses = 2;
        fetches = 2;
      };
    }
    -- a repeat that hits, and two that miss: they take their blocks from the buffer, and fetch nothing
    ∷ record {
      box = written;
      asked = 0 ∷ 0 ∷ 1 ∷ 0 ∷ 1 ∷ [];
      after = record {
        blocks = 7 ∷ 7 ∷ 1 ∷ 7 ∷ 1 ∷ [];
        rows = newest 1 1 false (0, 0) ∷ [];
        disk = 7 ∷ 1 ∷ [];
        counters = counters 5 2 3 1;
        misses = 3;
        fetches = 1;
      };
    }
    -- "on another lent box a repeat that misses takes the block that its address's first read put in the buffer"
    ∷ record {
      box = strange;
      asked = 0 ∷ 1 ∷ 0 ∷ [];
      after = record {
        blocks = 9 ∷ 1 ∷ 9 ∷ [];
        rows = newest 0 9 false (0, 0) ∷ [];
        disk = 3 ∷ 1 ∷ [];
        counters = counters 3 1 2 0;
        misses = 2;
        fetches = 1;
      };
    }
    ∷ []

-- ---- refused ones
-- A case: numbers, lent memory, the addresses, the length of the buffer, and the number of the refusal, 0 where the call is served
pub record Case : Type 0 where
  pub numbers : Numbers
  pub lent : Lent
  pub asked : List ℕ
  pub length : ℕ
  pub number : ℕ

abbrev asks : List ℕ → ℕ → Lent → ℕ → Case
asks l n t k = record { numbers = small; lent = t; asked = l; length = n; number = k }

abbrev asks_up_to : ℕ → List ℕ → ℕ → Lent → ℕ → Case
asks_up_to limit l n t k = record { numbers = up_to 64 limit; lent = t; asked = l; length = n; number = k }

abbrev pub table : List Case
table =
    -- "an empty list or one above 64"
    asks [] 0 sound 10
    ∷ asks (1 ∷ []) 64 sound 0
    ∷ asks (replicate 64 1) 4096 sound 0
    ∷ asks (replicate 65 1) 4160 sound 10
    -- "a buffer of as many blocks", also where the count gives 10
    ∷ asks (1 ∷ []) 63 sound 2
    ∷ asks (1 ∷ []) 65 sound 2
    ∷ asks (0 ∷ 1 ∷ []) 64 sound 2
    ∷ asks [] 1 sound 2
    ∷ asks (replicate 65 1) 4096 sound 2
    -- "3 if any address is too large"
    ∷ asks (0 ∷ 1 ∷ []) 128 sound 0
    ∷ asks (2 ∷ 1 ∷ []) 128 sound 3
    ∷ asks (1 ∷ 2 ∷ []) 128 sound 3
    -- 9 is checked before the first read alone: 2^63 reads are not above it, though the second read would find them so
    ∷ asks (1 ∷ 1 ∷ []) 128 (counting (2 ^ 63) 0 0 0) 0
    ∷ asks (1 ∷ 1 ∷ []) 128 (counting (2 ^ 63 + 1) 0 0 0) 9
    -- The order 1, 12, 2, 10, 3, 6, 7, 8, 13, 9: in the first case all apply, and in each later case one less.
    ∷ record { numbers = up_to 32 0; lent = worst 127 (damaged uncached) (damaged blocks) much; asked = replicate 65 2; length = 0; number = 1 }
    ∷ asks_up_to 0 (replicate 65 2) 0 (worst 127 (damaged uncached) (damaged blocks) much) 12
    ∷ asks_up_to 1 (replicate 65 2) 0 (worst 127 (damaged uncached) (damaged blocks) much) 2
    ∷ asks_up_to 1 (replicate 65 2) 0 (worst 128 (damaged uncached) (damaged blocks) much) 2
    ∷ asks_up_to 1 (replicate 65 2) 4160 (worst 128 (damaged uncached) (damaged blocks) much) 10
    ∷ asks_up_to 1 (1 ∷ 2 ∷ []) 128 (worst 128 (damaged uncached) (damaged blocks) much) 3
    ∷ asks_up_to 1 (1 ∷ 1 ∷ []) 128 (worst 128 (damaged uncached) (damaged blocks) much) 6
    ∷ asks_up_to 1 (1 ∷ 1 ∷ []) 128 (worst 128 uncached (damaged blocks) much) 7
    ∷ asks_up_to 1 (1 ∷ 1 ∷ []) 128 (worst 128 uncached blocks much) 8
    ∷ asks_up_to 1 (1 ∷ 1 ∷ []) 128 (worst 128 crowded blocks much) 13
    ∷ asks_up_to 1 (1 ∷ 1 ∷ []) 128 (worst 128 single blocks much) 9
    ∷ asks_up_to 1 (1 ∷ 1 ∷ []) 128 (worst 128 single blocks no_counts) 0
    ∷ asks_up_to 2 (1 ∷ 1 ∷ []) 128 (worst 128 crowded blocks no_counts) 0
    ∷ asks_up_to 3 (1 ∷ 1 ∷ []) 128 (worst 128 single blocks no_counts) 12
    ∷ []
