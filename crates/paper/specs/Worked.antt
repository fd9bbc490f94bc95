-- The worked states E1 to E8 of document 01, and further states that E1 to E8 leave open: each a table and one theorem, by computation.
-- Fingerprints and blocks are labels: the content k is the number k, and it is its own fingerprint. Assumes nothing.
use Rattle.std.specs.Prelude.{◌≡◌, refl, true, false, List, [], ◌∷◌, ◌++◌, map, ℕ, suc, eqb, replicate}
use Rattle.std.proofs.Math.Option.{Option, none, some}
use Rattle.tables.specs.Records.{slots_from}
use Rattle.paper.specs.KeyedLaws.{eqb→≡, eqb-self}
use Rattle.paper.specs.Cache.{Numbers, Hashing, AddressRow, Box, Outcome, newest, Call, about, before, read, look, flush, Word}
use Rattle.paper.specs.Cache.{hit}
use Rattle.paper.specs.Cache.{miss, same_block, new_block, from_cache, from_disk, done, fresh, serve, Counters, no_counts, counted}
use Rattle.paper.specs.Cache.{step, step1, step3, step4, oldest_out, freed, oldest_unknown, victim, taken_used, taken}
use Rattle.paper.specs.Cache.{stored, if_cached, answer, read_as, write_through, write_back, dropped, write_invalidate, look_as, flushed}

abbrev pub labels : Hashing ℕ ℕ
labels = record { same = eqb; same→≡ = eqb→≡; same_refl = eqb-self; hash = λ x. x; blank = 0 }

-- A call beside what it answers: the word, the flash writes and the primary writes
pub record Said : Type 0 where
  pub call : Call ℕ
  pub word : Word
  pub flash_writes : ℕ
  pub primary_writes : ℕ

abbrev says : Call ℕ → Word → ℕ → ℕ → Said
says c w f p = record { call = c; word = w; flash_writes = f; primary_writes = p }

-- A block row: a free one with its slot, or a content with its slot
pub data Row : Type 0 where
  free_in : ℕ → Row
  block_in : ℕ → ℕ → Row

-- A held row: address and content, clean or dirty, last written by no seat or by seat 0
abbrev clean : ℕ → ℕ → AddressRow ℕ
clean a k = newest a k false (0, 0)

abbrev dirty : ℕ → ℕ → AddressRow ℕ
dirty a k = newest a k true (0, 0)

-- The writes of a replay carry 0.
abbrev through : ℕ → ℕ → Call ℕ
through a k = Call.through a k (0, 0)

abbrev pub back : ℕ → ℕ → Call ℕ
back a k = Call.back a k (0, 0)

abbrev invalidate : ℕ → ℕ → Call ℕ
invalidate a k = Call.invalidate a k (0, 0)

abbrev counters : ℕ → ℕ → ℕ → ℕ → Counters
counters r h f p = record { reads = r; hits = h; flash_writes = f; primary_writes = p }

-- A state: the calls with their answers, the blocks that reads and looks returned, and what is left after the last call: the held rows and the
-- block rows in their order, the flash by slot, the disk by address, and the counters
pub record State : Type 0 where
  pub said : List Said
  pub returned : List ℕ
  pub rows : List (AddressRow ℕ)
  pub blocks : List Row
  pub flash : List ℕ
  pub disk : List ℕ
  pub counters : Counters

-- "box 64 8 m d"
abbrev pub box_of : (m d : ℕ) → Numbers
box_of m d = record { B = 64; P = 8; m = m; d = d; label = replicate 64 0; t = m }

-- the same with a limit; "(m in replay)"
abbrev up_to : (t m d : ℕ) → Numbers
up_to t m d = record { B = 64; P = 8; m = m; d = d; label = replicate 64 0; t = t }

-- An example: the numbers of the box, and the state that is expected
pub record Example : Type 0 where
  pub numbers : Numbers
  pub seen : State

abbrev example : (m d : ℕ) → State → Example
example m d s = record { numbers = box_of m d; seen = s }

abbrev limited_to : (t m d : ℕ) → State → Example
limited_to t m d s = record { numbers = up_to t m d; seen = s }

abbrev after : Call ℕ → Outcome ℕ ℕ → State → State
after c o t = record {
  said = says c o.word o.flash_writes o.primary_writes ∷ t.said;
  returned = before o.block t.returned;
  rows = t.rows;
  blocks = t.blocks;
  flash = t.flash;
  disk = t.disk;
  counters = t.counters;
}

-- what the cache says and leaves when it is fed the calls one after the other
abbrev pub plays : Numbers → Box ℕ ℕ → Counters → List (Call ℕ) → State
plays N s k [] =
    record {
      said = [];
      returned = [];
      rows = s.rows;
      blocks = map free_in s.free ++ map (λ u. block_in u.fingerprint u.slot) s.used;
      flash = s.flash;
      disk = s.disk;
      counters = k;
    }
plays N s k (c ∷ cs) = let o = serve labels N s c in after c o (plays N o.box (counted k c o) cs)

-- a fresh box over disk blocks of which block k has content k, and a flash that is filled with 99
abbrev pub start : Numbers → Box ℕ ℕ
start N = fresh N.d (replicate N.d 99) (slots_from 0 N.P)

abbrev pub play : Example → State
play e = plays e.numbers (start e.numbers) no_counts (map (λ x. x.call) e.seen.said)

-- "Input: `box 64 8 3 2`, `R 1`, `R 2`, `B 3 01`, `R 3`, `R 4`, `R 2`, `F`, `L 3`."
abbrev replay : List Said
replay =
    says (read 1) miss 1 0
    ∷ says (read 2) miss 1 0
    ∷ says (back 3 1) same_block 0 0
    ∷ says (read 3) hit 0 0
    ∷ says (read 4) miss 1 0
    ∷ says (read 2) miss 1 1
    ∷ says (flush 3) done 0 0
    ∷ says (look 3) from_disk 0 0
    ∷ []

-- the blocks that its reads and its look return
abbrev replayed : List ℕ
replayed = 1 ∷ 2 ∷ 1 ∷ 4 ∷ 2 ∷ 1 ∷ []

abbrev pub table : List Example
table =
    -- E1: after the replay above: 3:1 4:4 2:2; blocks 4 2. Address 3 was dirty until block 1 was taken for block 2.
    example 3 2 (record {
      said = replay;
      returned = replayed;
      rows = clean 3 1 ∷ clean 4 4 ∷ clean 2 2 ∷ [];
      blocks = block_in 4 1 ∷ block_in 2 0 ∷ [];
      flash = 2 ∷ 4 ∷ [];
      disk = 0 ∷ 1 ∷ 2 ∷ 1 ∷ 4 ∷ 5 ∷ 6 ∷ 7 ∷ [];
      counters = counters 5 1 4 1;
    })
    -- E2: E1, T 4 content 2: 3:1 2:2 4:2; blocks - 2. No row has content 4 any more and address 3 is without its block, so block 4 is freed.
    ∷ example 3 2 (record {
      said = replay ++ (says (through 4 2) same_block 0 1 ∷ []);
      returned = replayed;
      rows = clean 3 1 ∷ clean 2 2 ∷ clean 4 2 ∷ [];
      blocks = free_in 1 ∷ block_in 2 0 ∷ [];
      flash = 2 ∷ 4 ∷ [];
      disk = 0 ∷ 1 ∷ 2 ∷ 1 ∷ 2 ∷ 5 ∷ 6 ∷ 7 ∷ [];
      counters = counters 5 1 4 2;
    })
    -- E3: E1, T 4 content 5: blocks 2 5; writes 1 and 1.
    ∷ example 3 2 (record {
      said = replay ++ (says (through 4 5) new_block 1 1 ∷ []);
      returned = replayed;
      rows = clean 3 1 ∷ clean 2 2 ∷ clean 4 5 ∷ [];
      blocks = block_in 2 0 ∷ block_in 5 1 ∷ [];
      flash = 2 ∷ 5 ∷ [];
      disk = 0 ∷ 1 ∷ 2 ∷ 1 ∷ 5 ∷ 5 ∷ 6 ∷ 7 ∷ [];
      counters = counters 5 1 5 2;
    })
    -- E4: E1, I 2 content 7: 3:1 4:4; blocks - 4.
    ∷ example 3 2 (record {
      said = replay ++ (says (invalidate 2 7) new_block 0 1 ∷ []);
      returned = replayed;
      rows = clean 3 1 ∷ clean 4 4 ∷ [];
      blocks = free_in 0 ∷ block_in 4 1 ∷ [];
      flash = 2 ∷ 4 ∷ [];
      disk = 0 ∷ 1 ∷ 7 ∷ 1 ∷ 4 ∷ 5 ∷ 6 ∷ 7 ∷ [];
      counters = counters 5 1 4 2;
    })
    -- E5: E1, R 3: miss; 4:4 2:2 3:1; blocks 2 1.
    ∷ example 3 2 (record {
      said = replay ++ (says (read 3) miss 1 0 ∷ []);
      returned = replayed ++ (1 ∷ []);
      rows = clean 4 4 ∷ clean 2 2 ∷ clean 3 1 ∷ [];
      blocks = block_in 2 0 ∷ block_in 1 1 ∷ [];
      flash = 2 ∷ 1 ∷ [];
      disk = 0 ∷ 1 ∷ 2 ∷ 1 ∷ 4 ∷ 5 ∷ 6 ∷ 7 ∷ [];
      counters = counters 6 1 5 1;
    })
    -- E6: m 1, d 2; R 1, R 2, R 3: 3:3; blocks 2 3.
    ∷ example 1 2 (record {
      said = says (read 1) miss 1 0 ∷ says (read 2) miss 1 0 ∷ says (read 3) miss 1 0 ∷ [];
      returned = 1 ∷ 2 ∷ 3 ∷ [];
      rows = clean 3 3 ∷ [];
      blocks = block_in 2 1 ∷ block_in 3 0 ∷ [];
      flash = 3 ∷ 2 ∷ [];
      disk = slots_from 0 8;
      counters = counters 3 0 3 0;
    })
    -- E7: m 1, d 1; B 0 content 9, R 1: disk 0 has content 9; 1:1; blocks 1.
    ∷ example 1 1 (record {
      said = says (back 0 9) new_block 1 0 ∷ says (read 1) miss 1 1 ∷ [];
      returned = 1 ∷ [];
      rows = clean 1 1 ∷ [];
      blocks = block_in 1 0 ∷ [];
      flash = 1 ∷ [];
      disk = 9 ∷ 1 ∷ 2 ∷ 3 ∷ 4 ∷ 5 ∷ 6 ∷ 7 ∷ [];
      counters = counters 1 0 2 1;
    })
    -- E8: m 2, d 2; T 0 and T 1 content 5: 0:5 1:5; blocks - 5; flash writes 1, 0.
    ∷ example 2 2 (record {
      said = says (through 0 5) new_block 1 1 ∷ says (through 1 5) same_block 0 1 ∷ [];
      returned = [];
      rows = clean 0 5 ∷ clean 1 5 ∷ [];
      blocks = free_in 1 ∷ block_in 5 0 ∷ [];
      flash = 5 ∷ 99 ∷ [];
      disk = 5 ∷ 5 ∷ 2 ∷ 3 ∷ 4 ∷ 5 ∷ 6 ∷ 7 ∷ [];
      counters = counters 0 0 1 2;
    })
    ∷ []

-- What E1 to E8 leave open
abbrev pub more : List Example
more =
    -- E1, R 4: hit. Address 3 is without its block, but the newest row has content 4: nothing is freed.
    example 3 2 (record {
      said = replay ++ (says (read 4) hit 0 0 ∷ []);
      returned = replayed ++ (4 ∷ []);
      rows = clean 3 1 ∷ clean 2 2 ∷ clean 4 4 ∷ [];
      blocks = block_in 2 0 ∷ block_in 4 1 ∷ [];
      flash = 2 ∷ 4 ∷ [];
      disk = 0 ∷ 1 ∷ 2 ∷ 1 ∷ 4 ∷ 5 ∷ 6 ∷ 7 ∷ [];
      counters = counters 6 2 4 1;
    })
    -- Block 3 is without an address. Block 2 is older, but address 2 has it.
    ∷ example 2 3 (record {
      said = says (read 1) miss 1 0 ∷ says (read 2) miss 1 0 ∷ says (read 3) miss 1 0 ∷ says (through 3 1) same_block 0 1 ∷ [];
      returned = 1 ∷ 2 ∷ 3 ∷ [];
      rows = clean 2 2 ∷ clean 3 1 ∷ [];
      blocks = block_in 2 1 ∷ block_in 3 2 ∷ block_in 1 0 ∷ [];
      flash = 1 ∷ 2 ∷ 3 ∷ [];
      disk = 0 ∷ 1 ∷ 2 ∷ 1 ∷ 4 ∷ 5 ∷ 6 ∷ 7 ∷ [];
      counters = counters 3 0 3 1;
    })
    -- The same, then T 3 content 5: blocks 3 and 1 are without an address then, and the older of the two is taken, not the oldest row.
    ∷ example 2 3 (record {
      said = says (read 1) miss 1 0 ∷ says (read 2) miss 1 0 ∷ says (read 3) miss 1 0 ∷ says (through 3 1) same_block 0 1 ∷ says (through 3 5) new_block 1 1 ∷ [];
      returned = 1 ∷ 2 ∷ 3 ∷ [];
      rows = clean 2 2 ∷ clean 3 5 ∷ [];
      blocks = block_in 2 1 ∷ block_in 1 0 ∷ block_in 5 2 ∷ [];
      flash = 1 ∷ 2 ∷ 5 ∷ [];
      disk = 0 ∷ 1 ∷ 2 ∷ 5 ∷ 4 ∷ 5 ∷ 6 ∷ 7 ∷ [];
      counters = counters 3 0 4 2;
    })
    -- Each block is some address's: the oldest is taken, and address 1 is without its block.
    ∷ example 3 2 (record {
      said = says (read 1) miss 1 0 ∷ says (read 2) miss 1 0 ∷ says (read 3) miss 1 0 ∷ [];
      returned = 1 ∷ 2 ∷ 3 ∷ [];
      rows = clean 1 1 ∷ clean 2 2 ∷ clean 3 3 ∷ [];
      blocks = block_in 2 1 ∷ block_in 3 0 ∷ [];
      flash = 3 ∷ 2 ∷ [];
      disk = slots_from 0 8;
      counters = counters 3 0 3 0;
    })
    -- A flush copies both dirty rows and makes them clean; the second copies nothing. No order changes.
    ∷ example 2 2 (record {
      said = says (back 0 9) new_block 1 0 ∷ says (back 1 8) new_block 1 0 ∷ says (flush 2) done 0 2 ∷ says (flush 2) done 0 0 ∷ [];
      returned = [];
      rows = clean 0 9 ∷ clean 1 8 ∷ [];
      blocks = block_in 9 0 ∷ block_in 8 1 ∷ [];
      flash = 9 ∷ 8 ∷ [];
      disk = 9 ∷ 8 ∷ 2 ∷ 3 ∷ 4 ∷ 5 ∷ 6 ∷ 7 ∷ [];
      counters = counters 0 0 2 2;
    })
    -- Two dirty rows behind a clean one. A flush of at most 0 copies none, one of at most 1 the older; "No order changes."
    ∷ example 3 3 (record {
      said = says (read 4) miss 1 0 ∷ says (back 0 9) new_block 1 0 ∷ says (back 1 8) new_block 1 0 ∷ says (flush 0) done 0 0 ∷ says (flush 1) done 0 1 ∷ [];
      returned = 4 ∷ [];
      rows = clean 4 4 ∷ clean 0 9 ∷ dirty 1 8 ∷ [];
      blocks = block_in 4 0 ∷ block_in 9 1 ∷ block_in 8 2 ∷ [];
      flash = 4 ∷ 9 ∷ 8 ∷ [];
      disk = 9 ∷ 1 ∷ 2 ∷ 3 ∷ 4 ∷ 5 ∷ 6 ∷ 7 ∷ [];
      counters = counters 1 0 3 1;
    })
    -- A flush of at most 2 of three dirty rows leaves the newest dirty; one of more than there are copies that one.
    ∷ example 3 3 (record {
      said = says (back 0 9) new_block 1 0 ∷ says (back 1 8) new_block 1 0 ∷ says (back 2 7) new_block 1 0 ∷ says (flush 2) done 0 2 ∷ [];
      returned = [];
      rows = clean 0 9 ∷ clean 1 8 ∷ dirty 2 7 ∷ [];
      blocks = block_in 9 0 ∷ block_in 8 1 ∷ block_in 7 2 ∷ [];
      flash = 9 ∷ 8 ∷ 7 ∷ [];
      disk = 9 ∷ 8 ∷ 2 ∷ 3 ∷ 4 ∷ 5 ∷ 6 ∷ 7 ∷ [];
      counters = counters 0 0 3 2;
    })
    ∷ example 3 3 (record {
      said = says (back 0 9) new_block 1 0 ∷ says (back 1 8) new_block 1 0 ∷ says (back 2 7) new_block 1 0
          ∷ says (flush 2) done 0 2 ∷ says (flush 9) done 0 1 ∷ [];
      returned = [];
      rows = clean 0 9 ∷ clean 1 8 ∷ clean 2 7 ∷ [];
      blocks = block_in 9 0 ∷ block_in 8 1 ∷ block_in 7 2 ∷ [];
      flash = 9 ∷ 8 ∷ 7 ∷ [];
      disk = 9 ∷ 8 ∷ 7 ∷ 3 ∷ 4 ∷ 5 ∷ 6 ∷ 7 ∷ [];
      counters = counters 0 0 3 3;
    })
    -- Write invalidate frees slot 0, which comes in front of the free slot 2.
    ∷ example 3 3 (record {
      said = says (read 1) miss 1 0 ∷ says (read 2) miss 1 0 ∷ says (invalidate 1 7) new_block 0 1 ∷ [];
      returned = 1 ∷ 2 ∷ [];
      rows = clean 2 2 ∷ [];
      blocks = free_in 0 ∷ free_in 2 ∷ block_in 2 1 ∷ [];
      flash = 1 ∷ 2 ∷ 99 ∷ [];
      disk = 0 ∷ 7 ∷ 2 ∷ 3 ∷ 4 ∷ 5 ∷ 6 ∷ 7 ∷ [];
      counters = counters 2 0 2 1;
    })
    -- The same, then R 5: slot 0 is the next taken.
    ∷ example 3 3 (record {
      said = says (read 1) miss 1 0 ∷ says (read 2) miss 1 0 ∷ says (invalidate 1 7) new_block 0 1 ∷ says (read 5) miss 1 0 ∷ [];
      returned = 1 ∷ 2 ∷ 5 ∷ [];
      rows = clean 2 2 ∷ clean 5 5 ∷ [];
      blocks = free_in 2 ∷ block_in 2 1 ∷ block_in 5 0 ∷ [];
      flash = 5 ∷ 2 ∷ 99 ∷ [];
      disk = 0 ∷ 7 ∷ 2 ∷ 3 ∷ 4 ∷ 5 ∷ 6 ∷ 7 ∷ [];
      counters = counters 3 0 3 1;
    })
    -- Step 3 frees slot 1, then slot 2, since address 1 is without its block. Slot 2 comes in front.
    ∷ example 4 3 (record {
      said = says (read 1) miss 1 0 ∷ says (read 2) miss 1 0 ∷ says (read 3) miss 1 0 ∷ says (read 4) miss 1 0 ∷ says (through 2 4) same_block 0 1
          ∷ says (through 3 4) same_block 0 1 ∷ [];
      returned = 1 ∷ 2 ∷ 3 ∷ 4 ∷ [];
      rows = clean 1 1 ∷ clean 4 4 ∷ clean 2 4 ∷ clean 3 4 ∷ [];
      blocks = free_in 2 ∷ free_in 1 ∷ block_in 4 0 ∷ [];
      flash = 4 ∷ 2 ∷ 3 ∷ [];
      disk = 0 ∷ 1 ∷ 4 ∷ 4 ∷ 4 ∷ 5 ∷ 6 ∷ 7 ∷ [];
      counters = counters 4 0 4 2;
    })
    -- Write invalidate's word is "same" while the content is cached before the call, whoever has it, and "new" after. The first I keeps
    -- block 5 for address 1, the second frees it.
    ∷ example 2 2 (record {
      said = says (through 0 5) new_block 1 1 ∷ says (through 1 5) same_block 0 1 ∷ says (invalidate 0 5) same_block 0 1 ∷ says (invalidate 1 5) same_block 0 1
          ∷ says (invalidate 1 5) new_block 0 1 ∷ [];
      returned = [];
      rows = [];
      blocks = free_in 0 ∷ free_in 1 ∷ [];
      flash = 5 ∷ 99 ∷ [];
      disk = 5 ∷ 5 ∷ 2 ∷ 3 ∷ 4 ∷ 5 ∷ 6 ∷ 7 ∷ [];
      counters = counters 0 0 1 5;
    })
    -- A dirty row that is replaced or invalidated is not copied.
    ∷ example 2 2 (record {
      said = says (back 0 5) new_block 1 0 ∷ says (invalidate 0 6) new_block 0 1 ∷ says (back 1 7) new_block 1 0 ∷ says (through 1 8) new_block 1 1 ∷ [];
      returned = [];
      rows = clean 1 8 ∷ [];
      blocks = block_in 7 0 ∷ block_in 8 1 ∷ [];
      flash = 7 ∷ 8 ∷ [];
      disk = 6 ∷ 8 ∷ 2 ∷ 3 ∷ 4 ∷ 5 ∷ 6 ∷ 7 ∷ [];
      counters = counters 0 0 3 2;
    })
    -- Block 9 is taken for block 5: it is first copied to both of its dirty addresses, which become clean. Address 2, of content 8,
    -- stays dirty.
    ∷ example 4 2 (record {
      said = says (back 0 9) new_block 1 0 ∷ says (back 1 9) same_block 0 0 ∷ says (back 2 8) new_block 1 0 ∷ says (read 5) miss 1 2 ∷ [];
      returned = 5 ∷ [];
      rows = clean 0 9 ∷ clean 1 9 ∷ dirty 2 8 ∷ clean 5 5 ∷ [];
      blocks = block_in 8 1 ∷ block_in 5 0 ∷ [];
      flash = 5 ∷ 8 ∷ [];
      disk = 9 ∷ 9 ∷ 2 ∷ 3 ∷ 4 ∷ 5 ∷ 6 ∷ 7 ∷ [];
      counters = counters 1 0 3 2;
    })
    -- Write through with a dirty oldest address to be dropped: two primary writes.
    ∷ example 1 2 (record {
      said = says (back 0 9) new_block 1 0 ∷ says (through 1 5) new_block 1 2 ∷ [];
      returned = [];
      rows = clean 1 5 ∷ [];
      blocks = block_in 9 0 ∷ block_in 5 1 ∷ [];
      flash = 9 ∷ 5 ∷ [];
      disk = 9 ∷ 5 ∷ 2 ∷ 3 ∷ 4 ∷ 5 ∷ 6 ∷ 7 ∷ [];
      counters = counters 0 0 2 2;
    })
    -- Write back of the content that a held address has already leaves a clean row clean, and a dirty one dirty;
    -- of another content, it makes a clean row dirty.
    ∷ example 2 2 (record {
      said = says (through 0 5) new_block 1 1 ∷ says (back 0 5) same_block 0 0 ∷ says (back 1 6) new_block 1 0 ∷ says (back 1 6) same_block 0 0 ∷ [];
      returned = [];
      rows = clean 0 5 ∷ dirty 1 6 ∷ [];
      blocks = block_in 5 0 ∷ block_in 6 1 ∷ [];
      flash = 5 ∷ 6 ∷ [];
      disk = 5 ∷ 1 ∷ 2 ∷ 3 ∷ 4 ∷ 5 ∷ 6 ∷ 7 ∷ [];
      counters = counters 0 0 2 1;
    })
    ∷ example 2 2 (record {
      said = says (through 0 5) new_block 1 1 ∷ says (back 0 6) new_block 1 0 ∷ [];
      returned = [];
      rows = dirty 0 6 ∷ [];
      blocks = block_in 5 0 ∷ block_in 6 1 ∷ [];
      flash = 5 ∷ 6 ∷ [];
      disk = 5 ∷ 1 ∷ 2 ∷ 3 ∷ 4 ∷ 5 ∷ 6 ∷ 7 ∷ [];
      counters = counters 0 0 2 1;
    })
    -- The same where its block is not in flash: it is stored, and the row stays clean.
    ∷ example 2 1 (record {
      said = says (read 0) miss 1 0 ∷ says (read 1) miss 1 0 ∷ says (back 0 0) new_block 1 0 ∷ [];
      returned = 0 ∷ 1 ∷ [];
      rows = clean 1 1 ∷ clean 0 0 ∷ [];
      blocks = block_in 0 0 ∷ [];
      flash = 0 ∷ [];
      disk = slots_from 0 8;
      counters = counters 2 0 3 0;
    })
    -- A read hit keeps the dirty value, 1 or 0, and makes its row newest in both tables.
    ∷ example 2 2 (record {
      said = says (back 0 5) new_block 1 0 ∷ says (through 1 6) new_block 1 1 ∷ says (read 1) hit 0 0 ∷ says (read 0) hit 0 0 ∷ [];
      returned = 6 ∷ 5 ∷ [];
      rows = clean 1 6 ∷ dirty 0 5 ∷ [];
      blocks = block_in 6 1 ∷ block_in 5 0 ∷ [];
      flash = 5 ∷ 6 ∷ [];
      disk = 0 ∷ 6 ∷ 2 ∷ 3 ∷ 4 ∷ 5 ∷ 6 ∷ 7 ∷ [];
      counters = counters 2 2 2 1;
    })
    -- Look moves and counts nothing: address 1 stays the oldest. It shows the flash's block where disk 1 has an older one.
    ∷ example 2 2 (record {
      said = says (back 1 9) new_block 1 0 ∷ says (read 2) miss 1 0 ∷ says (look 1) from_cache 0 0 ∷ says (look 5) from_disk 0 0 ∷ [];
      returned = 2 ∷ 9 ∷ 5 ∷ [];
      rows = dirty 1 9 ∷ clean 2 2 ∷ [];
      blocks = block_in 9 0 ∷ block_in 2 1 ∷ [];
      flash = 9 ∷ 2 ∷ [];
      disk = slots_from 0 8;
      counters = counters 1 0 2 0;
    })
    -- U7: a write sets the seat, also one that leaves a clean row clean; a read hit, and cleaning, keep it; invalidate takes the row out.
    ∷ example 3 3 (record {
      said = says (Call.back 0 9 (1, 2)) new_block 1 0 ∷ says (Call.through 1 5 (3, 4)) new_block 1 1 ∷ says (Call.back 1 5 (5, 6)) same_block 0 0
          ∷ says (Call.back 2 5 (7, 8)) same_block 0 0 ∷ says (Call.invalidate 2 6 (9, 9)) new_block 0 1 ∷ says (read 0) hit 0 0 ∷ says (flush 3) done 0 1 ∷ [];
      returned = 9 ∷ [];
      rows = newest 1 5 false (5, 6) ∷ newest 0 9 false (1, 2) ∷ [];
      blocks = free_in 2 ∷ block_in 5 1 ∷ block_in 9 0 ∷ [];
      flash = 9 ∷ 5 ∷ 99 ∷ [];
      disk = 9 ∷ 5 ∷ 6 ∷ 3 ∷ 4 ∷ 5 ∷ 6 ∷ 7 ∷ [];
      counters = counters 1 1 2 3;
    })
    -- A miss of an address that is held without its block keeps the seat; an address that was evicted comes back with 0.
    ∷ example 2 1 (record {
      said = says (Call.through 0 9 (1, 2)) new_block 1 1 ∷ says (Call.through 1 5 (3, 4)) new_block 1 1 ∷ says (read 0) miss 1 0 ∷ [];
      returned = 9 ∷ [];
      rows = newest 1 5 false (3, 4) ∷ newest 0 9 false (1, 2) ∷ [];
      blocks = block_in 9 0 ∷ [];
      flash = 9 ∷ [];
      disk = 9 ∷ 5 ∷ 2 ∷ 3 ∷ 4 ∷ 5 ∷ 6 ∷ 7 ∷ [];
      counters = counters 1 0 3 2;
    })
    ∷ example 1 1 (record {
      said = says (Call.through 0 9 (1, 2)) new_block 1 1 ∷ says (read 1) miss 1 0 ∷ says (read 0) miss 1 0 ∷ [];
      returned = 1 ∷ 9 ∷ [];
      rows = newest 0 9 false (0, 0) ∷ [];
      blocks = block_in 9 0 ∷ [];
      flash = 9 ∷ [];
      disk = 9 ∷ 1 ∷ 2 ∷ 3 ∷ 4 ∷ 5 ∷ 6 ∷ 7 ∷ [];
      counters = counters 2 0 3 1;
    })
    -- U8: "After the step of a write back, if more than t rows are dirty, the oldest dirty one is copied to disk and made clean.": at t 1 address 0, when 1 is
    -- written; a second write back of 1 copies nothing.
    ∷ limited_to 1 3 3 (record {
      said = says (back 0 9) new_block 1 0 ∷ says (back 1 8) new_block 1 1 ∷ says (back 1 7) new_block 1 0 ∷ [];
      returned = [];
      rows = clean 0 9 ∷ dirty 1 7 ∷ [];
      blocks = block_in 9 0 ∷ block_in 8 1 ∷ block_in 7 2 ∷ [];
      flash = 9 ∷ 8 ∷ 7 ∷ [];
      disk = 9 ∷ 1 ∷ 2 ∷ 3 ∷ 4 ∷ 5 ∷ 6 ∷ 7 ∷ [];
      counters = counters 0 0 3 1;
    })
    -- The oldest dirty one: a read has made address 0 newer than 1. A write through isn't followed by it, and needs no room.
    ∷ limited_to 2 4 4 (record {
      said = says (back 0 9) new_block 1 0
          ∷ says (back 1 8) new_block 1 0
          ∷ says (read 0) hit 0 0
          ∷ says (through 3 6) new_block 1 1
          ∷ says (back 2 7) new_block 1 1
          ∷ [];
      returned = 9 ∷ [];
      rows = clean 1 8 ∷ dirty 0 9 ∷ clean 3 6 ∷ dirty 2 7 ∷ [];
      blocks = block_in 8 1 ∷ block_in 9 0 ∷ block_in 6 2 ∷ block_in 7 3 ∷ [];
      flash = 9 ∷ 8 ∷ 6 ∷ 7 ∷ [];
      disk = 0 ∷ 8 ∷ 2 ∷ 6 ∷ 4 ∷ 5 ∷ 6 ∷ 7 ∷ [];
      counters = counters 1 1 4 2;
    })
    -- The step itself has copied address 0's block, when its row was taken out: one row is dirty, and no more is copied.
    ∷ limited_to 1 1 1 (record {
      said = says (back 0 9) new_block 1 0 ∷ says (back 1 8) new_block 1 1 ∷ [];
      returned = [];
      rows = dirty 1 8 ∷ [];
      blocks = block_in 8 0 ∷ [];
      flash = 8 ∷ [];
      disk = 9 ∷ 1 ∷ 2 ∷ 3 ∷ 4 ∷ 5 ∷ 6 ∷ 7 ∷ [];
      counters = counters 0 0 2 1;
    })
    -- Two addresses share a block: of the three dirty ones the oldest alone is copied, and its block stays.
    ∷ limited_to 2 3 2 (record {
      said = says (back 0 9) new_block 1 0 ∷ says (back 1 9) same_block 0 0 ∷ says (back 2 8) new_block 1 1 ∷ [];
      returned = [];
      rows = clean 0 9 ∷ dirty 1 9 ∷ dirty 2 8 ∷ [];
      blocks = block_in 9 0 ∷ block_in 8 1 ∷ [];
      flash = 9 ∷ 8 ∷ [];
      disk = 9 ∷ 1 ∷ 2 ∷ 3 ∷ 4 ∷ 5 ∷ 6 ∷ 7 ∷ [];
      counters = counters 0 0 2 1;
    })
    ∷ []

-- The replay as it is printed. "Fields: call number .., letter, address or `-`, answer .., flash writes, primary writes. .. The last line has the counters."
pub data Letter : Type 0 where
  R L F T B I : Letter

pub data PrintedLine : Type 0 where
  line : ℕ → Letter → Option ℕ → Word → ℕ → ℕ → PrintedLine
  counts : (reads hits flash primary : ℕ) → PrintedLine
