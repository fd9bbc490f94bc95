-- U2. "One call over a list of addresses fills a buffer of as many blocks." The call on paper, and the reads done in turn, with which it is compared.
-- Assumes nothing.
use Rattle.std.specs.Prelude.{Bool, true, false, not, ◌&&◌, cond, List, [], ◌∷◌, ◌++◌, map, ℕ, ◌+◌, eqb, get_or}
use Rattle.std.proofs.Math.Option.{Option, none, some}
use Rattle.paper.specs.Keyed.{has}
use Rattle.paper.specs.Cache.{Numbers, Hashing, Box, Outcome, Word, hit, miss, Call, read, Counters, counted, one_if, is_hit}
use Rattle.paper.specs.Cache.{row_with_block, read_as, serve}

-- A block of the buffer, with the address that it was read for
pub record Filled (X : Type 0) : Type 0 where
  pub address : ℕ
  pub block : X

abbrev pub addresses_in : {X : Type 0} → List (Filled X) → List ℕ
addresses_in fs = map (λ f. f.address) fs

abbrev pub blocks_in : {X : Type 0} → List (Filled X) → List X
blocks_in fs = map (λ f. f.block) fs

-- What the call leaves after some of its reads: the box, the buffer so far, the counters, and of the call's own: hits, misses, flash writes,
-- primary writes, and fetches from the disk
pub record Batched (F X : Type 0) : Type 0 where
  pub box : Box F X
  pub filled : List (Filled X)
  pub counters : Counters
  pub hits : ℕ
  pub misses : ℕ
  pub flash_writes : ℕ
  pub primary_writes : ℕ
  pub fetches : ℕ

abbrev pub is_miss : Word → Bool
is_miss miss = true
is_miss hit = false
is_miss Word.same_block = false
is_miss Word.new_block = false
is_miss Word.from_cache = false
is_miss Word.from_disk = false
is_miss Word.done = false

-- a was read before in this call
abbrev pub seen : {X : Type 0} → ℕ → List (Filled X) → Bool
seen a filled = has eqb (λ f. f.address) a filled

-- "the block that its address's first read put in the buffer", if there was one
abbrev pub first_read : {X : Type 0} → ℕ → List (Filled X) → Option X
first_read a [] = none
first_read a (f ∷ fs) = cond (eqb a f.address) (some f.block) (first_read a fs)

abbrev pub start : {F X : Type 0} → Box F X → Counters → Batched F X
start s k = record { box = s; filled = []; counters = k; hits = 0; misses = 0; flash_writes = 0; primary_writes = 0; fetches = 0 }

module _ {F X : Type 0} (H : Hashing F X) where
  -- the block that a miss takes: that of the disk for the first read of an address, at its turn; "a repeat that misses takes the block that its
  -- address's first read put in the buffer"
  abbrev pub source : Box F X → ℕ → Option X → X
  source s a none = get_or s.disk a H.blank
  source s a (some b) = b

  abbrev pub block_in : Option X → X
  block_in none = H.blank
  block_in (some b) = b

  -- what one read adds, given its outcome and whether a miss of it fetches
  abbrev pub added : Batched F X → ℕ → Bool → Outcome F X → Batched F X
  added t a fetching o =
      record {
        box = o.box;
        filled = t.filled ++ (record { address = a; block = block_in o.block } ∷ []);
        counters = counted t.counters (read a) o;
        hits = t.hits + one_if (is_hit o.word);
        misses = t.misses + one_if (is_miss o.word);
        flash_writes = t.flash_writes + o.flash_writes;
        primary_writes = t.primary_writes + o.primary_writes;
        fetches = t.fetches + one_if (fetching && is_miss o.word);
      }

  -- "A disk fetch is made for the first read of each distinct address in the list exactly where that read is a miss, and for no other read."
  unfoldable pub batch_read : Numbers → Batched F X → ℕ → Batched F X
  batch_read N t a =
      added t a (not (seen a t.filled))
      (read_as H N.m t.box a (source t.box a (first_read a t.filled)) (row_with_block H t.box a))

  unfoldable pub batch : Numbers → Batched F X → List ℕ → Batched F X
  batch N t [] = t
  batch N t (a ∷ l) = batch N (batch_read N t a) l

  -- "the reads done in turn": each is document 01's read, and fetches where it misses
  unfoldable pub in_turn : Numbers → Batched F X → List ℕ → Batched F X
  in_turn N t [] = t
  in_turn N t (a ∷ l) = in_turn N (added t a true (serve H N t.box (read a))) l
