-- Laws of U2's call on paper: without a premise, and as the reads done in turn where the box is good.
use Rattle.std.specs.Prelude.{◌≡◌, Bool, false, not, ◌&&◌, ℕ, ◌≤◌, ◌<◌, ◌+◌, ◌*◌, eqb, length}
use Rattle.std.proofs.Math.Path.{refl, sym, ap, subst}
use Rattle.std.proofs.Common.{ap₂, ◌∙◌}
use Rattle.std.proofs.Math.Bool.{true}
use mathlib.Core.List.{List, [], ◌∷◌, ◌++◌, map, append_assoc, append-nil}
use Rattle.std.proofs.Math.Option.{Option, none, some, some-injective, none-ne-some}
use native.Mathlib.Omega.{arith}
use Rattle.paper.specs.KeyedLaws.{by-test, All, all_append, eqb→≡}
use Rattle.paper.specs.Cache.{Numbers, Hashing, AddressRow, Box, Outcome, Word, hit, miss, Call, read, Counters, counted, one_if, is_hit}
use Rattle.paper.specs.Cache.{row_with_block, answer, read_as, dirty_rows, serve}
use Rattle.paper.specs.Sound.{Sound}
use Rattle.paper.specs.Batch.{Filled, Batched, addresses_in, blocks_in, is_miss, seen, first_read, start, source, block_in, added, batch_read, batch, in_turn}

-- a read finds no row with its block
abbrev pub missed : {F : Type 0} → Option (AddressRow F) → Bool
missed none = true
missed (some r) = false

-- counters that have grown by n reads at most
pub record GrownBy (n : ℕ) (k l : Counters) : Type 0 where
  pub reads : l.reads ≡ k.reads + n
  pub hits : l.hits ≤ k.hits + n
  pub flash_writes : l.flash_writes ≤ k.flash_writes + n
  pub primary_writes : l.primary_writes ≤ k.primary_writes + n * 1025

-- all but the number of fetches
abbrev pub but_fetches : {F X : Type 0} → Batched F X → Batched F X
but_fetches t =
    record {
      box = t.box;
      filled = t.filled;
      counters = t.counters;
      hits = t.hits;
      misses = t.misses;
      flash_writes = t.flash_writes;
      primary_writes = t.primary_writes;
      fetches = 0;
    }
