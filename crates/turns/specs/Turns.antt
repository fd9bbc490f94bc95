-- What the turns of a folder read leave in lent bytes. Assumes nothing.
use Rattle.std.specs.Prelude.{◌≡◌, Bool, not, cond, List, ℕ, ◌+◌, ◌*◌, ◌≤◌, length, get_or, take}
use Rattle.parts.specs.declared.BoxRecord.{BoxRecord}
use Rattle.turns.specs.declared.Sums.{Sums}
use Rattle.paper.specs.Cache.{Counters}
use Rattle.paper.specs.Engine.{Fixed}
use Rattle.paper.specs.Lent.{join}
use Rattle.paper.specs.Batch.{Batched, addresses_in, blocks_in, seen, first_read, source}
use Rattle.parts.specs.Rep.{with_held, Rep, engine}
use Rattle.step.specs.Steps.{Sure}

-- the counters z with those of n reads more
abbrev pub counted_by : Counters → ℕ → Sums → Counters
counted_by z n t =
    record {
      reads = z.reads + n;
      hits = z.hits + t.hits;
      flash_writes = z.flash_writes + t.flashed;
      primary_writes = z.primary_writes + t.primary;
    }

-- the lent bytes, the buffer and the sums are those of T, which has read the addresses l since the counters were z
pub record Turned (b : BoxRecord) (l : List ℕ) (z : Counters) (T : Batched (Fixed 32) (Fixed b.size)) (t : Sums) (disk flash addrs blocks buffer : List ℕ)
    : Type 0 where
  pub box-is : Rep (with_held b t.held) disk flash addrs blocks T.box
  pub sure : Sure b T.box
  pub read : addresses_in T.filled ≡ l
  pub filled_is : take (length l * b.size) buffer ≡ join (blocks_in T.filled)
  pub counters-are : T.counters ≡ counted_by z (length l) t
  pub hits-are : T.hits ≡ t.hits
  pub flashed-is : T.flash_writes ≡ t.flashed
  pub primary-is : T.primary_writes ≡ t.primary
  pub fetches-are : T.fetches ≡ t.fetches
  pub few : (t.hits ≤ length l) × (t.flashed ≤ length l) × (t.primary ≤ length l * 1026) × (t.fetches ≤ length l)

-- `first` tells whether a is read for the first time, and where not, `block` is what its first read put in the buffer
abbrev pub Lends : (b : BoxRecord) → Batched (Fixed 32) (Fixed b.size) → ℕ → Bool → List ℕ → Type 0
Lends b T a first block =
    (x : Fixed b.size) × (x.0 ≡ block)
    × (source (engine b) T.box a (first_read a T.filled) ≡ cond first (get_or T.box.disk a (engine b).blank) x)
    × (not (seen a T.filled) ≡ first)
