-- When numbers and lent bytes are those of a paper box and its lists, between the first and the last part of a step. Assumes nothing.
use Rattle.std.specs.Prelude.{◌≡◌, Bool, true, false, List, ℕ, ◌+◌, ◌*◌, ◌≤◌, ◌<◌, eqb, length}
use Rattle.tables.specs.Rows.{table_bytes}
use Rattle.paper.specs.KeyedLaws.{All, Distinct}
use Rattle.paper.specs.Cache.{Stepped}
use Rattle.paper.specs.Engine.{Fixed}
use Rattle.arc.specs.Policy.{Ran}
use Rattle.arc.specs.Arc.{Sizes, Lists, Was, in_t1, in_t2, in_b1, in_b2, in_b3, unheld, evicted, has_row, cleared! }
use Rattle.arc.specs.ArcMid.{named}
use Rattle.arclists.specs.Holding.{total, Holds, Kept, names_of, out_of}
use Rattle.arclists.specs.declared.ListName.{ListName}
use Rattle.arclists.specs.declared.ListName.TheVariants.{T1, T2}
use Rattle.arclists.specs.declared.ListSizes.{ListSizes}
use Rattle.parts.specs.declared.BoxRecord.{BoxRecord}
use Rattle.parts.specs.Rep.{with_held, Rep, engine}
use Rattle.step.specs.Steps.{OnceEach}
use Rattle.arcstep.specs.declared.Running.{Running}
use Rattle.arcstep.specs.declared.Cleared.{Cleared}
use Rattle.arcstep.specs.declared.evict.Gone.{Gone}
use Rattle.arcstep.specs.Victim.{victim_at}

-- the names are below 65,536, the greatest P, and none is there twice
pub record Small (l : Lists) : Type 0 where
  pub t1 : All (λ a. a < 65536) l.T1
  pub t2 : All (λ a. a < 65536) l.T2
  pub b1 : All (λ a. a < 65536) l.B1
  pub b2 : All (λ a. a < 65536) l.B2
  pub b3 : All (λ a. a < 65536) l.B3
  pub single : (x : ℕ) → named x l ≤ 1

-- a paper box and its lists within a step
abbrev pub Within : BoxRecord → Type 0
Within b = Ran (Fixed 32) (Fixed b.size) Lists

-- the numbers r and the bytes are those of R; its rows have different addresses, its used block rows different fingerprints, and its names are small
pub record Runs (b : BoxRecord) (r : Running) (disk flash addrs blocks lists : List ℕ) (R : Within b) : Type 0 where
  pub box : Rep (with_held b r.held) disk flash addrs blocks R.stepped.box
  pub apart : Distinct eqb (λ x. x.address) R.stepped.box.rows
  pub once : OnceEach R.stepped.box.used
  pub names : Holds b.rows r.sizes lists R.kept
  pub low : Small R.kept
  pub flashed : r.flashed ≡ R.stepped.flash_writes
  pub primary : r.primary ≡ R.stepped.primary_writes

-- "B1's oldest, or B2's if B1 is empty, is evicted first", "B3's oldest is evicted": of a list
abbrev pub evicted_from : (b : BoxRecord) → ListName → Within b → Within b
evicted_from b from R = record { kept = out_of from R.kept; stepped = evicted (engine b) (names_of from R.kept) R.stepped }

-- other sizes, and the rest as it is
abbrev pub with_sizes : Running → ListSizes → Running
with_sizes r s = record { held = r.held; sizes = s; flashed = r.flashed; primary = r.primary }

-- they are those of some
abbrev pub SomeRuns : (b : BoxRecord) → Running → (disk flash addrs blocks lists : List ℕ) → Type 0
SomeRuns b r disk flash addrs blocks lists = (R : Within b) × Runs b r disk flash addrs blocks lists R

-- tables and lists of these lengths have room for the numbers, and each row was copied at most twice
abbrev pub FitsIn : BoxRecord → Running → (addrs blocks lists : ℕ) → Type 0
FitsIn b r addrs blocks lists =
    (0 < b.slots) × (b.slots ≤ 256) × (b.rows ≤ 1024) × (r.primary + r.held ≤ b.rows + b.rows) × (addrs ≡ table_bytes b.rows)
    × (blocks ≡ table_bytes b.slots) × (total r.sizes * 4 ≤ lists) × (r.sizes.cached + r.sizes.extra ≤ b.rows) × (r.held ≤ b.rows)

abbrev pub Fits : BoxRecord → Running → (addrs blocks lists : List ℕ) → Type 0
Fits b r addrs blocks lists = FitsIn b r (length addrs) (length blocks) (length lists)

-- no row more is held than before, each block copied was that of a row taken out, no name is more, and C and X stay
abbrev pub Less : Running → Running → Type 0
Less r s = (r.held ≤ s.held) × (r.primary + r.held ≤ s.primary + s.held) × (total r.sizes ≤ total s.sizes) × Kept r.sizes s.sizes

-- the bytes are those of the box u after one row of t was taken out, and so many blocks more were copied to the disk
pub record RowGone (b : BoxRecord) (r : Gone) (disk flash addrs blocks : List ℕ) (t u : Stepped (Fixed 32) (Fixed b.size)) : Type 0 where
  pub box : Rep (with_held b r.held) disk flash addrs blocks u.box
  pub apart : Distinct eqb (λ x. x.address) u.box.rows
  pub same-used : u.box.used ≡ t.box.used
  pub flashed : u.flash_writes ≡ t.flash_writes
  pub primary : u.primary_writes ≡ t.primary_writes + r.primary

-- .. and the place is that of the block row that is taken from R
pub record Clears (b : BoxRecord) (c : Cleared) (disk flash addrs blocks lists : List ℕ) (R : Within b) : Type 0 where
  pub runs : Runs b c.running disk flash addrs blocks lists R
  pub place_is : c.place ≡ victim_at R.kept R.stepped.box

-- j is the place of the block row that is taken, and there is one
abbrev pub Taken : (b : BoxRecord) → ℕ → Within b → Type 0
Taken b j R = (j ≡ victim_at R.kept R.stepped.box) × (j < b.slots)

-- "the replacement runs again until there is" a row
abbrev pub Ends : (b : BoxRecord) → (C : ℕ) → Bool → Within b → Type 0
Ends b C b2 R = has_row (engine b) (cleared! (engine b) C b2 R).kept (cleared! (engine b) C b2 R).stepped.box ≡ true

-- the numbers of a box with this record and these sizes of its lists
abbrev pub sizes_for : BoxRecord → ListSizes → Sizes
sizes_for b s = record { B = b.size; P = b.blocks; C = s.cached; X = s.extra; label = b.label; t = b.limit }

-- the numbers r and the bytes are those of R, when the step is done
pub record Stands (b : BoxRecord) (r : Running) (disk flash addrs blocks lists : List ℕ) (R : Within b) : Type 0 where
  pub box : Rep (with_held b r.held) disk flash addrs blocks R.stepped.box
  pub names : Holds b.rows r.sizes lists R.kept
  pub flashed : r.flashed ≡ R.stepped.flash_writes
  pub primary : r.primary ≡ R.stepped.primary_writes

-- Algorithm 2 runs CHECK for an address of B1 or B2 and for a new one
abbrev pub needs_check : Was → Bool
needs_check in_t1 = false
needs_check in_t2 = false
needs_check in_b1 = true
needs_check in_b2 = true
needs_check in_b3 = false
needs_check unheld = true

-- the list that the address joins, by whether it goes to T2
abbrev pub joins : Bool → ListName
joins true = T2
joins false = T1
