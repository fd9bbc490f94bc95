-- What the calls of a D-ARC box leave in lent bytes: the paper's calls, written down. Assumes nothing.
use Rattle.std.specs.Prelude.{◌≡◌, List, ℕ, ◌+◌, ◌*◌, ◌≤◌, ◌<◌, length}
use Rattle.hash.specs.LastChunk.{Size}
use Rattle.paper.specs.Cache.{Seat, Box}
use Rattle.paper.specs.Engine.{Fixed}
use Rattle.arc.specs.Policy.{Served, serve_by}
use Rattle.arc.specs.Arc.{Lists, arc}
use Rattle.arc.specs.ArcStep.{ArcSound}
use Rattle.arclists.specs.Holding.{Holds}
use Rattle.arclists.specs.declared.ListSizes.{ListSizes}
use Rattle.parts.specs.declared.BoxRecord.{BoxRecord}
use Rattle.parts.specs.Rep.{Sized, with_held, Rep, engine}
use Rattle.arcstep.specs.Runs.{sizes_for}
use Rattle.serve.specs.declared.Write.{Write}
use Rattle.serve.specs.Calls.{is_yes, returned_or, writing, HitAt}
use Rattle.arcserve.specs.declared.ArcServed.{ArcServed}

-- what a read or a write needs of the box: room, a block of its size, an address on its disk, tables and lists of its lengths, C and X, and a size of the seven
abbrev pub ArcAccess : BoxRecord → ListSizes → (a : ℕ) → (block addrs blocks lists : List ℕ) → Type 0
ArcAccess b s a block addrs blocks lists =
    (0 < b.slots) × (b.rows ≤ 1024) × (length block ≡ b.size) × (a < b.blocks) × Sized b addrs blocks × (b.slots ≡ s.cached)
    × (b.rows ≡ s.cached + s.cached + s.extra) × (length lists ≡ b.rows * 4) × Size b.size

-- lent bytes of some sound box and its lists
abbrev pub LentArc : (b : BoxRecord) → ListSizes → (disk flash addrs blocks lists : List ℕ) → Type 0
LentArc b s disk flash addrs blocks lists =
    (l : Lists) × (x : Box (Fixed 32) (Fixed b.size)) × Rep b disk flash addrs blocks x × Holds b.rows s lists l
    × ArcSound (engine b) (sizes_for b s) l x

-- .. where a is held in row i, and its fingerprint has the block row at j
abbrev pub LentHit : (b : BoxRecord) → ListSizes → (a i j : ℕ) → (disk flash addrs blocks lists : List ℕ) → Type 0
LentHit b s a i j disk flash addrs blocks lists =
    (l : Lists) × (x : Box (Fixed 32) (Fixed b.size)) × Rep b disk flash addrs blocks x × Holds b.rows s lists l
    × ArcSound (engine b) (sizes_for b s) l x
    × HitAt b x a i j

-- at most one block is stored, and each row is copied at most twice, with two blocks more
abbrev pub Few : BoxRecord → ArcServed → Type 0
Few b r = (r.running.flashed ≤ 1) × (r.running.primary ≤ 2 + b.rows + b.rows)

-- what a call told and left, the lent block with it, are the paper's
pub record Serves (b : BoxRecord) (r : ArcServed) (disk flash addrs blocks lists block lent : List ℕ) (o : Served (Fixed 32) (Fixed b.size) Lists)
    : Type 0 where
  pub word : r.yes ≡ is_yes o.outcome.word
  pub box : Rep (with_held b r.running.held) disk flash addrs blocks o.outcome.box
  pub names : Holds b.rows r.running.sizes lists o.kept
  pub flashed : r.running.flashed ≡ o.outcome.flash_writes
  pub primary : r.running.primary ≡ o.outcome.primary_writes
  pub returned : block ≡ returned_or o.outcome.block lent

-- what a write told and left is the paper's, of every sound box and its lists that the bytes before it are of
abbrev pub ArcWrote : Write → (b : BoxRecord) → ListSizes → (a : ℕ) → Seat → (disk flash addrs blocks lists block : List ℕ) → ArcServed
    → (disk' flash' addrs' blocks' lists' : List ℕ) → Type 0
ArcWrote kind b s a z disk flash addrs blocks lists block r disk' flash' addrs' blocks' lists' =
    (l : Lists) (x : Box (Fixed 32) (Fixed b.size)) (y : Fixed b.size) → Rep b disk flash addrs blocks x → Holds b.rows s lists l
    → ArcSound (engine b) (sizes_for b s) l x → y.0 ≡ block
    → Serves b r disk' flash' addrs' blocks' lists' block block (serve_by (engine b) (arc (engine b) (sizes_for b s)) l x (writing kind a y z))
