-- What the calls leave in lent bytes: the paper's calls, written down.
use Rattle.std.specs.Prelude.{◌≡◌, Bool, true, false, List, ℕ, length, ◌+◌, ◌<◌, ◌≤◌, eqb, get_or}
use Rattle.std.proofs.Math.Option.{Option, none, some}
use Rattle.hash.specs.LastChunk.{Size}
use Rattle.parts.specs.declared.BoxRecord.{BoxRecord}
use Rattle.serve.specs.declared.Served.{Served}
use Rattle.serve.specs.declared.Write.{Write}
use Rattle.serve.specs.declared.Write.TheVariants.{Through, Back, Invalidate}
use Rattle.paper.specs.Cache.{Seat, Box, Call, Outcome, Word, serve, hit, miss, same_block, new_block, from_cache, from_disk, done}
use Rattle.paper.specs.Engine.{Fixed, comparing}
use Rattle.paper.specs.Index.{index_where}
use Rattle.parts.specs.Rep.{numbers_of, Sized, Rep, no_row, engine}
use Rattle.step.specs.Steps.{Out4, out4, Sure}

-- the first of an answer's two words: hit, same, cache
abbrev pub is_yes : Word → Bool
is_yes hit = true
is_yes miss = false
is_yes same_block = true
is_yes new_block = false
is_yes from_cache = true
is_yes from_disk = false
is_yes done = true

abbrev pub returned_or : {B : ℕ} → Option (Fixed B) → List ℕ → List ℕ
returned_or none lent = lent
returned_or (some x) lent = x.0

-- what a read or a write needs of the box: room, a block of its size, an address on its disk, tables of its lengths, and a size that is one of the seven
abbrev pub Access : BoxRecord → (a : ℕ) → (block addrs blocks : List ℕ) → Type 0
Access b a block addrs blocks =
    (0 < b.rows) × (0 < b.slots) × (length block ≡ b.size) × (a < b.blocks) × (b.rows ≤ 1024) × Sized b addrs blocks × Size b.size

-- lent bytes of some sound box
abbrev pub LentSound : (b : BoxRecord) → (disk flash addrs blocks : List ℕ) → Type 0
LentSound b disk flash addrs blocks = (s : Box (Fixed 32) (Fixed b.size)) × Rep b disk flash addrs blocks s × Sure b s

-- an answer and every lent buffer
pub record Leaves : Type 0 where
  pub yes : Bool
  pub held : ℕ
  pub left : Out4
  pub block : List ℕ

-- what the code tells and leaves
abbrev pub left : Served → (disk flash addrs blocks block : List ℕ) → Leaves
left r disk flash addrs blocks block =
    record {
      yes = r.yes;
      held = r.held;
      left = (record {
        flashed = r.flashed;
        primary = r.primary;
        disk = disk;
        flash = flash;
        addrs = addrs;
        blocks = blocks;
      });
      block = block;
    }

-- the paper's write of each kind
abbrev pub writing : {B : ℕ} → Write → ℕ → Fixed B → Seat → Call (Fixed B)
writing Through a x z = Call.through a x z
writing Back a x z = Call.back a x z
writing Invalidate a x z = Call.invalidate a x z

unfoldable pub leaves : (b : BoxRecord) → List ℕ → Outcome (Fixed 32) (Fixed b.size) → Leaves
leaves b lent o = record {
  yes = is_yes o.word;
  held = length o.box.rows;
  left = out4 b (record { box = o.box; flash_writes = o.flash_writes; primary_writes = o.primary_writes });
  block = returned_or o.block lent;
}

-- a write leaves the bytes of the paper's write, of every sound box that the bytes before it are of
abbrev pub Wrote : Write → (b : BoxRecord) → (a : ℕ) → Seat → (disk flash addrs blocks block : List ℕ) → Leaves → Type 0
Wrote kind b a z disk flash addrs blocks block l =
    (s : Box (Fixed 32) (Fixed b.size)) (x : Fixed b.size) → Rep b disk flash addrs blocks s → Sure b s → x.0 ≡ block
    → l ≡ leaves b block (serve (engine b) (numbers_of b) s (writing kind a x z))

-- a is held in row i, and its fingerprint has the block row at j
pub record HitAt (b : BoxRecord) (s : Box (Fixed 32) (Fixed b.size)) (a i j : ℕ) : Type 0 where
  pub row : i ≡ index_where (λ x. eqb a x.address) s.rows
  pub is_held : i < b.held
  pub place : j ≡ length s.free + index_where (λ u. comparing.same (get_or s.rows i no_row).fingerprint u.fingerprint) s.used
  pub is-cached : j < b.slots
