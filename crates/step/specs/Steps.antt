-- What the steps leave in lent bytes: the paper's steps, written down.
use Rattle.std.specs.Prelude.{◌≡◌, Bool, List, [], ◌∷◌, ◌++◌, ℕ, suc, ◌+◌, ◌<◌, length, get_or, take, drop}
use Rattle.std.proofs.Math.Option.{Option, none, some}
use Rattle.parts.specs.declared.BoxRecord.{BoxRecord}
use Rattle.parts.specs.Rep.{numbers_of, engine}
use Rattle.paper.specs.KeyedLaws.{Distinct}
use Rattle.paper.specs.Sound.{Sound}
use Rattle.paper.specs.Cache.{Seat, Request, BlockRow, BlockRows, Box, RowOut, Taken, Stepped}
use Rattle.paper.specs.Engine.{Fixed, comparing}
use Rattle.paper.specs.Lent.{join}
use Rattle.paper.specs.Index.{index_where}
use Rattle.paper.specs.Layout.{addresses_of, blocks_of}
use Rattle.parts.specs.Asked.{no_block}

-- the place of a fingerprint's used row, the count of rows where there is none
abbrev pub place_of : Option (Fixed 32) → List ℕ → List (BlockRow (Fixed 32)) → ℕ
place_of none free used = length free + length used
place_of (some q) free used = length free + index_where (λ u. comparing.same q u.fingerprint) used

-- what step 1 leaves and tells
pub record Out1 : Type 0 where
  pub held : ℕ
  pub place : ℕ
  pub primary : ℕ
  pub disk : List ℕ
  pub addrs : List ℕ

unfoldable pub out1 : (b : BoxRecord) (s : Box (Fixed 32) (Fixed b.size)) → RowOut (Fixed 32) (Fixed b.size) → Out1
out1 b s o = record {
  held = length o.rows;
  place = place_of o.gone s.free s.used;
  primary = o.primary;
  disk = join o.disk;
  addrs = addresses_of b.rows o.rows;
}

-- the bytes of block rows
abbrev pub block_bytes : BlockRows (Fixed 32) → List ℕ
block_bytes t = blocks_of t.free t.used

-- there is a row at place t to be taken
abbrev pub Picked : List ℕ → List (BlockRow (Fixed 32)) → ℕ → Type 0
Picked (k ∷ free) used t = t ≡ 0
Picked [] used t = t < length used

-- and what is taken with it
unfoldable pub picked_taken : List ℕ → List (BlockRow (Fixed 32)) → ℕ → Taken (Fixed 32)
picked_taken (k ∷ free) used t = record { slot = k; lost = none; free = free; used = used }
picked_taken [] used t = record {
  slot = (get_or used t no_block).slot;
  lost = some (get_or used t no_block).fingerprint;
  free = [];
  used = take t used
      ++ drop (suc t) used;
}

-- what step 4 leaves
pub record Out4 : Type 0 where
  pub flashed : ℕ
  pub primary : ℕ
  pub disk : List ℕ
  pub flash : List ℕ
  pub addrs : List ℕ
  pub blocks : List ℕ

unfoldable pub out4 : (b : BoxRecord) → Stepped (Fixed 32) (Fixed b.size) → Out4
out4 b t = record {
  flashed = t.flash_writes;
  primary = t.primary_writes;
  disk = join t.box.disk;
  flash = join t.box.flash;
  addrs = addresses_of b.rows t.box.rows;
  blocks = blocks_of t.box.free t.box.used;
}

-- what a step leaves
pub record StepLeft : Type 0 where
  pub held : ℕ
  pub left : Out4

unfoldable pub after : (b : BoxRecord) → Stepped (Fixed 32) (Fixed b.size) → StepLeft
after b t = record { held = length t.box.rows; left = out4 b t }

-- the request of a step
abbrev pub asks : {B : ℕ} → ℕ → Fixed 32 → Fixed B → Bool → Seat → Request (Fixed 32) (Fixed B)
asks a f x w z = record { address = a; fingerprint = f; block = x; dirty = w; seat = z }

-- no two used block rows have one fingerprint
abbrev pub OnceEach : List (BlockRow (Fixed 32)) → Type 0
OnceEach used = Distinct comparing.same (λ u. u.fingerprint) used

-- lent bytes of a sound box
abbrev pub Sure : (b : BoxRecord) → Box (Fixed 32) (Fixed b.size) → Type 0
Sure b s = Sound (engine b) (numbers_of b) s
