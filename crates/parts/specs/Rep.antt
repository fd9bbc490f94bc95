-- When lent bytes are those of a paper box, and what the parts of a step leave in them.
use Rattle.std.specs.Prelude.{◌≡◌, Bool, false, ◌&&◌, cond, List, [], ◌++◌, ℕ, ◌≤◌, length, get_or, set, take, drop}
use Rattle.tables.specs.Rows.{table_bytes}
use Rattle.parts.specs.declared.BoxRecord.{BoxRecord}
use Rattle.paper.specs.Cache.{Numbers, Hashing, AddressRow, Box, newest, slot_of, block_of, copied, copies, cleaned}
use Rattle.paper.specs.Engine.{Fixed, fit, labelled}
use Rattle.paper.specs.Lent.{join}
use Rattle.paper.specs.Layout.{Addrs, Blocks, Parts, addresses_of}

-- the numbers, the label and the limit of a box record
abbrev pub numbers_of : BoxRecord → Numbers
numbers_of b = record { B = b.size; P = b.blocks; m = b.rows; d = b.slots; label = b.label; t = b.limit }

-- the blocks and fingerprints of its box
abbrev pub engine : (b : BoxRecord) → Hashing (Fixed 32) (Fixed b.size)
engine b = labelled (numbers_of b)

-- the tables have the lengths of the box, and the rows held are in it
abbrev pub Sized : BoxRecord → (addrs blocks : List ℕ) → Type 0
Sized b addrs blocks = (b.held ≤ b.rows) × (length addrs ≡ table_bytes b.rows) × (length blocks ≡ table_bytes b.slots)

-- a box record with another number of rows held
abbrev pub with_held : BoxRecord → ℕ → BoxRecord
with_held b n = record { size = b.size; blocks = b.blocks; rows = b.rows; slots = b.slots; held = n; label = b.label; limit = b.limit }

-- a box record with another label
abbrev pub relabelled : BoxRecord → List ℕ → BoxRecord
relabelled b l = record { size = b.size; blocks = b.blocks; rows = b.rows; slots = b.slots; held = b.held; label = l; limit = b.limit }

-- the record of a box that holds none
abbrev pub empty_box : (size blocks rows slots limit : ℕ) → (label : List ℕ) → BoxRecord
empty_box size blocks rows slots limit label =
    record { size = size; blocks = blocks; rows = rows; slots = slots; held = 0; label = label; limit = limit }

pub record Rep (b : BoxRecord) (disk flash addrs blocks : List ℕ) (s : Box (Fixed 32) (Fixed b.size)) : Type 0 where
  pub rows_are : Addrs b.blocks b.rows b.held addrs s.rows
  pub blocks-are : Blocks b.slots blocks s.free s.used
  pub flash-is : Parts b.size b.slots flash s.flash
  pub disk-is : Parts b.size b.blocks disk s.disk

-- they are those of some box
abbrev pub LentBox : (b : BoxRecord) → List ℕ → List ℕ → List ℕ → List ℕ → Type 0
LentBox b disk flash addrs blocks = (s : Box (Fixed 32) (Fixed b.size)) × Rep b disk flash addrs blocks s

-- .. of some box in which the block of the fingerprint g is in slot k
abbrev pub LentWith : (b : BoxRecord) → List ℕ → List ℕ → List ℕ → List ℕ → List ℕ → ℕ → Type 0
LentWith b disk flash addrs blocks g k = (s : Box (Fixed 32) (Fixed b.size)) × (v : Fixed 32) × Rep b disk flash addrs blocks s × (v.0 ≡ g)
    × (slot_of (engine b) v s.used ≡ k)

-- a row that stands for none
abbrev pub no_row : AddressRow (Fixed 32)
no_row = newest 0 (fit 32 []) false (0, 0)

-- a row made clean
abbrev pub clean : AddressRow (Fixed 32) → AddressRow (Fixed 32)
clean r = newest r.address r.fingerprint false r.seat

-- what a copy of dirty rows' blocks to the disk leaves
pub record Copied : Type 0 where
  pub count : ℕ
  pub disk : List ℕ
  pub addrs : List ℕ

module _ (b : BoxRecord) (chosen : Fixed 32 → Bool) (s : Box (Fixed 32) (Fixed b.size)) where
  -- row i, if it is dirty and chosen
  unfoldable pub copied_row : ℕ → Copied
  copied_row i =
      cond ((get_or s.rows i no_row).dirty && chosen (get_or s.rows i no_row).fingerprint)
      (record {
        count = 1;
        disk = join (set s.disk (get_or s.rows i no_row).address (block_of (engine b) (get_or s.rows i no_row).fingerprint s.used s.flash));
        addrs = addresses_of b.rows (set s.rows i (clean (get_or s.rows i no_row)));
      })
      (record { count = 0; disk = join s.disk; addrs = addresses_of b.rows s.rows })

  -- the box when the first i rows are done
  unfoldable pub part_box : ℕ → Box (Fixed 32) (Fixed b.size)
  part_box i =
      record {
        rows = cleaned (engine b) chosen (take i s.rows) ++ drop i s.rows;
        free = s.free;
        used = s.used;
        flash = s.flash;
        disk = copied (engine b) chosen (take i s.rows) s.used s.flash s.disk;
      }

  unfoldable pub copied_rows : ℕ → Copied
  copied_rows i = record {
    count = copies (engine b) chosen (take i s.rows);
    disk = join (part_box i).disk;
    addrs = addresses_of b.rows (part_box i).rows;
  }
