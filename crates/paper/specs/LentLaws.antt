-- The bytes of a box: what is written is read back, what passes 6, 7 and 8 is sound, and what a sound box writes passes.
use Rattle.std.specs.Prelude.{◌≡◌, refl, Bool, true, false, ◌||◌, ℕ, ◌≤◌, ◌<◌, ◌+◌, ◌*◌, ◌-◌, ◌^◌, eqb}
use Rattle.std.proofs.Common.{sym, ap₂, ◌∙◌, subst, arith, length-append, eqb-true}
use Rattle.std.proofs.Math.Path.{ap}
use Rattle.std.proofs.Math.Bool.{not}
use mathlib.Core.List.Permᴰ
use mathlib.Core.List.{List, [], ◌∷◌, ◌++◌, map}
use Rattle.std.proofs.Math.ListN.{length}
use Rattle.std.proofs.lemmas.List.{length-map}
use Rattle.std.proofs.lemmas.Bool.{not-false}
use Rattle.tables.specs.Rows.{rows, table_bytes}
use Rattle.tables.specs.Records as Table
use Rattle.tables.specs.Records.{address_bytes, read_address, block_bytes, read_block, address_table, held_rows, block_table, block_rows, free_row}
use Rattle.tables.specs.Find.{all, every, is_used}
use Rattle.tables.specs.Unsound.{addresses_unsound, blocks_unsound, dirty_uncached}
use Rattle.tables.specs.Sound.{address_ok, is_zero}
use Rattle.tables.specs.Index.{row_ok, dirty_ok}
use Rattle.tables.specs.RowLaws.{rows-length}
use Rattle.tables.specs.ShiftLaws.{length-zeros}
use Rattle.tables.specs.OperationLaws.{Wide}
use Rattle.tables.proofs.OperationLaws.{wide_rows, addr-forth}
use Rattle.table_laws.specs.Checked.{dirty-checked}
use Rattle.table_laws.specs.KeptLists.{both, zeros-zero}
use Rattle.table_laws.specs.KeptAddresses.{address_ok-of}
use Rattle.paper.specs.Cache.{Numbers, AddressRow, BlockRow, Box, Counters}
use Rattle.paper.specs.KeyedLaws.{All, all_map, all_of_map, all_left, all_right, all-perm, or-false-left, or-false-right}
use Rattle.paper.specs.Engine.{Fixed, fixed-≡, fit, labelled}
use Rattle.paper.specs.Lent.{Lent, bit, held_row, used_row, as_held, free_slots, used_rows, box_in, lent_of, with_counters, other_length, wrong_buffers}
use Rattle.paper.specs.Sound.{Sound}
use Rattle.table_laws.specs.Written.{address-wide, block-wide, block-used, block_read, block-passes, held-rows, held-rest, held-length, block-rows}
use Rattle.table_laws.specs.Written.{blocks-length}

-- the block rows that a box writes: free ones first
abbrev pub table_rows : List ℕ → List (BlockRow (Fixed 32)) → List Table.BlockRow
table_rows free used = map free_row free ++ map used_row used

-- the lengths that 2 asks for
pub record Lengths (N : Numbers) (t : Lent) : Type 0 where
  pub disk : length t.disk ≡ N.P * N.B
  pub flash : length t.flash ≡ N.d * N.B
  pub addresses : length t.addresses ≡ table_bytes N.m
  pub blocks : length t.blocks ≡ table_bytes N.d

-- lent memory of the right lengths that gets none of 6, 7 and 8
pub record Passes (N : Numbers) (t : Lent) : Type 0 where
  pub lengths : Lengths N t
  pub addresses : addresses_unsound N.P N.m t.n t.addresses ≡ false
  pub blocks : blocks_unsound N.d t.blocks ≡ false
  pub dirty : dirty_uncached t.n N.d t.addresses t.blocks ≡ false
