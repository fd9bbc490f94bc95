-- The tests for 6, 7 and 8 in their positive parts, and what these say of the box in the bytes.
use Rattle.std.specs.Prelude.{◌≡◌, Bool, false, ◌&&◌, ◌||◌, ℕ, suc, ◌<◌, eqb, length}
use Rattle.std.proofs.Math.Path.{refl, ap}
use Rattle.std.proofs.Common.{sym, ◌∙◌, take_at}
use Rattle.std.proofs.Math.Bool.{true, not, cond}
use mathlib.Core.List.{List, [], ◌∷◌, ◌++◌, map, map-map, Permᴰ}
use Rattle.std.proofs.Math.Dec.{ltb}
use Rattle.std.proofs.lemmas.List.{length-map}
use borrow.Author.Tests.{ltb-true, not-true, not-false}
use Rattle.tables.specs.Rows.{rows, zeros, row_bytes}
use Rattle.tables.specs.Records as Table
use Rattle.tables.specs.Records.{read_address, read_block, slots_from}
use Rattle.tables.specs.Find.{all, every, find_from, same, caches, is_used}
use Rattle.tables.specs.Unsound.{elem, addresses_unsound, blocks_unsound}
use Rattle.tables.specs.Sound.{distinct, tail_ok, seated_tail, address_ok, is_zero, sound_addresses, row_address, row_slot}
use Rattle.tables.specs.Index.{unique, row_ok, dirty_ok}
use Rattle.table_laws.specs.Written.{address-print-length, block-print-length}
use Rattle.tables.specs.OperationLaws.{Wide}
use Rattle.table_laws.specs.Checked.{addresses-checked, blocks-checked}
use Rattle.table_laws.specs.KeptLists.{both}
use Rattle.table_laws.specs.KeptAddresses.{Addrs, addrs-parts, parts-addrs}
use Rattle.paper.specs.Cache.{Numbers, cached}
use Rattle.paper.specs.KeyedLaws.{All, Distinct, by-test, and_left, and_right}
use Rattle.paper.specs.Keyed.{has}
use Rattle.paper.specs.Engine.{Fixed, fit, labelled}
use Rattle.paper.specs.Lent.{as_held, free_slots, used_rows}
use Rattle.paper.specs.Sound.{DirtyCached}

-- 7: each row by itself, slots that differ, fingerprints used once
pub record GoodBlocks (d : ℕ) (t : List ℕ) : Type 0 where
  pub each : every (row_ok d) (rows d t) ≡ true
  pub apart : distinct (map row_slot (rows d t)) ≡ true
  pub once : every unique (rows d t) ≡ true
