-- The structural invariant of every state reached.
use Rattle.std.specs.Prelude.{◌≡◌, Bool, not, ◌&&◌, ◌||◌, cond, ◌⊎◌, ℕ, suc, zero, ◌≤◌, ◌<◌, length, set, get_or, take}
use Rattle.std.proofs.Math.Path.{refl, ap, subst}
use Rattle.std.proofs.Common.{sym, ◌∙◌, subst₂, arith}
use Rattle.std.proofs.Math.Bool.{true, false}
use Rattle.std.proofs.lemmas.Bool.{false≢true, not-true, eqb-false}
use mathlib.Core.List.Permᴰ
use mathlib.Core.List.{List, [], ◌∷◌, ◌++◌, map, map-append, Permᴰ}
use Rattle.std.proofs.Math.Logic.{inl, inr}
use Rattle.std.proofs.Math.Option.{Option, none, some, none-ne-some, some-injective}
use Rattle.std.proofs.Math.Dec.{eqb}
use Rattle.std.proofs.Math.ListN.{length-set, length-append}
use Rattle.tables.specs.Records.{slots_from}
use Rattle.paper.specs.Keyed.{has, without}
use Rattle.paper.specs.Cache.{Numbers, Hashing, AddressRow, BlockRow, Box, RowOut, BlockRows, Request, newest, block_row, held, row_of, without_address}
use Rattle.paper.specs.Cache.{known, cached, without_block, slot_of, block_of, cleaned, copied, is_lost, step, step1, step3, step4, freed, oldest_unknown}
use Rattle.paper.specs.Cache.{stored, Call, read, through, back, invalidate, look, flush, Within, on_disk, row_with_block, answer, read_as, write_through}
use Rattle.paper.specs.Cache.{seat_in, back_request, write_back, dropped, write_invalidate, look_as, flushed, excess, reach, clean_to, serve, fresh}
use Rattle.paper.specs.KeyedLaws.{by-test, either, clash, or_left, or_right, or-false-right, and_left, and_right, eqb→≡, eqb-self, All}
use Rattle.paper.specs.KeyedLaws.{Distinct, all_append, all_map, all_without, all_both, has-without-other, has-without, has-without-self}
use Rattle.paper.specs.KeyedLaws.{without-absent, distinct_without, distinct_snoc}

-- a dirty row's fingerprint is cached
abbrev pub DirtyCached : {F X : Type 0} (H : Hashing F X) → List (BlockRow F) → AddressRow F → Type 0
DirtyCached H used r = r.dirty ≡ true → cached H r.fingerprint used ≡ true

-- What holds of the box in every state reached: no address held twice, each below (P), at most (m) of them; no fingerprint used twice; slots each of
-- 0 to (d) − 1 once, free or used; a dirty row's fingerprint cached; (d) blocks of flash and (P) of disk.
pub record Sound {F X : Type 0} (H : Hashing F X) (N : Numbers) (s : Box F X) : Type 0 where
  pub addresses : Distinct eqb (λ r. r.address) s.rows
  pub below : All (λ r. r.address < N.P) s.rows
  pub few : length s.rows ≤ N.m
  pub fingerprints : Distinct H.same (λ u. u.fingerprint) s.used
  pub slots : Permᴰ (s.free ++ map (λ u. u.slot) s.used) (slots_from 0 N.d)
  pub dirty_cached : All (DirtyCached H s.used) s.rows
  pub flash_length : length s.flash ≡ N.d
  pub disk_length : length s.disk ≡ N.P
