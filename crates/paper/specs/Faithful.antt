-- One step of the cache and the plain disk, where no two different blocks of a set share a fingerprint.
use mathlib.Core.Path.{◌≡◌, refl, sym, ap, ◌∙◌, subst}
use Rattle.std.specs.Prelude.{Bool, not, ◌&&◌, ◌||◌, ◌⊎◌, ◌≢◌, ℕ, suc, zero, ◌≤◌, ◌<◌, ◌+◌, eqb, length, set, get_or}
use Rattle.std.proofs.Math.Bool.{true, false}
use Rattle.std.proofs.Common.{true≢false, arith, length-set, get_or-set_same, get_or-set_other}
use Rattle.std.proofs.lemmas.Bool.{false≢true, eqb-false}
use mathlib.Core.List.{List, [], ◌∷◌, ◌++◌, map, Permᴰ}
use Rattle.std.proofs.Math.Logic.{inl, inr}
use Rattle.std.proofs.Math.Option.{Option, none, some}
use Rattle.tables.specs.Records.{slots_from}
use Rattle.paper.specs.Keyed.{has, without}
use Rattle.paper.specs.Cache.{Numbers, Hashing, AddressRow, BlockRow, Box, RowOut, BlockRows, Request, newest, block_row, without_address, cached}
use Rattle.paper.specs.Cache.{without_block, slot_of, block_of, cleaned, copied, is_lost, step, step1, step3, step4, freed, stored}
use Rattle.paper.specs.KeyedLaws.{by-test, either, clash, or_cases, or_left, or_right, or-both, or-false-left, or-false-right, and_left}
use Rattle.paper.specs.KeyedLaws.{and_right, eqb→≡, eqb-self, All, Distinct, all_right, all_of_map, all_append, all_map, all_without, all_both}
use Rattle.paper.specs.KeyedLaws.{all-perm}
use Rattle.paper.specs.Sound.{Sound, DirtyCached}

-- slots: each of 0 to d - 1 once
abbrev pub Apart : List ℕ → Type 0
Apart [] = Unit {0}
Apart (k ∷ ks) = All (λ j. j ≢ k) ks × Apart ks

-- some dirty row of those chosen is of address x
abbrev pub dirty_at : {F : Type 0} → (F → Bool) → ℕ → List (AddressRow F) → Bool
dirty_at c x [] = false
dirty_at c x (r ∷ rs) = (eqb x r.address && (r.dirty && c r.fingerprint)) || dirty_at c x rs

abbrev pub any : {F : Type 0} → F → Bool
any f = true
