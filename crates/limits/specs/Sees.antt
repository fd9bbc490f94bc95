-- What a box shows at each address, with no premise on fingerprints: the disk's block, or where a row is dirty the cached block of its fingerprint.
-- A list of blocks `shown` is what it shows; a step of D-LRU leaves a box that shows it, where its request says so of its own address.
use Rattle.std.specs.Prelude.{◌≡◌, ◌&&◌, cond, ◌⊎◌, ◌≢◌, ℕ, ◌≤◌, ◌<◌, eqb, length, set, take}
use Rattle.std.proofs.Math.Path.{refl, ap}
use Rattle.std.proofs.Common.{sym, ◌∙◌, subst, true≢false, get_or-set_other}
use Rattle.std.proofs.Math.Bool.{true, false, not}
use Rattle.std.proofs.lemmas.Bool.{false≢true}
use mathlib.Core.List.Permᴰ
use mathlib.Core.List.{List, [], ◌∷◌, ◌++◌, map, Permᴰ}
use Rattle.std.proofs.Math.Logic.{inl, inr}
use Rattle.std.proofs.Math.Option.{Option, none, some}
use borrow.Author.Tests.{not-true}
use Rattle.tables.specs.Records.{slots_from}
use Rattle.paper.specs.Cache.{Numbers, Hashing, AddressRow, BlockRow, Box, RowOut, BlockRows, Request, newest, block_row, without_address, known, cached}
use Rattle.paper.specs.Cache.{without_block, slot_of, block_of, is_lost, clean_to, step, step1, step3, freed, stored}
use Rattle.paper.specs.KeyedLaws.{by-test, either, clash, and_left, and_right, or_left, or-both, eqb→≡, eqb-self, All, Distinct, all_append, all_map, all_both}
use Rattle.paper.specs.KeyedLaws.{all_of_map, all_right, same-sym-false, has-without, has-without-self, has-snoc-self}
use Rattle.paper.proofs.Cases.{taken_free, taken_row, by-step1, by-step3, by-step4}
use Rattle.paper.specs.Sound.{Sound, DirtyCached}
use Rattle.paper.proofs.SoundLaws.{perm-take, chosen-slot, all-cleaned, all_known, sound-step1, sound-step3, some-slot}
use Rattle.paper.proofs.Orphans.{apart}
use Rattle.paper.specs.Faithful.{any, dirty_at}
use Rattle.paper.proofs.FaithfulLaws.{at, at_set_same, at_set_other, CopyTrue, copied-good, dirty-split, dirty-without, slot-taken, all-absent}
use Rattle.paper.proofs.FaithfulLaws.{all-without-strict}
use Rattle.paper.proofs.PartlyLaws.{all-partly, all_take}
use Rattle.paper.proofs.PlainDiskLaws.{dirty-behind}
use Rattle.arc.proofs.PlainRowsLaws.{and-false-cases, dirty-snoc}

-- every address, and all but a
abbrev pub Everywhere : ℕ → Type 0
Everywhere x = Unit {0}

abbrev pub But : ℕ → ℕ → Type 0
But a x = eqb a x ≡ false
