-- What a policy must promise of its step, and the laws of the calls and of every list of calls that follow for every policy.
use Rattle.std.specs.Prelude.{◌≡◌, false, ℕ, zero, suc, ◌≤◌, ◌<◌, length, set, get_or}
use Rattle.std.proofs.Math.Path.{refl, sym, ap, subst}
use Rattle.std.proofs.Common.{◌∙◌}
use mathlib.Core.List.{List, [], ◌∷◌, ◌++◌, Memᴰ}
use Rattle.std.proofs.Math.Option.{Option, none, some}
use Rattle.std.proofs.Math.Dec.{eqb}
use Rattle.paper.specs.Cache.{Numbers, Hashing, AddressRow, Box, Request, block_of, partly, reach, clean_to, row_of, seat_in, Call, read, through, back}
use Rattle.paper.specs.Cache.{invalidate, look, flush, Within, on_disk, row_with_block, answer, same_or_new, back_request, write_invalidate, look_as, flushed}
use Rattle.paper.specs.Cache.{excess, serve, fresh}
use Rattle.paper.specs.KeyedLaws.{eqb→≡, eqb_swap, All, all_left, all_right, all_map, find-some}
use Rattle.paper.specs.Machines.{plain_next, plain_block, written_by, TrueFingerprints, NoTwoShare}
use Rattle.paper.specs.Sound.{Sound}
use Rattle.paper.proofs.SoundLaws.{sound-on_disk, sound-clean_to, sound-step, sound-serve}
use Rattle.paper.proofs.FaithfulLaws.{at, at_set_same, at_set_other, all-at, RowTrue, BlockTrue, Faithful, FaithfulBut, faithful-step}
use Rattle.paper.proofs.PlainDiskLaws.{if_cached-some, clean-is-plain, flush-whole, faithful-clean_to, faithful-serve}
use Rattle.paper.proofs.FewWrites.{Spent, may_copy, spent-step, Tally, tally-hit, tally-miss, tally-through, tally-back, tally-invalidate, tally-look}
use Rattle.paper.proofs.FewWrites.{tally-flush}
use Rattle.arc.specs.PlainRows.{Only}
use Rattle.arc.specs.Policy.{Policy, serve_by, read_by, through_by, back_by, answered_by, ThroughoutBy, EachBy, ReturnsPlain}
use Rattle.arc.specs.Policy.{FlushesPlain, written_in, lru}

-- rows that differ at most in what is dirty and in their seats
abbrev pub Alike : {F : Type 0} → List (AddressRow F) → List (AddressRow F) → Type 0
Alike [] [] = Unit {0}
Alike [] (y ∷ ys) = ⊥
Alike (x ∷ xs) [] = ⊥
Alike (x ∷ xs) (y ∷ ys) = (x.address ≡ y.address) × (x.fingerprint ≡ y.fingerprint) × Alike xs ys

-- The laws of every list of calls from a fresh box, of any policy that promises: `k` is the policy's first state.
pub record OnCalls {F X S : Type 0} (H : Hashing F X) (N : Numbers) (pol : Policy F X S) (Inv : S → Box F X → Type 0) (k : S) (flash disk : List X)
    (cs : List (Call X)) : Type 0 where
  -- with no premise
  pub inv : ThroughoutBy H pol (λ k s plain. Inv k s) k (fresh N.d flash disk) disk cs
  -- under the premise, of the first plain disk and the blocks written: the rows have the plain disk's fingerprints, and the block rows their blocks';
  pub fingerprints : NoTwoShare H (disk ++ written_in cs)
      → ThroughoutBy H pol (λ k s plain. TrueFingerprints H s plain) k (fresh N.d flash disk) disk cs
  -- "a user reads the plain disk";
  pub blocks : NoTwoShare H (disk ++ written_in cs) → EachBy H pol (ReturnsPlain H pol) k (fresh N.d flash disk) disk cs
  -- after each full flush the disk is the plain disk;
  pub flushes : NoTwoShare H (disk ++ written_in cs) → EachBy H pol (FlushesPlain H pol N.m) k (fresh N.d flash disk) disk cs
  -- "the disk is the plain disk's whenever a call leaves no row dirty"
  pub clean : NoTwoShare H (disk ++ written_in cs)
      → ThroughoutBy H pol (λ k s plain. All (λ r. r.dirty ≡ false) s.rows → s.disk ≡ plain) k (fresh N.d flash disk) disk cs
