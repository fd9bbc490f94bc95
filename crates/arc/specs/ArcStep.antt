-- The whole step of D-ARC: what holds of the box and the lists before it holds after it.
use Rattle.std.specs.Prelude.{◌≡◌, Bool, List, [], ◌∷◌, ◌++◌, ◌⊎◌, ℕ, ◌+◌, ◌/◌, ◌≤◌, ◌<◌, ltb}
use Rattle.std.proofs.Math.Path.{sym, ap, subst}
use Rattle.std.proofs.Common.{◌∙◌, arith, ltb-false}
use Rattle.std.proofs.Math.Bool.{true, false}
use Rattle.std.proofs.Math.Logic.{inl, inr}
use Rattle.std.proofs.Math.Dec.{eqb}
use Rattle.std.proofs.Math.ListN.{length, length-append}
use Rattle.paper.specs.Keyed.{has}
use Rattle.paper.specs.Cache.{Hashing, Seat, AddressRow, Box, Stepped, newest, without_address, cached}
use Rattle.paper.specs.KeyedLaws.{by-test, either, clash, or_cases, or_left, or_right, eqb→≡, eqb-self, All, all_append, all_map, all_both}
use Rattle.paper.specs.KeyedLaws.{all_without, has-without-other, has-without-self, distinct_without, distinct_snoc, has-snoc-cases}
use Rattle.paper.specs.Sound.{Sound, DirtyCached}
use Rattle.paper.proofs.SoundLaws.{length-without-le}
use Rattle.paper.proofs.FaithfulLaws.{all-absent}
use Rattle.arc.specs.Policy.{Ran}
use Rattle.arc.specs.Arc.{Sizes, base_numbers, Lists, is_in, out, on_top, Was, in_t1, in_t2, in_b1, in_b2, in_b3, unheld, list_of, was_b2, left, with_p}
use Rattle.arc.specs.Arc.{new_p, larger, has_row, row_out, stored_in, block_newest, cleared, inserted, parted, check, checked, to_t2, join_t1, join_t2}
use Rattle.arc.specs.Arc.{joined}
use Rattle.arc.specs.Tally.{tally, count, tally-append, tally-has, tally-without-self, tally-without-other, length_without}
use Rattle.arc.specs.ArcMid.{named, total, TopCached, Mid, OutlastsOut}
use Rattle.arc.specs.ArcRuns.{tops, history}

-- What holds of lists and box in every state reached. "After every list of calls, each address of T1 and T2 has its block, T1, T2 and B3 hold at most
-- C + X together, B1 and B2 together at most C"; the lists name each held address once and no other; p is at most C.
pub record ArcSound {F X : Type 0} (H : Hashing F X) (Z : Sizes) (l : Lists) (s : Box F X) : Type 0 where
  pub sound : Sound H (base_numbers Z) s
  pub names : (x : ℕ) → tally (λ r. r.address) x s.rows ≡ named x l
  pub counted : length s.rows ≡ total l
  pub top : All (TopCached H l s.used) s.rows
  pub fit : tops l + length l.B3 ≤ Z.C + Z.X
  pub few : history l ≤ Z.C
  pub p_low : l.p ≤ Z.C

-- What outlasts, too, the parts of an insertion
abbrev pub OutlastsStore : {F X : Type 0} (H : Hashing F X) (Z : Sizes) (a : ℕ) (g : F) (b : X) (G : Stepped F X → Type 0) → Type 0
OutlastsStore {F} {X} H Z a g b G =
    (t : Ran F X Lists) → Mid H Z a t → cached H g t.stepped.box.used ≡ false → has_row H t.kept t.stepped.box ≡ true → G t.stepped
    → G (stored_in H g b t).stepped

abbrev pub OutlastsNewest : {F X : Type 0} (H : Hashing F X) (Z : Sizes) (a : ℕ) (g : F) (G : Stepped F X → Type 0) → Type 0
OutlastsNewest {F} {X} H Z a g G = (t : Ran F X Lists) → Mid H Z a t → cached H g t.stepped.box.used ≡ true → G t.stepped
    → G (block_newest H g t).stepped
