-- The box and the lists between the first and the last part of a step: the requested address a has left and hasn't joined.
use Rattle.std.specs.Prelude.{◌≡◌, ◌||◌, ℕ, ◌+◌, ◌≤◌, ◌<◌, length, take, drop}
use Rattle.std.proofs.Common.{sym, ◌∙◌, arith, length-append}
use Rattle.std.proofs.Math.Path.{ap, subst}
use Rattle.std.proofs.Math.Bool.{true, false, cond}
use mathlib.Core.List.{List, [], ◌∷◌, ◌++◌}
use Rattle.std.proofs.Math.Option.{some}
use Rattle.std.proofs.Math.Dec.{eqb}
use Rattle.paper.specs.Cache.{Hashing, AddressRow, BlockRow, Stepped, held, row_of, without_address, cached}
use Rattle.paper.specs.KeyedLaws.{by-test, by-option, either, clash, or_cases, or_left, or_right, eqb→≡, eqb-self, eqb_swap, All, all_map}
use Rattle.paper.specs.KeyedLaws.{all_without, has-without-other, distinct_without, find_none}
use Rattle.paper.specs.Sound.{Sound, DirtyCached}
use Rattle.paper.proofs.SoundLaws.{length-copied, length-without-le}
use Rattle.arc.specs.Policy.{Ran}
use Rattle.arc.specs.Arc.{Sizes, base_numbers, Lists, is_in, on_top, row_out, evicted, listed, t1b1, t2b2, t1b3, b1b3, b2b3, b1_out, b2_out, b3_out}
use Rattle.arc.specs.Arc.{b1_evicted, b2_evicted, b3_evicted}
use Rattle.arc.specs.Tally.{tally, count, tally-append, tally-some, tally-distinct, tally-without-self, tally-without-other, length_without}
use Rattle.arc.specs.Tally.{tally-first, length-first, in-drop}

-- how often the lists name x, and how many names they have
abbrev pub named : ℕ → Lists → ℕ
named x l = count x l.T1 + count x l.T2 + count x l.B1 + count x l.B2 + count x l.B3

abbrev pub total : Lists → ℕ
total l = length l.T1 + length l.T2 + length l.B1 + length l.B2 + length l.B3

-- a row whose address is in T1 or T2 has its block
abbrev pub TopCached : {F X : Type 0} (H : Hashing F X) → Lists → List (BlockRow F) → AddressRow F → Type 0
TopCached H l used r = on_top l r.address ≡ true → cached H r.fingerprint used ≡ true

pub record Mid {F X : Type 0} (H : Hashing F X) (Z : Sizes) (a : ℕ) (t : Ran F X Lists) : Type 0 where
  pub sound : Sound H (base_numbers Z) t.stepped.box
  pub absent : held a t.stepped.box.rows ≡ false
  pub names : (x : ℕ) → tally (λ r. r.address) x t.stepped.box.rows ≡ named x t.kept
  pub counted : length t.stepped.box.rows ≡ total t.kept
  pub top : All (TopCached H t.kept t.stepped.box.used) t.stepped.box.rows
  pub p_low : t.kept.p ≤ Z.C

-- What outlasts an eviction of another address than a outlasts all that a step does to the address table.
abbrev pub OutlastsOut : {F X : Type 0} (H : Hashing F X) (Z : Sizes) (a : ℕ) (G : Stepped F X → Type 0) → Type 0
OutlastsOut {F} {X} H Z a G =
    (t : Stepped F X) (x : ℕ) (r : AddressRow F) → Sound H (base_numbers Z) t.box → held a t.box.rows ≡ false → row_of x t.box.rows ≡ some r
    → eqb a x ≡ false → G t
    → G (row_out H x (some r) t)
