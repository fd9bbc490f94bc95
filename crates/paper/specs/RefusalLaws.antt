-- Refusals: each number is given exactly when its test is the first to hold, and a refused call keeps everything.
use Rattle.std.specs.Prelude.{◌≡◌, refl, Bool, true, false, ◌&&◌, ◌||◌, cond, ◌↔◌, ◌≢◌, ℕ, eqb, take, drop}
use Rattle.std.proofs.Common.{sym, ap, ◌∙◌, ne_eqb, subst}
use Rattle.std.proofs.lemmas.Bool.{false≢true}
use mathlib.Core.List.{List, [], ◌∷◌, ◌++◌, map}
use Rattle.tables.specs.Rows.{zeros}
use Rattle.tables.specs.Unsound.{addresses_unsound, blocks_unsound, dirty_uncached}
use Rattle.paper.specs.KeyedLaws.{All, Distinct, by-test, either, clash, eqb→≡, eqb-self, or_cases, or_left, or_right, or-false-left, or-false-right}
use Rattle.paper.specs.Cache.{Numbers}
use Rattle.paper.specs.Lent.{Lent, Ask, opening, calling, address_of, lent_block, unfit, limit_outside, wrong_buffers, wrong_block, outside, over_limit, over}
use Rattle.paper.specs.Lent.{counts}
use Rattle.paper.specs.Lent.{Test, test, first, one_of, tests, refusal, refused}
use Rattle.paper.specs.Lent.{served, kept, call, fresh, unopened, opened, label_after}

-- the numbers of tests
abbrev pub test_numbers : List Test → List ℕ
test_numbers l = map (λ x. x.number) l

-- 0 and the numbers are all different
abbrev pub Apart : List Test → Type 0
Apart l = Distinct eqb (λ k. k) (0 ∷ test_numbers l)

-- none of these tests holds
abbrev pub NoneOf : List Bool → Type 0
NoneOf l = All (λ b. b ≡ false) l

abbrev pub holdings : List Test → List Bool
holdings l = map (λ x. x.holds) l

-- "opening only 1 and 2", and 12
pub record ExactlyOpening (N : Numbers) (t : Lent) : Type 0 where
  pub gives-1 : refusal N t opening ≡ 1 ↔ (NoneOf [] × (unfit N ≡ true))
  pub gives-12 : refusal N t opening ≡ 12 ↔ (NoneOf (unfit N ∷ []) × (limit_outside N ≡ true))
  pub gives-2 : refusal N t opening ≡ 2 ↔ (NoneOf (unfit N ∷ limit_outside N ∷ []) × (wrong_buffers N t ≡ true))
  pub gives-0 : refusal N t opening ≡ 0 ↔ NoneOf (unfit N ∷ limit_outside N ∷ wrong_buffers N t ∷ [])
  pub no_other : one_of (refusal N t opening) (0 ∷ 1 ∷ 12 ∷ 2 ∷ []) ≡ true

pub record Keeps (N : Numbers) (t : Lent) (q : Ask) : Type 0 where
  pub answer : (call N t q).answer ≡ refused (refusal N t (calling q))
  pub lent : (call N t q).lent ≡ t
  pub block : (call N t q).block ≡ lent_block q
  pub part : (call N t q).part ≡ []

pub record KeepsOpening (N : Numbers) (t : Lent) : Type 0 where
  pub n : (opened N t).n ≡ 0
  pub disk : (opened N t).disk ≡ t.disk
  pub flash : (opened N t).flash ≡ t.flash
  pub addresses : (opened N t).addresses ≡ t.addresses
  pub blocks : (opened N t).blocks ≡ t.blocks
  pub counters : (opened N t).counters ≡ t.counters
