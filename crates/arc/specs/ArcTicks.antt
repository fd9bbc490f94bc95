-- The test for 6 in one pass over the names: each ticks off a held address. This is what code can do with a set of bits, in time m.
use Rattle.std.specs.Prelude.{◌≡◌, refl, Bool, true, false, not, ◌&&◌, cond, List, [], ◌∷◌, ℕ, suc, ◌+◌, eqb, length}
use Rattle.std.proofs.Common.{sym, ap, ◌∙◌, subst, arith, eqb-true, eq-eqb}
use Rattle.std.proofs.lemmas.Bool.{false≢true, not-false}
use Rattle.tables.specs.Find.{any}
use Rattle.paper.specs.KeyedLaws.{by-test, either, clash, or_cases, or-both, or-false-left, or-false-right, and_left, and_right, eqb→≡, eqb-self}
use Rattle.paper.specs.KeyedLaws.{eqb_swap, All, all_map, Distinct, distinct_without}
use Rattle.arc.specs.Arc.{is_in, out}
use Rattle.arc.specs.Tally.{count, tally-has, tally-none, tally-some, tally-distinct, tally-without-self, tally-without-other, length_without}
use Rattle.arc.specs.Tally.{length_none}
use Rattle.arc.specs.ArcLent.{misnamed}

-- each name is in the set, and leaves it
unfoldable pub ticked : List ℕ → List ℕ → Bool
ticked set [] = true
ticked set (x ∷ xs) = is_in x set && ticked (out x set) xs

-- the test says that names and held addresses are the same, each once
abbrev pub Same : List ℕ → List ℕ → Type 0
Same held names = (x : ℕ) → count x held ≡ count x names
