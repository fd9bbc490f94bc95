-- A flush of at most k: how many rows it cleans, and which it leaves dirty. Before that, rows of which the first ones are made clean.
-- Assumes nothing.
use Rattle.std.specs.Prelude.{◌≡◌, refl, true, false, ◌&&◌, ◌||◌, cond, ◌⊎◌, ℕ, zero, suc, ◌+◌, ◌-◌, ◌≤◌, ◌<◌, min, eqb, leb, take}
use Rattle.std.proofs.Math.Path.{sym, ap}
use Rattle.std.proofs.Common.{◌∙◌, inl, inr, arith}
use mathlib.Core.List.{List, [], ◌∷◌}
use Rattle.std.proofs.Math.Nat.{min-eq_left, min-eq_right}
use Rattle.std.proofs.Math.ListN.{length, drop, drop_of_length-le}
use borrow.Author.Tests.{leb-true, leb-false}
use Rattle.paper.specs.Cache.{Hashing, AddressRow, Box, held, known, partly, reach, dirty_rows, flushed}
use Rattle.paper.specs.KeyedLaws.{by-test, either, All, Distinct}

-- the dirty rows, oldest first
abbrev pub dirty_of : {F : Type 0} → List (AddressRow F) → List (AddressRow F)
dirty_of [] = []
dirty_of (r ∷ rs) = cond r.dirty (r ∷ dirty_of rs) (dirty_of rs)
