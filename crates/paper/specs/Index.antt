-- Rows by their index: the index of the first row that passes a test (the length where none does), and what `has`, `find`, `without` and `slot_of` are there.
use Rattle.std.specs.Prelude.{◌≡◌, Bool, true, false, not, cond, length, get_or, take, drop}
use Rattle.std.proofs.Math.Path.{refl, ap}
use Rattle.std.proofs.Common.{◌∙◌, le_of_suc-le-suc}
use mathlib.Core.List.{List, [], ◌∷◌, ◌++◌, map}
use Rattle.std.proofs.Math.Option.{none, some}
use Prim.Native.Nat.{ℕ, suc, zero, ◌≤◌, ◌<◌, ◌+◌}
use native.Mathlib.Omega.{arith}
use Rattle.paper.specs.Keyed.{has, without, find}
use Rattle.paper.specs.Cache.{Hashing, AddressRow, BlockRow, known, slot_of, oldest_unknown}
use Rattle.paper.specs.KeyedLaws.{by-test, clash, or_left, or_right, All, Distinct, without-absent}

-- the index of the first element that p holds of
unfoldable pub index_where : {A : Type 0} → (A → Bool) → List A → ℕ
index_where p [] = 0
index_where p (x ∷ xs) = cond (p x) 0 (suc (index_where p xs))
