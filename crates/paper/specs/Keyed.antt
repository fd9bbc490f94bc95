-- Tables: rows in a list, found by a key.
use Rattle.std.specs.Prelude.{Bool, false, ◌||◌, cond, List, [], ◌∷◌}
use Rattle.std.proofs.Math.Option.{Option, none, some}

module _ {K R : Type 0} (same : K → K → Bool) (key : R → K) where
  -- some row has the key
  abbrev pub has : K → List R → Bool
  has k [] = false
  has k (r ∷ rs) = same k (key r) || has k rs

  -- the rows that do not have the key, in their order
  abbrev pub without : K → List R → List R
  without k [] = []
  without k (r ∷ rs) = cond (same k (key r)) (without k rs) (r ∷ without k rs)

  -- the first row that has the key
  abbrev pub find : K → List R → Option R
  find k [] = none
  find k (r ∷ rs) = cond (same k (key r)) (some r) (find k rs)
