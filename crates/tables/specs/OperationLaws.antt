-- For the crates above: what the functions of `shift` and `put` leave, said of the rows and of the records. Assumes nothing.
use Rattle.std.specs.Prelude.{◌≡◌}
use mathlib.Core.List.{List, [], ◌∷◌}
use Prim.Native.Nat.{ℕ}
use Rattle.std.proofs.Math.ListN.{length}

-- every row has 40 bytes
abbrev pub Wide : List (List ℕ) → Type 0
Wide [] = Unit {0}
Wide (r ∷ rs) = (length r ≡ 40) × Wide rs
