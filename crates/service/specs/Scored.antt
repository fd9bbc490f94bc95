-- What C reads of the counts of an exam question: what is lent for them, with its right length, has the nine counts, 8 bytes each. Assumes nothing.
use Rattle.std.specs.Prelude.{List, [], ◌∷◌, ℕ, zero, suc, ◌≤◌, get_or}
use Rattle.std.proofs.Common.{arith}
use Rattle.exam.specs.ScoreLaws.{total}

-- none of some numbers is above their sum
pub total-most : (c : List ℕ) (h : ℕ) → get_or c h 0 ≤ total c
total-most [] h = omega arith
total-most (x ∷ c) zero = omega arith
total-most (x ∷ c) (suc h) = omega (arith, total-most c h)
