-- No row is counted at first. Assumes nothing.
use Rattle.std.specs.Prelude.{◌≡◌, refl, ℕ, zero, suc, get_or, replicate}
use Rattle.std.proofs.Common.{arith, rules}
use Rattle.checks.proofs.index.is_crowded.Goals as goal

-- an array of zeros has 0 everywhere, and behind its end too
zero-at : (n i : ℕ) → ◌≡◌ {A = ℕ} (get_or (replicate n 0) i 0) 0
zero-at zero i = refl
zero-at (suc n) zero = refl
zero-at (suc n) (suc i) = zero-at n i

pub loop-k-init : goal.loop-k-init
loop-k-init c = (search rules, λ x. omega (arith, zero-at 4096 x))
