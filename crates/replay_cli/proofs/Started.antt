-- The bytes of a part from the start are the first bytes of the whole. By induction on the count. Assumes nothing.
use mathlib.Core.Path.{◌≡◌, refl, ap, ap₂, ◌∙◌}
use mathlib.Core.List.{List}
use Prim.Native.Nat.{ℕ, zero, suc, ◌-◌, ◌≤◌}
use native.Mathlib.Omega.{arith}
use lib.ListN.{length, take}
use lib.Seq.{get_or-take, length-take-le}
use Rattle.session.specs.Memory.{Memory, fed}
use Rattle.replay_cli.specs.Chunks.{fed_first}

front : (l : List ℕ) (k n : ℕ) (M : Memory) → n ≤ k → fed_first (take k l) n M ≡ fed_first l n M
front l k zero M h = refl
front l k (suc n) M h = ap₂ (λ x K. (fed x K).memory) (get_or-take k l n 0 h) (front l k n M (omega arith))

-- a part `l[0..n]`
from_zero : (l : List ℕ) (n : ℕ) → take (n - 0) l ≡ take n l
from_zero l n = let e : n - 0 ≡ n = omega arith in ap (λ k. take k l) e

pub started : (l : List ℕ) (n : ℕ) (M : Memory) → n ≤ length l → fed_first (take (n - 0) l) (length (take (n - 0) l)) M ≡ fed_first l n M
started l n M h =
    ap (λ t. fed_first t (length t) M) (from_zero l n)
    ∙ ap (λ k. fed_first (take n l) k M) (length-take-le n l h)
    ∙ front l n n M (omega arith)
