-- The text that a byte, or the end, puts out is in the output. By the laws of the texts. Assumes nothing.
use mathlib.Core.Path.{◌≡◌, refl, ap}
use mathlib.Core.List.{List}
use Prim.Native.Nat.{ℕ, ◌≤◌}
use native.Mathlib.Omega.{arith}
use lib.ListN.{length, take, length-take}
use Rattle.paper.specs.KeyedLaws.{by-test}
use Rattle.session.specs.Memory.{Memory, FedMemory, fits, stored, fed, ended}
use Rattle.session.specs.MemoryLaws.{fed-text, ended-text}

in-it : (t o : List ℕ) (n : ℕ) → take n o ≡ t → n ≡ length t → n ≤ length o
in-it t o n e f = omega (arith, ap length e, length-take n o, f)

abbrev pub Within : FedMemory → Type 0
Within a = a.filled ≤ length a.memory.out

pub fed-within : (x : ℕ) (M : Memory) → Within (fed x M)
unfolding fed stored
fed-within x M = by-test (fits M) (λ h. in-it _ _ _ (fed-text M h x) (rw h refl)) (λ h. rw h (omega arith))

pub ended-within : (M : Memory) → Within (ended M)
unfolding ended stored
ended-within M = by-test (fits M) (λ h. in-it _ _ _ (ended-text M h) (rw h refl)) (λ h. rw h (omega arith))
