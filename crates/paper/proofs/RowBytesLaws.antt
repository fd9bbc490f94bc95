-- Lists of bytes.
use Rattle.std.specs.Prelude.{List, [], ◌∷◌, ℕ, suc, zero, ◌<◌, get_or}
use Rattle.std.proofs.Common.{arith}
use Rattle.paper.specs.KeyedLaws.{All}
use Rattle.paper.specs.RowBytes.{Bytes}

-- the same by index, as the promises of tables ask for it
pub bytes-at : (t : List ℕ) → Bytes t → (i : ℕ) → get_or t i 0 < 256
bytes-at [] b i = omega arith
bytes-at (x ∷ t) b zero = b.0
bytes-at (x ∷ t) b (suc i) = bytes-at t b.1 i
