-- Lists of bytes.
use Rattle.std.specs.Prelude.{List, [], ◌∷◌, ℕ, suc, zero, ◌<◌, get_or}
use Rattle.std.proofs.Common.{arith}
use Rattle.paper.specs.KeyedLaws.{All}

-- every number is a byte
abbrev pub Bytes : List ℕ → Type 0
Bytes t = All (λ b. b < 256) t
