-- What holds after t rounds over the block b, from the hash value h: the first t words of w are those of the schedule, and s is the state.
-- Assumes nothing.
use Rattle.std.specs.Prelude.{◌≡◌, ℕ, List, length, take}
use Rattle.hash.specs.Sha256.{W, rounds}

pub record Done (b h : List ℕ) (t : ℕ) (w s : List ℕ) : Type 0 where
  pub full : length w ≡ 64
  pub made : take t w ≡ W b t
  pub state : s ≡ rounds (W b 64) h t
