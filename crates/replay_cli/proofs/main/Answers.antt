-- The arrays are of the sizes that a replay asks for. Assumes nothing.
use Rattle.std.proofs.Common.{◌≡◌, ℕ, length, replicate}
use Rattle.std.proofs.lemmas.List.{length-replicate}
use Rattle.replay_cli.specs.ReadLaws.{ready}
use Rattle.replay_cli.proofs.main.Goals as goal

zeros : (n : ℕ) → length (replicate {A = ℕ} n 0) ≡ n
zeros n = length-replicate n 0

pub whole-requires : goal.whole-requires
whole-requires c = ready _ _ _ _ _ _ (zeros 33) (zeros 16384) (zeros 16384) (zeros 40960) (zeros 10240) (zeros 256)
