-- An array of zeros. Assumes nothing.
use Rattle.std.proofs.Common.{ℕ, replicate}
use Rattle.std.proofs.lemmas.List.{length-replicate}
use Rattle.tables.specs.Index.{Blank}
use Rattle.tables.specs.SoundLaws.{filled-with}

pub blank : Blank (replicate 4353 0)
blank = (length-replicate {A = ℕ} 4353 0, filled-with 4353 0)
