-- Both sides are the same forty bytes. Assumes nothing.
use Rattle.std.specs.Prelude.{List, ℕ, length, replicate}
use Rattle.std.proofs.Common.{ap, ◌∙◌}
use Rattle.std.proofs.Math.Seq.{paste}
use Rattle.tables.specs.Rows.{zeros}
use Rattle.tables.specs.Records.{block_bytes}
use Rattle.tables.proofs.row.free.Goals as goal

pub returns : goal.returns
unfolding block_bytes zeros
returns c = c.write.ensures ∙ ap (λ (x : List ℕ). paste (replicate 40 0) 32 x (length x)) c.to_le_bytes.ensures
