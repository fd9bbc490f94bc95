-- The copy of the part is the part. Assumes nothing.
use mathlib.Core.Path.{ap, ◌∙◌}
use lib.ListN.{length}
use Rattle.std.proofs.Common.{rules}
use Rattle.parts.proofs.rows.fp_at.Goals as goal

pub returns : goal.returns
returns c =
    let q = c.copy_from_slice.ensures.after in
    (ap length q ∙ c.address_fingerprint.ensures.1, q ∙ c.address_fingerprint.ensures.0)
