-- The bytes of a header. Assumes nothing.
use Rattle.std.proofs.Common.{ap, ◌∙◌, length}
use Rattle.image.proofs.AreaLaws.{length-header}
use Rattle.area.specs.ByteLaws.{header_made}
use Rattle.area.proofs.header_bytes.Goals as goal

pub returns : goal.returns
returns c =
    let n = c.args.n in
    let e = header_made _ _ _ n c.put_mark.ensures (c.copy_from_slice.ensures.after ∙ c.to_le_bytes.ensures)
    (c.copy_from_slice-2.ensures.after ∙ c.to_le_bytes-2.ensures) in
    (e, ap length e ∙ length-header n)
