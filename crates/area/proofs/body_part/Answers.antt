-- The bytes from an index behind the numbers are those of the strings. Assumes nothing.
use Rattle.std.specs.Prelude.{◌≡◌, length, take, IfSome}
use Rattle.std.proofs.Common.{subst}
use Rattle.area.specs.ByteLaws.{part_in}
use Rattle.area.proofs.body_part.Goals as goal

pub returns : goal.returns
returns c =
    subst (λ x. IfSome c.string_part.result (λ part. (length part.now ≡ 64) × (part.now ≡ take 64 x)))
    (part_in c.args.body.now c.args.i c.if-i-n.false) c.string_part.ensures
