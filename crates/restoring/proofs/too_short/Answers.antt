-- The length that header, body and fill take. Assumes nothing.
use Rattle.restoring.specs.FoundLaws.{short-is}
use Rattle.std.specs.Prelude.{◌≡◌, ◌+◌, ◌*◌, ◌/◌, ltb, length}
use Rattle.std.proofs.Common.{arith, ap, ◌∙◌}
use Rattle.restoring.proofs.too_short.Goals as goal

pub returns : goal.returns
returns c =
    let e : c.div_ceil-writes.result ≡ (c.args.n + 63) / 64 = grind arith in
    ap (λ w. ltb (length c.args.area.now) (64 + w * 64)) e ∙ short-is c.args.area.now c.args.n
