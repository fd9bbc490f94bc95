-- A turn is one write more. Assumes nothing.
use Rattle.std.proofs.Common.{refl, ap, ◌∙◌, arith, ◌+◌, ◌*◌, length}
use Rattle.area.specs.Given.{bytes_of}
use Rattle.area.specs.ByteLaws.{chunk-length, body-turn, put-length, none_yet}
use Rattle.area.proofs.put_body.Goals as goal

pub loop-k-init : goal.loop-k-init
loop-k-init c = (none_yet _ _, refl)

pub write-requires : goal.write-requires
write-requires c = (omega arith, ap length c.chunk-c.ensures ∙ chunk-length (bytes_of c.args.body.now) c.loop-k.k (omega arith))

pub loop-k-preserved : goal.loop-k-preserved
loop-k-preserved c =
    let l = c.loop-k in
    let k = l.k in
    let long = ap length c.chunk-c.ensures ∙ chunk-length (bytes_of c.args.body.now) k (omega arith) in (
      c.write.ensures ∙ body-turn (bytes_of c.args.body.now) c.args.area.now l.area _ k l.invariant.0 c.chunk-c.ensures,
      ap length c.write.ensures ∙ put-length l.area _ (64 + k * 64) (omega arith) long ∙ l.invariant.1,
    )
