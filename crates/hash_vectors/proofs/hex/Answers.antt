-- `hash_vectors::hex` meets its contract. Assumes nothing.
use Rattle.std.proofs.Common.{◌≡◌, ◌/◌, ◌%◌, get_or, refl, arith, length-set}
use Rattle.hash_vectors.specs.Hex as H
use Rattle.hash_vectors.proofs.Filled.{next, whole}
use Rattle.hash_vectors.proofs.hex.Goals as goal

pub loop-i-init : goal.loop-i-init
unfolding H.hex
loop-i-init c = (refl, refl)

pub loop-i-preserved : goal.loop-i-preserved
loop-i-preserved c =
    let p = c.loop-i in
    let high : get_or c.args.digest p.i 0 / 16 % 16 ≡ get_or c.args.digest p.i 0 / 16 = omega arith in (
      simp length-set p.invariant.0,
      next _ p.text p.i _ _ (omega arith) p.invariant.0 p.invariant.1 (rw high c.glyph-high.ensures) c.glyph-low.ensures,
    )

pub returns : goal.returns
returns c =
    let p = c.loop-i in
    whole _ p.text p.i p.invariant.0 (omega arith) (omega arith) p.invariant.1
