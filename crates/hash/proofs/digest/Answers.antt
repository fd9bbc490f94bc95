-- `hash::digest` meets its contract.
-- Assumes nothing.
use Rattle.std.proofs.Common.{◌*◌, ◌∙◌, refl, arith, rules}
use Rattle.std.proofs.lemmas.Slice.{overwrites}
use Rattle.hash.specs.Words.{words}
use Rattle.hash.specs.Sha256.{digest, bytes32}
use Rattle.hash.proofs.Laws.{digested, filled}
use Rattle.hash.proofs.digest.Goals as goal

pub loop-i-init : goal.loop-i-init
unfolding digest
loop-i-init c = (refl, refl)

pub loop-i-preserved : goal.loop-i-preserved
unfolding bytes32
loop-i-preserved c = (
  search (rules, overwrites),
  digested (words c.args.hash) c.loop-i.d _ c.loop-i.i _ c.loop-i.invariant.1 (omega arith) (c.copy_from_slice.ensures.after ∙ c.to_be_bytes.ensures),
)

pub returns : goal.returns
returns c = filled (digest (words c.args.hash)) _ (4 * c.loop-i.i) c.loop-i.i 8 (omega arith) (omega arith) c.loop-i.invariant.1
