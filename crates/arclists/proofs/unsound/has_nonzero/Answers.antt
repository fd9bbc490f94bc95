-- What the search of the bytes finds. Assumes nothing.
use Rattle.std.specs.Prelude.{◌≡◌}
use Rattle.std.proofs.Common.{rules}
use Rattle.std.proofs.lemmas.Iterator.{cases_from_any, YieldsList-from_slice}
use Rattle.arclists.specs.UnsoundLaws.{nonzero-found}
use Rattle.arclists.proofs.unsound.has_nonzero.Goals as goal

pub returns : goal.returns
returns c =
    nonzero-found c.args.bytes.now c.any.result
    (cases_from_any _ _ _ (λ x. x ≡ 0 → ⊥) (λ x. x ≡ 0) c.any.ensures.ran (YieldsList-from_slice c.args.bytes.now c.iter.ensures.rest) (λ x q k. search rules)
    (λ x q k. search rules))
