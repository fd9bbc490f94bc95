-- The counters are those counted, and the record has the rows then held; the rest is as written. Assumes nothing.
use mathlib.Core.Path.{refl}
use Rattle.std.proofs.Common.{rules}
use Rattle.policy.proofs.many.batched.Goals as goal

pub returns : goal.returns
returns c = rw (c.with_held.ensures, c.counted-k.ensures) refl
