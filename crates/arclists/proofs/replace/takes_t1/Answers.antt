-- By T1, by T2, by p. Assumes nothing.
use native.Mathlib.Omega.{arith}
use Rattle.arclists.specs.ReplaceLaws.{no-t1, no-t2, above-p, below-p}
use Rattle.arclists.proofs.replace.takes_t1.Goals as goal

pub returns-then-s-eq0 : goal.returns-then-s-eq0
returns-then-s-eq0 c = λ l z. no-t1 z _ c.if-s-eq0.true

pub returns-then-s-eq0-2 : goal.returns-then-s-eq0-2
returns-then-s-eq0-2 c = λ l z. no-t2 z _ (omega arith) (omega arith)

pub returns-then-s : goal.returns-then-s
returns-then-s c = λ l z. above-p z _ (omega arith) (omega arith) (omega arith)

pub returns : goal.returns
returns c = λ l z. below-p z _ (omega arith) (omega arith) (omega arith)
