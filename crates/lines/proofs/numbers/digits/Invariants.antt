-- Each turn leaves the value of the whole; after k digits it is below the k-th power of ten. Assumes nothing.
use Prim.Native.Nat.{◌<◌}
use mathlib.Core.Path.{◌≡◌}
use lib.ListN.{drop}
use Rattle.lines.specs.Lines.{digits_from}
use Rattle.lines.proofs.Coding.{ten}
use Rattle.lines.proofs.numbers.digits.Given as goal

abbrev pub invariant-loop-c : goal.invariant-loop-c
invariant-loop-c l = (l.value < ten l.c-index) × (digits_from 0 l.w ≡ digits_from l.value (drop l.c-index l.w))
