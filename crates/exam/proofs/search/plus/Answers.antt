-- No sum passes the sum of all counts. Assumes nothing.
use Rattle.std.proofs.Common.{◌≡◌, arith, rules, length}
use Rattle.std.proofs.lemmas.Grind.{common_steps}
use Rattle.exam.proofs.Searching.{plus-is, one-of-total}
use Rattle.exam.proofs.search.plus.Goals as goal

pub overflow_add-sum : goal.overflow_add-sum
overflow_add-sum c =
    let h = c.loop-h.h in
    record { fits = omega (arith, c.loop-h.invariant.rest h, one-of-total c.args.s h, one-of-total c.args.t h) }

pub loop-h-preserved : goal.loop-h-preserved
loop-h-preserved c = record {
  long = search rules;
  summed = λ i h. grind (arith, common_steps, c.loop-h.invariant.summed i, c.loop-h.invariant.rest i);
  rest = λ i h. grind (arith, common_steps, c.loop-h.invariant.rest i);
}

pub returns : goal.returns
returns c =
    let s : length c.args.s ≡ 9 = search rules in
    let t : length c.args.t ≡ 9 = search rules in
    plus-is c.loop-h.sum c.args.s c.args.t (omega arith) (omega arith) (λ i h. c.loop-h.invariant.summed i (omega arith))
