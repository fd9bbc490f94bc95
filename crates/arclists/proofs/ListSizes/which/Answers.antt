-- By the running sums. Assumes nothing.
use Rattle.std.specs.Prelude.{◌+◌}
use Rattle.std.proofs.Common.{refl, arith}
use Rattle.arclists.specs.Holding.{which_at}
use Rattle.arclists.specs.LeaveLaws.{lt_yes, lt_no}
use Rattle.arclists.proofs.ListSizes.which.Goals as goal

pub returns-then-i-self-clause-value : goal.returns-then-i-self-clause-value
unfolding which_at
returns-then-i-self-clause-value c =
    let s = c.args.self in
    let i = c.args.i in
    lt_yes i s.t1 _ _ _ (omega arith) refl

pub returns-then-i-start-clause-value : goal.returns-then-i-start-clause-value
unfolding which_at
returns-then-i-start-clause-value c =
    let s = c.args.self in
    let i = c.args.i in
    lt_no i s.t1 _ _ _ (omega arith)
    (lt_yes i (s.t1 + s.t2) _ _ _ (omega arith) refl)

pub returns-then-i-start-2-clause-value : goal.returns-then-i-start-2-clause-value
unfolding which_at
returns-then-i-start-2-clause-value c =
    let s = c.args.self in
    let i = c.args.i in
    lt_no i s.t1 _ _ _ (omega arith)
    (lt_no i (s.t1 + s.t2) _ _ _ (omega arith)
    (lt_yes i (s.t1 + s.t2 + s.b1) _ _ _ (omega arith) refl))

pub returns-then-i-start-3-clause-value : goal.returns-then-i-start-3-clause-value
unfolding which_at
returns-then-i-start-3-clause-value c =
    let s = c.args.self in
    let i = c.args.i in
    lt_no i s.t1 _ _ _ (omega arith)
    (lt_no i (s.t1 + s.t2) _ _ _ (omega arith)
    (lt_no i (s.t1 + s.t2 + s.b1) _ _ _ (omega arith)
    (lt_yes i (s.t1 + s.t2 + s.b1 + s.b2) _ _ _ (omega arith) refl)))

pub returns-then-i-total-clause-value : goal.returns-then-i-total-clause-value
unfolding which_at
returns-then-i-total-clause-value c =
    let s = c.args.self in
    let i = c.args.i in
    lt_no i s.t1 _ _ _ (omega arith)
    (lt_no i (s.t1 + s.t2) _ _ _ (omega arith)
    (lt_no i (s.t1 + s.t2 + s.b1) _ _ _ (omega arith)
    (lt_no i (s.t1 + s.t2 + s.b1 + s.b2) _ _ _ (omega arith)
    (lt_yes i (s.t1 + s.t2 + s.b1 + s.b2 + s.b3) _ _ _ (omega arith) refl))))

pub returns-else-i-total-clause-value : goal.returns-else-i-total-clause-value
unfolding which_at
returns-else-i-total-clause-value c =
    let s = c.args.self in
    let i = c.args.i in
    lt_no i s.t1 _ _ _ (omega arith)
    (lt_no i (s.t1 + s.t2) _ _ _ (omega arith)
    (lt_no i (s.t1 + s.t2 + s.b1) _ _ _ (omega arith)
    (lt_no i (s.t1 + s.t2 + s.b1 + s.b2) _ _ _ (omega arith)
    (lt_no i (s.t1 + s.t2 + s.b1 + s.b2 + s.b3) _ _ _ (omega arith) refl))))
