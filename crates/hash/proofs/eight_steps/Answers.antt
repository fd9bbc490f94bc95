-- `hash::eight_steps` meets its contract.
-- Assumes nothing.
use Rattle.std.proofs.Common.{arith, ◌+◌}
use Rattle.hash.proofs.Laws.{done_at}
use Rattle.hash.proofs.eight_steps.Goals as goal

pub returns : goal.returns
returns c h d =
    let t = c.args.t in
    let d2 = done_at (t + 1 + 1) (t + 2) (omega arith) (c.step-s-2.ensures h (c.step-s.ensures h d)) in
    let d3 = done_at (t + 2 + 1) (t + 3) (omega arith) (c.step-s-3.ensures h d2) in
    let d4 = done_at (t + 3 + 1) (t + 4) (omega arith) (c.step-s-4.ensures h d3) in
    let d5 = done_at (t + 4 + 1) (t + 5) (omega arith) (c.step-s-5.ensures h d4) in
    let d6 = done_at (t + 5 + 1) (t + 6) (omega arith) (c.step-s-6.ensures h d5) in
    let d7 = done_at (t + 6 + 1) (t + 7) (omega arith) (c.step-s-7.ensures h d6) in
    done_at (t + 7 + 1) (t + 8) (omega arith) (c.step.ensures h d7)
