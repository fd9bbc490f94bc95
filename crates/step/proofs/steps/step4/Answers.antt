-- By whether the fingerprint has a place. Assumes nothing.
use native.Mathlib.Omega.{arith}
use Rattle.step.proofs.Storing.{step4-hit, step4-miss}
use Rattle.std.proofs.Common.{rules}
use Rattle.step.proofs.steps.step4.Goals as goal

pub returns-then-j-b : goal.returns-then-j-b
returns-then-j-b c =
    let a = c.args in
    let p = c.place_of-j in
    record {
      flashed_bound = (omega arith, omega arith);
      blocks_after = λ s f x h ds ef ex. step4-hit a.b a.disk.now a.flash.now a.addrs.now a.blocks.now s h f x p.result (p.ensures.by_index s.free s.used f h.blocks-are ef) ds c.if-j-b.true _ c.to_newest.ensures;
    }

pub returns : goal.returns
returns c =
    let a = c.args in
    let p = c.place_of-j in
    let w = c.store-count in
    record {
      flashed_bound = (omega arith, w.ensures.upper_bound);
      blocks_after = λ s f x h ds ef ex. step4-miss a.b a.disk.now a.flash.now a.addrs.now a.blocks.now s h f x p.result (p.ensures.by_index s.free s.used f h.blocks-are ef) c.if-j-b.false _ (w.ensures.blocks_after s f x h ds ef ex);
    }
