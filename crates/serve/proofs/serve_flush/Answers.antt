-- The loop over the rows gives all. Assumes nothing.
use native.Mathlib.Omega.{arith}
use Rattle.serve.specs.ServeLaws.{flush-is}
use Rattle.std.proofs.Common.{rules}
use Rattle.serve.proofs.serve_flush.Goals as goal

pub returns : goal.returns
returns c =
    let a = c.args in
    let f = c.flush_rows-count in
    record {
      flashed_bound = (omega arith, omega (arith, f.ensures.upper_bound, c.requires.slots_nonzero.2.0));
      lent_after = λ s lent h. flush-is a.b a.k lent a.disk.now a.flash.now a.addrs.now a.blocks.now s h f.result _ _ (f.ensures.addrs_after s h);
    }
