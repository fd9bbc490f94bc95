-- The replacement, and then the victim. Assumes nothing.
use native.Mathlib.Omega.{arith}
use Rattle.arcstep.proofs.Ways.{fits-less}
use Rattle.arcstep.proofs.insert.again.Goals as goal

pub victim-requires : goal.victim-requires
victim-requires c =
    let w = c.replace-r in
    let q = c.requires.some_runs in
    record {
      fits = fits-less c.args.b w.result c.args.t c.requires.fits w.ensures.less (omega arith) (omega arith);
      by_index = (_, _, _, w.ensures.runs q.0 q.1);
      indexed = c.requires.indexed;
    }

pub returns : goal.returns
returns c =
    let w = c.replace-r in
    record {
      less = w.ensures.less;
      clears = λ R h. let q = w.ensures.runs R h in record { runs = q; place_is = c.victim.ensures _ _ _ q };
    }
