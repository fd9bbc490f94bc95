-- By whether there is a row. Assumes nothing.
use mathlib.Core.Path.{sym, ◌∙◌, subst}
use native.Mathlib.Omega.{arith}
use Rattle.std.proofs.Common.{rules}
use Rattle.paper.specs.Layout.{Addrs}
use Rattle.parts.specs.Rep.{no_row}
use Rattle.parts.specs.MoveLaws.{removed}
use Rattle.step.specs.Dropping.{addrs-without, stays}
use Rattle.arcstep.proofs.ends.row_out.Goals as goal

pub returns-then-n-i : goal.returns-then-n-i
returns-then-n-i c =
    let a = c.args in
    record {
      upper_bound = omega arith;
      by_index = λ P m x l h ds e. subst (Addrs P m a.n a.addrs.now) (sym (stays P m a.n a.addrs.now l h x a.i e c.if-n-i.true).0) h;
    }

pub returns : goal.returns
returns c =
    let a = c.args in
    let l0 = c.if-n-i.false in
    record {
      upper_bound = omega arith;
      by_index = λ P m x l h ds e. addrs-without P m a.n a.addrs.now l h x a.i e ds (omega (arith, l0)) _
          (c.remove_row.ensures ∙ removed P m a.n a.addrs.now l h a.i (omega (arith, l0)) no_row);
    }
