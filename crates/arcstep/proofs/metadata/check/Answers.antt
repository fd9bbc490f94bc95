-- By whether T1, T2 and B3 are full, and B3 is empty. Assumes nothing.
use mathlib.Core.Path.{refl, ◌∙◌}
use native.Mathlib.Omega.{arith}
use Rattle.std.proofs.Common.{rules}
use Rattle.arc.specs.Arc.{manage}
use Rattle.parts.specs.Rep.{engine}
use Rattle.arcstep.proofs.Ways.{told, fits-less, check-not, check-none, check-some}
use Rattle.arcstep.proofs.metadata.check.Goals as goal

pub returns-then-t : goal.returns-then-t
returns-then-t c =
    let a = c.args in
    let n = c.if-t.true in
    record {
      less = (omega arith, omega arith, omega arith, (refl, refl));
      runs = λ Z R e h. told (check-not a.b a.t.sizes R h.names.sized Z e a.b2 n) h;
    }

pub evict-requires : goal.evict-requires
evict-requires c =
    let p = c.requires.fits in
    let q = c.requires.some_runs in
    let m = c.manage-r.ensures in
    record {
      fits = fits-less c.args.b c.manage-r.result c.args.t p m.less (omega arith) (omega arith);
      some_runs = (manage (engine c.args.b) c.args.t.sizes.cached c.args.b2 q.0, m.runs q.0 q.1);
    }

pub returns-then-t-eq0 : goal.returns-then-t-eq0
returns-then-t-eq0 c =
    let a = c.args in
    let m = c.manage-r.ensures in
    let e = c.evict.ensures in
    let y = c.if-t.false in
    record {
      less = (omega (arith, e.less.0, m.less.0), omega (arith, e.less.1, m.less.1), omega (arith, e.less.2, m.less.2), (e.less.3.0 ∙ m.less.3.0, e.less.3.1 ∙ m.less.3.1));
      runs = λ Z R l h. told (check-none a.b a.t.sizes R h.names.sized Z l a.b2 y c.if-t-eq0.true) (e.runs _ (m.runs R h));
    }

pub returns : goal.returns
returns c =
    let a = c.args in
    let e = c.evict-2.ensures in
    let n = c.if-t-eq0.false in
    record {
      less = e.less;
      runs = λ Z R l h. told (check-some a.b a.t.sizes R h.names.sized Z l a.b2 c.if-t.false (omega (arith, n))) (e.runs R h);
    }
