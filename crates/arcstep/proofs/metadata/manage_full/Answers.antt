-- By the sizes of T1 and B1. Assumes nothing.
use mathlib.Core.Path.{sym, ap, ◌∙◌}
use native.Mathlib.Omega.{arith}
use Prim.Native.Nat.{ℕ}
use Rattle.arc.specs.Arc.{t1b1, t1b3, b1b3, replace, listed}
use Rattle.parts.specs.Rep.{engine}
use Rattle.arclists.specs.declared.ListName.TheVariants.{T1, B1, B3}
use Rattle.arcstep.proofs.Naming.{small-moved}
use Rattle.arcstep.proofs.Ways.{told, relisted, way-b1, way-t1, way-both}
use Rattle.arcstep.proofs.metadata.manage_full.Goals as goal

pub replace-requires : goal.replace-requires
replace-requires c =
    let p = c.requires.fits.0 in
    let q = c.requires.some_runs in
    let m = c.move_lru-s.ensures in
    record {
      fits = rw c.with_sizes-r.ensures (p.0, p.1, p.2, p.3, p.4, p.5, omega (arith, p.6, m.result_value.0), omega (arith, p.7, m.result_value.1.0, m.result_value.1.1), p.8);
      some_runs = rw c.with_sizes-r.ensures
          (listed (engine c.args.b) b1b3 q.0, relisted b1b3 _ _ q.1 (small-moved B1 B3 (omega arith) _ q.1.low) (m.by_index _ _ q.1.names));
    }

pub returns-then-t : goal.returns-then-t
returns-then-t c =
    let a = c.args in
    let m = c.move_lru-s.ensures in
    let f = c.replace.ensures in
    let e = rw c.with_sizes-r.ensures at f in
    record {
      less = (e.less.0, e.less.1, omega (arith, e.less.2, m.result_value.0), (e.less.3.0 ∙ m.result_value.1.0, e.less.3.1 ∙ m.result_value.1.1));
      runs = λ R h.
          told (way-b1 a.b a.t.sizes R h.names.sized a.b2 c.requires.fits.1 c.if-t.true
          ∙ ap (λ (n : ℕ). replace (engine a.b) n a.b2 (listed (engine a.b) b1b3 R)) (sym m.result_value.1.0))
          (e.runs (listed (engine a.b) b1b3 R) (relisted b1b3 _ _ h (small-moved B1 B3 (omega arith) _ h.low) (m.by_index _ _ h.names)));
    }

pub returns-then-t-eq0 : goal.returns-then-t-eq0
returns-then-t-eq0 c =
    let a = c.args in
    let m = c.move_lru-s-then-t-eq0.ensures in
    record {
      less = rw c.with_sizes.ensures (omega arith, omega arith, omega (arith, m.result_value.0), m.result_value.1);
      runs = rw c.with_sizes.ensures (λ R h. told (way-t1 a.b a.t.sizes R h.names.sized a.b2 c.requires.fits.1 c.if-t.false c.if-t-eq0.true)
          (relisted t1b3 _ _ h (small-moved T1 B3 (omega arith) _ h.low) (m.by_index _ _ h.names)));
    }

pub returns : goal.returns
returns c =
    let a = c.args in
    let m = c.move_lru-s-2.ensures in
    let w = c.move_lru-u.ensures in
    let n = c.if-t-eq0.false in
    record {
      less = rw c.with_sizes-2.ensures (omega arith, omega arith, omega (arith, m.result_value.0, w.result_value.0), (w.result_value.1.0 ∙ m.result_value.1.0, w.result_value.1.1 ∙ m.result_value.1.1));
      runs = rw c.with_sizes-2.ensures (λ R h. told (way-both a.b a.t.sizes R h.names.sized a.b2 c.requires.fits.1 c.if-t.false (omega (arith, n)))
          (relisted t1b1 _ _ (relisted b1b3 _ _ h (small-moved B1 B3 (omega arith) _ h.low) (m.by_index _ _ h.names))
          (small-moved T1 B1 (omega arith) _ (small-moved B1 B3 (omega arith) _ h.low)) (w.by_index _ _ (m.by_index _ _ h.names))));
    }
