-- By the sizes of the lists. Assumes nothing.
use mathlib.Core.Path.{sym, ap, ◌∙◌}
use native.Mathlib.Omega.{arith}
use Prim.Native.Nat.{ℕ}
use Rattle.arc.specs.Arc.{b2b3, replace, listed}
use Rattle.parts.specs.Rep.{engine}
use Rattle.arclists.specs.declared.ListName.TheVariants.{B2, B3}
use Rattle.arcstep.proofs.Naming.{small-moved}
use Rattle.arcstep.proofs.Ways.{told, relisted, way-b2, way-none}
use Rattle.arcstep.proofs.metadata.manage.Goals as goal

pub replace-requires : goal.replace-requires
replace-requires c =
    let p = c.requires.fits in
    let q = c.requires.some_runs in
    let m = c.move_lru-s.ensures in
    record {
      fits = rw c.with_sizes-r.ensures (p.0, p.1, p.2, p.3, p.4, p.5, omega (arith, p.6, m.result_value.0), omega (arith, p.7, m.result_value.1.0, m.result_value.1.1), p.8);
      some_runs = rw c.with_sizes-r.ensures
          (listed (engine c.args.b) b2b3 q.0, relisted b2b3 _ _ q.1 (small-moved B2 B3 (omega arith) _ q.1.low) (m.by_index _ _ q.1.names));
    }

pub returns-then-t-2 : goal.returns-then-t-2
returns-then-t-2 c =
    let a = c.args in
    let m = c.move_lru-s.ensures in
    let f = c.replace.ensures in
    let e = rw c.with_sizes-r.ensures at f in
    record {
      less = (e.less.0, e.less.1, omega (arith, e.less.2, m.result_value.0), (e.less.3.0 ∙ m.result_value.1.0, e.less.3.1 ∙ m.result_value.1.1));
      runs = λ R h.
          told (way-b2 a.b a.t.sizes R h.names.sized a.b2 c.if-t.false c.if-t-2.true
          ∙ ap (λ (n : ℕ). replace (engine a.b) n a.b2 (listed (engine a.b) b2b3 R)) (sym m.result_value.1.0))
          (e.runs (listed (engine a.b) b2b3 R) (relisted b2b3 _ _ h (small-moved B2 B3 (omega arith) _ h.low) (m.by_index _ _ h.names)));
    }

pub returns : goal.returns
returns c =
    let a = c.args in
    let e = c.replace-2.ensures in
    record {
      less = e.less;
      runs = λ R h. told (way-none a.b a.t.sizes R h.names.sized a.b2 c.if-t.false c.if-t-2.false) (e.runs R h);
    }
