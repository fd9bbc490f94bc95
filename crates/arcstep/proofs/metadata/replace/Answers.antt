-- Nothing where both are empty; else room is made first, and the oldest moves. Assumes nothing.
use mathlib.Core.Path.{refl, ◌∙◌}
use native.Mathlib.Omega.{arith}
use Rattle.arclists.specs.declared.ListName.TheVariants.{T1, T2, B1, B2}
use Rattle.arcstep.proofs.Naming.{small-moved}
use Rattle.arcstep.proofs.Ways.{told, replace-none, replace-some, topped}
use Rattle.arcstep.proofs.metadata.replace.Goals as goal

pub returns-then-t-eq0 : goal.returns-then-t-eq0
returns-then-t-eq0 c =
    let a = c.args in
    record {
      less = (omega arith, omega arith, omega arith, (refl, refl));
      runs = λ R h. told (replace-none a.b a.t.sizes R h.names.sized _ _ c.if-t-eq0.true) h;
    }

pub move_top-s-requires : goal.move_top-s-requires
move_top-s-requires c = let p = c.requires.fits in let e = c.room-r.ensures.less in omega (arith, p.6, e.2)

pub returns : goal.returns
returns c =
    let a = c.args in
    let e = c.room-r.ensures in
    let m = c.move_top-s.ensures in
    let n = c.if-t-eq0.false in
    record {
      less = rw c.with_sizes.ensures (e.less.0, e.less.1, omega (arith, m.result_value.0, e.less.2), (m.result_value.1.0 ∙ e.less.3.0, m.result_value.1.1 ∙ e.less.3.1));
      runs = rw c.with_sizes.ensures (λ R h.
          let q = e.runs R h in
          told (replace-some a.b a.t.sizes R h.names.sized _ _ c.takes_t1-top.result (omega (arith, n)) (c.takes_t1-top.ensures R.kept h.names.sized))
          (topped c.takes_t1-top.result _ _ q (small-moved T1 B1 (omega arith) _ q.low) (small-moved T2 B2 (omega arith) _ q.low)
          (m.by_index a.b.rows _ q.names)));
    }
