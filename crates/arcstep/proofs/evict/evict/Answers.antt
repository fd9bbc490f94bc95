-- By whether there is one; its row leaves, and then its name. Assumes nothing.
use mathlib.Core.Path.{refl, sym, ◌∙◌}
use native.Mathlib.Omega.{arith}
use Rattle.arcstep.proofs.Naming.{small_low, names-none}
use Rattle.arcstep.proofs.Leaving.{stays, leaves}
use Rattle.arcstep.proofs.evict.evict.Goals as goal

pub returns-then-size-eq0 : goal.returns-then-size-eq0
returns-then-size-eq0 c =
    let a = c.args in
    record {
      less = (omega arith, omega arith, omega arith, (refl, refl));
      runs = λ R h. stays a.b a.t a.disk.now a.flash.now a.addrs.now a.blocks.now a.lists.now R h a.from
          (names-none a.from a.t.sizes R.kept h.names.sized (sym c.size.ensures ∙ c.if-size-eq0.true));
    }

pub evict_row-g-requires : goal.evict_row-g-requires
evict_row-g-requires c =
    let p = c.requires.fits in
    let q = c.requires.some_runs in
    record {
      slots_nonzero = rw c.with_held-c.ensures (p.0, (p.8, p.4, p.5));
      lent_box = rw c.with_held-c.ensures (q.0.stepped.box, q.1.box);
    }

pub overflow_add-result : goal.overflow_add-result
overflow_add-result c =
    let g = c.evict_row-g.ensures.held_bound in
    let e = rw c.with_held-c.ensures at g in
    let p = c.requires.fits in
    omega (arith, e, p.2, p.3)

pub returns : goal.returns
returns c =
    let a = c.args in
    let p = c.requires.fits in
    let w = c.evict_row-g in
    let we = w.ensures in
    let e = rw c.with_held-c.ensures at we in
    let o = c.out_of-s in
    record {
      less = (omega (arith, e.held_bound), omega (arith, e.held_bound), o.ensures.result_bound.0, o.ensures.result_bound.1);
      runs = λ R h. leaves a.b a.t a.disk.now a.flash.now a.addrs.now a.blocks.now a.lists.now R h a.from
          c.oldest-x.result (c.oldest-x.ensures a.b.rows R.kept h.names (small_low R.kept h.low)) w.result _ _ _ o.result
          (e.row_gone R.stepped h.box h.apart) (o.ensures.by_index a.b.rows R.kept h.names);
    }
