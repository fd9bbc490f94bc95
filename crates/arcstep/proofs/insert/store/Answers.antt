-- The row taken is the paper's: `store-runs`. Assumes nothing.
use mathlib.Core.Path.{refl}
use native.Mathlib.Omega.{arith}
use Rattle.std.proofs.Common.{rules}
use Rattle.arcstep.proofs.Inserting.{at-picked, store-runs}
use Rattle.arcstep.proofs.insert.store.Goals as goal

pub store_at-count-requires : goal.store_at-count-requires
store_at-count-requires c =
    let a = c.args in
    let p = c.requires.g_len in
    let q = c.requires.by_index in
    let h = q.2 in
    record {
      t_lt_slots = rw c.with_held-c.ensures (q.3.1, p.0, p.1, p.4);
      rep = rw c.with_held-c.ensures (
        q.1.stepped.box,
        h.box,
        h.once,
        at-picked a.b a.t _ _ _ a.blocks.now q.0 q.1 h (a.g.now, p.0) (omega (arith, q.3.1)) a.j q.3,
      );
    }

pub overflow_add-result : goal.overflow_add-result
overflow_add-result c =
    let w = c.store_at-count.ensures.upper_bound in
    let e = rw c.with_held-c.ensures at w in
    let p = c.requires.g_len in
    omega (arith, e, p.2, p.3)

pub returns : goal.returns
returns c =
    let a = c.args in
    let f = c.store_at-count in
    let w = f.ensures in
    let e = rw c.with_held-c.ensures at w in
    record {
      held_value = (refl, omega (arith, e.upper_bound), omega arith, refl);
      by_index_2 = λ lists S f1 x h tk ab ef ex.
          store-runs a.b a.t _ _ _ a.blocks.now lists S h f1 (omega (arith, tk.1)) a.j tk ab x f.result _ _ _ _
          (e.blocks_after S.stepped.box f1 x h.box h.once (at-picked a.b a.t _ _ _ a.blocks.now lists S h f1 (omega (arith, tk.1)) a.j tk) ef ex);
    }
