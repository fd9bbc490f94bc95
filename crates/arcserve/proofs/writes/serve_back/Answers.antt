-- The step gives all but the word, which the place found first gives, and what the limit copies. Assumes nothing.
use mathlib.Core.Path.{◌≡◌, refl, ◌∙◌}
use Prim.Native.Nat.{◌≤◌}
use native.Mathlib.Omega.{arith}
use Rattle.std.proofs.Common.{rules}
use Rattle.tables.specs.Records.{bytes2}
use Rattle.paper.specs.Cache.{Box, dirtied, row_of, back_request}
use Rattle.paper.specs.Engine.{Fixed}
use Rattle.arc.specs.Arc.{Lists, arc_step}
use Rattle.arc.specs.ArcStep.{ArcSound}
use Rattle.arclists.specs.Holding.{Holds}
use Rattle.parts.specs.Rep.{numbers_of, Rep, engine}
use Rattle.arcstep.specs.Runs.{Stands, sizes_for}
use Rattle.serve.specs.ServeLaws.{yes-is}
use Rattle.arcserve.proofs.Serving.{back-serves}
use Rattle.arcserve.proofs.writes.serve_back.Goals as goal
use Rattle.arcserve.proofs.writes.serve_back.Goals.{After-step-d}

-- what the step leaves
stands : (c : After-step-d) (l : Lists)
    → (let a = c.args in
    let t = c.step-d.new in
    (x : Box (Fixed 32) (Fixed a.b.size)) (y : Fixed a.b.size) → Rep a.b a.disk.now a.flash.now a.addrs.now a.blocks.now x
    → Holds a.b.rows a.s a.lists.now l → ArcSound (engine a.b) (sizes_for a.b a.s) l x → y.0 ≡ a.block.now
    → Stands a.b c.step-d.result t.disk t.flash t.addrs t.blocks
    t.lists
    (arc_step (engine a.b) (sizes_for a.b a.s) l x (back_request (engine a.b) x a.a.0 y (bytes2 a.seat))))
stands c l x y h k so ey =
    let a = c.args in
    let f = (engine a.b).hash y in
    let ef = c.fingerprint_of-g.ensures y ey in
    c.step-d.ensures.stands l x f y (dirtied (engine a.b) f (row_of a.a.0 x.rows)) h k so ef ey
    (c.dirty_value-w.ensures (numbers_of a.b) x.rows f h.rows_are ef)

pub fingerprint_of-g-requires : goal.fingerprint_of-g-requires
fingerprint_of-g-requires c =
    let p = c.requires.arc_access in
    rw p.2 p.8

pub step-d-requires : goal.step-d-requires
step-d-requires c =
    let a = c.args in
    let p = c.requires.arc_access in
    let q = c.requires.lent_arc in
    let g = c.fingerprint_of-g.type_inv in
    let y : Fixed a.b.size = (a.block.now, p.2) in
    let f = (engine a.b).hash y in
    let v = c.dirty_value-w.ensures (numbers_of a.b) q.1.rows f q.2.rows_are (c.fingerprint_of-g.ensures y refl) in
    record {
      slots_nonzero = (p.0, p.1, search rules, p.2, p.3, p.4, p.5, p.6, p.7);
      rep = (q.0, q.1, dirtied (engine a.b) f (row_of a.a.0 q.1.rows), q.2, q.3, q.4, v);
      indexed = c.requires.indexed;
    }

pub limit_rows-more-requires : goal.limit_rows-more-requires
limit_rows-more-requires c =
    let stands : (l : Lists)
    → (let a = c.args in
    let t = c.step-d.new in
    (x : Box (Fixed 32) (Fixed a.b.size)) (y : Fixed a.b.size) → Rep a.b a.disk.now a.flash.now a.addrs.now a.blocks.now x
    → Holds a.b.rows a.s a.lists.now l → ArcSound (engine a.b) (sizes_for a.b a.s) l x → y.0 ≡ a.block.now
    → Stands a.b c.step-d.result t.disk t.flash t.addrs t.blocks
    t.lists
    (arc_step (engine a.b) (sizes_for a.b a.s) l x (back_request (engine a.b) x a.a.0 y (bytes2 a.seat)))) = λ l x y h k so ey.
    let a = c.args in
    let f = (engine a.b).hash y in
    let ef = c.fingerprint_of-g.ensures y ey in
    c.step-d.ensures.stands l x f y (dirtied (engine a.b) f (row_of a.a.0 x.rows)) h k so ef ey
    (c.dirty_value-w.ensures (numbers_of a.b) x.rows f h.rows_are ef) in
    let a = c.args in
    let p = c.requires.arc_access in
    let q = c.requires.lent_arc in
    let y : Fixed a.b.size = (a.block.now, p.2) in
    let r = stands q.0 q.1 y q.2 q.3 q.4 refl in
    let k = c.step-d.auto in
    record {
      slots_nonzero = rw c.with_held-c.ensures (p.0, (r.box.rows_are.few, k.addrs ∙ p.4.1, k.blocks ∙ p.4.2));
      lent_box = rw c.with_held-c.ensures (_, r.box);
    }

pub overflow_add-running : goal.overflow_add-running
overflow_add-running c = omega (arith, c.step-d.ensures.flashed_bound.1, c.requires.arc_access.1, c.limit_rows-more.ensures.upper_bound)

pub returns : goal.returns
returns c =
    let stands : (l : Lists)
    → (let a = c.args in
    let t = c.step-d.new in
    (x : Box (Fixed 32) (Fixed a.b.size)) (y : Fixed a.b.size) → Rep a.b a.disk.now a.flash.now a.addrs.now a.blocks.now x
    → Holds a.b.rows a.s a.lists.now l → ArcSound (engine a.b) (sizes_for a.b a.s) l x → y.0 ≡ a.block.now
    → Stands a.b c.step-d.result t.disk t.flash t.addrs t.blocks
    t.lists
    (arc_step (engine a.b) (sizes_for a.b a.s) l x (back_request (engine a.b) x a.a.0 y (bytes2 a.seat)))) = λ l x y h k so ey.
    let a = c.args in
    let f = (engine a.b).hash y in
    let ef = c.fingerprint_of-g.ensures y ey in
    c.step-d.ensures.stands l x f y (dirtied (engine a.b) f (row_of a.a.0 x.rows)) h k so ef ey
    (c.dirty_value-w.ensures (numbers_of a.b) x.rows f h.rows_are ef) in
    let a = c.args in
    let p = c.requires.arc_access in
    let j = c.place_of-j in
    let w = c.step-d in
    let m = c.limit_rows-more in
    let leaves = m.ensures.addrs_after in
    let left = rw c.with_held-c.ensures at leaves in
    let c1 : 1 ≤ a.s.cached = omega (arith, p.0, p.5) in
    record {
      few = (w.ensures.flashed_bound.0, omega (arith, w.ensures.flashed_bound.1, m.ensures.upper_bound));
      arc_wrote = λ l x y h k so ey.
          let f = (engine a.b).hash y in
          let ef = c.fingerprint_of-g.ensures y ey in
          let st = stands l x y h k so ey in
          back-serves a.b a.s l x so c1 a.a.0 p.3 y (bytes2 a.seat) a.block.now _ w.result m.result _ _ _ _ _ _ _ st
          (left (arc_step (engine a.b) (sizes_for a.b a.s) l x (back_request (engine a.b) x a.a.0 y (bytes2 a.seat))).stepped.box st.box)
          (yes-is (numbers_of a.b) a.b.slots a.blocks.now x.free x.used h.blocks-are f j.result
          (j.ensures.by_index x.free x.used f h.blocks-are ef));
    }
