-- The copy leaves the paper box with the block on its disk; the step on that gives the rest. Assumes nothing.
use mathlib.Core.Path.{refl, sym, ap, ◌∙◌}
use mathlib.Core.Bool.{false}
use mathlib.Core.List.{List}
use Prim.Native.Nat.{ℕ, ◌*◌, ◌≤◌}
use native.Mathlib.Omega.{arith}
use Rattle.std.proofs.Common.{rules}
use Rattle.block.specs.Blocks.{splice}
use Rattle.tables.specs.Records.{bytes2}
use Rattle.paper.specs.Cache.{on_disk}
use Rattle.paper.specs.Engine.{Fixed}
use Rattle.parts.specs.Rep.{numbers_of, engine}
use Rattle.parts.specs.CopyLaws.{parts-length, block-ends}
use Rattle.serve.specs.ServeLaws.{yes-is, rep-on_disk}
use Rattle.arcserve.proofs.Serving.{sound-disk, through-serves}
use Rattle.arcserve.proofs.writes.serve_through.Goals as goal

pub fingerprint_of-g-requires : goal.fingerprint_of-g-requires
fingerprint_of-g-requires c =
    let p = c.requires.arc_access in
    rw p.2 p.8

pub put_address-requires : goal.put_address-requires
put_address-requires c =
    let a = c.args in
    let p = c.requires.arc_access in
    let q = c.requires.lent_arc in
    (p.2, rw (parts-length a.b.size a.b.blocks a.disk.now q.1.disk q.2.disk-is) (block-ends a.a.0 a.b.blocks a.b.size p.3))

pub step-d-requires : goal.step-d-requires
step-d-requires c =
    let a = c.args in
    let p = c.requires.arc_access in
    let q = c.requires.lent_arc in
    let g = c.fingerprint_of-g.type_inv in
    let c1 : 1 ≤ a.s.cached = omega (arith, p.0, p.5) in
    let y : Fixed a.b.size = (a.block.now, p.2) in
    record {
      slots_nonzero = (p.0, p.1, search rules, p.2, p.3, p.4, p.5, p.6, p.7);
      rep = (
        q.0,
        on_disk (engine a.b) q.1 a.a.0 y,
        false,
        rep-on_disk a.b a.disk.now a.flash.now a.addrs.now a.blocks.now q.1 q.2 a.a.0 p.3 y _ c.put_address.ensures,
        q.3,
        sound-disk a.b a.s q.0 q.1 q.4 c1 a.a.0 y,
        refl,
      );
      indexed = c.requires.indexed;
    }

pub overflow_add-running : goal.overflow_add-running
overflow_add-running c = omega (arith, c.step-d.ensures.flashed_bound.1, c.requires.arc_access.1)

pub returns : goal.returns
returns c =
    let a = c.args in
    let p = c.requires.arc_access in
    let j = c.place_of-j in
    let w = c.step-d in
    let c1 : 1 ≤ a.s.cached = omega (arith, p.0, p.5) in
    record {
      few = (w.ensures.flashed_bound.0, omega (arith, w.ensures.flashed_bound.1));
      arc_wrote = λ l x y h k so ey.
          let f = (engine a.b).hash y in
          let ef = c.fingerprint_of-g.ensures y ey in
          let d = rep-on_disk a.b a.disk.now a.flash.now a.addrs.now a.blocks.now x h a.a.0 p.3 y _
          (c.put_address.ensures ∙ ap (λ (v : List ℕ). splice (a.a.0 * a.b.size) v a.disk.now) (sym ey)) in
          through-serves a.b a.s l x so c1 a.a.0 p.3 y (bytes2 a.seat) a.block.now _ w.result _ _ _ _ _
          (w.ensures.stands l (on_disk (engine a.b) x a.a.0 y) f y false d k (sound-disk a.b a.s l x so c1 a.a.0 y) ef ey refl)
          (yes-is (numbers_of a.b) a.b.slots a.blocks.now x.free x.used h.blocks-are f j.result
          (j.ensures.by_index x.free x.used f h.blocks-are ef));
    }
