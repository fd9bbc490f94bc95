-- The parts in turn; what the paper's step keeps gives the loop its end and the address its room. Assumes nothing.
use mathlib.Core.Path.{◌≡◌, refl, sym, ◌∙◌}
use mathlib.Core.Bool.{Bool}
use Prim.Native.Nat.{ℕ, ◌≤◌}
use native.Mathlib.Omega.{arith}
use Rattle.std.proofs.Common.{rules}
use Rattle.tables.specs.Records.{bytes2}
use Rattle.paper.specs.Cache.{Box}
use Rattle.paper.specs.Engine.{Fixed}
use Rattle.paper.specs.Lent.{bit}
use Rattle.arc.specs.Arc.{Lists, list_of, parted, arc_step}
use Rattle.arc.specs.ArcStep.{ArcSound}
use Rattle.arclists.specs.Holding.{Holds, was_of}
use Rattle.parts.specs.Rep.{Rep, engine}
use Rattle.step.specs.Steps.{asks}
use Rattle.arcstep.specs.Runs.{Stands, sizes_for}
use Rattle.arcstep.proofs.Requests.{has_room, ends-told, settled, whole, stored-once}
use Rattle.arcstep.proofs.request.step.Goals as goal
use Rattle.arcstep.proofs.request.step.Goals.{After-slice_known-14-1}

stands : (c : After-slice_known-14-1) (l : Lists)
    → (let a = c.args in
    let t = c.settle-r.new in
    let j = c.join.new in
    (x : Box (Fixed 32) (Fixed a.b.size)) (f : Fixed 32) (y : Fixed a.b.size) (d : Bool)
    → Rep a.b a.disk.now a.flash.now a.addrs.now a.blocks.now x → Holds a.b.rows a.s a.lists.now l
    → ArcSound (engine a.b) (sizes_for a.b a.s) l x → f.0 ≡ a.g.now → y.0 ≡ a.block.now → a.dirty ≡ bit d
    → Stands a.b c.join.result t.disk t.flash j.addrs t.blocks j.lists
    (arc_step (engine a.b) (sizes_for a.b a.s) l x (asks a.a.0 f y d (bytes2 a.seat))))
stands c l x f y d h k so ef ey ed =
    let a = c.args in
    let p = c.requires.slots_nonzero in
    let w = c.part-p in
    let t = c.settle-r in
    let j = c.join in
    let n = w.ensures.held_le_held in
    let r = w.ensures.by_index a.disk.now a.flash.now a.blocks.now l x h k so in
    let c1 : 1 ≤ a.s.cached = omega (arith, p.0, p.6) in
    let was = was_of w.result.was in
    let C = w.result.running.sizes.cached in
    let u = t.ensures.runs_2 (sizes_for a.b a.s) (parted (engine a.b) a.s.cached l x a.a.0 (list_of a.a.0 l)) f y (sym n.4.0, sym n.4.1) r.1
    (ends-told a.b a.s l x so c1 a.a.0 was r.0 C n.4.0) ef ey in
    let v = settled a.b a.s l x so c1 a.a.0 was r.0 C n.4.0 f y u in
    let m = has_room a.b a.s l x so c1 a.a.0 f y t.result _ _ _ _ _ v in
    whole a.b a.s l x so c1 a.a.0 was r.0 C n.4.0 f y d (bytes2 a.seat)
    (j.ensures.by_index _ _ _ _ f d v ef ed p.4 (omega (arith, m.1, p.7)))

pub settle-r-requires : goal.settle-r-requires
settle-r-requires c =
    let a = c.args in
    let p = c.requires.slots_nonzero in
    let q = c.requires.rep in
    let w = c.part-p in
    let n = w.ensures.held_le_held in
    let r = w.ensures.by_index a.disk.now a.flash.now a.blocks.now q.0 q.1 q.3 q.4 q.5 in
    let c1 : 1 ≤ a.s.cached = omega (arith, p.0, p.6) in
    record {
      fits = (
        (
          p.0,
          q.3.blocks-are.small,
          p.1,
          omega (arith, n.0, n.1, p.5.0),
          w.auto.addrs ∙ p.5.1,
          p.5.2,
          omega (arith, n.3, q.4.room, p.8, w.auto.lists),
          omega (arith, n.4.0, n.4.1, p.7),
          omega (arith, n.0, p.5.0),
        ),
        p.2,
        p.3,
        omega (arith, n.2),
        omega (arith, n.0, n.1, p.5.0),
      );
      runs = (_, r.1, ends-told a.b a.s q.0 q.1 q.5 c1 a.a.0 (was_of w.result.was) r.0 w.result.running.sizes.cached n.4.0);
      indexed = c.requires.indexed;
    }

pub join-requires : goal.join-requires
join-requires c =
    let a = c.args in
    let p = c.requires.slots_nonzero in
    let q = c.requires.rep in
    let w = c.part-p in
    let t = c.settle-r in
    let n = w.ensures.held_le_held in
    let r = w.ensures.by_index a.disk.now a.flash.now a.blocks.now q.0 q.1 q.3 q.4 q.5 in
    let c1 : 1 ≤ a.s.cached = omega (arith, p.0, p.6) in
    let was = was_of w.result.was in
    let C = w.result.running.sizes.cached in
    let f : Fixed 32 = (a.g.now, p.2) in
    let y : Fixed a.b.size = (a.block.now, p.3) in
    let u = t.ensures.runs_2 (sizes_for a.b a.s) (parted (engine a.b) a.s.cached q.0 q.1 a.a.0 (list_of a.a.0 q.0)) f y (sym n.4.0, sym n.4.1) r.1
    (ends-told a.b a.s q.0 q.1 q.5 c1 a.a.0 was r.0 C n.4.0) refl refl in
    let m = has_room a.b a.s q.0 q.1 q.5 c1 a.a.0 f y t.result _ _ _ _ _
    (settled a.b a.s q.0 q.1 q.5 c1 a.a.0 was r.0 C n.4.0 f y u) in (
      omega (arith, m.0, p.7),
      p.1,
      t.auto.addrs ∙ w.auto.addrs ∙ p.5.1,
      omega (arith, m.1, p.7, p.8, t.auto.lists, w.auto.lists),
      p.2,
    )

pub shape_of-addrs : goal.shape_of-addrs
shape_of-addrs c = c.join.auto.addrs ∙ c.settle-r.auto.addrs ∙ c.part-p.auto.addrs

pub shape_of-lists : goal.shape_of-lists
shape_of-lists c = c.join.auto.lists ∙ c.settle-r.auto.lists ∙ c.part-p.auto.lists

pub returns : goal.returns
returns c =
    let a = c.args in
    let p = c.requires.slots_nonzero in
    let q = c.requires.rep in
    let n = c.part-p.ensures.held_le_held in
    let c1 : 1 ≤ a.s.cached = omega (arith, p.0, p.6) in
    let f : Fixed 32 = (a.g.now, p.2) in
    let y : Fixed a.b.size = (a.block.now, p.3) in
    record {
      flashed_bound = (
        stored-once a.b a.s q.0 q.1 q.5 c1 _ c.join.result _ _ _ _ _ (stands c q.0 q.1 f y q.2 q.3 q.4 q.5 refl refl q.6),
        omega (arith, c.join.ensures.primary_value.0, c.settle-r.ensures.held_le_held.1, n.0, n.1, p.5.0),
      );
      stands = stands c;
    }
