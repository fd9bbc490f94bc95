-- The insertion, and then the check, if the list asks for one. Assumes nothing.
use mathlib.Core.Path.{◌≡◌, refl, sym, ◌∙◌}
use mathlib.Core.Bool.{Bool}
use native.Mathlib.Omega.{arith}
use Rattle.std.proofs.Common.{rules}
use borrow.Author.Tests.{not-true, not-false}
use Rattle.paper.specs.Engine.{Fixed}
use Rattle.arc.specs.Arc.{was_b2, inserted, check}
use Rattle.arclists.specs.Holding.{was_of}
use Rattle.parts.specs.Rep.{engine}
use Rattle.arcstep.specs.Runs.{Within, Runs, Ends}
use Rattle.arcstep.proofs.Ways.{told}
use Rattle.arcstep.proofs.Requests.{not-checked, is-checked}
use Rattle.arcstep.proofs.request.settle.Goals as goal

pub insert-r-requires : goal.insert-r-requires
insert-r-requires c =
    let p = c.requires.fits in
    record {
      fits = (p.0, p.1, p.2, p.3);
      runs = rw c.was_b2-b2.ensures c.requires.runs;
      indexed = c.requires.indexed;
    }

pub returns-then-not-needs_check : goal.returns-then-not-needs_check
returns-then-not-needs_check c =
    let a = c.args in
    let i = c.insert-r.ensures in
    let e = rw c.was_b2-b2.ensures at i in
    record {
      held_le_held = (e.held_le_held.0, omega (arith, e.held_le_held.1), e.held_le_held.4);
      runs_2 = λ Z R f x lim h en ef ex. told (not-checked a.b Z _ (was_of a.was) (sym c.needs_check.ensures ∙ c.if-not-needs_check.true)) (e.runs_2 R f x h en ef ex);
    }

pub check-requires : goal.check-requires
check-requires c =
    let a = c.args in
    let p = c.requires.fits in
    let q = c.requires.runs in
    let w = c.insert-r in
    let i = w.ensures in
    let e = rw c.was_b2-b2.ensures at i in
    let f : Fixed 32 = (a.g.now, p.1) in
    let x : Fixed a.b.size = (a.block.now, p.2) in
    let n = e.held_le_held in
    record {
      fits = (
        p.0.0,
        p.0.1,
        p.0.2,
        omega (arith, n.0, n.1, p.4),
        w.auto.addrs ∙ p.0.4,
        w.auto.blocks ∙ p.0.5,
        omega (arith, p.0.6, n.3, w.auto.lists),
        omega (arith, p.0.7, n.4.0, n.4.1),
        omega (arith, p.0.8, n.0),
      );
      some_runs = (_, e.runs_2 q.0 f x q.1 q.2 refl refl);
    }

pub returns : goal.returns
returns c =
    let a = c.args in
    let i = c.insert-r.ensures in
    let e = rw c.was_b2-b2.ensures at i in
    let k = c.check.ensures in
    let d = rw c.was_b2-b2.ensures at k in
    record {
      held_le_held = (omega (arith, e.held_le_held.0, d.less.0), omega (arith, e.held_le_held.0, e.held_le_held.1, d.less.1), (d.less.3.0 ∙ e.held_le_held.4.0, d.less.3.1 ∙ e.held_le_held.4.1));
      runs_2 = λ Z R f x lim h en ef ex.
          told (is-checked a.b Z _ (was_of a.was) (sym c.needs_check.ensures ∙ c.if-not-needs_check.false))
          (d.runs Z _ (lim.0 ∙ sym e.held_le_held.4.0, lim.1 ∙ sym e.held_le_held.4.1) (e.runs_2 R f x h en ef ex));
    }
