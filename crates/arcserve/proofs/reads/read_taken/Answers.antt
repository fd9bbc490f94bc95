-- The step gives the rest. Assumes nothing.
use mathlib.Core.Path.{refl, sym}
use mathlib.Core.Bool.{false}
use native.Mathlib.Omega.{arith}
use Rattle.std.proofs.Common.{rules}
use Rattle.tables.specs.Records.{bytes2}
use Rattle.parts.specs.Rep.{engine}
use Rattle.arcserve.proofs.Serving.{taken-read}
use Rattle.arcserve.proofs.reads.read_taken.Goals as goal

pub fingerprint_of-g-requires : goal.fingerprint_of-g-requires
fingerprint_of-g-requires c =
    let p = c.requires.arc_access in
    rw p.2 p.8

pub step-running-requires : goal.step-running-requires
step-running-requires c =
    let g = c.fingerprint_of-g.type_inv in
    let p = c.requires.arc_access in
    let q = c.requires.lent_arc in
    record {
      slots_nonzero = (p.0, p.1, search rules, p.2, p.3, p.4, p.5, p.6, p.7);
      rep = (q.0, q.1, false, q.2, q.3, q.4, refl);
      indexed = c.requires.indexed;
    }

pub returns : goal.returns
returns c =
    let a = c.args in
    let w = c.step-running in
    record {
      few = (w.ensures.flashed_bound.0, omega (arith, w.ensures.flashed_bound.1));
      serves = λ l x y lent h k so ey.
          taken-read a.b a.s l x a.a.0 y lent w.result (bytes2 c.seat_of-seat.result) _ _ _ _ _ _
          (w.ensures.stands l x ((engine a.b).hash y) y false h k so (c.fingerprint_of-g.ensures y ey) ey refl)
          (c.seat_of-seat.ensures x.rows h.rows_are) (sym ey);
    }
