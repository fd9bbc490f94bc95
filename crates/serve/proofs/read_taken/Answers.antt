-- The step gives the rest. Assumes nothing.
use mathlib.Core.Path.{refl, sym, ap, ◌∙◌}
use mathlib.Core.Bool.{false}
use mathlib.Core.Option.{some}
use native.Mathlib.Omega.{arith}
use native.Mathlib.Nat.{zero-add}
use Rattle.paper.specs.Cache.{Stepped, miss, answer, step}
use Rattle.paper.specs.Engine.{Fixed}
use Rattle.parts.specs.Rep.{engine}
use Rattle.tables.specs.Records.{Seat, bytes2}
use Rattle.step.specs.Steps.{asks}
use Rattle.serve.specs.Calls.{leaves}
use Rattle.serve.specs.ServeLaws.{answer-is, taken_is}
use Rattle.std.proofs.Common.{rules}
use Rattle.serve.proofs.read_taken.Goals as goal

pub fingerprint_of-g-requires : goal.fingerprint_of-g-requires
fingerprint_of-g-requires c =
    let p = c.requires.access in
    rw p.2 p.6

pub step-d-requires : goal.step-d-requires
step-d-requires c =
    let g = c.fingerprint_of-g.type_inv in
    let p = c.requires.access in
    let q = c.requires.lent_sound in
    record {
      rows_nonzero = (p.0, p.1, search rules, p.2, p.3, p.4, p.5);
      rep = (q.0, false, q.1, q.2, refl);
      indexed = c.requires.indexed;
    }

pub returns : goal.returns
returns c =
    let a = c.args in
    let w = c.step-d in
    record {
      flashed_bound = (w.ensures.flashed_bound.0, omega (arith, w.ensures.flashed_bound.1));
      block_after = λ s x lent h sd ex.
          let f = (engine a.b).hash x in
          let ef = c.fingerprint_of-g.ensures x ex in
          let stepped : Seat → Stepped (Fixed 32) (Fixed a.b.size) = λ z. step (engine a.b) a.b.rows s (asks a.a.0 f x false z) in
          answer-is a.b lent miss (some x) 0 (stepped (bytes2 c.seat_of-seat.result)) false
          w.result.held w.result.flashed w.result.primary w.result.primary _ _ _ _ _
          (w.ensures.blocks_after s f x false h sd ef ex refl) refl (sym (zero-add w.result.primary)) (sym ex)
          ∙ ap (λ (z : Seat). leaves a.b lent (answer (engine a.b) miss (some x) 0 (stepped z))) (c.seat_of-seat.ensures s.rows h.rows_are)
          ∙ taken_is a.b lent s a.a.0 x;
    }
