-- A turn makes one more read, and leaves the memory that its bytes do. Assumes nothing.
use Rattle.std.proofs.Common.{sym, ap, ◌∙◌, subst, refl, ◌&&◌, [], ◌∷◌, ◌≤◌, ltb, leb, arith}
use Rattle.std.proofs.lemmas.Bool.{true≢false}
use Rattle.session.specs.Bytewise.{stage_number}
use Rattle.session.specs.Memory.{Memory}
use Rattle.replay_cli.specs.Chunks.{fed_first}
use Rattle.replay_cli.specs.Reads.{Reading}
use Rattle.replay_cli.proofs.all.Goals as goal

pub loop-turn-init : goal.loop-turn-init
loop-turn-init g c = ([], tt, refl, refl, rw c.begin-s.ensures refl)

pub loop-turn-preserved : goal.loop-turn-preserved
loop-turn-preserved g c =
    let p = c.loop-turn in
    let b = p.invariant in
    let f = c.turn-t in
    let e = f.ensures in
    let r : Reading = record { buffer = f.new.chunk; count = f.result.count } in
    let n = f.auto.chunk ∙ p.auto.chunk in
    let m = e.out_after ∙ ap (fed_first r.buffer r.count) b.4 in (
      r ∷ b.0,
      (
        n,
        subst (λ k. r.count ≤ k) n e.count_in_bounds,
        b.2,
        b.1,
      ),
      sym (c.goes_on.ensures ∙ ap (λ (K : Memory). ltb 0 r.count && leb (stage_number K.session.stage) 1) m) ∙ c.if-not-goes_on.false,
      omega (arith, b.3),
      m,
    )

pub returns-then-not-goes_on : goal.returns-then-not-goes_on
returns-then-not-goes_on g c =
    let p = c.loop-turn in
    let b = p.invariant in
    let f = c.turn-t in
    let e = f.ensures in
    let r : Reading = record { buffer = f.new.chunk; count = f.result.count } in
    let n = f.auto.chunk ∙ p.auto.chunk in
    let m = e.out_after ∙ ap (fed_first r.buffer r.count) b.4 in
    let over = sym (c.goes_on.ensures ∙ ap (λ (K : Memory). ltb 0 r.count && leb (stage_number K.session.stage) 1) m) ∙ c.if-not-goes_on.true in (
      r ∷ b.0,
      (
        n,
        subst (λ k. r.count ≤ k) n e.count_in_bounds,
        b.2,
        b.1,
      ),
      λ d. absurd (true≢false (sym d ∙ over)),
      m,
    )
