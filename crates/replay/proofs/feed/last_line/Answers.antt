-- By the stage and what is kept. Assumes nothing.
use mathlib.Core.Path.{sym, ap, ◌∙◌, subst}
use Prim.Native.Nat.{◌≤◌}
use Rattle.std.proofs.lemmas.Bool.{not-true, not-false}
use lib.Seq.{length-take-le}
use Rattle.session.specs.Memory.{memory, state_in, stored}
use Rattle.replay.proofs.Feeding.{quiet_same, is-before, last-first, last_none, last_some}
use Rattle.replay.proofs.feed.last_line.Goals as goal
use Rattle.replay.proofs.feed.last_line.Goals.{else-ne-via-then-ne+else-s-eq0, else-ne-via-else-ne}

pub returns-then-s-eq0-clause-out_after : goal.returns-then-s-eq0-clause-out_after
unfolding state_in
returns-then-s-eq0-clause-out_after c =
    let a = c.args in
    let M = memory a.s a.line.now a.disk.now a.flash.now a.addresses.now a.blocks.now a.out.now in
    let k = subst (λ n. a.s.kept ≤ n) (sym c.requires.out_len.1) c.requires.out_len.2 in
    let n = is-before a.s.stage ∙ not-true _ (sym c.if-ne.ensures) in
    quiet_same M k ∙ ap (stored M) (last_none (state_in M) n (length-take-le a.s.kept a.line.now k ∙ c.if-s-eq0.true))

pub returns-clause-out_after : goal.returns-clause-out_after
unfolding state_in
returns-clause-out_after c =
    let a = c.args in
    let M = memory a.s a.line.now a.disk.now a.flash.now a.addresses.now a.blocks.now a.out.now in
    let k = subst (λ n. a.s.kept ≤ n) (sym c.requires.out_len.1) c.requires.out_len.2 in
    elim c.else-ne.branch [
      | else-ne-via-then-ne+else-s-eq0 w ↦
          let n = is-before a.s.stage ∙ not-true _ (sym w.if-ne.ensures) in
          c.end_line.ensures.out_after ∙ ap (stored M) (last_some (state_in M) n (λ e. w.if-s-eq0.false (sym (length-take-le a.s.kept a.line.now k) ∙ e)))
      | else-ne-via-else-ne w ↦
          let y = is-before a.s.stage ∙ not-false _ (sym c.ne.ensures ∙ w.if-ne.false) in
          c.end_line.ensures.out_after ∙ ap (stored M) (last-first (state_in M) y)
    ]
