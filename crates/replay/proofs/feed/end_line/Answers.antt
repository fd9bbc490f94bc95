-- By the stage. Assumes nothing.
use mathlib.Core.Path.{sym, ap, ◌∙◌, subst}
use Prim.Native.Nat.{◌≤◌}
use native.Mathlib.Nat.{sub-zero}
use native.Mathlib.Omega.{arith}
use lib.ListN.{take}
use Rattle.lines.specs.Lines.{parsed}
use Rattle.session.specs.Bytewise.{first_line, later_line}
use Rattle.session.specs.Memory.{memory, state_in, stored}
use Rattle.replay.proofs.Feeding.{quiet_same, end-first, end_later, end-over}
use Rattle.replay.proofs.feed.end_line.Goals as goal

pub returns-in-Before : goal.returns-in-Before
unfolding state_in
returns-in-Before c =
    let a = c.args in
    let M = memory a.s a.line.now a.disk.now a.flash.now a.addresses.now a.blocks.now a.out.now in
    let e = c.parse-c.ensures ∙ ap (λ k. parsed (take k a.line.now)) (sub-zero a.s.kept) in
    record {
      filled_bound = c.first.ensures.filled_bound;
      out_after = c.first.ensures.by_index a.line.now ∙ ap (λ c. stored M (first_line (state_in M) c)) e ∙ ap (stored M) (end-first (state_in M) c.in-Before.is);
    }

pub later-requires : goal.later-requires
later-requires c =
    record {
      holds = c.requires.holds;
      sized = c.requires.sized;
      out_len = c.requires.out_len.0;
    }

pub returns-in-Open : goal.returns-in-Open
unfolding state_in
returns-in-Open c =
    let a = c.args in
    let M = memory a.s a.line.now a.disk.now a.flash.now a.addresses.now a.blocks.now a.out.now in
    let e = c.parse-c.ensures ∙ ap (λ k. parsed (take k a.line.now)) (sub-zero a.s.kept) in
    record {
      filled_bound = c.later.ensures.filled_bound;
      out_after = c.later.ensures.by_index a.line.now ∙ ap (λ c. stored M (later_line (state_in M) c)) e ∙ ap (stored M) (end_later (state_in M) c.in-Open.is);
    }

pub returns-in-Over : goal.returns-in-Over
unfolding state_in
returns-in-Over c =
    let a = c.args in
    let M = memory a.s a.line.now a.disk.now a.flash.now a.addresses.now a.blocks.now a.out.now in
    record {
      filled_bound = omega arith;
      out_after = quiet_same M (subst (λ n. a.s.kept ≤ n) (sym c.requires.out_len.1) c.requires.out_len.2) ∙ ap (stored M) (end-over (state_in M) c.in-Over.is);
    }
