use Prim.Native.Nat.{ℕ, ◌+◌, ◌*◌}
use Rattle.tables.proofs.Words.{Agree, agree-more, words-differ, agree_same}
use Rattle.std.proofs.Common.{rules}
use mathlib.Core.Path.{◌≡◌, sym, ◌∙◌, subst}
use native.Mathlib.Omega.{arith}
use Rattle.tables.proofs.find.same_words.Goals as goal

pub loop-k-init : goal.loop-k-init
loop-k-init c = (search rules, λ i h. absurd (omega arith))

pub returns-then-word8 : goal.returns-then-word8
returns-then-word8 c =
    let a = c.args in
    words-differ a.f.now a.g.now (c.loop-k.k * 8) (λ e. c.if-word8.true (c.word8.ensures ∙ e ∙ sym c.word8-in-loop-k.ensures))

pub loop-k-preserved : goal.loop-k-preserved
loop-k-preserved c =
    let a = c.args in
    let k = c.loop-k.k in
    let m : k * 8 + 8 ≡ (k + 1) * 8 = omega arith in
    (omega arith, subst (λ (j : ℕ). Agree a.f.now a.g.now j) m (agree-more a.f.now a.g.now (k * 8) (λ i. omega (arith, c.shared_slice_known-1.given i)) (λ i. omega (arith, c.shared_slice_known-2-1.given i)) (sym c.word8.ensures ∙ c.if-word8.false ∙ c.word8-in-loop-k.ensures) c.loop-k.invariant.1))

pub returns : goal.returns
returns c =
    let a = c.args in
    let m : c.loop-k.k * 8 ≡ 32 = omega arith in
    agree_same a.f.now a.g.now c.requires.0 c.requires.1 (subst (λ (j : ℕ). Agree a.f.now a.g.now j) m c.loop-k.invariant.1)
