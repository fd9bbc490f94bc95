-- What the tables and the lists give by themselves, then 8 of the lists, then the limit. Assumes nothing.
use Rattle.std.proofs.Common.{arith, sym, ap, ◌∙◌}
use Rattle.std.proofs.lemmas.Result.{err_from_is_err_and}
use Rattle.refusal.specs.Numbers.{refused}
use Rattle.std.specs.Prelude.{Bool, ℕ, cond, ltb}
use borrow.Author.Tests.{lt-ltb, le-ltb}
use Rattle.parts.specs.Limit.{excess_row}
use Rattle.parts.specs.LimitLaws.{excess-is}
use Rattle.arcrefusals.specs.Given.{base_of}
use Rattle.arcrefusals.specs.StateLaws.{sound, held-rows, held_below, tops-room, tops-fine, tables-sound, tables-tops, tables-limit}
use Rattle.arcrefusals.proofs.state.arc_tables.Goals as goal

pub returns-in_err-arc_sound-clause-by_index : goal.returns-in_err-arc_sound-clause-by_index
returns-in_err-arc_sound-clause-by_index c disk flash k =
    let a = c.args in
    let v = c.in_err-arc_sound.ensures.value in
    let p = err_from_is_err_and c.from_residual.result c.from_residual.ensures.1 in
    rw (p.1, p.2) (v ∙ tables-sound a.a a.addresses.now a.blocks.now a.lists.now disk flash k (λ z. refused _ (v ∙ z)))

pub top_uncached-requires : goal.top_uncached-requires
top_uncached-requires c =
    let a = c.args in
    let f = c.requires.fits in
    let s = sound a.a a.addresses.now a.blocks.now a.lists.now (sym c.in_ok-arc_sound.ensures.value) in
    let p = s.six-passed in
    let h = f.blocks-are in
    record {
      has_rows = (
        held-rows a.a a.addresses.now a.blocks.now a.lists.now f p,
        (omega (arith, h), f.cached-most),
        tops-room a.a a.addresses.now a.blocks.now a.lists.now f p s.lists-passed,
      );
      by_index = held_below a.a a.addresses.now a.blocks.now a.lists.now f p;
      lists_value = tops-fine a.a a.addresses.now a.blocks.now a.lists.now f p s.lists-passed;
      indexed = c.in_ok-arc_sound.ensures.indexed;
    }

pub returns-then-top_uncached-clause-by_index : goal.returns-then-top_uncached-clause-by_index
returns-then-top_uncached-clause-by_index c disk flash k =
    let a = c.args in
    let s = sound a.a a.addresses.now a.blocks.now a.lists.now (sym c.in_ok-arc_sound.ensures.value) in
    tables-tops a.a a.addresses.now a.blocks.now a.lists.now disk flash k s
    (sym (c.top_uncached.ensures disk flash k) ∙ c.if-top_uncached.true)

pub excess_row-requires : goal.excess_row-requires
excess_row-requires c =
    let a = c.args in
    let s = sound a.a a.addresses.now a.blocks.now a.lists.now (sym c.in_ok-arc_sound.ensures.value) in
    let h = held-rows a.a a.addresses.now a.blocks.now a.lists.now c.requires.fits s.six-passed in
    omega (arith, h, ap (λ b. b.held) c.base_of.ensures)

pub returns-then-excess_row-a-clause-by_index : goal.returns-then-excess_row-a-clause-by_index
returns-then-excess_row-a-clause-by_index c disk flash k =
    let a = c.args in
    let s = sound a.a a.addresses.now a.blocks.now a.lists.now (sym c.in_ok-arc_sound.ensures.value) in
    ap (λ (w : Bool). cond {A = ℕ} w 13 0) (sym (lt-ltb c.excess_row.result a.a.held c.if-excess_row-a.true)
    ∙ ap (λ n. ltb n a.a.held) (c.excess_row.ensures ∙ ap (λ b. excess_row b a.addresses.now) c.base_of.ensures) ∙ excess-is (base_of a.a) a.addresses.now)
    ∙ tables-limit a.a a.addresses.now a.blocks.now a.lists.now disk flash k s
    (sym (c.top_uncached.ensures disk flash k) ∙ c.if-top_uncached.false)

pub returns-clause-by_index : goal.returns-clause-by_index
returns-clause-by_index c disk flash k =
    let a = c.args in
    let s = sound a.a a.addresses.now a.blocks.now a.lists.now (sym c.in_ok-arc_sound.ensures.value) in
    ap (λ (w : Bool). cond {A = ℕ} w 13 0) (sym (le-ltb c.excess_row.result a.a.held c.if-excess_row-a.false)
    ∙ ap (λ n. ltb n a.a.held) (c.excess_row.ensures ∙ ap (λ b. excess_row b a.addresses.now) c.base_of.ensures) ∙ excess-is (base_of a.a) a.addresses.now)
    ∙ tables-limit a.a a.addresses.now a.blocks.now a.lists.now disk flash k s
    (sym (c.top_uncached.ensures disk flash k) ∙ c.if-top_uncached.false)
