-- Each test in turn: what the opening's check gives, then the lent block, the address, the tables and the counters. Assumes nothing.
use Rattle.std.proofs.Common.{rules, arith, sym, ap, ◌∙◌}
use Rattle.std.proofs.lemmas.Result.{err_from_is_err_and}
use Rattle.refusal.specs.Numbers.{refused}
use Rattle.paper.specs.Lent.{Ask}
use Rattle.parts.specs.Rep.{numbers_of}
use Rattle.refusals.specs.Given.{counters_of, lent}
use Rattle.refusals.specs.Sizes.{opens-with}
use Rattle.refusals.proofs.Refusing.{refused-first, access-2, access-3, access-rest}
use Rattle.refusals.proofs.of_access.Goals as goal

pub returns-in_err-of_opening-clause-value : goal.returns-in_err-of_opening-clause-value
returns-in_err-of_opening-clause-value c =
    let a = c.args in
    let k = counters_of a.c in
    let e = c.in_err-of_opening.ensures k in
    let p = err_from_is_err_and c.from_residual.result c.from_residual.ensures.1 in
    rw (p.1, p.2) (e ∙ refused-first (numbers_of a.b) (lent a.b a.disk.now a.flash.now a.addresses.now a.blocks.now k) (Ask.read a.a.0 a.block.now) (λ z. refused _ (e ∙ z)))

pub returns-then-block-b-clause-value : goal.returns-then-block-b-clause-value
returns-then-block-b-clause-value c =
    let a = c.args in
    let k = counters_of a.c in
    access-2 a.b a.disk.now a.flash.now a.addresses.now a.blocks.now k (opens-with a.b a.disk.now a.flash.now a.addresses.now a.blocks.now k (sym (c.in_ok-of_opening.ensures k))) a.a.0 a.block.now c.if-block-b.true

pub returns-then-address_outside-clause-value : goal.returns-then-address_outside-clause-value
returns-then-address_outside-clause-value c =
    let a = c.args in
    let k = counters_of a.c in
    access-3 a.b a.disk.now a.flash.now a.addresses.now a.blocks.now k (opens-with a.b a.disk.now a.flash.now a.addresses.now a.blocks.now k (sym (c.in_ok-of_opening.ensures k))) a.a.0 a.block.now c.if-block-b.false (sym c.address_outside.ensures ∙ c.if-address_outside.true)

pub of_state-requires : goal.of_state-requires
of_state-requires c =
    let a = c.args in
    let k = counters_of a.c in
    let o = opens-with a.b a.disk.now a.flash.now a.addresses.now a.blocks.now k (sym (c.in_ok-of_opening.ensures k)) in
    record {
      blocks_bound = (o.most.blocks, o.most.rows, o.most.slots, o.lengths.addresses, o.lengths.blocks);
      blank = c.requires;
    }

pub returns-clause-value : goal.returns-clause-value
returns-clause-value c =
    let a = c.args in
    let k = counters_of a.c in
    c.of_state.ensures.value
    ∙ access-rest a.b a.disk.now a.flash.now a.addresses.now a.blocks.now k (opens-with a.b a.disk.now a.flash.now a.addresses.now a.blocks.now k (sym (c.in_ok-of_opening.ensures k))) a.a.0 a.block.now c.if-block-b.false (sym c.address_outside.ensures ∙ c.if-address_outside.false)
