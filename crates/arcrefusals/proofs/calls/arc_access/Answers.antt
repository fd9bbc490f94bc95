-- Each test in turn: what the opening's check gives, the lent block, the address, and then the tables, the lists and the counters. Assumes nothing.
use Rattle.std.proofs.Common.{sym, ◌∙◌}
use Rattle.std.proofs.lemmas.Result.{err_from_is_err_and}
use Rattle.refusal.specs.Numbers.{refused}
use Rattle.paper.specs.Lent.{Ask}
use Rattle.refusals.specs.Given.{counters_of}
use Rattle.arcrefusals.specs.CallLaws.{opens-with, refused-first, access-2, access-3, access-rest}
use Rattle.arcrefusals.proofs.calls.arc_access.Goals as goal

pub returns-in_err-arc_opening-clause-value : goal.returns-in_err-arc_opening-clause-value
returns-in_err-arc_opening-clause-value c =
    let a = c.args in
    let k = counters_of a.c in
    let e = c.in_err-arc_opening.ensures k in
    let p = err_from_is_err_and c.from_residual.result c.from_residual.ensures.1 in
    rw (p.1, p.2) (e ∙ refused-first a.a a.disk.now a.flash.now a.addresses.now a.blocks.now a.lists.now k (Ask.read a.asked.0 a.block.now)
    (λ z. refused _ (e ∙ z)))

pub returns-then-block-a-clause-value : goal.returns-then-block-a-clause-value
returns-then-block-a-clause-value c =
    let a = c.args in
    let k = counters_of a.c in
    let o = opens-with a.a a.disk.now a.flash.now a.addresses.now a.blocks.now a.lists.now k (sym (c.in_ok-arc_opening.ensures k)) in
    access-2 a.a a.disk.now a.flash.now a.addresses.now a.blocks.now a.lists.now k o a.asked.0 a.block.now c.if-block-a.true

pub returns-then-address_outside-clause-value : goal.returns-then-address_outside-clause-value
returns-then-address_outside-clause-value c =
    let a = c.args in
    let k = counters_of a.c in
    let o = opens-with a.a a.disk.now a.flash.now a.addresses.now a.blocks.now a.lists.now k (sym (c.in_ok-arc_opening.ensures k)) in
    access-3 a.a a.disk.now a.flash.now a.addresses.now a.blocks.now a.lists.now k o a.asked.0 a.block.now
    c.if-block-a.false (sym c.address_outside.ensures ∙ c.if-address_outside.true)

pub arc_state-requires : goal.arc_state-requires
arc_state-requires c =
    let a = c.args in
    let k = counters_of a.c in
    let o = opens-with a.a a.disk.now a.flash.now a.addresses.now a.blocks.now a.lists.now k (sym (c.in_ok-arc_opening.ensures k)) in
    record {
      fits = o.fits;
      blank = c.requires;
    }

pub returns-clause-value : goal.returns-clause-value
returns-clause-value c =
    let a = c.args in
    let k = counters_of a.c in
    let o = opens-with a.a a.disk.now a.flash.now a.addresses.now a.blocks.now a.lists.now k (sym (c.in_ok-arc_opening.ensures k)) in
    c.arc_state.ensures.by_index a.disk.now a.flash.now
    ∙ access-rest a.a a.disk.now a.flash.now a.addresses.now a.blocks.now a.lists.now k o a.asked.0 a.block.now
    c.if-block-a.false (sym c.address_outside.ensures ∙ c.if-address_outside.false)
