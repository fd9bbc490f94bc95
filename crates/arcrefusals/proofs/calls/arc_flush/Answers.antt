-- What the opening's check gives, then the tables, the lists and the counters; a flush has no 3. Assumes nothing.
use Rattle.std.proofs.Common.{sym, ◌∙◌}
use Rattle.std.proofs.lemmas.Result.{err_from_is_err_and}
use Rattle.refusal.specs.Numbers.{refused}
use Rattle.paper.specs.Lent.{Ask}
use Rattle.refusals.specs.Given.{counters_of}
use Rattle.arcrefusals.specs.CallLaws.{opens-with, refused-first, flush-rest}
use Rattle.arcrefusals.proofs.calls.arc_flush.Goals as goal

pub returns-in_err-arc_opening-clause-by_index : goal.returns-in_err-arc_opening-clause-by_index
returns-in_err-arc_opening-clause-by_index c =
    let a = c.args in
    let k = counters_of a.c in
    let e = c.in_err-arc_opening.ensures k in
    let p = err_from_is_err_and c.from_residual.result c.from_residual.ensures.1 in
    rw (p.1, p.2) (λ n. e ∙ refused-first a.a a.disk.now a.flash.now a.addresses.now a.blocks.now a.lists.now k (Ask.flush n) (λ z. refused _ (e ∙ z)))

pub arc_state-requires : goal.arc_state-requires
arc_state-requires c =
    let a = c.args in
    let k = counters_of a.c in
    let o = opens-with a.a a.disk.now a.flash.now a.addresses.now a.blocks.now a.lists.now k (sym (c.in_ok-arc_opening.ensures k)) in
    record {
      fits = o.fits;
      blank = c.requires;
    }

pub returns-clause-by_index : goal.returns-clause-by_index
returns-clause-by_index c =
    let a = c.args in
    let k = counters_of a.c in
    let o = opens-with a.a a.disk.now a.flash.now a.addresses.now a.blocks.now a.lists.now k (sym (c.in_ok-arc_opening.ensures k)) in
    λ n. c.arc_state.ensures.by_index a.disk.now a.flash.now
    ∙ flush-rest a.a a.disk.now a.flash.now a.addresses.now a.blocks.now a.lists.now k o n
