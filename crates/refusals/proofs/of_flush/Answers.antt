-- What the opening's check gives, then the tables and the counters; a flush has no 3. Assumes nothing.
use Rattle.std.proofs.Common.{rules, arith, sym, ap, ◌∙◌}
use Rattle.std.proofs.lemmas.Result.{err_from_is_err_and}
use Rattle.refusal.specs.Numbers.{refused}
use Rattle.paper.specs.Lent.{Ask}
use Rattle.parts.specs.Rep.{numbers_of}
use Rattle.refusals.specs.Given.{counters_of, lent}
use Rattle.refusals.specs.Sizes.{opens-with}
use Rattle.refusals.proofs.Refusing.{refused-first, flush-rest}
use Rattle.refusals.proofs.of_flush.Goals as goal

pub returns-in_err-of_opening-clause-by_index : goal.returns-in_err-of_opening-clause-by_index
returns-in_err-of_opening-clause-by_index c =
    let a = c.args in
    let k = counters_of a.c in
    let e = c.in_err-of_opening.ensures k in
    let p = err_from_is_err_and c.from_residual.result c.from_residual.ensures.1 in
    rw (p.1, p.2) (λ n. e ∙ refused-first (numbers_of a.b) (lent a.b a.disk.now a.flash.now a.addresses.now a.blocks.now k) (Ask.flush n) (λ z. refused _ (e ∙ z)))

pub of_state-requires : goal.of_state-requires
of_state-requires c =
    let a = c.args in
    let k = counters_of a.c in
    let o = opens-with a.b a.disk.now a.flash.now a.addresses.now a.blocks.now k (sym (c.in_ok-of_opening.ensures k)) in
    record {
      blocks_bound = (o.most.blocks, o.most.rows, o.most.slots, o.lengths.addresses, o.lengths.blocks);
      blank = c.requires;
    }

pub returns-clause-by_index : goal.returns-clause-by_index
returns-clause-by_index c =
    let a = c.args in
    let k = counters_of a.c in
    λ n. c.of_state.ensures.value ∙ flush-rest a.b a.disk.now a.flash.now a.addresses.now a.blocks.now k (opens-with a.b a.disk.now a.flash.now a.addresses.now a.blocks.now k (sym (c.in_ok-of_opening.ensures k))) n
