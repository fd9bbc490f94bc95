-- The tables' refusal where they have one, else the counters'. Assumes nothing.
use Rattle.std.specs.Prelude.{cond}
use Rattle.std.proofs.Common.{rules, ap, sym, ◌∙◌}
use Rattle.std.proofs.lemmas.Result.{err_from_is_err_and}
use Rattle.refusal.specs.Numbers.{refused}
use Rattle.refusals.specs.Given.{counters_of}
use Rattle.refusals.proofs.Refusing.{state-tables, state-counters}
use Rattle.refusals.proofs.of_state.Goals as goal

pub returns-in_err-of_tables-clause-value : goal.returns-in_err-of_tables-clause-value
returns-in_err-of_tables-clause-value c =
    let a = c.args in
    let p = err_from_is_err_and c.from_residual.result c.from_residual.ensures.1 in
    let v = c.in_err-of_tables.ensures.value in
    rw (p.1, p.2) (v ∙ state-tables a.b a.addresses.now a.blocks.now (counters_of a.c) (λ z. refused _ (v ∙ z)))

pub returns-then-counters_over-clause-value : goal.returns-then-counters_over-clause-value
returns-then-counters_over-clause-value c =
    let a = c.args in
    ap (λ x. cond x 9 0) (sym c.if-counters_over.true ∙ c.counters_over.ensures)
    ∙ state-counters a.b a.addresses.now a.blocks.now (counters_of a.c) (sym c.in_ok-of_tables.ensures.value)

pub returns-clause-value : goal.returns-clause-value
returns-clause-value c =
    let a = c.args in
    let v = c.in_ok-of_tables.ensures.value in
    ap (λ x. cond x 9 0) (sym c.if-counters_over.false ∙ c.counters_over.ensures)
    ∙ state-counters a.b a.addresses.now a.blocks.now (counters_of a.c) (sym v)
