-- The number of the tables and the lists where they have one, else the counters'. Assumes nothing.
use Rattle.std.proofs.Common.{sym, ap, ◌∙◌}
use Rattle.std.proofs.lemmas.Result.{err_from_is_err_and}
use Rattle.refusal.specs.Numbers.{refused}
use Rattle.std.specs.Prelude.{Bool, ℕ, cond}
use Rattle.refusals.specs.Given.{counters_of}
use Rattle.arcrefusals.specs.Given.{sizes_of, arc_lent}
use Rattle.arcrefusals.specs.CallLaws.{state-tables, state-counters}
use Rattle.arcrefusals.proofs.state.arc_state.Goals as goal

pub returns-in_err-arc_tables-clause-by_index : goal.returns-in_err-arc_tables-clause-by_index
returns-in_err-arc_tables-clause-by_index c disk flash =
    let a = c.args in
    let k = counters_of a.c in
    let v = c.in_err-arc_tables.ensures.by_index disk flash k in
    let p = err_from_is_err_and c.from_residual.result c.from_residual.ensures.1 in
    rw (p.1, p.2) (v ∙ state-tables (sizes_of a.a) (arc_lent a.a disk flash a.addresses.now a.blocks.now a.lists.now k) k (λ z. refused _ (v ∙ z)))

pub returns-then-counters_over-clause-by_index : goal.returns-then-counters_over-clause-by_index
returns-then-counters_over-clause-by_index c disk flash =
    let a = c.args in
    let k = counters_of a.c in
    ap (λ (x : Bool). cond {A = ℕ} x 9 0) (sym c.if-counters_over.true ∙ c.counters_over.ensures)
    ∙ state-counters (sizes_of a.a) (arc_lent a.a disk flash a.addresses.now a.blocks.now a.lists.now k) k
    (sym (c.in_ok-arc_tables.ensures.by_index disk flash k))

pub returns-clause-by_index : goal.returns-clause-by_index
returns-clause-by_index c disk flash =
    let a = c.args in
    let k = counters_of a.c in
    ap (λ (x : Bool). cond {A = ℕ} x 9 0) (sym c.if-counters_over.false ∙ c.counters_over.ensures)
    ∙ state-counters (sizes_of a.a) (arc_lent a.a disk flash a.addresses.now a.blocks.now a.lists.now k) k
    (sym (c.in_ok-arc_tables.ensures.by_index disk flash k))
