-- The tables' own check, of lengths and numbers that it can be run on, and then the limit's. Assumes nothing.
use Rattle.std.specs.Prelude.{cond, Bool}
use Rattle.std.proofs.Common.{rules, arith, ap, sym, ◌∙◌}
use borrow.Author.Tests.{lt-ltb, le-ltb}
use Rattle.std.proofs.lemmas.Result.{err_from_is_err_and}
use Rattle.refusal.specs.Numbers.{refused}
use Rattle.parts.specs.LimitLaws.{excess-is}
use Rattle.refusals.proofs.Refusing.{tables-are, tables-sound, tables-limit, held-fit}
use Rattle.refusals.proofs.of_tables.Goals as goal

pub returns-in_err-tables_refused-clause-value : goal.returns-in_err-tables_refused-clause-value
returns-in_err-tables_refused-clause-value c =
    let a = c.args in
    let p = c.requires.blocks_bound in
    let v = c.in_err-tables_refused.ensures.value ∙ tables-are a.b a.addresses.now a.blocks.now p.0 p.1 p.2 p.3 p.4 in
    let q = err_from_is_err_and c.from_residual.result c.from_residual.ensures.1 in
    rw (q.1, q.2) (v ∙ tables-sound a.b a.addresses.now a.blocks.now (λ z. refused _ (v ∙ z)))

pub excess_row-requires : goal.excess_row-requires
excess_row-requires c =
    let a = c.args in
    let p = c.requires.blocks_bound in
    let f = held-fit a.b a.addresses.now a.blocks.now (sym (c.in_ok-tables_refused.ensures.value ∙ tables-are a.b a.addresses.now a.blocks.now p.0 p.1 p.2 p.3 p.4)) in
    let l = p.3 in
    omega (arith, f, l)

pub returns-then-excess_row-b-clause-value : goal.returns-then-excess_row-b-clause-value
returns-then-excess_row-b-clause-value c =
    let a = c.args in
    let p = c.requires.blocks_bound in
    let y = sym (excess-is a.b a.addresses.now) ∙ lt-ltb _ a.b.held (omega (arith, c.excess_row.ensures, c.if-excess_row-b.true)) in
    ap (λ (v : Bool). cond v 13 0) (sym y) ∙ tables-limit a.b a.addresses.now a.blocks.now (sym (c.in_ok-tables_refused.ensures.value ∙ tables-are a.b a.addresses.now a.blocks.now p.0 p.1 p.2 p.3 p.4))

pub returns-clause-value : goal.returns-clause-value
returns-clause-value c =
    let a = c.args in
    let p = c.requires.blocks_bound in
    let y = sym (excess-is a.b a.addresses.now) ∙ le-ltb _ a.b.held (omega (arith, c.excess_row.ensures, c.if-excess_row-b.false)) in
    ap (λ (v : Bool). cond v 13 0) (sym y) ∙ tables-limit a.b a.addresses.now a.blocks.now (sym (c.in_ok-tables_refused.ensures.value ∙ tables-are a.b a.addresses.now a.blocks.now p.0 p.1 p.2 p.3 p.4))
