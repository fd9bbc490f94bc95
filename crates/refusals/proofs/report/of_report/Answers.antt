-- Each test in turn: what the opening's check gives, the length, and the tables. Assumes nothing.
use Rattle.std.proofs.Common.{rules, arith, sym, ap, ◌∙◌}
use Rattle.std.proofs.lemmas.Result.{err_from_is_err_and}
use Rattle.refusal.specs.Numbers.{refused}
use Rattle.paper.specs.Lent.{Ask}
use Rattle.parts.specs.Rep.{numbers_of}
use Rattle.refusals.specs.Given.{counters_of, lent}
use Rattle.refusals.specs.Sizes.{opens-with}
use Rattle.std.specs.Prelude.{ℕ, ◌*◌}
use Rattle.std.proofs.lemmas.List.{length-replicate}
use Rattle.tables.specs.SoundLaws.{filled-with}
use Rattle.block.specs.Laws.{product-fits}
use Rattle.paper.specs.Cache.{no_counts}
use Rattle.refusals.proofs.Refusing.{report-first}
use Rattle.refusals.proofs.Reporting.{report-2, report-rest}
use Rattle.refusals.proofs.report.of_report.Goals as goal

pub returns-in_err-of_opening : goal.returns-in_err-of_opening
returns-in_err-of_opening c k w report ew el =
    let a = c.args in
    let e = c.in_err-of_opening.ensures k in
    let p = err_from_is_err_and c.from_residual.result c.from_residual.ensures.1 in
    rw (p.1, p.2) (e ∙ report-first (numbers_of a.b) (lent a.b a.disk.now a.flash.now a.addresses.now a.blocks.now k) w report (λ z. refused _ (e ∙ z)))

pub overflow_mul-b : goal.overflow_mul-b
overflow_mul-b c =
    let a = c.args in
    product-fits 1024 7 a.b.rows a.bytes (opens-with a.b a.disk.now a.flash.now a.addresses.now a.blocks.now no_counts (sym (c.in_ok-of_opening.ensures no_counts))).most.rows c.requires (omega arith)

pub returns-then-long-b : goal.returns-then-long-b
returns-then-long-b c k w report ew el =
    let a = c.args in
    report-2 a.b a.disk.now a.flash.now a.addresses.now a.blocks.now k (opens-with a.b a.disk.now a.flash.now a.addresses.now a.blocks.now k (sym (c.in_ok-of_opening.ensures k))) w report (λ z. c.if-long-b.true (el ∙ z ∙ ap (λ (x : ℕ). a.b.rows * x) (sym ew)))

pub of_tables-requires : goal.of_tables-requires
of_tables-requires c =
    let a = c.args in
    let o = opens-with a.b a.disk.now a.flash.now a.addresses.now a.blocks.now no_counts (sym (c.in_ok-of_opening.ensures no_counts)) in
    record {
      blocks_bound = (o.most.blocks, o.most.rows, o.most.slots, o.lengths.addresses, o.lengths.blocks);
      blank = (length-replicate {A = ℕ} 4353 0, filled-with 4353 0);
    }

pub returns : goal.returns
returns c k w report ew el =
    let a = c.args in
    c.of_tables.ensures.value
    ∙ report-rest a.b a.disk.now a.flash.now a.addresses.now a.blocks.now k (opens-with a.b a.disk.now a.flash.now a.addresses.now a.blocks.now k (sym (c.in_ok-of_opening.ensures k))) w report (sym el ∙ c.if-long-b.false ∙ ap (λ (x : ℕ). a.b.rows * x) ew)
