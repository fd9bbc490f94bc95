-- Each test in turn: what the opening's check gives, the length, and the tables and the lists. Assumes nothing.
use Rattle.std.proofs.Common.{arith, sym, ◌∙◌}
use Rattle.std.proofs.lemmas.Result.{err_from_is_err_and}
use Rattle.refusal.specs.Numbers.{refused}
use Rattle.std.specs.Prelude.{ℕ, ◌*◌, eqb}
use Rattle.std.proofs.lemmas.List.{length-replicate}
use Rattle.tables.specs.SoundLaws.{filled-with}
use Rattle.paper.specs.Cache.{no_counts}
use Rattle.arcrefusals.specs.CallLaws.{opens-with}
use Rattle.arcrefusals.specs.FolderLaws.{report-first, report-2, report-rest}
use Rattle.arcrefusals.proofs.report.arc_report.Goals as goal

pub returns-in_err-arc_opening : goal.returns-in_err-arc_opening
returns-in_err-arc_opening c k w report ew el =
    let a = c.args in
    let e = c.in_err-arc_opening.ensures k in
    let p = err_from_is_err_and c.from_residual.result c.from_residual.ensures.1 in
    rw (p.1, p.2) (e ∙ report-first a.a a.disk.now a.flash.now a.addresses.now a.blocks.now a.lists.now k w report (λ z. refused _ (e ∙ z)))

pub base_of-b-requires : goal.base_of-b-requires
base_of-b-requires c =
    let a = c.args in
    let o = opens-with a.a a.disk.now a.flash.now a.addresses.now a.blocks.now a.lists.now no_counts (sym (c.in_ok-arc_opening.ensures no_counts)) in
    let f = o.fits in
    let m = f.rows-most in
    (f.cached-most, omega (arith, m))

pub returns-then-not-product_is : goal.returns-then-not-product_is
returns-then-not-product_is c k w report ew el =
    let a = c.args in
    let o = opens-with a.a a.disk.now a.flash.now a.addresses.now a.blocks.now a.lists.now k (sym (c.in_ok-arc_opening.ensures k)) in
    let long = c.product_is.ensures ∙ (λ i. eqb (el i) ((c.base_of-b.ensures i).rows * ew i)) in
    report-2 a.a a.disk.now a.flash.now a.addresses.now a.blocks.now a.lists.now k w report o (sym long ∙ c.if-not-product_is.true)

pub arc_tables-requires : goal.arc_tables-requires
arc_tables-requires c =
    let a = c.args in
    let o = opens-with a.a a.disk.now a.flash.now a.addresses.now a.blocks.now a.lists.now no_counts (sym (c.in_ok-arc_opening.ensures no_counts)) in
    record {
      fits = o.fits;
      blank = (length-replicate {A = ℕ} 4353 0, filled-with 4353 0);
    }

pub returns : goal.returns
returns c k w report ew el =
    let a = c.args in
    let o = opens-with a.a a.disk.now a.flash.now a.addresses.now a.blocks.now a.lists.now k (sym (c.in_ok-arc_opening.ensures k)) in
    let long = c.product_is.ensures ∙ (λ i. eqb (el i) ((c.base_of-b.ensures i).rows * ew i)) in
    c.arc_tables.ensures.by_index a.disk.now a.flash.now k
    ∙ report-rest a.a a.disk.now a.flash.now a.addresses.now a.blocks.now a.lists.now k w report o (sym long ∙ c.if-not-product_is.false)
