-- What an opening gets, then the list's own, then the tables', the lists' and the counters'. Assumes nothing.
use Rattle.std.proofs.Common.{arith, sym, ap, ◌∙◌}
use Rattle.std.proofs.lemmas.Result.{err_from_is_err_and}
use Rattle.refusal.specs.Numbers.{refused}
use Rattle.std.specs.Prelude.{ℕ, length}
use Rattle.std.proofs.lemmas.List.{length-replicate}
use Rattle.tables.specs.SoundLaws.{filled-with}
use Rattle.parts.specs.declared.BoxRecord.{BoxRecord}
use Rattle.refusals.specs.Given.{counters_of}
use Rattle.refusals.specs.Checks.{list_refusal}
use Rattle.arcrefusals.specs.CallLaws.{opens-with}
use Rattle.arcrefusals.specs.FolderLaws.{many-first, many-list, many-rest}
use Rattle.arcrefusals.proofs.many.arc_many.Goals as goal

pub returns-in_err-arc_opening : goal.returns-in_err-arc_opening
returns-in_err-arc_opening c =
    let a = c.args in
    let k = counters_of a.c in
    let e = c.in_err-arc_opening.ensures k in
    let p = err_from_is_err_and c.from_residual.result c.from_residual.ensures.1 in
    rw (p.1, p.2) (e ∙ many-first a.a a.disk.now a.flash.now a.addresses.now a.blocks.now a.lists.now k a.asked.now a.buffer.now (λ z. refused _ (e ∙ z)))

pub base_of-requires : goal.base_of-requires
base_of-requires c =
    let a = c.args in
    let k = counters_of a.c in
    let o = opens-with a.a a.disk.now a.flash.now a.addresses.now a.blocks.now a.lists.now k (sym (c.in_ok-arc_opening.ensures k)) in
    let f = o.fits in
    let m = f.rows-most in
    (f.cached-most, omega (arith, m))

pub returns-in_err-of_list : goal.returns-in_err-of_list
returns-in_err-of_list c =
    let a = c.args in
    let k = counters_of a.c in
    let o = opens-with a.a a.disk.now a.flash.now a.addresses.now a.blocks.now a.lists.now k (sym (c.in_ok-arc_opening.ensures k)) in
    let listed = c.in_err-of_list.ensures ∙ ap (λ (b : BoxRecord). list_refusal b a.asked.now (length a.buffer.now)) c.base_of.ensures in
    let p = err_from_is_err_and c.from_residual-in_err-of_list.result c.from_residual-in_err-of_list.ensures.1 in
    rw (p.1, p.2) (listed ∙ many-list a.a a.disk.now a.flash.now a.addresses.now a.blocks.now a.lists.now k a.asked.now a.buffer.now o
    (λ z. refused _ (listed ∙ z)))

pub arc_state-requires : goal.arc_state-requires
arc_state-requires c =
    let a = c.args in
    let k = counters_of a.c in
    let o = opens-with a.a a.disk.now a.flash.now a.addresses.now a.blocks.now a.lists.now k (sym (c.in_ok-arc_opening.ensures k)) in
    record {
      fits = o.fits;
      blank = (length-replicate {A = ℕ} 4353 0, filled-with 4353 0);
    }

pub returns : goal.returns
returns c =
    let a = c.args in
    let k = counters_of a.c in
    let o = opens-with a.a a.disk.now a.flash.now a.addresses.now a.blocks.now a.lists.now k (sym (c.in_ok-arc_opening.ensures k)) in
    let listed = c.in_ok-of_list.ensures ∙ ap (λ (b : BoxRecord). list_refusal b a.asked.now (length a.buffer.now)) c.base_of.ensures in
    c.arc_state.ensures.by_index a.disk.now a.flash.now
    ∙ many-rest a.a a.disk.now a.flash.now a.addresses.now a.blocks.now a.lists.now k a.asked.now a.buffer.now o (sym listed)
