-- What an opening gets, then the list's own, then the state's. Assumes nothing.
use Rattle.std.proofs.Common.{rules, arith, sym, ap, ◌∙◌}
use Rattle.std.proofs.lemmas.Result.{err_from_is_err_and}
use Rattle.refusal.specs.Numbers.{refused}
use Rattle.paper.specs.Lent.{Ask}
use Rattle.parts.specs.Rep.{numbers_of}
use Rattle.refusals.specs.Given.{counters_of, lent}
use Rattle.refusals.specs.Sizes.{opens-with}
use Rattle.std.specs.Prelude.{ℕ}
use Rattle.std.proofs.lemmas.List.{length-replicate}
use Rattle.tables.specs.SoundLaws.{filled-with}
use Rattle.refusals.proofs.Refusing.{many-first, many-list, many-rest}
use Rattle.refusals.proofs.many.of_many.Goals as goal

pub returns-in_err-of_opening : goal.returns-in_err-of_opening
returns-in_err-of_opening c =
    let a = c.args in
    let k = counters_of a.c in
    let e = c.in_err-of_opening.ensures k in
    let p = err_from_is_err_and c.from_residual.result c.from_residual.ensures.1 in
    rw (p.1, p.2) (e ∙ many-first (numbers_of a.b) (lent a.b a.disk.now a.flash.now a.addresses.now a.blocks.now k) a.asked.now a.buffer.now (λ z. refused _ (e ∙ z)))

pub returns-in_err-of_list : goal.returns-in_err-of_list
returns-in_err-of_list c =
    let a = c.args in
    let k = counters_of a.c in
    let g = c.in_err-of_list.ensures in
    let p = err_from_is_err_and c.from_residual-in_err-of_list.result c.from_residual-in_err-of_list.ensures.1 in
    rw (p.1, p.2) (g ∙ many-list a.b a.disk.now a.flash.now a.addresses.now a.blocks.now k (opens-with a.b a.disk.now a.flash.now a.addresses.now a.blocks.now k (sym (c.in_ok-of_opening.ensures k))) a.asked.now a.buffer.now (λ z. refused _ (g ∙ z)))

pub of_state-requires : goal.of_state-requires
of_state-requires c =
    let a = c.args in
    let k = counters_of a.c in
    let o = opens-with a.b a.disk.now a.flash.now a.addresses.now a.blocks.now k (sym (c.in_ok-of_opening.ensures k)) in
    record {
      blocks_bound = (o.most.blocks, o.most.rows, o.most.slots, o.lengths.addresses, o.lengths.blocks);
      blank = (length-replicate {A = ℕ} 4353 0, filled-with 4353 0);
    }

pub returns : goal.returns
returns c =
    let a = c.args in
    let k = counters_of a.c in
    c.of_state.ensures.value ∙ many-rest a.b a.disk.now a.flash.now a.addresses.now a.blocks.now k (opens-with a.b a.disk.now a.flash.now a.addresses.now a.blocks.now k (sym (c.in_ok-of_opening.ensures k))) a.asked.now a.buffer.now (sym c.in_ok-of_list.ensures)
