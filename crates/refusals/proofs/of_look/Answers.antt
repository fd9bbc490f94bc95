-- Each test in turn: what the opening's check gives, the address, and the tables; a look has no 9. Assumes nothing.
use Rattle.std.proofs.Common.{rules, arith, sym, ap, ◌∙◌}
use Rattle.std.proofs.lemmas.Result.{err_from_is_err_and}
use Rattle.refusal.specs.Numbers.{refused}
use Rattle.paper.specs.Lent.{Ask}
use Rattle.parts.specs.Rep.{numbers_of}
use Rattle.refusals.specs.Given.{counters_of, lent}
use Rattle.refusals.specs.Sizes.{opens-with}
use Rattle.std.specs.Prelude.{ℕ}
use Rattle.std.proofs.lemmas.List.{length-replicate}
use Rattle.tables.specs.SoundLaws.{filled-with}
use Rattle.paper.specs.Cache.{no_counts}
use Rattle.refusals.proofs.Refusing.{refused-first, look-3, look-rest}
use Rattle.refusals.proofs.of_look.Goals as goal

pub returns-in_err-of_opening : goal.returns-in_err-of_opening
returns-in_err-of_opening c k =
    let a = c.args in
    let e = c.in_err-of_opening.ensures k in
    let p = err_from_is_err_and c.from_residual.result c.from_residual.ensures.1 in
    rw (p.1, p.2) (e ∙ refused-first (numbers_of a.b) (lent a.b a.disk.now a.flash.now a.addresses.now a.blocks.now k) (Ask.look a.a.0) (λ z. refused _ (e ∙ z)))

pub returns-then-address_outside : goal.returns-then-address_outside
returns-then-address_outside c k =
    let a = c.args in
    look-3 a.b a.disk.now a.flash.now a.addresses.now a.blocks.now k (opens-with a.b a.disk.now a.flash.now a.addresses.now a.blocks.now k (sym (c.in_ok-of_opening.ensures k))) a.a.0 (sym c.address_outside.ensures ∙ c.if-address_outside.true)

pub of_tables-requires : goal.of_tables-requires
of_tables-requires c =
    let a = c.args in
    let o = opens-with a.b a.disk.now a.flash.now a.addresses.now a.blocks.now no_counts (sym (c.in_ok-of_opening.ensures no_counts)) in
    record {
      blocks_bound = (o.most.blocks, o.most.rows, o.most.slots, o.lengths.addresses, o.lengths.blocks);
      blank = (length-replicate {A = ℕ} 4353 0, filled-with 4353 0);
    }

pub returns : goal.returns
returns c k =
    let a = c.args in
    c.of_tables.ensures.value ∙ look-rest a.b a.disk.now a.flash.now a.addresses.now a.blocks.now k (opens-with a.b a.disk.now a.flash.now a.addresses.now a.blocks.now k (sym (c.in_ok-of_opening.ensures k))) a.a.0 (sym c.address_outside.ensures ∙ c.if-address_outside.false)
