-- Each test in turn: what the opening's check gives, the address, and the tables and the lists; a look has no 9. Assumes nothing.
use Rattle.std.proofs.Common.{sym, ◌∙◌}
use Rattle.std.proofs.lemmas.Result.{err_from_is_err_and}
use Rattle.refusal.specs.Numbers.{refused}
use Rattle.std.specs.Prelude.{ℕ}
use Rattle.std.proofs.lemmas.List.{length-replicate}
use Rattle.tables.specs.SoundLaws.{filled-with}
use Rattle.paper.specs.Cache.{no_counts}
use Rattle.paper.specs.Lent.{Ask}
use Rattle.arcrefusals.specs.CallLaws.{opens-with, refused-first, look-3, look-rest}
use Rattle.arcrefusals.proofs.calls.arc_look.Goals as goal

pub returns-in_err-arc_opening : goal.returns-in_err-arc_opening
returns-in_err-arc_opening c k =
    let a = c.args in
    let e = c.in_err-arc_opening.ensures k in
    let p = err_from_is_err_and c.from_residual.result c.from_residual.ensures.1 in
    rw (p.1, p.2) (e ∙ refused-first a.a a.disk.now a.flash.now a.addresses.now a.blocks.now a.lists.now k (Ask.look a.asked.0) (λ z. refused _ (e ∙ z)))

pub returns-then-address_outside : goal.returns-then-address_outside
returns-then-address_outside c k =
    let a = c.args in
    let o = opens-with a.a a.disk.now a.flash.now a.addresses.now a.blocks.now a.lists.now k (sym (c.in_ok-arc_opening.ensures k)) in
    look-3 a.a a.disk.now a.flash.now a.addresses.now a.blocks.now a.lists.now k o a.asked.0 (sym c.address_outside.ensures ∙ c.if-address_outside.true)

pub arc_tables-requires : goal.arc_tables-requires
arc_tables-requires c =
    let a = c.args in
    let o = opens-with a.a a.disk.now a.flash.now a.addresses.now a.blocks.now a.lists.now no_counts (sym (c.in_ok-arc_opening.ensures no_counts)) in
    record {
      fits = o.fits;
      blank = (length-replicate {A = ℕ} 4353 0, filled-with 4353 0);
    }

pub returns : goal.returns
returns c k =
    let a = c.args in
    let o = opens-with a.a a.disk.now a.flash.now a.addresses.now a.blocks.now a.lists.now k (sym (c.in_ok-arc_opening.ensures k)) in
    c.arc_tables.ensures.by_index a.disk.now a.flash.now k
    ∙ look-rest a.a a.disk.now a.flash.now a.addresses.now a.blocks.now a.lists.now k o a.asked.0
    (sym c.address_outside.ensures ∙ c.if-address_outside.false)
