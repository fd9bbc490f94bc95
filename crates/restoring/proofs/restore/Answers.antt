-- A refused restore keeps all; a served one fills the tables and the lists and clears the header. Assumes nothing.
use Rattle.std.proofs.Common.{sym, ap, ◌∙◌}
use Rattle.std.proofs.lemmas.Result.{err_from_is_err_and}
use Rattle.refusal.specs.Numbers.{refused}
use Rattle.refusal.specs.declared.Refusal.TheVariants.{WrongLength}
use Rattle.image.specs.Kinds.{string_at}
use Rattle.restoring.specs.Given.{arc_of}
use Rattle.restoring.specs.RestoreLaws.{image-refused, found-header, found-body, found-fields, refused-2, refused_none}
use Rattle.restoring.specs.RestoreLaws.{lengths-taken, restore-refused, restore-served}
use Rattle.restoring.proofs.restore.Goals as goal

pub returns-in_err-body : goal.returns-in_err-body
returns-in_err-body c =
    let a = c.args in
    let p = err_from_is_err_and c.from_residual.result c.from_residual.ensures.1 in
    rw (p.1, p.2) (restore-refused a.area.now a.addresses.now a.blocks.now a.lists.now _
    (image-refused a.area.now a.addresses.now a.blocks.now a.lists.now _ c.in_err-body.ensures.value (refused _)))

pub found_in-f-requires : goal.found_in-f-requires
found_in-f-requires c = found-body c.args.area.now (sym c.in_ok-body.ensures.value) _ c.in_ok-body.ensures.body

pub returns-then-wrong_tables : goal.returns-then-wrong_tables
returns-then-wrong_tables c =
    let a = c.args in
    restore-refused a.area.now a.addresses.now a.blocks.now a.lists.now WrongLength
    (refused-2 a.area.now a.addresses.now a.blocks.now a.lists.now _ c.in_ok-body.ensures.body c.found_in-f.result c.found_in-f.ensures.laid
    (sym c.in_ok-body.ensures.value) (sym c.wrong_tables.ensures ∙ c.if-wrong_tables.true))

pub take_tables-requires : goal.take_tables-requires
take_tables-requires c =
    let a = c.args in
    let d = c.found_in-f.ensures.laid in
    let v = sym c.in_ok-body.ensures.value in
    let h = c.in_ok-body.ensures.body in
    let z = sym (refused_none a.area.now a.addresses.now a.blocks.now a.lists.now _ h c.found_in-f.result d v
    (sym c.wrong_tables.ensures ∙ c.if-wrong_tables.false)) in
    let l = lengths-taken a.area.now a.addresses.now a.blocks.now a.lists.now _ h c.found_in-f.result d v z in
    (d.whole, l.0, l.1, l.2)

-- the area has a header
pub clear_header-requires : goal.clear_header-requires
clear_header-requires c = found-header c.args.area.now (sym c.in_ok-body.ensures.value)

pub returns : goal.returns
returns c =
    let a = c.args in
    let d = c.found_in-f.ensures.laid in
    let e = c.take_tables.ensures in
    let x = found-fields a.area.now _ c.in_ok-body.ensures.body in
    let z = sym (refused_none a.area.now a.addresses.now a.blocks.now a.lists.now _ c.in_ok-body.ensures.body c.found_in-f.result d
    (sym c.in_ok-body.ensures.value) (sym c.wrong_tables.ensures ∙ c.if-wrong_tables.false)) in
    restore-served a.area.now a.addresses.now a.blocks.now a.lists.now z _ _ _ _ _ c.given_back.result c.given_back.ensures
    (c.found_in-f.ensures.arc_record_value ∙ ap arc_of x)
    (e.addresses_after ∙ sym d.addresses ∙ ap (λ y. string_at y 1) x)
    (e.blocks_after ∙ sym d.blocks ∙ ap (λ y. string_at y 2) x)
    (e.lists_after ∙ sym d.lists ∙ ap (λ y. string_at y 3) x) c.clear_header.ensures
