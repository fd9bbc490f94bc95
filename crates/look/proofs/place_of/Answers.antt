-- By the refusal. Assumes nothing.
use Rattle.std.proofs.Common.{rules, sym, ◌∙◌}
use Rattle.std.proofs.lemmas.Result.{err_from_is_err_and}
use Rattle.parts.specs.Rep.{numbers_of}
use Rattle.refusals.specs.Given.{lent}
use Rattle.look.specs.LookLaws.{where-told}
use Rattle.look.proofs.place_of.Goals as goal

pub returns-in_err-of_look : goal.returns-in_err-of_look
returns-in_err-of_look c k =
    let a = c.args in
    let p = err_from_is_err_and c.from_residual.result c.from_residual.ensures.1 in
    rw (p.1, p.2) (where-told (numbers_of a.b) (lent a.b a.disk.now a.flash.now a.addresses.now a.blocks.now k) a.a.0 _ (c.in_err-of_look.ensures k))

pub found-requires : goal.found-requires
found-requires c k = sym (c.in_ok-of_look.ensures k)

pub returns : goal.returns
returns c k = c.found.ensures k
