-- By the refusal; else the base's search on the tables. Assumes nothing.
use Rattle.std.specs.Prelude.{Ok}
use Rattle.std.proofs.Common.{arith, sym}
use Rattle.std.proofs.lemmas.Result.{err_from_is_err_and}
use Rattle.paper.specs.Cache.{no_counts}
use Rattle.paper.specs.Lent.{Ask}
use Rattle.arc.proofs.ArcDemandLaws.{found}
use Rattle.arcrefusals.specs.Given.{sizes_of, arc_lent}
use Rattle.arccalls.specs.LookLaws.{place-told, look-0, look-place}
use Rattle.arccalls.proofs.looks.place_of.Goals as goal

pub returns-in_err-arc_look : goal.returns-in_err-arc_look
returns-in_err-arc_look c k =
    let a = c.args in
    let p = err_from_is_err_and c.from_residual.result c.from_residual.ensures.1 in
    rw (p.1, p.2) (place-told (sizes_of a.a) (arc_lent a.a a.disk.now a.flash.now a.addresses.now a.blocks.now a.lists.now k) a.asked.0 _
    (c.in_err-arc_look.ensures k))

pub base_of-requires : goal.base_of-requires
base_of-requires c =
    let a = c.args in
    let f = (found (sizes_of a.a) (arc_lent a.a a.disk.now a.flash.now a.addresses.now a.blocks.now a.lists.now no_counts) (Ask.look a.asked.0)
    (sym (c.in_ok-arc_look.ensures no_counts))).fits in
    let x = f.C-most in
    let y = f.m-most in
    (omega (arith, x), omega (arith, y))

pub found-requires : goal.found-requires
found-requires c k =
    let a = c.args in
    look-0 a.a a.disk.now a.flash.now a.addresses.now a.blocks.now a.lists.now k a.asked.0 c.base_of.result c.base_of.ensures (sym (c.in_ok-arc_look.ensures k))

pub returns : goal.returns
returns c k =
    let a = c.args in
    look-place a.a a.disk.now a.flash.now a.addresses.now a.blocks.now a.lists.now k a.asked.0 c.base_of.result c.base_of.ensures (Ok c.found.result)
    (sym (c.in_ok-arc_look.ensures k)) (c.found.ensures k)
