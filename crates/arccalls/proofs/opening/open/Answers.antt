-- By the check's refusal and the label's length: refused, nothing is touched; else tables and lists are made fresh, whose lengths the check has seen to.
-- Assumes nothing.
use Rattle.std.proofs.Common.{refl}
use Rattle.refusal.specs.Numbers.{refused}
use Rattle.refusals.specs.Given.{counters_of}
use Rattle.arccalls.specs.OpenLaws.{number-kept, number-two, number-none, fits-are, opening-refused, opening-done}
use Rattle.arccalls.proofs.opening.open.Goals as goal

pub returns-in-Err : goal.returns-in-Err
returns-in-Err c =
    let a = c.args in
    let m = c.empty_arc-a in
    opening-refused a.size a.blocks a.cached a.extra a.limit a.label.now a.disk.now a.flash.now a.addresses.now a.table.now a.lists.now a.c
    m.result m.ensures c.refused.result c.in-Err.r c.refused.ensures
    (number-kept a.size a.blocks a.cached a.extra a.limit a.label.now a.disk.now a.flash.now a.addresses.now a.table.now a.lists.now a.c
    m.result m.ensures _ (c.in-Err.ensures (counters_of a.c)) (refused c.in-Err.r))

pub returns-then-label-ne64 : goal.returns-then-label-ne64
returns-then-label-ne64 c =
    let a = c.args in
    let m = c.empty_arc-a in
    opening-refused a.size a.blocks a.cached a.extra a.limit a.label.now a.disk.now a.flash.now a.addresses.now a.table.now a.lists.now a.c
    m.result m.ensures c.refused-then-label-ne64.result _ c.refused-then-label-ne64.ensures
    (number-two a.size a.blocks a.cached a.extra a.limit a.label.now a.disk.now a.flash.now a.addresses.now a.table.now a.lists.now a.c
    m.result m.ensures 0 (c.in_default.ensures (counters_of a.c)) refl c.if-label-ne64.true)

pub fresh_memory-requires : goal.fresh_memory-requires
fresh_memory-requires c =
    let a = c.args in
    let m = c.empty_arc-a in
    fits-are a.size a.blocks a.cached a.extra a.limit a.label.now a.disk.now a.flash.now a.addresses.now a.table.now a.lists.now a.c
    m.result m.ensures 0 (c.in_default.ensures (counters_of a.c)) refl

pub returns : goal.returns
returns c =
    let a = c.args in
    let m = c.empty_arc-a in
    opening-done a.size a.blocks a.cached a.extra a.limit a.label.now a.disk.now a.flash.now a.addresses.now a.table.now a.lists.now a.c
    (number-none a.size a.blocks a.cached a.extra a.limit a.label.now a.disk.now a.flash.now a.addresses.now a.table.now a.lists.now a.c
    m.result m.ensures 0 (c.in_default.ensures (counters_of a.c)) refl c.if-label-ne64.false)
    m.result m.ensures _ _ _ c.fresh_memory.ensures.addresses_after c.fresh_memory.ensures.table_after c.fresh_memory.ensures.lists_after
    c.opened.result c.opened.ensures
