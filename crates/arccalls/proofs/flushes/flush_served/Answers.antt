-- The base's flush on the tables; the lists stay. Assumes nothing.
use Rattle.std.proofs.Common.{arith}
use Rattle.std.proofs.Math.Option.{none}
use Rattle.paper.specs.Lent.{Ask}
use Rattle.refusals.specs.Given.{counters_of}
use Rattle.arc.proofs.ArcDemandLaws.{found}
use Rattle.arcrefusals.specs.Given.{sizes_of, arc_lent}
use Rattle.arccalls.specs.BaseLaws.{flush-keeps, base-0, base_index, arc-told}
use Rattle.arccalls.proofs.flushes.flush_served.Goals as goal

pub base_of-requires : goal.base_of-requires
base_of-requires c =
    let a = c.args in
    let f = (found (sizes_of a.a) (arc_lent a.a a.disk.now a.flash.now a.addresses.now a.blocks.now a.lists.now (counters_of a.c))
    (Ask.flush a.k) c.requires.k_value).fits in
    let x = f.C-most in
    let y = f.m-most in
    (omega (arith, x), omega (arith, y))

pub flush_served-o-requires : goal.flush_served-o-requires
flush_served-o-requires c =
    let a = c.args in
    record {
      k_value = base-0 a.a a.disk.now a.flash.now a.addresses.now a.blocks.now a.lists.now a.c
          (Ask.flush a.k) c.base_of.result c.base_of.ensures c.requires.k_value;
      indexed = base_index a.a a.disk.now a.flash.now a.addresses.now a.blocks.now a.lists.now a.c
          (Ask.flush a.k) c.base_of.result c.base_of.ensures _ c.requires.indexed;
    }

pub returns : goal.returns
returns c =
    let a = c.args in
    arc-told a.a a.disk.now a.flash.now a.addresses.now a.blocks.now a.lists.now a.c (Ask.flush a.k) c.base_of.result c.base_of.ensures c.requires.k_value
    (flush-keeps (sizes_of a.a) (arc_lent a.a a.disk.now a.flash.now a.addresses.now a.blocks.now a.lists.now (counters_of a.c)) a.k)
    (λ i. omega (arith, c.shared_slice_known-3-1.given i)) _ _ _ _ none c.flush_served-o.result c.flush_served-o.ensures c.answered.result c.answered.ensures
