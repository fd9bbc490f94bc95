-- The record's numbers are small, and say where the tables and the lists lie. Assumes nothing.
use Rattle.std.proofs.Common.{arith, refl}
use Rattle.restoring.specs.Given.{arc_in}
use Rattle.restoring.specs.ArcBodyLaws.{arc-long, arc-small, arc-laid, arc-record}
use Rattle.restoring.proofs.arc_body.arc_found.Goals as goal

pub arc_record_in-a-requires : goal.arc_record_in-a-requires
arc_record_in-a-requires c =
    let l = arc-long c.args.body.now (arc_in c.args.body.now) refl c.requires.1 c.requires.0 in
    omega (arith, l)

pub overflow_add-m : goal.overflow_add-m
overflow_add-m c = let h = (arc-small c.args.body.now _ c.arc_record_in-a.ensures c.requires.1 c.requires.0).1 in omega (arith, h)

pub overflow_add-m-2 : goal.overflow_add-m-2
overflow_add-m-2 c = let h = (arc-small c.args.body.now _ c.arc_record_in-a.ensures c.requires.1 c.requires.0).1 in omega (arith, h)

pub overflow_mul-result : goal.overflow_mul-result
overflow_mul-result c = let h = (arc-small c.args.body.now _ c.arc_record_in-a.ensures c.requires.1 c.requires.0).1 in omega (arith, h)

pub overflow_mul-result-2 : goal.overflow_mul-result-2
overflow_mul-result-2 c = let h = (arc-small c.args.body.now _ c.arc_record_in-a.ensures c.requires.1 c.requires.0).0 in omega (arith, h)

pub overflow_mul-result-3 : goal.overflow_mul-result-3
overflow_mul-result-3 c = let h = (arc-small c.args.body.now _ c.arc_record_in-a.ensures c.requires.1 c.requires.0).1 in omega (arith, h)

pub returns : goal.returns
returns c =
    let b = c.args.body.now in
    let e = c.arc_record_in-a.ensures in
    record {
      arc_record_value = arc-record b _ e c.requires.1 c.requires.0;
      laid = arc-laid b _ e c.requires.1 c.requires.0;
    }
