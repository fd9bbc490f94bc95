-- The record's numbers are small, and say where the tables lie. Assumes nothing.
use Rattle.std.proofs.Common.{arith, refl, ◌∙◌}
use Rattle.restoring.specs.Given.{box_in}
use Rattle.restoring.specs.FoundLaws.{lru-long, lru-small, lru-laid, lru-record}
use Rattle.restoring.proofs.lru_found.Goals as goal

pub record_in-b-requires : goal.record_in-b-requires
record_in-b-requires c =
    let l = lru-long c.args.body.now (box_in c.args.body.now) refl c.requires.1 c.requires.0 in
    omega (arith, l)

pub overflow_mul-result : goal.overflow_mul-result
overflow_mul-result c = let h = (lru-small c.args.body.now _ c.record_in-b.ensures c.requires.1 c.requires.0).0 in omega (arith, h)

pub overflow_mul-result-2 : goal.overflow_mul-result-2
overflow_mul-result-2 c = let h = (lru-small c.args.body.now _ c.record_in-b.ensures c.requires.1 c.requires.0).1 in omega (arith, h)

pub returns : goal.returns
returns c =
    let t = c.args.body.now in
    let e = c.record_in-b.ensures in
    record {
      arc_record_value = c.as_arc.ensures ∙ lru-record t _ e c.requires.1 c.requires.0;
      laid = lru-laid t _ e c.requires.1 c.requires.0;
    }
