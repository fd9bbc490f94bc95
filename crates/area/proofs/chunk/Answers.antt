-- The write is a part of a byte string; or a turn writes byte i of it. Assumes nothing.
use Rattle.std.proofs.Common.{◌≡◌, ◌∙◌, rules, arith}
use Rattle.area.specs.Given.{bytes_of}
use Rattle.area.specs.ByteLaws.{chunk-turn, chunk-done, chunk-part}
use Rattle.std.proofs.lemmas.List.{length-set}
use Rattle.area.proofs.chunk.Goals as goal

pub returns-in-Some : goal.returns-in-Some
returns-in-Some c =
    let part = c.in-Some.ensures in
    c.copy_from_slice.ensures.after ∙ chunk-part (bytes_of c.args.body.now) _ c.args.k part.0 part.1

pub loop-i-preserved : goal.loop-i-preserved
loop-i-preserved c =
    let l = c.loop-i in (
      chunk-turn (bytes_of c.args.body.now) l.bytes c.args.k l.i _ l.invariant.0 l.invariant.1 c.loop-i-test.true (search rules) c.body_byte.ensures,
      simp length-set l.invariant.1,
    )

pub returns : goal.returns
returns c =
    let l = c.loop-i in
    let e : l.i ≡ 64 = omega arith in
    chunk-done (bytes_of c.args.body.now) l.bytes c.args.k (rw e at l.invariant.0) l.invariant.1
