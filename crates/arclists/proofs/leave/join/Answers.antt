-- The address goes in behind the list's newest. Assumes nothing.
use Rattle.std.specs.Prelude.{◌+◌}
use Rattle.std.proofs.Common.{arith}
use Rattle.arclists.specs.Holding.{size_of}
use Rattle.arclists.specs.MoveLaws.{holds-last, resized-by}
use Rattle.arclists.proofs.leave.join.Goals as goal

pub returns : goal.returns
returns c =
    let a = c.args in
    let e = resized-by a.list (size_of a.list a.s + 1) a.s in
    rw (c.with.ensures, c.size-2.ensures) (record {
      by_index = λ m l h more. holds-last h a.list a.a more _ _ (omega arith) c.total.ensures c.insert_word.ensures;
      result_value = (omega (arith, e.total-is), e.kept);
    })
