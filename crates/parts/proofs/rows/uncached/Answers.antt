-- The law says what the index answers of the paper's rows. Assumes nothing.
use mathlib.Core.Path.{ap, ◌∙◌}
use mathlib.Core.Bool.{not}
use Rattle.std.proofs.Common.{rules}
use Rattle.parts.proofs.Indexed.{uncached-is}
use Rattle.parts.proofs.rows.uncached.Goals as goal

pub returns : goal.returns
returns c =
    let a = c.args in
    let e = ap not c.all_cached.ensures in
    record {
      value = e;
      value_2 = λ N P m n l free used h hb kn. e ∙ uncached-is a.d a.blocks.now free used hb N P m n a.k a.addrs.now l h kn;
    }
