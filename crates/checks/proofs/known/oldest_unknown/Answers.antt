-- A byte that is 0 is a row that no address row has: `unmarked-is`. Assumes nothing.
use native.Mathlib.Omega.{arith}
use Rattle.tables.specs.Rows.{rows}
use Rattle.tables.specs.SoundLaws.{fresh}
use Rattle.table_laws.specs.Knowns.{unmarked-is}
use Rattle.checks.proofs.known.oldest_unknown.Goals as goal

pub mark_known-requires-clause-by_index : goal.mark_known-requires-clause-by_index
mark_known-requires-clause-by_index c = fresh 257

pub returns : goal.returns
returns c =
    let a = c.args in
    let known = c.mark_known.new.known in
    c.first_unknown.ensures (rows a.n a.a.now)
    (unmarked-is a.d a.t.now (rows a.n a.a.now) known c.requires.has_rows.1.1 c.requires.t_value
    (λ k h. c.mark_known.ensures.by_index_2 k (omega (arith, c.mark_known.ensures.known_len, c.requires.has_rows.1.1))))
