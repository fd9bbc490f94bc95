-- The rows behind the first of a bucket are linked: `from-links`. Assumes nothing.
use Rattle.std.proofs.Common.{◌≡◌, arith}
use Rattle.std.proofs.lemmas.Grind.{common_steps}
use Rattle.tables.specs.Rows.{rows}
use Rattle.tables.specs.Index.{start}
use Rattle.checks.proofs.Indexes.{from-links}
use Rattle.checks.proofs.index.find.Goals as goal

pub walk-requires-clause-by_index : goal.walk-requires-clause-by_index
walk-requires-clause-by_index c =
    let a = c.args in
    let s : c.entry-from.result ≡ start a.heads.now a.g.now = grind (arith, common_steps) in
    from-links a.heads.now (rows a.d a.t.now) a.g.now c.entry-from.result 0 s c.requires.indexed.1
