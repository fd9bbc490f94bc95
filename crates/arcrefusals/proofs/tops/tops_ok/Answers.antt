-- What the search of the range says of every row. Assumes nothing.
use Rattle.std.proofs.Common.{rules}
use Rattle.tables.specs.Rows.{rows}
use Rattle.checks.proofs.Ranges.{all-rows}
use Rattle.arcrefusals.specs.Checks.{top_ok}
use Rattle.arcrefusals.proofs.tops.tops_ok.Goals as goal

pub returns : goal.returns
returns c =
    let a = c.args in
    all-rows _ _ _ _ (top_ok a.seen.now (rows a.d a.blocks.now)) a.addresses.now c.all.ensures.ran (λ x q k. search rules) (λ x q k. search rules)
