-- A free row is in no chain: `free-row`; a used one comes before its bucket's: `used-row`. Assumes nothing.
use Rattle.std.proofs.Common.{◌≡◌, ◌+◌}
use Rattle.std.proofs.Common.{arith}
use Rattle.std.proofs.lemmas.Grind.{common_steps}
use Rattle.tables.specs.Rows.{rows, row_at}
use Rattle.tables.specs.Records.{read_block}
use Rattle.tables.specs.Index.{start}
use Rattle.checks.proofs.Indexes.{free-row, used-row, from-links, alone-is}
use Rattle.checks.proofs.index.put_row.Goals as goal

pub returns-then-not-is_used-clause-linked_2 : goal.returns-then-not-is_used-clause-linked_2
returns-then-not-is_used-clause-linked_2 c z =
    let a = c.args in
    grind (arith, common_steps, free-row a.heads.now a.t.now a.d a.k c.requires.k_lt_d.0 c.requires.linked)

pub alone-requires-clause-by_index : goal.alone-requires-clause-by_index
alone-requires-clause-by_index c =
    let a = c.args in
    let g = (read_block (row_at a.t.now a.k)).fingerprint in
    let s : c.entry-from.result ≡ start a.heads.now g = grind (arith, common_steps) in
    from-links a.heads.now (rows a.d a.t.now) g c.entry-from.result (a.k + 1) s c.requires.linked

pub returns-then-not-alone-clause-value : goal.returns-then-not-alone-clause-value
returns-then-not-alone-clause-value c = let a = c.args in grind (arith, common_steps, alone-is a.heads.now a.t.now a.d a.k)

pub returns-clause-value : goal.returns-clause-value
returns-clause-value c = let a = c.args in grind (arith, common_steps, alone-is a.heads.now a.t.now a.d a.k)

pub returns-clause-linked_2 : goal.returns-clause-linked_2
returns-clause-linked_2 c z =
    let a = c.args in
    grind (arith, common_steps, used-row a.heads.now a.t.now a.d a.k c.requires.k_lt_d.0 c.requires.linked)
