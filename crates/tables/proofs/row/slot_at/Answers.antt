-- The four bytes are those of the row. Assumes nothing.
use mathlib.Core.Path.{sym, ◌∙◌}
use native.Mathlib.Omega.{arith}
use Rattle.tables.specs.RowLaws.{le4-row_at}
use Rattle.tables.specs.Records.{read_block}
use Rattle.tables.proofs.row.slot_at.Goals as goal

pub returns : goal.returns
unfolding read_block
returns c =
    let a = c.args in
    c.word_at.ensures ∙ sym (le4-row_at a.t.now a.k 32 (omega arith))
