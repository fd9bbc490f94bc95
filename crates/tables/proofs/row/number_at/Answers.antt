-- The four bytes of the slice at the row's place are those of the row. Assumes nothing.
use Rattle.std.proofs.Common.{arith, sym, ◌∙◌}
use Rattle.tables.specs.RowLaws.{le4-row_at}
use Rattle.tables.proofs.row.number_at.Goals as goal

pub returns : goal.returns
returns c = c.word_at.ensures ∙ sym (le4-row_at c.args.t.now c.args.k c.args.at (omega arith))
