-- The four bytes are those of the row. Assumes nothing.
use mathlib.Core.Path.{sym, ◌∙◌}
use native.Mathlib.Nat.{add-zero}
use native.Mathlib.Omega.{arith}
use Rattle.tables.specs.RowLaws.{le4-row_at}
use Rattle.tables.specs.Records.{read_address}
use Rattle.tables.proofs.row.address_at.Goals as goal

pub returns : goal.returns
unfolding read_address
returns c =
    let a = c.args in
    c.word_at.ensures ∙ sym (le4-row_at a.t.now a.k 0 (omega arith) ∙ rw add-zero)
