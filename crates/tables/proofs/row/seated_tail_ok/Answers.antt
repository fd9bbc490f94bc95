-- The two bytes are those of the row: `seated-row_at`. Assumes nothing.
use Rattle.tables.specs.SoundLaws.{seated-row_at}
use mathlib.Core.Path.{sym}
use Rattle.tables.proofs.row.seated_tail_ok.Goals as goal

pub returns : goal.returns
returns c =
    let a = c.args in
    sym (seated-row_at a.t.now a.k)
