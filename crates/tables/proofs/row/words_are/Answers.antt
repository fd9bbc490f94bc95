-- The four words are read. Assumes nothing.
use Rattle.tables.proofs.row.words_are.Goals as goal

pub returns : goal.returns
returns c =
    rw (c.word8.ensures, c.word8-2.ensures, c.word8-3.ensures, c.word8-4.ensures)
