-- The four bytes are those of the row, and a number of at most 1 has no other digits: `tail-number`. Assumes nothing.
use mathlib.Core.Path.{ap, ◌∙◌}
use lib.Dec.{leb}
use Prim.Native.Nat.{ℕ}
use Rattle.tables.specs.SoundLaws.{tail-number}
use Rattle.tables.proofs.row.tail_ok.Goals as goal

pub returns : goal.returns
returns c =
    let a = c.args in
    ap (λ (x : ℕ). leb x 1) c.word_at.ensures ∙ tail-number a.t.now a.k
