-- The rows of a sound box have different fingerprints, so that what was built is the index. Assumes nothing.
use mathlib.Core.Path.{◌∙◌}
use Rattle.std.specs.Prelude.{◌≡◌, ◌≤◌, true, List, ℕ, length}
use Rattle.tables.specs.Rows.{rows, table_bytes}
use Rattle.tables.specs.Find.{every}
use Rattle.tables.specs.Index.{unique}
use Rattle.parts.specs.declared.BoxRecord.{BoxRecord}
use Rattle.serve.specs.Calls.{LentSound}
use Rattle.turns.specs.TurnLaws.{indexable}
use Rattle.turns.proofs.read.index_rows.Goals as goal

-- the index can be made, of rows with different fingerprints
sound : (b : BoxRecord) (blocks : List ℕ) → ((disk : List ℕ) × (flash : List ℕ) × (addrs : List ℕ) × LentSound b disk flash addrs blocks)
    → (length blocks ≡ table_bytes b.slots) × (b.slots ≤ 256) × (every unique (rows b.slots blocks) ≡ true)
sound b blocks q = indexable b q.0 q.1 q.2 blocks q.3.0 q.3.1 q.3.2

pub build-requires : goal.build-requires
build-requires c =
    let i = sound c.args.b c.args.blocks.now c.requires.by_index in
    record {
      t_len = (i.0, i.1);
      blank = c.requires.blank;
    }

pub returns : goal.returns
returns c =
    let i = sound c.args.b c.args.blocks.now c.requires.by_index in
    let w = c.build in
    (w.ensures.heads_len, w.ensures.linked (w.ensures.value ∙ i.2))
