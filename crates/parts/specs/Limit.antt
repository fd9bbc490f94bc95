-- U8: "if more than t rows are dirty, the oldest dirty one": of rows in bytes.
use Rattle.std.specs.Prelude.{cond, List, map, ℕ, ltb, unwrap_or}
use Rattle.tables.specs.Rows.{rows}
use Rattle.tables.specs.Records.{read_address}
use Rattle.tables.specs.Find.{find_from, is_dirty}
use Rattle.paper.specs.Cache.{dirty_rows}
use Rattle.paper.specs.Engine.{comparing}
use Rattle.paper.specs.Lent.{as_held}
use Rattle.parts.specs.declared.BoxRecord.{BoxRecord}

-- how many of the rows are dirty
abbrev pub dirty_in : List (List ℕ) → ℕ
dirty_in rs = dirty_rows comparing (map as_held (map read_address rs))

-- the index of the oldest dirty one, if more than the limit are; else the count of rows held
abbrev pub excess_row : BoxRecord → List ℕ → ℕ
excess_row b t =
    let rs = rows b.held t in
    cond (ltb b.limit (dirty_in rs)) (unwrap_or (find_from is_dirty 0 rs) b.held) b.held
