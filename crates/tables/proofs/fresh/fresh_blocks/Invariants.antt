-- The first k rows are the free rows of the slots below k. Assumes nothing.
use mathlib.Core.Path.{◌≡◌}
use mathlib.Core.List.{map}
use Prim.Native.Nat.{◌≤◌}
use lib.ListN.{length}
use Rattle.tables.specs.Rows.{rows}
use Rattle.tables.specs.Records.{block_bytes, free_row, slots_from}
use Rattle.tables.proofs.fresh.fresh_blocks.Given as goal

abbrev pub invariant-loop-k : goal.invariant-loop-k
invariant-loop-k l = (l.k ≤ l.d) × (length l.t ≡ length l.initial.t) × (rows l.k l.t ≡ map block_bytes (map free_row (slots_from 0 l.k)))
