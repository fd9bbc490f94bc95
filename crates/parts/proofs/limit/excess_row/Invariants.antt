-- The rows from row i on are done: how many of them are dirty, and which is the oldest of these. Assumes nothing.
use Rattle.std.specs.Prelude.{unwrap_or}
use mathlib.Core.Path.{◌≡◌, refl, sym, ap, ◌∙◌}
use mathlib.Core.Bool.{Bool, true, false, cond}
use mathlib.Core.List.{List}
use Prim.Native.Nat.{ℕ, suc, ◌+◌, ◌-◌, ◌≤◌, ◌<◌}
use native.Mathlib.Omega.{arith}
use native.Mathlib.Numerals.{add-one}
use lib.ListN.{drop, drop_of_length-le}
use borrow.Author.Tests.{lt-ltb, le-ltb}
use Rattle.std.proofs.Common.{rules}
use Rattle.tables.specs.Rows.{rows, row_at}
use Rattle.tables.specs.RowLaws.{rows-length, turn-hit, turn-miss, turn_end}
use Rattle.tables.specs.Find.{find_from, is_dirty}
use Rattle.parts.specs.Limit.{dirty_in}
use Rattle.parts.specs.LimitLaws.{dirty-turn, dirty-most}
use Rattle.parts.proofs.limit.excess_row.Given as goal

abbrev pub invariant-loop-i : goal.invariant-loop-i
invariant-loop-i l =
    (l.count + l.i ≤ l.b.held) × (l.count ≡ dirty_in (drop l.i (rows l.b.held l.addrs)))
    × (l.oldest ≡ unwrap_or (find_from is_dirty l.i (drop l.i (rows l.b.held l.addrs))) l.b.held)
