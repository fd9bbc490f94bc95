-- Each turn leaves what is found as it was, by the turn's own law. Assumes nothing.
use Prim.Native.Nat.{◌-◌}
use mathlib.Core.Path.{◌≡◌, refl, sym, ◌∙◌}
use Rattle.std.proofs.Common.{rules}
use lib.ListN.{drop}
use Rattle.tables.specs.Rows.{rows}
use Rattle.tables.specs.Find.{find_from, has_address}
use Rattle.tables.specs.RowLaws.{turn-hit, turn-miss, turn_end}
use Rattle.tables.proofs.find.find_address.Given as goal

abbrev pub invariant-loop-k : goal.invariant-loop-k
invariant-loop-k l = find_from (has_address l.a.0) 0 (rows l.n l.t) ≡ find_from (has_address l.a.0) l.k (drop l.k (rows l.n l.t))
