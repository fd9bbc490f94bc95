-- The row is kept aside, taken out, and comes back at the end. Assumes nothing.
use Prim.Native.Nat.{ℕ}
use mathlib.Core.Path.{sym, ap, ◌∙◌}
use mathlib.Core.List.{List, [], ◌∷◌, ◌++◌}
use native.Mathlib.Omega.{arith}
use Rattle.tables.specs.Rows.{rows, flat, remove_at}
use Rattle.tables.specs.RowLaws.{rows_at}
use Rattle.tables.specs.ShiftLaws.{replaced-all}
use Rattle.tables.specs.Operations.{row_newest}
use Rattle.tables.proofs.shift.to_newest.Goals as goal

pub returns : goal.returns
unfolding row_newest
returns c =
    let a = c.before.before.before.before.before.before.args in
    let t = a.t.now in
    c.replace.ensures
    ∙ replaced-all t _ a.d a.i (omega arith)
    ∙ ap (λ (r : List ℕ). flat (remove_at (rows a.d t) a.i ++ (r ∷ []))) (c.copy-moved.ensures ∙ sym (rows_at a.d t a.i (omega arith)))
