-- The row's bytes go behind the rows that are there. Assumes nothing.
use Rattle.tables.specs.Operations.{row_added}
use Prim.Native.Nat.{ℕ}
use mathlib.Core.Path.{ap, ◌∙◌}
use mathlib.Core.List.{List}
use Rattle.tables.proofs.put.push_address.Goals as goal

pub returns : goal.returns
returns c =
    let a = c.args in
    c.push_row.ensures
    ∙ ap (λ (x : List ℕ). row_added a.n x a.t.now) c.new_address-added.ensures
