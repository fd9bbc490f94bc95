-- The address is that of the row. Assumes nothing.
use mathlib.Core.Path.{ap}
use Prim.Native.Nat.{ℕ}
use lib.Dec.{eqb}
use Rattle.tables.proofs.find.address_is.Goals as goal

pub returns : goal.returns
returns c =
    ap (λ (x : ℕ). eqb x c.args.a.0) c.address_at-b.ensures
