-- The bit is that of the row's address. Assumes nothing.
use mathlib.Core.Path.{ap, ◌∙◌}
use Prim.Native.Nat.{ℕ}
use lib.Dec.{eqb}
use Rattle.tables.specs.Bits.{bit_at}
use Rattle.arclists.proofs.names.row_named.Goals as goal

pub returns : goal.returns
returns c =
    let a = c.args in
    c.has_bit.ensures ∙ ap (λ (x : ℕ). eqb (bit_at a.seen.now x) 1) c.address_at-a.ensures
