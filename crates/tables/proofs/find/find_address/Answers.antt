use Rattle.std.proofs.Common.{arith}
use Prim.Native.Nat.{◌-◌}
use mathlib.Core.Path.{◌≡◌, refl, sym, ◌∙◌}
use Rattle.std.proofs.Common.{rules}
use lib.ListN.{drop}
use Rattle.tables.specs.Rows.{rows}
use Rattle.tables.specs.Find.{find_from, has_address}
use Rattle.tables.specs.RowLaws.{turn-hit, turn-miss, turn_end}
use Rattle.tables.proofs.find.find_address.Goals as goal

pub returns-then-address_is : goal.returns-then-address_is
returns-then-address_is c =
    let a = c.args in
    sym (c.loop-k.invariant ∙ turn-hit (has_address a.a.0) a.n a.t.now c.loop-k.k (omega arith) (sym c.address_is.ensures ∙ c.if-address_is.true))

pub loop-k-preserved : goal.loop-k-preserved
loop-k-preserved c =
    let a = c.args in
    c.loop-k.invariant ∙ turn-miss (has_address a.a.0) a.n a.t.now c.loop-k.k (omega arith) (sym c.address_is.ensures ∙ c.if-address_is.false)

pub returns : goal.returns
returns c =
    let a = c.args in
    sym (c.loop-k.invariant ∙ turn_end (has_address a.a.0) a.n a.t.now c.loop-k.k (omega arith))

pub loop-k-init : goal.loop-k-init
loop-k-init c = refl
