-- What the three moves leave. Assumes nothing.
use mathlib.Core.Path.{ap, ◌∙◌}
use Prim.Native.Nat.{◌-◌}
use native.Mathlib.Omega.{arith}
use Rattle.tables.specs.Records.{address_row, address_bytes, bytes2}
use Rattle.tables.specs.Operations.{row_added}
use Rattle.std.proofs.Common.{rules}
use Rattle.step.proofs.steps.renew.Goals as goal

pub push_address-requires : goal.push_address-requires
push_address-requires c =
    let p = c.requires in
    (omega (arith, c.remove_row.auto.t, p.0, p.3.0, p.3.1), p.2)

pub returns : goal.returns
returns c =
    let a = c.args in
    record {
      addrs_after = c.push_address.ensures ∙ ap (row_added (a.b.held - 1) (address_bytes (address_row a.a.0 a.g.now a.dirty (bytes2 a.seat)))) c.remove_row.ensures;
      blocks_after = c.to_newest.ensures;
    }
