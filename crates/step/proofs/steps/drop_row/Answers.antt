-- Where the row is there, the two calls leave the paper's rows without it; else nothing changes. Assumes nothing.
use mathlib.Core.Path.{sym, ap, ◌∙◌}
use mathlib.Core.Option.{Option}
use Prim.Native.Nat.{◌<◌}
use native.Mathlib.Omega.{arith}
use lib.ListN.{length, get_or}
use Rattle.std.proofs.Common.{rules}
use Rattle.paper.specs.Cache.{AddressRow, without_address, dropped}
use Rattle.paper.specs.Engine.{Fixed, labelled}
use Rattle.paper.specs.Layout.{addresses_of}
use Rattle.parts.specs.Rep.{no_row}
use Rattle.step.specs.Steps.{block_bytes}
use Rattle.step.specs.Dropping.{without-row, row_is, one_less, addrs-without, stays, drop-none}
use Rattle.step.proofs.steps.drop_row.Goals as goal

pub returns-then-b-i : goal.returns-then-b-i
returns-then-b-i c =
    let a = c.args in
    λ N x l free used h hb da du e.
    let q = stays a.b.blocks a.b.rows a.b.held a.addrs.now l h x a.i e c.if-b-i.true in
    (sym h.count ∙ ap length (sym q.0), h.is ∙ ap (addresses_of a.b.rows) (sym q.0), drop-none N a.b.slots a.blocks.now (without_address x l) free used hb _ q.1)

pub returns : goal.returns
returns c =
    let a = c.args in
    let lt : a.i < a.b.held = omega (arith, c.if-b-i.false) in
    λ N x l free used h hb da du e.
    let w = without-row a.b.blocks a.b.rows a.b.held a.addrs.now l h x a.i e da lt in
    let leaves = c.free_unknown.ensures in
    let left = rw c.with_held-c.ensures at leaves in
    let q = c.take_row-place.ensures l free used h hb in
    let v = left N (without_address x l) free used (get_or l a.i no_row) (addrs-without a.b.blocks a.b.rows a.b.held a.addrs.now l h x a.i e da lt _ q.1) hb du q.0 in (
      one_less a.b.blocks a.b.rows a.b.held a.addrs.now l h x a.i e da lt,
      q.1 ∙ ap (addresses_of a.b.rows) (sym w),
      v ∙ ap (λ (o : Option (AddressRow (Fixed 32))). block_bytes (dropped (labelled N) (without_address x l) (record { free = free; used = used }) o)) (sym (row_is a.b.blocks a.b.rows a.b.held a.addrs.now l h x a.i e da lt)),
    )

pub free_unknown-requires : goal.free_unknown-requires
free_unknown-requires c = rw c.with_held-c.ensures (search rules)
