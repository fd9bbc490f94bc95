-- By whether there is a row too many; the slot found is that of its fingerprint. Assumes nothing.
use mathlib.Core.Path.{◌≡◌, refl, sym, ap, ◌∙◌}
use mathlib.Core.Bool.{true}
use native.Mathlib.Omega.{arith}
use lib.ListN.{get_or}
use borrow.Author.Tests.{lt-ltb}
use Rattle.std.proofs.Common.{rules}
use Rattle.paper.specs.Cache.{Box, slot_of}
use Rattle.paper.specs.Engine.{Fixed}
use Rattle.parts.specs.Rep.{numbers_of, engine, Rep, no_row, copied_row}
use Rattle.parts.specs.CopyLaws.{slot_of-below, slot_placed}
use Rattle.parts.proofs.Limiting.{limit-none, limit-one}
use Rattle.parts.proofs.copy.limit_rows.Goals as goal

-- no row is too many
pub returns-then-b-i : goal.returns-then-b-i
returns-then-b-i c =
    let a = c.args in
    let l = c.if-b-i.true in
    record {
      upper_bound = omega arith;
      addrs_after = λ s h. limit-none a.b a.disk.now a.flash.now a.addrs.now a.blocks.now s h (omega (arith, l, c.excess_row-i.ensures));
    }

-- the oldest dirty one is
pub returns : goal.returns
returns c =
    let a = c.args in
    let x = c.excess_row-i.ensures in
    let l = c.if-b-i.false in
    record {
      upper_bound = c.copy_one.ensures.upper_bound;
      addrs_after = λ s h. limit-one a.b a.disk.now a.flash.now a.addrs.now a.blocks.now s h (omega (arith, l, x)) c.copy_one.result _ _
          (c.copy_one.ensures.addrs_after s h ∙ ap (copied_row a.b (λ f. true) s) x);
    }
