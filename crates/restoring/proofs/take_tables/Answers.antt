-- Each is its part of the body. Assumes nothing.
use mathlib.Core.Path.{◌∙◌}
use Prim.Native.Nat.{◌+◌}
use Rattle.restoring.specs.FoundLaws.{part-is}
use Rattle.restoring.proofs.take_tables.Goals as goal

pub returns : goal.returns
returns c =
    let f = c.args.f in
    let t = c.args.body.now in
    let at₂ = f.start + f.addresses in
    record {
      addresses_after = c.copy_from_slice.ensures.after ∙ part-is f.start f.addresses t;
      blocks_after = c.copy_from_slice-2.ensures.after ∙ part-is at₂ f.blocks t;
      lists_after = c.copy_from_slice-3.ensures.after ∙ part-is (at₂ + f.blocks) f.lists t;
    }
