-- The block goes to its part of the flash, the fingerprint to its row. Assumes nothing.
use mathlib.Core.Path.{sym, ap, ◌∙◌}
use mathlib.Core.List.{List}
use Prim.Native.Nat.{ℕ, ◌*◌}
use Rattle.block.specs.Blocks.{splice}
use Rattle.tables.specs.Operations.{row_filled}
use Rattle.parts.specs.CopyLaws.{put-block-is}
use Rattle.step.proofs.Stepping.{filled_at}
use Rattle.std.proofs.Common.{rules}
use Rattle.step.proofs.steps.fill.Goals as goal

pub returns : goal.returns
returns c =
    let a = c.args in
    λ free used fl f x hb hf p kb e ef ex. (
      c.put_slot.ensures ∙ ap (λ (y : List ℕ). splice (a.slot.0 * a.b.size) y a.flash.now) (sym ex) ∙ put-block-is a.b.size a.b.slots a.flash.now fl hf a.slot.0 kb x,
      c.put_block.ensures ∙ ap (λ (y : List ℕ). row_filled a.b.slots a.t y a.blocks.now) (sym ef) ∙ filled_at a.b.slots a.blocks.now free used a.t a.slot.0 f hb p e,
    )
