-- By the three conditions of the step, in the order of the code. Assumes nothing.
use mathlib.Core.Path.{refl, sym, ap, ◌∙◌}
use Prim.Native.Nat.{◌-◌}
use native.Mathlib.Omega.{arith}
use lib.ListN.{take}
use Rattle.paper.specs.KeyedLaws.{clash}
use Rattle.parts.specs.Asked.{full}
use Rattle.table_laws.specs.Written.{front-free}
use Rattle.step.proofs.Stepping.{gone-out, gone-known, gone-cached, gone-freed}
use Rattle.std.proofs.Common.{rules}
use Rattle.step.proofs.steps.step3.Goals as goal

pub returns-then-d-place : goal.returns-then-d-place
returns-then-d-place c =
    let a = c.args in
    record {
      blocks_after = (λ B l free used gone h hb ds e. gone-out B a.b.slots a.blocks.now (take (a.b.held - 1) l) l free used hb a.place gone e c.if-d-place.true);
      blocks_unchanged = λ f. refl;
    }

pub returns-then-knows : goal.returns-then-knows
returns-then-knows c =
    let a = c.args in
    record {
      blocks_after = (λ B l free used gone h hb ds e. gone-known B a.b.slots a.blocks.now (take (a.b.held - 1) l) l free used hb a.place c.knows.result _ c.block_fingerprint.ensures.0 (λ q. c.knows.ensures.by_index a.b.blocks a.b.rows l q h) (omega (arith, c.if-d-place.false)) gone e c.if-knows.true);
      blocks_unchanged = λ f. refl;
    }

pub returns-then-uncached : goal.returns-then-uncached
returns-then-uncached c =
    let a = c.args in
    record {
      blocks_after = (λ B l free used gone h hb ds e. c.to_front.ensures
          ∙ gone-freed B a.b.slots a.blocks.now (take (a.b.held - 1) l) l free used hb a.place c.knows.result _ c.block_fingerprint.ensures.0 (λ q. c.knows.ensures.by_index a.b.blocks a.b.rows l q h) (omega (arith, c.if-d-place.false)) gone e c.if-knows.false ds
          (sym (c.uncached.ensures.value_2 B a.b.blocks a.b.rows a.b.held l free used h hb (omega arith)) ∙ c.if-uncached.true));
      blocks_unchanged = λ f. clash (ap full (sym c.to_front.ensures) ∙ f) (front-free a.b.slots a.place a.blocks.now c.requires.held_nonzero.2.2 (omega (arith, c.if-d-place.false)));
    }

pub returns-else-uncached : goal.returns-else-uncached
returns-else-uncached c =
    let a = c.args in
    record {
      blocks_after = (λ B l free used gone h hb ds e. gone-cached B a.b.slots a.blocks.now (take (a.b.held - 1) l) l free used hb a.place gone
          (sym (c.uncached.ensures.value_2 B a.b.blocks a.b.rows a.b.held l free used h hb (omega arith)) ∙ c.if-uncached.false));
      blocks_unchanged = λ f. refl;
    }
