-- By whether the fingerprint has a place and a row still has it. Assumes nothing.
use mathlib.Core.Path.{◌∙◌}
use Prim.Native.Nat.{◌<◌}
use native.Mathlib.Omega.{arith}
use Rattle.step.specs.Dropping.{drop-out, drop-known, drop-freed, not_there, there, known_as, freed-at}
use Rattle.std.proofs.Common.{rules}
use Rattle.step.proofs.steps.free_unknown.Goals as goal

pub returns-then-d-place : goal.returns-then-d-place
returns-then-d-place c =
    let a = c.args in
    λ B l free used r h hb ds e. drop-out B a.b.slots a.blocks.now l free used hb r (not_there B a.b.slots a.blocks.now free used hb a.place r.fingerprint e c.if-d-place.true)

pub returns-then-knows : goal.returns-then-knows
returns-then-knows c =
    let a = c.args in
    λ B l free used r h hb ds e.
    drop-known B a.b.slots a.blocks.now l free used hb r
    (known_as B a.b.slots a.blocks.now free used hb a.place r.fingerprint e (omega (arith, c.if-d-place.false)) l c.knows.result _ c.block_fingerprint.ensures.0 (λ q. c.knows.ensures.by_index a.b.blocks a.b.rows l q h) ∙ c.if-knows.true)

pub returns : goal.returns
returns c =
    let a = c.args in
    let lt : a.place < a.b.slots = omega (arith, c.if-d-place.false) in
    λ B l free used r h hb ds e.
    drop-freed B a.b.slots a.blocks.now l free used hb r
    (known_as B a.b.slots a.blocks.now free used hb a.place r.fingerprint e lt l c.knows.result _ c.block_fingerprint.ensures.0 (λ q. c.knows.ensures.by_index a.b.blocks a.b.rows l q h) ∙ c.if-knows.false)
    (there B a.b.slots a.blocks.now free used hb a.place r.fingerprint e lt) _ (c.to_front.ensures ∙ freed-at B a.b.slots a.blocks.now free used hb a.place r.fingerprint e lt ds)
