-- By line 1's refusal. Assumes nothing.
use Rattle.std.proofs.Common.{[], sym, refl, ap, ◌∙◌, subst}
use Rattle.block.specs.Blocks.{splice}
use Rattle.parts.specs.Rep.{numbers_of}
use Rattle.refusals.specs.Given.{counters_of}
use Rattle.answers.specs.Replay.{Opening, box_numbers, started}
use Rattle.session.specs.declared.Stage.TheVariants.{Open, Over}
use Rattle.session.specs.Memory.{memory, over, state_in, stored, Holds}
use Rattle.session.specs.MemoryLaws.{opened-fits}
use Rattle.session.specs.BufferLaws.{over-same}
use Rattle.session.proofs.Lining.{line-done, refused-is, begun-is}
use Rattle.session.proofs.line.first.Goals as goal

pub returns-in-Err-clause-by_index : goal.returns-in-Err-clause-by_index
unfolding state_in
returns-in-Err-clause-by_index c line =
    let a = c.args in
    let M = memory a.s line a.disk.now a.flash.now a.addresses.now a.blocks.now a.out.now in
    line-done M Over a.s.number a.s.box_record a.s.counters _ _ _ M.buffers _ _ refl (over-same a.s.box_record (counters_of a.s.counters) a.disk.now a.flash.now a.addresses.now a.blocks.now) c.answer-filled.ensures.put
    ∙ ap (stored M) (refused-is (state_in M) a.c c.in-Err.r c.in-Err.ensures)

pub open_box-x-requires : goal.open_box-x-requires
open_box-x-requires c =
    let a = c.args in
    let e = c.box_of.ensures in
    let f = opened-fits a.c (sym c.in_default.ensures) in
    record {
      holds = subst Holds (sym e) f.1;
      opening = subst (λ b. Opening (numbers_of b)) (sym e) f.0;
      sized = c.requires.sized;
    }

pub returns-clause-by_index : goal.returns-clause-by_index
unfolding state_in splice
returns-clause-by_index c line =
    let a = c.args in
    let o = c.open_box-x in
    let e = c.box_of.ensures in
    let M = memory a.s line a.disk.now a.flash.now a.addresses.now a.blocks.now a.out.now in
    line-done M Open 1 o.result.box_record o.result.counters (box_numbers a.c) (started (box_numbers a.c)) [] _ a.out.now 0 (o.ensures.box_record_value ∙ ap numbers_of e) (o.ensures.blocks_after ∙ ap (λ b. over (started (numbers_of b)) M.buffers) e) (refl, refl)
    ∙ ap (stored M) (begun-is (state_in M) a.c (sym c.in_default.ensures))
