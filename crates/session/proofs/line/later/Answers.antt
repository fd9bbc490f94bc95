-- The call, and its answer printed. Assumes nothing.
use Rattle.std.proofs.Common.{[], ◌∙◌, ap}
use Rattle.parts.specs.Rep.{numbers_of}
use Rattle.refusals.specs.Given.{counters_of}
use Rattle.policy.specs.Contract.{answer_of}
use Rattle.print.specs.Texts.{answer_text}
use Rattle.answers.specs.Replay.{asked, doing, next}
use Rattle.session.specs.Bytewise.{later_line}
use Rattle.session.specs.declared.Stage.TheVariants.{Open}
use Rattle.session.specs.Memory.{memory, within, state_in, stored}
use Rattle.session.proofs.Lining.{line-done}
use Rattle.session.proofs.line.later.Goals as goal

pub returns-clause-by_index : goal.returns-clause-by_index
unfolding state_in later_line
returns-clause-by_index c line =
    let a = c.args in
    let o = c.call_box-x in
    let M = memory a.s line a.disk.now a.flash.now a.addresses.now a.blocks.now a.out.now in
    let N = numbers_of a.s.box_record in
    let D = doing N (within a.s.box_record M.buffers (counters_of a.s.counters)) (asked N a.c) in
    line-done M Open (next a.s.number) o.result.box_record o.result.counters (numbers_of a.s.box_record) D.lent (answer_text a.s.number a.c (answer_of o.result.answer)) _ _ _ o.ensures.box_record_value o.ensures.blocks_after c.answer-filled.ensures.put
    ∙ ap (λ x. stored M (record { state = record { stage = Open; kept = []; number = next a.s.number; numbers = numbers_of a.s.box_record; lent = D.lent }; text = answer_text a.s.number a.c x })) o.ensures.answer_value
