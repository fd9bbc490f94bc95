-- The call made in the first parts of the buffers, and those put back. Assumes nothing.
use Rattle.std.proofs.Common.{ap, ◌∙◌}
use Rattle.parts.specs.Rep.{numbers_of}
use Rattle.refusals.specs.Given.{counters_of}
use Rattle.answers.specs.Replay.{Done, asked, doing}
use Rattle.session.proofs.Boxing.{within-is, put_back}
use Rattle.session.proofs.line.call_box.Goals as goal

pub returns : goal.returns
returns c =
    let a = c.args in
    let r = c.call in
    let d = r.new in
    let k = r.auto in
    let w = within-is a.b (counters_of a.k) a.disk.now a.flash.now a.addresses.now a.blocks.now in
    let e = r.ensures.blocks_after ∙ ap (λ l. doing (numbers_of a.b) l (asked (numbers_of a.b) a.c)) w in
    record {
      box_record_value = r.ensures.box_record_value;
      answer_value = ap (λ (x : Done). x.answer) e;
      blocks_after = put_back a.b r.result.box_record (counters_of r.result.counters) _ a.disk.now a.flash.now a.addresses.now a.blocks.now
          d.disk d.flash d.addresses d.blocks c.requires.holds c.requires.sized k.disk k.flash k.addresses k.blocks (ap (λ (x : Done). x.lent) e);
    }
