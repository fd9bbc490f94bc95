-- The last line, and the counters after it. Assumes nothing.
use mathlib.Core.Path.{refl, sym, ◌∙◌}
use Rattle.session.specs.Memory.{memory, ended, after_of}
use Rattle.session.specs.MemoryLaws.{fitting}
use Rattle.replay.proofs.Feeding.{end_is}
use Rattle.replay.proofs.feed.finish.Goals as goal

pub returns-then-not-fit : goal.returns-then-not-fit
unfolding ended
returns-then-not-fit c = rw (sym c.fit.ensures ∙ c.if-not-fit.true) refl

pub last_line-f-requires : goal.last_line-f-requires
last_line-f-requires c =
    let a = c.args in
    let g = fitting (memory a.s a.line.now a.disk.now a.flash.now a.addresses.now a.blocks.now a.out.now) (sym c.fit.ensures ∙ c.if-not-fit.false) in
    record {
      holds = g.holds;
      sized = g.sized;
      out_len = (g.out, g.line, g.kept);
    }

pub last_counters-requires : goal.last_counters-requires
last_counters-requires c =
    let a = c.args in
    let g = fitting (memory a.s a.line.now a.disk.now a.flash.now a.addresses.now a.blocks.now a.out.now) (sym c.fit.ensures ∙ c.if-not-fit.false) in
    (c.last_line-f.ensures.filled_bound, c.last_line-f.auto.out ∙ g.out)

pub returns : goal.returns
unfolding ended
returns c =
    let a = c.args in
    let f = c.last_line-f in
    let r = c.last_counters in
    rw (sym c.fit.ensures ∙ c.if-not-fit.false)
    (end_is (memory a.s a.line.now a.disk.now a.flash.now a.addresses.now a.blocks.now a.out.now) (after_of f.result a.line.now f.new.disk f.new.flash f.new.addresses f.new.blocks f.new.out)
    r.result.session r.result.filled r.new.out f.ensures.out_after r.ensures.session_value r.ensures.put)
