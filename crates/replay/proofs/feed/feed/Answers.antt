-- By whether the memory fits, and the byte. Assumes nothing.
use mathlib.Core.Path.{refl, sym, ◌∙◌}
use borrow.Author.Tests.{eq-eqb, ne_eqb}
use Rattle.session.specs.Bytewise.{byte_in}
use Rattle.session.specs.Memory.{memory, fed}
use Rattle.session.specs.MemoryLaws.{fitting}
use Rattle.replay.proofs.feed.feed.Goals as goal

pub returns-then-not-fit : goal.returns-then-not-fit
unfolding fed
returns-then-not-fit c = rw (sym c.fit.ensures ∙ c.if-not-fit.true) refl

pub end_line-requires : goal.end_line-requires
end_line-requires c =
    let a = c.args in
    let g = fitting (memory a.s a.line.now a.disk.now a.flash.now a.addresses.now a.blocks.now a.out.now) (sym c.fit.ensures ∙ c.if-not-fit.false) in
    record {
      holds = g.holds;
      sized = g.sized;
      out_len = (g.out, g.line, g.kept);
    }

pub returns-then-x-eq10 : goal.returns-then-x-eq10
unfolding fed byte_in
returns-then-x-eq10 c = rw (sym c.fit.ensures ∙ c.if-not-fit.false, eq-eqb _ _ c.if-x-eq10.true) c.end_line.ensures.out_after

pub keep_byte-t-requires : goal.keep_byte-t-requires
keep_byte-t-requires c =
    let a = c.args in
    let g = fitting (memory a.s a.line.now a.disk.now a.flash.now a.addresses.now a.blocks.now a.out.now) (sym c.fit.ensures ∙ c.if-not-fit.false) in
    (g.line, g.kept)

pub returns : goal.returns
unfolding fed byte_in
returns c =
    let a = c.args in
    rw (sym c.fit.ensures ∙ c.if-not-fit.false, ne_eqb _ _ c.if-x-eq10.false) (c.keep_byte-t.ensures a.disk.now a.flash.now a.addresses.now a.blocks.now a.out.now)
