use Rattle.std.proofs.Common.{◌≡◌, sym, ap, ap₂, ◌∙◌, arith}
use Rattle.exam.specs.Scores.{plus, summed}
use Rattle.exam.proofs.Searching.{branch, searched-none, searched-at, branch-of, summed-next, room}
use Rattle.exam.proofs.search.+search.Goals as goal

pub returns-then-k-eq0 : goal.returns-then-k-eq0
returns-then-k-eq0 t c = searched-none c.args.q c.args.s c.args.k c.if-k-eq0.true

pub loop-a-preserved : goal.loop-a-preserved
loop-a-preserved t c =
    let a = c.args in
    let e = branch-of a.q a.s a.k c.loop-a.a (omega (arith, c.requires.0)) c.up.ensures c.hits.ensures c.search-more.ensures c.read.ensures in
    c.plus-next.ensures ∙ ap₂ plus c.loop-a.invariant e ∙ summed-next (branch a.q a.s a.k) c.loop-a.a

pub plus-next-requires : goal.plus-next-requires
plus-next-requires t c =
    let a = c.args in
    let e = branch-of a.q a.s a.k c.loop-a.a (omega (arith, c.requires.0)) c.up.ensures c.hits.ensures c.search-more.ensures c.read.ensures in
    rw (c.loop-a.invariant, e) (room a.q a.s a.k c.loop-a.a c.requires.0 c.requires.1 c.loop-a-test.true)

pub returns : goal.returns
returns t c =
    let a = c.args in
    let e : c.loop-a.a ≡ a.q.blocks = omega arith in
    c.loop-a.invariant ∙ ap (summed (branch a.q a.s a.k)) e ∙ sym (searched-at a.q a.s a.k c.if-k-eq0.false)
