-- By whether there is a block to bring. Assumes nothing.
use mathlib.Core.Path.{sym, ap, ◌∙◌}
use mathlib.Core.Bool.{cond}
use Prim.Native.Nat.{◌*◌}
use native.Mathlib.Omega.{arith}
use borrow.Author.Tests.{lt-ltb, le-ltb}
use Rattle.block.specs.Blocks.{part, splice}
use Rattle.block.specs.Laws.{product-fits}
use Rattle.parts.specs.CopyLaws.{block-ends}
use Rattle.turns.specs.TurnLaws.{paste-splice}
use Rattle.turns.proofs.bring.Goals as goal

-- both products fit
pub overflow_mul-k : goal.overflow_mul-k
overflow_mul-k c =
    let p = c.requires in
    product-fits 64 4096 c.args.k c.args.size (omega (arith, p.1)) p.2 (omega arith)

pub overflow_mul-i : goal.overflow_mul-i
overflow_mul-i c =
    let p = c.requires in
    product-fits 64 4096 c.args.i c.args.size (omega (arith, p.1, c.if-i-k.true)) p.2 (omega arith)

pub move_up-requires : goal.move_up-requires
move_up-requires c =
    let e = block-ends c.args.i c.args.k c.args.size c.if-i-k.true in
    (omega arith, c.requires.0)

pub returns-then-i-k : goal.returns-then-i-k
returns-then-i-k c =
    let a = c.args in
    let e = block-ends a.i a.k a.size c.if-i-k.true in
    c.move_up.ensures
    ∙ paste-splice a.buffer.now (a.k * a.size) (a.i * a.size) a.size (omega (arith, e, c.requires.0))
    ∙ sym (ap (λ x. cond x (splice (a.k * a.size) (part (a.i * a.size) a.size a.buffer.now) a.buffer.now) a.buffer.now)
    (lt-ltb a.i a.k c.if-i-k.true))

pub returns-else-i-k : goal.returns-else-i-k
returns-else-i-k c =
    let a = c.args in
    sym (ap (λ x. cond x (splice (a.k * a.size) (part (a.i * a.size) a.size a.buffer.now) a.buffer.now) a.buffer.now)
    (le-ltb a.i a.k c.if-i-k.false))
