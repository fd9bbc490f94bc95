use mathlib.Core.Path.{◌≡◌, refl, ◌∙◌}
use native.Mathlib.Omega.{arith}
use lib.ListN.{length}
use Rattle.lines.proofs.Bytewise.{later-space, later-letter, later-end}
use Rattle.lines.proofs.words.start.Goals as goal
use Rattle.lines.proofs.words.start.Goals.{then-line-i-eq32, else-line-i-eq32}

pub loop-i-preserved : goal.loop-i-preserved
loop-i-preserved c =
    let l = c.args.line.now in
    let i = c.loop-i.i in
    let n = c.loop-i.left in
    elim c.if-line-i-eq32.branch [
      | then-line-i-eq32 w ↦ c.loop-i.invariant ∙ later-space l i n (omega arith) w.if-line-i-eq32.true (omega arith) ∙ rw w.left-is refl
      | else-line-i-eq32 w ↦ c.loop-i.invariant ∙ later-letter l i n (omega arith) w.if-line-i-eq32.false (omega arith) ∙ rw w.left-is refl
    ]

pub returns : goal.returns
returns c =
    let l = c.args.line.now in
    let e : length l ≡ c.loop-i.i = omega arith in
    (omega arith, rw e (c.loop-i.invariant ∙ later-end l c.loop-i.i c.loop-i.left (omega arith)))
