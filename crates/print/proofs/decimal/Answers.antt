-- The digits in the array are those of the number. Assumes nothing.
use Rattle.std.proofs.Common.{rules}
use mathlib.Core.Path.{ap, ◌∙◌}
use Prim.Native.Nat.{◌+◌}
use lib.ListN.{length}
use Rattle.block.specs.Blocks.{splice}
use Rattle.print.proofs.Digits.{spelled}
use Rattle.print.proofs.decimal.Goals as goal

pub returns-clause-put : goal.returns-clause-put
returns-clause-put c =
    let a = c.args in
    let e = c.decimal-k.ensures in
    let t = c.text.ensures in
    let s = spelled a.n _ _ (search rules) e.len e.digits in
    (t.0 ∙ ap (λ l. a.at + length l) s, t.1 ∙ ap (λ l. splice a.at l a.out.now) s)
