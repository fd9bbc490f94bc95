-- No two bytes, or one of them no digit, or both of them digits. Assumes nothing.
use mathlib.Core.Path.{sym, ◌∙◌}
use Rattle.lines.proofs.Coding.{byte-length, byte-first, byte-second, byte-both}
use Rattle.lines.proofs.numbers.hexadecimal.Goals as goal

pub returns-then-w-ne2-clause-value : goal.returns-then-w-ne2-clause-value
returns-then-w-ne2-clause-value c = sym (byte-length c.args.w.now c.if-w-ne2.true)

pub returns-in_err-x-clause-value : goal.returns-in_err-x-clause-value
returns-in_err-x-clause-value c =
    c.from_residual.ensures ∙ sym (byte-first c.args.w.now c.if-w-ne2.false (sym c.in_err-x.ensures.value))

pub returns-in_err-y-clause-value : goal.returns-in_err-y-clause-value
returns-in_err-y-clause-value c =
    c.from_residual-in_err-y.ensures ∙ sym (byte-second c.args.w.now c.if-w-ne2.false _ (sym c.in_ok-x.ensures.value) (sym c.in_err-y.ensures.value))

pub returns-clause-value : goal.returns-clause-value
returns-clause-value c =
    sym (byte-both c.args.w.now c.if-w-ne2.false _ (sym c.in_ok-x.ensures.value) _ (sym c.in_ok-y.ensures.value))
