use Rattle.std.specs.Prelude.{length, get_or, ◌≡◌, ◌*◌}
use Rattle.std.proofs.Common.{refl, sym, ap, ◌∙◌, arith, add-one}
use borrow.Author.Tests.{eq-eqb}
use Rattle.exam.specs.Contract.{counts_bytes}
use Rattle.fields.specs.Fields.{put8, put_counts, counts_after}
use Rattle.fields.specs.FieldLaws.{counts-kept}
use Rattle.fields.proofs.put_counts.Goals as goal

pub loop-h-init : goal.loop-h-init
unfolding put_counts
loop-h-init c = record { long = c.if-s-ne-COUNTS.false; written = refl }

pub loop-h-preserved : goal.loop-h-preserved
unfolding put_counts put8
loop-h-preserved c =
    let a = c.args in
    let h = c.loop-h.h in
    let e = c.put8.ensures ∙ ap (put8 (h * 8) (get_or a.c h 0)) c.loop-h.invariant.written ∙ sym (ap (λ n. put_counts n a.c a.s.now) (add-one h)) in
    record { long = omega arith; written = e }

pub returns : goal.returns
unfolding counts_after
returns c =
    let a = c.args in
    let n : c.loop-h.h ≡ 9 = omega arith in
    rw (eq-eqb (length a.s.now) counts_bytes c.if-s-ne-COUNTS.false) (c.loop-h.invariant.written ∙ ap (λ h. put_counts h a.c a.s.now) n)

pub returns-then-s-ne-COUNTS : goal.returns-then-s-ne-COUNTS
returns-then-s-ne-COUNTS c = let a = c.args in sym (counts-kept a.c a.s.now c.if-s-ne-COUNTS.true)
