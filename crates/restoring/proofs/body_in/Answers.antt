-- 15, 14 and 16 in turn; the body follows the header, as long as that says. Assumes nothing.
use Rattle.std.proofs.Common.{arith, sym, ◌∙◌}
use Rattle.restoring.specs.FoundLaws.{long-enough, room_for, taken-body, refused-15, refused-14, refused-16, refused-0}
use Rattle.restoring.proofs.body_in.Goals as goal

pub returns-then-no_image-clause-value : goal.returns-then-no_image-clause-value
returns-then-no_image-clause-value c = refused-15 c.args.area.now (sym c.no_image.ensures ∙ c.if-no_image.true)

pub word_at-n-requires : goal.word_at-n-requires
word_at-n-requires c = omega (arith, long-enough c.args.area.now (sym c.no_image.ensures ∙ c.if-no_image.false))

pub returns-then-too_short-clause-value : goal.returns-then-too_short-clause-value
returns-then-too_short-clause-value c =
    refused-14 c.args.area.now _ c.word_at-n.ensures (sym c.no_image.ensures ∙ c.if-no_image.false)
    (sym c.too_short.ensures ∙ c.if-too_short.true)

pub slice_bounds-body-end : goal.slice_bounds-body-end
slice_bounds-body-end c = room_for c.args.area.now _ (sym c.too_short.ensures ∙ c.if-too_short.false)

pub returns-then-no_body-clause-value : goal.returns-then-no_body-clause-value
returns-then-no_body-clause-value c =
    refused-16 c.args.area.now _ c.word_at-n.ensures (sym c.no_image.ensures ∙ c.if-no_image.false) (sym c.too_short.ensures ∙ c.if-too_short.false)
    (sym c.no_body.ensures ∙ c.if-no_body.true)

pub returns : goal.returns
returns c =
    record {
      value = refused-0 c.args.area.now _ c.word_at-n.ensures (sym c.no_image.ensures ∙ c.if-no_image.false) (sym c.too_short.ensures ∙ c.if-too_short.false)
          (sym c.no_body.ensures ∙ c.if-no_body.false);
      body = taken-body c.args.area.now _ c.word_at-n.ensures;
    }
