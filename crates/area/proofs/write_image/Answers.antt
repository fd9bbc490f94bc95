-- The header is cleared, the body is written, the header is written. Assumes nothing.
use Rattle.std.proofs.Common.{sym, ap, refl, ◌∙◌, arith}
use Rattle.image.specs.Area.{writes_for}
use Rattle.area.specs.Given.{body_from}
use Rattle.area.specs.ByteLaws.{writes_are, image-made}
use Rattle.area.proofs.write_image.Goals as goal

pub put_body-requires : goal.put_body-requires
put_body-requires c =
    let pre = c.requires in
    let w = writes_are c.args.len in
    (pre.0, omega arith, omega (arith, pre.2, w), sym w ∙ ap writes_for pre.3)

pub returns : goal.returns
returns c =
    let a = c.args in
    let body = body_from a.numbers.now a.label.now a.addresses.now a.blocks.now a.lists.now in
    let e = c.requires.3 in
    image-made body a.area.now _ _ _ _ _ a.len _ e (sym (writes_are a.len) ∙ ap writes_for e) c.write.ensures refl
    c.put_body.ensures c.write-2.ensures c.header_bytes.ensures.0
