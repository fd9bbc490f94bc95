-- Each test in turn is one of the definition. Assumes nothing.
use Rattle.std.proofs.Common.{arith}
use Rattle.std.proofs.lemmas.Grind.{common_steps}
use Rattle.restoring.specs.FoundLaws.{short-area, no-mark, no-version-3, no-version-4, image-zeros}
use Rattle.restoring.proofs.no_image.Goals as goal

pub returns-then-area-ne0 : goal.returns-then-area-ne0
returns-then-area-ne0 c =
    let a = c.args.area.now in
    grind (arith, common_steps, short-area a, no-mark a, no-version-3 a, no-version-4 a)

pub returns-else-area-ne0 : goal.returns-else-area-ne0
returns-else-area-ne0 c =
    let a = c.args.area.now in
    grind (arith, common_steps, image-zeros a)
