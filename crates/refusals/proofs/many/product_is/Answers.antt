-- By the quotient and the rest. Assumes nothing.
use mathlib.Core.Path.{◌≡◌, refl, sym, ap, ◌∙◌}
use native.Mathlib.Omega.{arith}
use Rattle.refusals.proofs.Listing.{product-none, product-rest, product-quotient}
use Rattle.std.proofs.Common.{rules}
use Rattle.refusals.proofs.many.product_is.Goals as goal

pub returns-then-s-eq0 : goal.returns-then-s-eq0
returns-then-s-eq0 c = let a = c.args in product-none a.n a.s a.len c.if-s-eq0.true

pub returns-then-len-s-ne0 : goal.returns-then-len-s-ne0
returns-then-len-s-ne0 c =
    let a = c.args in
    let s = c.if-s-eq0.false in
    product-rest a.n a.s a.len (omega (arith, s)) c.if-len-s-ne0.true

pub returns : goal.returns
returns c =
    let a = c.args in
    let s = c.if-s-eq0.false in
    product-quotient a.n a.s a.len (omega (arith, s)) c.if-len-s-ne0.false
