-- Each test in turn. Assumes nothing.
use mathlib.Core.Path.{◌≡◌, refl, sym, ap, ◌∙◌}
use mathlib.Core.Bool.{not}
use native.Mathlib.Omega.{arith}
use lib.Dec.{eqb}
use lib.ListN.{length}
use borrow.Author.Tests.{lt-ltb, le-ltb}
use Rattle.refusals.specs.Checks.{list_refusal}
use Rattle.std.proofs.Common.{rules}
use Rattle.refusals.proofs.many.of_list.Goals as goal

pub returns-then-not-product_is : goal.returns-then-not-product_is
unfolding list_refusal
returns-then-not-product_is c =
    rw (sym c.product_is.ensures ∙ c.if-not-product_is.true) refl

pub returns-then-is_empty : goal.returns-then-is_empty
unfolding list_refusal
returns-then-is_empty c =
    let a = c.args in
    rw (sym c.product_is.ensures ∙ c.if-not-product_is.false, sym c.is_empty.ensures ∙ c.if-is_empty.true) refl

pub returns-then-asked-gt64 : goal.returns-then-asked-gt64
unfolding list_refusal
returns-then-asked-gt64 c =
    let a = c.args in
    rw (sym c.product_is.ensures ∙ c.if-not-product_is.false, sym c.is_empty.ensures ∙ c.if-is_empty.false, lt-ltb 64 (length a.asked.now) c.if-asked-gt64.true) refl

pub returns-then-any_outside : goal.returns-then-any_outside
unfolding list_refusal
returns-then-any_outside c =
    let a = c.args in
    rw (sym c.product_is.ensures ∙ c.if-not-product_is.false, sym c.is_empty.ensures ∙ c.if-is_empty.false, le-ltb 64 (length a.asked.now) c.if-asked-gt64.false, sym c.any_outside.ensures ∙ c.if-any_outside.true) refl

pub returns : goal.returns
unfolding list_refusal
returns c =
    let a = c.args in
    rw (sym c.product_is.ensures ∙ c.if-not-product_is.false, sym c.is_empty.ensures ∙ c.if-is_empty.false, le-ltb 64 (length a.asked.now) c.if-asked-gt64.false, sym c.any_outside.ensures ∙ c.if-any_outside.false) refl
