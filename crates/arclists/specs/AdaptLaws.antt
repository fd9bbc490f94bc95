-- p's two changes, from the sizes. Assumes nothing.
use Rattle.std.specs.Prelude.{◌≡◌, Option, Some, ℕ, ◌+◌, ◌-◌, ◌/◌, ◌^◌, ◌<◌, min, ltb}
use Rattle.std.proofs.Math.Path.{sym}
use Rattle.std.proofs.Common.{ap, ◌∙◌, arith, ltb-false}
use borrow.Author.Tests.{ltb-true}
use Rattle.arc.specs.Arc.{Lists, larger, smaller, new_p, in_b1, in_b2}
use Rattle.paper.specs.KeyedLaws.{by-test}
use Rattle.arclists.specs.declared.ListSizes.{ListSizes}
use Rattle.arclists.specs.declared.ListName.{ListName}
use Rattle.arclists.specs.Holding.{Sized, was_of}

-- the sum, to at most n
pub sum-smaller : (n m k r : ℕ) → n < 2 ^ 64 → k ≡ min m (2 ^ 64 - 1) → r ≡ min k n → r ≡ smaller n m
sum-smaller n m k r b ek er =
    by-test (ltb n m) (λ e. let h = ltb-true n m e in rw e (omega (arith, h, b, ek, er)))
    (λ e. let h = ltb-false n m e in rw e (omega (arith, h, b, ek, er)))

module _ {s : ListSizes} {l : Lists} (z : Sized s l) {r : ℕ} where
  pub up : (q : ℕ) → q ≡ larger 1 (s.b2 / s.b1) → r ≡ smaller s.cached (s.p + q) → r ≡ new_p s.cached in_b1 l
  unfolding new_p
  up q eq er = rw (sym z.p-is, sym z.b1-is, sym z.b2-is, sym eq) er

  pub down : (q : ℕ) → q ≡ larger 1 (s.b1 / s.b2) → r ≡ s.p - q → r ≡ new_p s.cached in_b2 l
  unfolding new_p
  down q eq er = rw (sym z.p-is, sym z.b1-is, sym z.b2-is, sym eq) er

  -- the list that the address was in, as it is told
  pub as-told : (w v : Option ListName) → w ≡ v → r ≡ new_p s.cached (was_of v) l → r ≡ new_p s.cached (was_of w) l
  as-told w v e h = rw e h

  pub as-told-in : (w : Option ListName) (x y : ListName) → w ≡ Some x → x ≡ y → r ≡ new_p s.cached (was_of (Some y)) l → r ≡ new_p s.cached (was_of w) l
  as-told-in w x y e f h = as-told w (Some y) (e ∙ ap (λ u. Some u) f) h
