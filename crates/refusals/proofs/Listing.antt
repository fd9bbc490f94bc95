-- Addresses gone through from the front, and products by quotient and rest. Assumes nothing.
use mathlib.Core.Path.{◌≡◌, refl, sym, ap, ◌∙◌}
use mathlib.Core.Bool.{false, ◌||◌}
use mathlib.Core.List.{List, [], ◌∷◌}
use Rattle.std.specs.List.{list_any}
use Prim.Native.Nat.{ℕ, ◌+◌, ◌*◌, ◌/◌, ◌%◌, ◌<◌}
use native.Mathlib.Omega.{arith}
use native.Mathlib.Nat.{div-add-mod', mul-zero}
use lib.Arith.{digits_div, digits_mod}
use lib.Dec.{eqb, leb}
use borrow.Author.Tests.{eq-eqb, ne_eqb, eqb-true, eqb-false}
use Rattle.paper.specs.KeyedLaws.{by-test}
use Rattle.paper.specs.BatchLent.{any_outside}

plus_none : (x : ℕ) → x + 0 ≡ x
plus_none x = omega arith

pub product-none : (n s len : ℕ) → s ≡ 0 → eqb len 0 ≡ eqb len (n * s)
product-none n s len e = ap (eqb len) (sym (ap (λ x. n * x) e ∙ mul-zero n))

pub product-rest : (n s len : ℕ) → 0 < s → (len % s ≡ 0 → ⊥) → false ≡ eqb len (n * s)
product-rest n s len p q = sym (ne_eqb len (n * s) (λ e. q (ap (λ x. x % s) (e ∙ sym (plus_none (n * s))) ∙ digits_mod n p)))

pub product-quotient : (n s len : ℕ) → 0 < s → len % s ≡ 0 → eqb (len / s) n ≡ eqb len (n * s)
product-quotient n s len p e =
    let whole : len ≡ len / s * s = sym (div-add-mod' len s) ∙ ap (λ x. len / s * s + x) e ∙ plus_none (len / s * s) in
    by-test (eqb (len / s) n)
    (λ y. y ∙ sym (eq-eqb len (n * s) (whole ∙ ap (λ x. x * s) (eqb-true (len / s) n y))))
    (λ y. y ∙ sym (ne_eqb len (n * s) (λ q. eqb-false (len / s) n y (ap (λ x. x / s) (q ∙ sym (plus_none (n * s))) ∙ digits_div n p))))

-- an address is outside
pub any-outside : (p : ℕ) (l : List ℕ) → list_any (leb p) l ≡ any_outside p l
any-outside p [] = refl
any-outside p (a ∷ l) = ap (λ x. leb p a || x) (any-outside p l)
