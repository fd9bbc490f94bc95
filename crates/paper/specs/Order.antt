-- Lists of keys in the order of their newest use, and two lists of which one is the other's newest part.
use Rattle.std.specs.Prelude.{◌≡◌, refl, Bool, true, false, ◌||◌, cond, List, [], ◌∷◌, ◌++◌, map, ◌⊎◌}
use Rattle.std.proofs.Common.{sym, ap, ◌∙◌, append_assoc, inl, inr}
use Rattle.paper.specs.Keyed.{has, without}
use Rattle.paper.specs.KeyedLaws.{by-test, or_left, or_right, or-both, same-sym-false, has-append, without-append}

-- one of two lists is the other's newest part
abbrev pub Nested : {A : Type 0} → List A → List A → Type 0
Nested {A} D R = ((O : List A) × (D ≡ O ++ R)) ⊎ ((O : List A) × (R ≡ O ++ D))
