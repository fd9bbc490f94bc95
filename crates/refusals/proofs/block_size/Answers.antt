-- What the array contains is what is in the list. Assumes nothing.
use Rattle.std.specs.Prelude.{◌≡◌, ◌||◌, true, false, Bool, ℕ, List, [], ◌∷◌, eqb}
use Rattle.std.specs.List.{list_any}
use Rattle.std.proofs.Common.{rules, refl, ap, sym, ◌∙◌, eqb-true, eq-eqb, ne_eqb}
use Rattle.std.proofs.lemmas.Bool.{eqb-false}
use Rattle.paper.specs.KeyedLaws.{by-test}
use Rattle.tables.specs.Unsound.{elem}
use Rattle.refusals.specs.Checks.{sizes}
use Rattle.refusals.proofs.block_size.Goals as goal

turned : (x s : ℕ) → eqb x s ≡ eqb s x
turned x s = by-test (eqb s x) (λ e. eq-eqb x s (sym (eqb-true s x e)) ∙ sym e) (λ e. ne_eqb x s (λ q. eqb-false s x e (sym q)) ∙ sym e)

contained : (s : ℕ) (xs : List ℕ) → list_any (λ y. eqb y s) xs ≡ elem s xs
unfolding elem
contained s [] = refl
contained s (x ∷ xs) = ap (λ (b : Bool). b || list_any (λ y. eqb y s) xs) (turned x s) ∙ ap (λ (b : Bool). eqb s x || b) (contained s xs)

pub returns : goal.returns
returns c = c.contains.ensures.value ∙ contained c.args.s sizes
