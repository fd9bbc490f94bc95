-- What the search of the range finds is the place of the first address. Assumes nothing.
use Rattle.std.specs.Prelude.{◌≡◌, ◌*◌}
use Rattle.std.proofs.Common.{rules}
use Rattle.std.proofs.lemmas.Iterator.{first_from_Range}
use Rattle.tables.specs.Rows.{le4}
use Rattle.arclists.specs.PlaceLaws.{place-found}
use Rattle.arclists.proofs.words.find_word.Goals as goal

pub returns : goal.returns
returns c =
    let a = c.args in
    place-found a.a a.total a.lists.now c.find.result
    (first_from_Range _ _ _ _ (λ k. le4 a.lists.now (k * 4) ≡ a.a) (λ k. le4 a.lists.now (k * 4) ≡ a.a → ⊥) c.find.ensures.ran
    (λ x q k. search rules) (λ x q k. search rules))
