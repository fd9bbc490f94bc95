-- A list searched from the front. Assumes nothing.
use Rattle.std.proofs.Common.{◌≡◌, ◌≤◌, ◌<◌, ℕ, suc, Bool, true, false, Option, List, [], ◌∷◌, refl, sym, length, cond, arith}
use Rattle.std.specs.List.{AllWithin, HoldsAt}
use Rattle.std.specs.Option.{MatchOption, unwrap_or}
use Rattle.std.proofs.lemmas.Iterator.{index_from_first}
use Rattle.paper.specs.Index.{index_where}

index-short : (p : ℕ → Bool) (xs : List ℕ) → index_where p xs ≤ length xs
unfolding index_where
index-short p [] = omega arith
index-short p (x ∷ xs) =
    let h = index-short p xs in
    elim (p x) as (λ b. cond b 0 (suc (index_where p xs)) ≤ suc (length xs)) [
      | true ↦ omega arith
      | false ↦ omega arith
    ]

-- what a search for the first place finds, the length where there is none
pub index-found : (p : ℕ → Bool) (xs : List ℕ) (r : Option ℕ)
    → MatchOption r (AllWithin (λ x. p x ≡ false) xs 0 (length xs)) (λ i. (i < length xs) × HoldsAt (λ x. p x ≡ true) xs i × AllWithin (λ x. p x ≡ false) xs 0 i)
    → (unwrap_or r (length xs) ≤ length xs) × (unwrap_or r (length xs) ≡ index_where p xs)
unfolding index_where
index-found p xs r h =
    let e = index_from_first (index_where p) (λ x. p x ≡ true) (λ x. p x ≡ false) refl (λ x ys q. rw q refl) (λ x ys q. rw q (omega arith)) xs r h in
    let s = index-short p xs in
    (omega arith, sym e)
