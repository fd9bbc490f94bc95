-- Refusal 7 in two passes: each row by itself, and no fingerprint twice. Assumes nothing.
use Rattle.std.specs.Prelude.{◌≡◌, refl, Bool, true, false, cond, ◌&&◌, List, [], ◌∷◌, ℕ, ltb, is_none}
use Rattle.std.proofs.Common.{ap, ◌∙◌}
use Rattle.tables.specs.Find.{all, every, find_from, caches, is_used}
use Rattle.tables.specs.Sound.{is_zero, tail_ok, block_ok, row_slot}
use Rattle.tables.specs.Index.{unique, row_ok}
use Rattle.tables.specs.Records.{read_block}

pub and-swap : (a b c e : Bool) → (a && b) && (c && e) ≡ (a && c) && (b && e)
and-swap true true c e = refl
and-swap true false true e = refl
and-swap true false false e = refl
and-swap false b c e = refl

pub every-and : {A : Type 0} (p q : A → List A → Bool) (xs : List A) → every (λ x ys. p x ys && q x ys) xs ≡ every p xs && every q xs
unfolding every
every-and p q [] = refl
every-and p q (x ∷ xs) = ap (λ b. (p x xs && q x xs) && b) (every-and p q xs) ∙ and-swap (p x xs) (q x xs) (every p xs) (every q xs)

cond-and : (u a b z : Bool) → cond u (a && b) z ≡ cond u a z && cond u b true
cond-and true a b z = refl
cond-and false a b true = refl
cond-and false a b false = refl

and-assoc2 : (a b c e : Bool) → a && (b && (c && e)) ≡ (a && (b && c)) && e
and-assoc2 true true c e = refl
and-assoc2 true false c e = refl
and-assoc2 false b c e = refl

ok-split : (d : ℕ) (r : List ℕ) (rs : List (List ℕ)) → block_ok d r rs ≡ row_ok d r rs && unique r rs
ok-split d r rs =
    ap (λ b. ltb (row_slot r) d && (tail_ok r && b)) (cond-and (is_used r) (all is_used rs) (is_none (find_from (caches (read_block r).fingerprint) 0 rs))
    (all is_zero (read_block r).fingerprint))
    ∙ and-assoc2 (ltb (row_slot r) d) (tail_ok r) (cond (is_used r) (all is_used rs) (all is_zero (read_block r).fingerprint)) (unique r rs)

pub every-same : {A : Type 0} (p q : A → List A → Bool) → ((x : A) (xs : List A) → p x xs ≡ q x xs) → (xs : List A) → every p xs ≡ every q xs
unfolding every
every-same p q e [] = refl
every-same p q e (x ∷ xs) = ap (λ b. b && every p xs) (e x xs) ∙ ap (λ b. q x xs && b) (every-same p q e xs)

pub sound-split : (d : ℕ) (rs : List (List ℕ)) → every (block_ok d) rs ≡ every (row_ok d) rs && every unique rs
sound-split d rs = every-same (block_ok d) (λ r l. row_ok d r l && unique r l) (ok-split d) rs ∙ every-and (row_ok d) unique rs
