-- Parts of n bytes one after another: part k starts at byte k × n.
use Rattle.std.specs.Prelude.{◌≡◌, refl, List, [], ◌∷◌, ◌++◌, ℕ, suc, zero, ◌<◌, ◌+◌, ◌*◌, ◌-◌, length, take, drop, set}
use Rattle.std.proofs.Common.{sym, ap, ap₂, ◌∙◌, subst, append_assoc, append-nil, arith, length-append, length-drop, take-append-drop, drop_at}
use Rattle.std.proofs.lemmas.List.{take-append-le}
use Rattle.std.proofs.Math.Seq.{take-append-add, drop-append-add}
use Rattle.tables.specs.Rows.{zeros}
use Rattle.paper.specs.Engine.{Fixed, fit, fit-front}
use Rattle.paper.specs.Lent.{join, split}

pub length-split : (n k : ℕ) (l : List ℕ) → length (split n k l) ≡ k
unfolding split
length-split n zero l = refl
length-split n (suc k) l = ap suc (length-split n k (drop n l))

pub length-join : (n : ℕ) (bs : List (Fixed n)) → length (join bs) ≡ length bs * n
length-join n [] = omega arith
length-join n (b ∷ bs) = length-append b.0 (join bs) ∙ ap₂ ◌+◌ b.1 (length-join n bs) ∙ omega arith

-- parts that are joined come apart again, and parts that were split are the bytes
pub split-join : (n k : ℕ) (bs : List (Fixed n)) → length bs ≡ k → split n k (join bs) ≡ bs
unfolding split
split-join n k bs e = subst (λ j. split n j (join bs) ≡ bs) e (ap (split n (length bs)) (sym (append-nil (join bs))) ∙ go bs [])
  where
    go : (bs : List (Fixed n)) (rest : List ℕ) → split n (length bs) (join bs ++ rest) ≡ bs
    go [] rest = refl
    go (b ∷ bs) rest =
        rw (append_assoc b.0 (join bs) rest)
        (ap₂ {C = List (Fixed n)} (λ x l. x ∷ l) (fit-front n b (join bs ++ rest))
        (ap (split n (length bs)) (drop_at b.0 (join bs ++ rest) n b.1) ∙ go bs rest))

pub join-split : (n k : ℕ) (l : List ℕ) → length l ≡ k * n → join (split n k l) ≡ l
unfolding split fit
join-split n zero l e = nil l (e ∙ omega arith)
  where
    nil : (l : List ℕ) → length l ≡ 0 → ◌≡◌ {A = List ℕ} [] l
    nil [] e = refl
    nil (x ∷ xs) e = absurd (omega arith)
join-split n (suc k) l e =
    ap₂ {C = List ℕ} ◌++◌ (take-append-le n l (zeros n) (omega arith)) (join-split n k (drop n l) (length-drop n l ∙ omega arith)) ∙ take-append-drop n l

-- setting part k replaces the n bytes from k × n
pub join-set : (n : ℕ) (bs : List (Fixed n)) (k : ℕ) (b : Fixed n) → k < length bs
    → join (set bs k b) ≡ take (k * n) (join bs) ++ (b.0 ++ drop (k * n + n) (join bs))
join-set n [] k b h = absurd (omega arith)
join-set n (x ∷ xs) zero b h =
    let z : 0 * n ≡ 0 = omega arith in
    rw z (ap (λ r. b.0 ++ r) (sym (drop_at x.0 (join xs) (0 + n) (x.1 ∙ omega arith))))
join-set n (x ∷ xs) (suc k) b h =
    let lx : length x.0 ≡ n = x.1 in
    let e₁ : suc k * n ≡ length x.0 + k * n = omega arith in
    let e₂ : suc k * n + n ≡ length x.0 + (k * n + n) = omega arith in
    ap (λ r. x.0 ++ r) (join-set n xs k b (omega arith))
    ∙ sym (append_assoc x.0 (take (k * n) (join xs)) (b.0 ++ drop (k * n + n) (join xs)))
    ∙ ap₂ {C = List ℕ} (λ p q. p ++ (b.0 ++ q))
    (sym (ap (λ j. take j (x.0 ++ join xs)) e₁ ∙ take-append-add x.0 (join xs) (k * n)))
    (sym (ap (λ j. drop j (x.0 ++ join xs)) e₂ ∙ drop-append-add x.0 (join xs) (k * n + n)))
