-- `lists P k` has every list of k addresses below P, each once; `each-list` says that it has no other.
use Rattle.std.specs.Prelude.{◌≡◌, refl, false, ◌&&◌, cond, List, [], ◌∷◌, ℕ, zero, suc, ◌+◌, ◌≤◌, ◌<◌, eqb, length}
use Rattle.std.proofs.Common.{sym, ap, ap₂, ◌∙◌, arith, eqb-true, ne_eqb}
use Rattle.std.proofs.lemmas.Bool.{eqb-false}
use Rattle.tables.specs.Find.{same}
use Rattle.paper.specs.KeyedLaws.{All, by-test, eqb-self}
use Rattle.exam.specs.Scores.{lists, how_many}
use Rattle.exam.specs.ScoreLaws.{below, many-none, many-each}

none-begins : (a b : ℕ) (l : List ℕ) (ls : List (List ℕ)) → eqb a b ≡ false → how_many (λ r. same (a ∷ l) (b ∷ r)) ls ≡ 0
unfolding same
none-begins a b l ls e = many-none (λ r. same (a ∷ l) (b ∷ r)) ls (go ls)
  where
    go : (ls : List (List ℕ)) → All (λ r. same (a ∷ l) (b ∷ r) ≡ false) ls
    go [] = tt
    go (r ∷ rs) = (rw e refl, go rs)

all-begin : (a : ℕ) (l : List ℕ) (ls : List (List ℕ)) → how_many (λ r. same (a ∷ l) (a ∷ r)) ls ≡ how_many (same l) ls
unfolding same
all-begin a l [] = refl
all-begin a l (r ∷ rs) = ap₂ (λ b n. n + cond (b && same l r) 1 0) (eqb-self a) (all-begin a l rs)

-- every list is counted once
pub lists-once : (P k : ℕ) (l : List ℕ) → length l ≡ k → All (λ a. a < P) l → how_many (same l) (lists P k) ≡ 1
unfolding lists same
lists-once P zero [] e w = refl
lists-once P zero (a ∷ l) e w = absurd (omega arith)
lists-once P (suc k) [] e w = absurd (omega arith)
lists-once P (suc k) (a ∷ l) e w =
    many-each (same (a ∷ l)) (lists P k) P ∙ among (all-begin a l (lists P k) ∙ lists-once P k l (omega arith) w.1) P w.0
  where
    f : ℕ → ℕ
    f b = how_many (λ r. same (a ∷ l) (b ∷ r)) (lists P k)

    before : (n : ℕ) → n ≤ a → below f n ≡ 0
    before zero h = refl
    before (suc n) h = omega (arith, before n (omega arith), none-begins a n l (lists P k) (ne_eqb a n (λ q. omega arith)))

    among : f a ≡ 1 → (n : ℕ) → a < n → below f n ≡ 1
    among own zero h = absurd (omega arith)
    among own (suc n) h =
        by-test (eqb a n)
        (λ q. let z = eqb-true a n q in omega (arith, before n (omega arith), ap f (sym z) ∙ own))
        (λ q. let z = eqb-false a n q in omega (arith, among own n (omega arith), none-begins a n l (lists P k) q))
