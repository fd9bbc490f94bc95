-- What the code computes on the way: the printed D-LRU of at most four addresses, in numbers below 4. Assumes nothing.
use Rattle.std.specs.Prelude.{Bool, ◌&&◌, cond, List, [], ◌∷◌, ◌++◌, ℕ, zero, suc, ◌*◌, eqb, ltb, take, drop, get_or}
use Rattle.std.specs.List.{list_any}
use Rattle.hash.specs.Sha256.{sha256}
use Rattle.tables.specs.Find.{same}
use Rattle.exam.specs.declared.search.State.{State}
use Rattle.exam.specs.declared.search.Question.{Question}
use Rattle.exam.specs.Scores.{nine_zeros, moved, summed}

-- ---- lists of at most four, 4 where none is

abbrev pub four : (w x y z : ℕ) → List ℕ
four w x y z = w ∷ x ∷ y ∷ z ∷ []

abbrev pub kept : Bool → ℕ → ℕ
kept room x = cond room x 4

abbrev pub has_four : List ℕ → ℕ → Bool
has_four l k = list_any (λ x. eqb x k) l

abbrev pub place : List ℕ → ℕ → ℕ
place l i = get_or l i 0

-- number a of the four, and the newest for each a from 3 on
unfoldable pub pick : List ℕ → ℕ → ℕ
pick l a = get_or l a (place l 3)

unfoldable pub put_four : List ℕ → (n k : ℕ) → List ℕ
put_four l n k =
    cond (eqb k (place l 3)) l
    (cond (eqb k (place l 2)) (four (place l 0) (place l 1) (place l 3) k)
    (cond (eqb k (place l 1)) (four (place l 0) (place l 2) (place l 3) k)
    (four (kept (ltb 3 n) (place l 1)) (kept (ltb 2 n) (place l 2)) (kept (ltb 1 n) (place l 3)) k)))

-- ---- the contents of the addresses, each told by the first address that has it

-- the fingerprint of block a of 64 bytes
unfoldable pub print_at : (label disk : List ℕ) → ℕ → List ℕ
print_at label disk a = sha256 (label ++ take 64 (drop (a * 64) disk))

-- the first from b on that passes, of so many
unfoldable pub first_from : (ℕ → Bool) → (b left : ℕ) → ℕ
first_from t b zero = b
first_from t b (suc left) = cond (t b) b (first_from t (suc b) left)

-- the first address with the content of a
abbrev pub first_with : {K : Type 0} (same : K → K → Bool) (content : ℕ → K) → ℕ → ℕ
first_with same content a = first_from (λ b. same (content b) (content a)) 0 a

unfoldable pub contents_of : (label disk : List ℕ) → ℕ → List ℕ
contents_of label disk P =
    let told : ℕ → ℕ = λ a. kept (ltb a P) (first_with same (print_at label disk) a) in
    four (told 0) (told 1) (told 2) (told 3)

-- ---- a read of an address, which has a content

-- no address held, no block cached
abbrev pub empty : State
empty = record { held = four 4 4 4 4; cached = four 4 4 4 4 }

unfoldable pub hit_small : State → (a content : ℕ) → Bool
hit_small s a content = has_four s.held a && has_four s.cached content

unfoldable pub next_small : Question → State → (a content : ℕ) → State
next_small q s a content = record { held = put_four s.held q.rows a; cached = put_four s.cached q.slots content }

-- ---- nine counts, one read deeper at each call of itself

unfoldable pub searched : Question → State → ℕ → List ℕ
searched q s zero = 1 ∷ take 8 nine_zeros
searched q s (suc k) =
    summed (λ a. let c = pick q.contents a in moved (hit_small s a c) (searched q (next_small q s a c) k)) q.blocks
