-- U12: how many lists of k reads have each number of hits.
-- Assumes nothing.
use Rattle.std.specs.Prelude.{Bool, cond, List, [], ◌∷◌, ◌++◌, map, ℕ, zero, suc, ◌+◌, eqb, take}
use Rattle.paper.specs.Machines.{Printed, printed_next, printed_hit}

-- each of the addresses below P, read before each of some lists
abbrev pub each_before : List (List ℕ) → ℕ → List (List ℕ)
each_before ls zero = []
each_before ls (suc a) = each_before ls a ++ map {B = List ℕ} (λ l. a ∷ l) ls

-- "all lists of k reads", of P addresses
unfoldable pub lists : (P k : ℕ) → List (List ℕ)
lists P zero = [] ∷ []
lists P (suc k) = each_before (lists P k) P

-- how many of a list pass a test
abbrev pub how_many : {A : Type 0} → (A → Bool) → List A → ℕ
how_many test [] = 0
how_many test (x ∷ xs) = how_many test xs + cond (test x) 1 0

-- "0, 1, up to k hits, in nine counts"
abbrev pub nine : List ℕ
nine = 0 ∷ 1 ∷ 2 ∷ 3 ∷ 4 ∷ 5 ∷ 6 ∷ 7 ∷ 8 ∷ []

abbrev pub nine_zeros : List ℕ
nine_zeros = map (λ h. 0) nine

-- "It has two lists, empty at first"
abbrev pub start : {F : Type 0} → Printed F
start = record { addresses = []; fingerprints = [] }

module _ {F : Type 0} (same : F → F → Bool) (m d : ℕ) (content : ℕ → F) where
  -- the hits of a list of reads in the printed D-LRU
  unfoldable pub hits : Printed F → List ℕ → ℕ
  hits p [] = 0
  hits p (a ∷ rest) = hits (printed_next same m d content p a) rest + cond (printed_hit same content p a) 1 0

  -- "the number of lists with that many hits in the printed D-LRU", of k reads from a state
  unfoldable pub with_hits : (P : ℕ) → Printed F → (k h : ℕ) → ℕ
  with_hits P p k h = how_many (λ l. eqb (hits p l) h) (lists P k)

  -- the nine counts, from fresh
  unfoldable pub scores : (P k : ℕ) → List ℕ
  scores P k = map (with_hits P start k) nine

-- The same by a search that "goes one read deeper at each call of itself": counts are added address by address, and a hit moves them up by one.
abbrev pub plus : List ℕ → List ℕ → List ℕ
plus [] ys = []
plus (x ∷ xs) [] = x ∷ xs
plus (x ∷ xs) (y ∷ ys) = (x + y) ∷ plus xs ys

abbrev pub moved : Bool → List ℕ → List ℕ
moved b c = cond b (0 ∷ take 8 c) c

-- the sum of the counts of the addresses below n
abbrev pub summed : (ℕ → List ℕ) → ℕ → List ℕ
summed f zero = nine_zeros
summed f (suc a) = plus (summed f a) (f a)

module _ {F : Type 0} (same : F → F → Bool) (m d : ℕ) (content : ℕ → F) (P : ℕ) where
  unfoldable pub search : Printed F → ℕ → List ℕ
  search p zero = 1 ∷ take 8 nine_zeros
  search p (suc k) = summed (λ a. moved (printed_hit same content p a) (search (printed_next same m d content p a) k)) P
