-- What is asked of a list of rows: some, all, the first that passes a test. Assumes nothing.
use Rattle.std.specs.Prelude.{ℕ, suc, Bool, true, false, ◌&&◌, ◌||◌, List, [], ◌∷◌, eqb, None, Option, Some, cond}
use Rattle.tables.specs.Records.{read_address, read_block}

-- the index of the first element that p holds of, where the list's first has index k
unfoldable pub find_from : {A : Type 0} → (A → Bool) → ℕ → List A → Option ℕ
find_from p k [] = None
find_from p k (x ∷ xs) = cond (p x) (Some k) (find_from p (suc k) xs)

-- p holds of all elements, of some
unfoldable pub all : {A : Type 0} → (A → Bool) → List A → Bool
all p [] = true
all p (x ∷ xs) = p x && all p xs

unfoldable pub any : {A : Type 0} → (A → Bool) → List A → Bool
any p [] = false
any p (x ∷ xs) = p x || any p xs

-- q holds of each element and the list behind it
unfoldable pub every : {A : Type 0} → (A → List A → Bool) → List A → Bool
every q [] = true
every q (x ∷ xs) = q x xs && every q xs

-- two lists are the same
unfoldable pub same : List ℕ → List ℕ → Bool
same [] [] = true
same [] (y ∷ ys) = false
same (x ∷ xs) [] = false
same (x ∷ xs) (y ∷ ys) = eqb x y && same xs ys

-- an address row has the address a; it has the fingerprint g; it is dirty
abbrev pub has_address : ℕ → List ℕ → Bool
has_address a r = eqb (read_address r).address a

abbrev pub has_fingerprint : List ℕ → List ℕ → Bool
has_fingerprint g r = same (read_address r).fingerprint g

abbrev pub is_dirty : List ℕ → Bool
is_dirty r = eqb (read_address r).dirty 1

-- a block row is used; it is used and has the fingerprint g ("cached" means in a used block row)
abbrev pub is_used : List ℕ → Bool
is_used r = eqb (read_block r).used 1

abbrev pub caches : List ℕ → List ℕ → Bool
caches g r = is_used r && same (read_block r).fingerprint g
