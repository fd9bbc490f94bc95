-- The body of an image: numbers of 4 bytes each, then byte strings; and which bytes are a body.
-- Assumes nothing.
use Rattle.std.specs.Prelude.{Bool, true, not, ◌||◌, List, [], ◌∷◌, ◌++◌, ℕ, ◌+◌, ◌*◌, eqb, length, take, drop}
use Rattle.std.proofs.Math.Option.{Option, none, some}
use Rattle.tables.specs.Rows.{flat, le4}
use Rattle.arc.specs.ArcLent.{words, word_bytes}

-- "then label, tables and lists": byte strings of these lengths, end to end
unfoldable pub pieces : List ℕ → List ℕ → List (List ℕ)
pieces [] l = []
pieces (n ∷ ns) l = take n l ∷ pieces ns (drop n l)

unfoldable pub total : List ℕ → ℕ
total [] = 0
total (n ∷ ns) = n + total ns

-- What a body says: its numbers, the first of them 0 or 1 by the kind of box, and its byte strings
pub record Fields : Type 0 where
  pub numbers : List ℕ
  pub strings : List (List ℕ)

-- "4 bytes each, little-endian; then label, tables and lists"
unfoldable pub body_of : Fields → List ℕ
body_of x = word_bytes x.numbers ++ flat x.strings

-- The form of a kind's body: how many numbers, how long the byte strings are by the numbers, and whether the box in it
-- "fails 1, 11, 12, 6, 7, 8 or 13"
pub record Form : Type 0 where
  pub count : ℕ
  pub sizes : List ℕ → List ℕ
  pub fails : Fields → Bool

-- how long a body is, by its numbers
unfoldable pub body_length : Form → List ℕ → ℕ
body_length f ns = f.count * 4 + total (f.sizes ns)

unfoldable pub numbers_in : Form → List ℕ → List ℕ
numbers_in f body = words f.count body

unfoldable pub fields_in : Form → List ℕ → Fields
fields_in f body = record { numbers = numbers_in f body; strings = pieces (f.sizes (numbers_in f body)) (drop (f.count * 4) body) }

-- "16, a body that starts above 1, isn't as long as its record says or fails 1, 11, 12, 6, 7, 8 or 13"; `forms` has none for a body that starts above 1
unfoldable pub fails_as : Form → List ℕ → Bool
fails_as f body = not (eqb (length body) (body_length f (numbers_in f body))) || f.fails (fields_in f body)

unfoldable pub fails_in : Option Form → List ℕ → Bool
fails_in none body = true
fails_in (some f) body = fails_as f body

unfoldable pub no_body : (ℕ → Option Form) → List ℕ → Bool
no_body forms body = fails_in (forms (le4 body 0)) body
