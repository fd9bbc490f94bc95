-- An index over the fingerprints of a block table's used rows: for each bucket a chain of rows that a search follows. Assumes nothing.
use Rattle.std.specs.Prelude.{ℕ, ◌+◌, ◌-◌, ◌*◌, ◌%◌, ◌≤◌, ◌<◌, ◌≡◌, Bool, true, not, cond, ◌&&◌, List, [], ltb, length, drop, get_or, None, Option, Some, is_none}
use Rattle.tables.specs.Find.{all, find_from, caches, has_fingerprint, is_dirty, is_used}
use Rattle.tables.specs.Sound.{is_zero, tail_ok, row_slot}
use Rattle.tables.specs.Records.{read_address, read_block}
use Rattle.tables.specs.Rows.{rows, HasRows}

-- t has the d rows of a block table
abbrev pub BlockTable : ℕ → List ℕ → Type 0
BlockTable d t = (HasRows t d) × (d ≤ 256)

-- `heads` has 4,353 entries: 4,096 of the buckets, 256 of the rows, and one that says which bytes of a fingerprint give its bucket.
abbrev pub heads_length : ℕ
heads_length = 4353

-- the bucket of a fingerprint, by its bytes c and c + 1
unfoldable pub bucket : ℕ → List ℕ → ℕ
bucket c g = (get_or g c 0 + 256 * get_or g (c + 1) 0) % 4096

-- which bytes they are
abbrev pub choice : List ℕ → ℕ
choice heads = get_or heads 4352 0

-- the row that an entry stands for: 0 for none, row 256, and 256 − k for row k
abbrev pub entry : List ℕ → ℕ → ℕ
entry heads x = 256 - get_or heads x 0

-- the row that a search for g starts at: the first 4,096 entries are those of the buckets
abbrev pub start : List ℕ → List ℕ → ℕ
start heads g = entry heads (bucket (choice heads) g)

-- the row where a search goes on behind row k: the 256 entries behind them are those of the rows
abbrev pub onward : List ℕ → ℕ → ℕ
onward heads k = entry heads (4096 + k)

-- row k is used, and of bucket x
abbrev pub In : ℕ → List (List ℕ) → ℕ → ℕ → Type 0
In c rs x k = (is_used (get_or rs k []) ≡ true) × (bucket c (read_block (get_or rs k [])).fingerprint ≡ x)

-- a search of the rows from k on, and one from where `heads` says, find the same
abbrev pub Index : ℕ → List ℕ → List (List ℕ) → Type 0
Index k heads rs = (g : List ℕ) → find_from (caches g) k (drop k rs) ≡ find_from (caches g) (start heads g) (drop (start heads g) rs)

-- the entry v of bucket x stands for a used row of that bucket, from row k on, or none
abbrev pub First : ℕ → ℕ → List (List ℕ) → ℕ → ℕ → Type 0
First c k rs x v = (v ≤ 256) × ((k ≤ 256 - v) × (256 - v < length rs → In c rs x (256 - v)))

-- behind row k of bucket x, a search for a fingerprint of that bucket goes on at row o
abbrev pub Goes : ℕ → List (List ℕ) → ℕ → ℕ → ℕ → Type 0
Goes c rs x k o =
    (k < o) × ((o < length rs → In c rs x o) × ((g : List ℕ) → bucket c g ≡ x → find_from (caches g) (k + 1) (drop (k + 1) rs)
    ≡ find_from (caches g) o (drop o rs)))

-- the entries of the buckets, and of the used rows from k on
pub record Linked (k : ℕ) (heads : List ℕ) (rs : List (List ℕ)) : Type 0 where
  pub chosen : choice heads + 2 ≤ 32
  pub index : Index k heads rs
  pub firsts : (x : ℕ) → x < 4096 → First (choice heads) k rs x (get_or heads x 0)
  pub links : (r x : ℕ) → k ≤ r → r < length rs → In (choice heads) rs x r → Goes (choice heads) rs x r (onward heads r)

-- `heads` before an index is made: 0 everywhere
abbrev pub Blank : List ℕ → Type 0
Blank heads = (length heads ≡ heads_length) × ((x : ℕ) → x < length heads → get_or heads x 0 ≡ 0)

-- `heads` is the index of the d rows of a block table
abbrev pub Indexed : ℕ → (blocks heads : List ℕ) → Type 0
Indexed d blocks heads = (length heads ≡ heads_length) × Linked 0 heads (rows d blocks)

-- no used row of rs has the fingerprint of the row r, if r is used
abbrev pub unique : List ℕ → List (List ℕ) → Bool
unique r rs = cond (is_used r) (is_none (find_from (caches (read_block r).fingerprint) 0 rs)) true

-- a row's index as a number, 256 for none
abbrev pub code : Option ℕ → ℕ
code (Some i) = i
code None = 256

-- the block row of an address row r, among the block rows rs
unfoldable pub place_in : List (List ℕ) → List ℕ → ℕ
place_in rs r = code (find_from (caches (read_address r).fingerprint) 0 rs)

-- the fingerprint of an address row is cached
abbrev pub cached_in : List (List ℕ) → List ℕ → Bool
cached_in rs r = not (is_none (find_from (caches (read_address r).fingerprint) 0 rs))

-- an address row is clean, or its fingerprint is cached
abbrev pub dirty_ok : List (List ℕ) → List ℕ → Bool
dirty_ok rs r = cond (is_dirty r) (cached_in rs r) true

-- the fingerprint of an address row is cached, which of a clean one is asked only where every row is
abbrev pub cached_ok : Bool → List (List ℕ) → List ℕ → Bool
cached_ok each rs r = cond each (cached_in rs r) (dirty_ok rs r)

-- a block row is used, and no address row has its fingerprint
abbrev pub unknown_in : List (List ℕ) → List ℕ → Bool
unknown_in hs r = is_used r && is_none (find_from (has_fingerprint (read_block r).fingerprint) 0 hs)

-- what `block_ok` asks but that a fingerprint is not used twice
abbrev pub row_ok : ℕ → List ℕ → List (List ℕ) → Bool
row_ok d r rs = ltb (row_slot r) d && (tail_ok r && cond (is_used r) (all is_used rs) (all is_zero (read_block r).fingerprint))
