-- The tests for 6 and 7 as the checks go through a table: row by row, in the positive. `Unsound` has the definitions. Assumes nothing.
use Rattle.std.specs.Prelude.{ℕ, Bool, true, false, not, cond, ◌&&◌, List, [], ◌∷◌, map, eqb, leb, ltb, length, drop, get_or, is_none}
use Rattle.tables.specs.Rows.{rows, table_bytes}
use Rattle.tables.specs.Records.{read_address, read_block}
use Rattle.tables.specs.Find.{all, every, caches, find_from, is_used}
use Rattle.tables.specs.Unsound.{elem}

-- no number is in the list twice
unfoldable pub distinct : List ℕ → Bool
distinct [] = true
distinct (x ∷ xs) = not (elem x xs) && distinct xs

-- a row's address, a row's slot
abbrev pub row_address : List ℕ → ℕ
row_address r = (read_address r).address

abbrev pub row_slot : List ℕ → ℕ
row_slot r = (read_block r).slot

-- the last four bytes of a row: a byte that is 0 or 1, and three zeros
unfoldable pub tail_ok : List ℕ → Bool
tail_ok r = leb (get_or r 36 0) 1 && (eqb (get_or r 37 0) 0 && (eqb (get_or r 38 0) 0 && eqb (get_or r 39 0) 0))

-- U7, of a held address row: a byte that is 0 or 1, and the last byte zero; the two between are the seat
unfoldable pub seated_tail : List ℕ → Bool
seated_tail r = leb (get_or r 36 0) 1 && eqb (get_or r 39 0) 0

-- a held address row: the address is below P
abbrev pub address_ok : ℕ → List ℕ → Bool
address_ok P r = ltb (row_address r) P && seated_tail r

abbrev pub is_zero : ℕ → Bool
is_zero x = eqb x 0

-- a row of zeros
abbrev pub zero_row : List ℕ → Bool
zero_row r = all is_zero r

-- an address table of m rows, n of them held, over P disk blocks
unfoldable pub sound_addresses : ℕ → ℕ → ℕ → List ℕ → Bool
sound_addresses P m n t = leb n m && (all (address_ok P) (rows n t) && (distinct (map row_address (rows n t)) && all is_zero (drop (table_bytes n) t)))

-- a used block row r before the rows rs: no free row follows it, and no used one has its fingerprint
abbrev pub used_ok : List ℕ → List (List ℕ) → Bool
used_ok r rs = all is_used rs && is_none (find_from (caches (read_block r).fingerprint) 0 rs)

-- a block row r before the rows rs, where there are d slots: a free row has no fingerprint
abbrev pub block_ok : ℕ → List ℕ → List (List ℕ) → Bool
block_ok d r rs = ltb (row_slot r) d && (tail_ok r && cond (is_used r) (used_ok r rs) (all is_zero (read_block r).fingerprint))

-- a block table of d rows
unfoldable pub sound_blocks : ℕ → List ℕ → Bool
sound_blocks d t = every (block_ok d) (rows d t) && distinct (map row_slot (rows d t))

-- what a byte of a check's array says
abbrev pub mark : Bool → ℕ
mark true = 1
mark false = 0

-- what the checks can be run on: refusals 1 and 2 come before 6 and 7
unfoldable pub addresses_fit : ℕ → ℕ → List ℕ → Bool
addresses_fit P m t = leb P 65536 && (leb m 1024 && eqb (length t) (table_bytes m))

unfoldable pub blocks_fit : ℕ → List ℕ → Bool
blocks_fit d t = leb d 256 && eqb (length t) (table_bytes d)
