-- When a table is refused: the tests for 6, 7 and 8, condition by condition in document 01's order.
-- Assumes nothing.
use Rattle.std.specs.Prelude.{ℕ, ◌+◌, Bool, false, not, ◌&&◌, ◌||◌, cond, List, [], ◌∷◌, map, eqb, leb, ltb, drop, get_or}
use Rattle.tables.specs.Rows.{rows, table_bytes}
use Rattle.tables.specs.Records.{read_address, read_block, padding_byte, slots_from}
use Rattle.tables.specs.Find.{all, any, caches, is_used}

-- x is in the list; some number is in the list twice; how often x is in the list
unfoldable pub elem : ℕ → List ℕ → Bool
elem x [] = false
elem x (y ∷ ys) = eqb x y || elem x ys

unfoldable pub twice : List ℕ → Bool
twice [] = false
twice (x ∷ xs) = elem x xs || twice xs

unfoldable pub count : ℕ → List ℕ → ℕ
count x [] = 0
count x (y ∷ ys) = cond (eqb x y) 1 0 + count x ys

abbrev pub nonzero : ℕ → Bool
nonzero x = not (eqb x 0)

-- "nonzero padding": one of the last 3 bytes of a row isn't zero
abbrev pub nonzero_padding : List ℕ → Bool
nonzero_padding r = any nonzero (get_or r (padding_byte 0 0) 0 ∷ get_or r (padding_byte 0 1) 0 ∷ get_or r (padding_byte 0 2) 0 ∷ [])

-- U7: "In a held row refusal 6 now wants only the last padding byte zero."
abbrev pub nonzero_last : List ℕ → Bool
nonzero_last r = nonzero (get_or r (padding_byte 0 2) 0)

-- "6: address table unsound: n above m, a held address ≥ P or held twice, dirty byte above 1, nonzero padding, or a row from n on not zero."
unfoldable pub addresses_unsound : (P m n : ℕ) → List ℕ → Bool
addresses_unsound P m n t =
    ltb m n
    || any (λ r. leb P (read_address r).address) (rows n t)
    || twice (map (λ r. (read_address r).address) (rows n t))
    || any (λ r. ltb 1 (read_address r).dirty) (rows n t)
    || any nonzero_last (rows n t)
    || any nonzero (drop (table_bytes n) t)

-- "a free row after a used one"
unfoldable pub free_after_used : List (List ℕ) → Bool
free_after_used [] = false
free_after_used (r ∷ rs) = (is_used r && any (λ s. not (is_used s)) rs) || free_after_used rs

-- "a free row with a fingerprint"
abbrev pub free_with_fingerprint : List ℕ → Bool
free_with_fingerprint r = not (is_used r) && any nonzero (read_block r).fingerprint

-- "slots each of 0 to d − 1 once"
unfoldable pub each_once : ℕ → List ℕ → Bool
each_once d slots = all (λ k. eqb (count k slots) 1) (slots_from 0 d)

-- "a fingerprint used twice"
unfoldable pub used_twice : List (List ℕ) → Bool
used_twice [] = false
used_twice (r ∷ rs) = (is_used r && any (caches (read_block r).fingerprint) rs) || used_twice rs

-- "7: block table unsound: a free row after a used one, used byte above 1, nonzero padding, a free row with a fingerprint, slots not each of
-- 0 to d − 1 once, or a fingerprint used twice."
unfoldable pub blocks_unsound : (d : ℕ) → List ℕ → Bool
blocks_unsound d t =
    free_after_used (rows d t)
    || any (λ r. ltb 1 (read_block r).used) (rows d t)
    || any nonzero_padding (rows d t)
    || any free_with_fingerprint (rows d t)
    || not (each_once d (map (λ r. (read_block r).slot) (rows d t)))
    || used_twice (rows d t)

-- "8: a dirty row whose fingerprint isn't cached."
unfoldable pub dirty_uncached : (n d : ℕ) → List ℕ → List ℕ → Bool
dirty_uncached n d addresses blocks =
    any (λ r. eqb (read_address r).dirty 1 && not (any (caches (read_address r).fingerprint) (rows d blocks))) (rows n addresses)

-- the first of 6, 7 and 8 that applies, 0 where none does
unfoldable pub tables_refused : (P m n d : ℕ) → List ℕ → List ℕ → ℕ
tables_refused P m n d addresses blocks =
    cond (addresses_unsound P m n addresses) 6 (cond (blocks_unsound d blocks) 7 (cond (dirty_uncached n d addresses blocks) 8 0))
