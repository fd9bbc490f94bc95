-- The layout and the refusals by example, computed: rows, fresh tables, and tables that each condition of 6, 7 and 8 refuses.
-- Assumes nothing.
use Rattle.std.specs.Prelude.{◌≡◌, refl, Bool, true, false, List, [], ◌∷◌, ◌++◌, ℕ, replicate}
use Rattle.tables.specs.Rows.{rows, flat, zeros}
use Rattle.tables.specs.Records.{AddressRow, bytes2, address_row, address_bytes, read_address, block_row, block_bytes, read_block, free_row}
use Rattle.tables.specs.Records.{address_table, held_rows, block_table, block_rows, fresh_addresses, fresh_blocks}
use Rattle.tables.specs.Find.{any, all, same}
use Rattle.tables.specs.Unsound.{elem, twice, count, addresses_unsound, free_after_used, each_once, used_twice, blocks_unsound, dirty_uncached}

-- the fingerprint 1, 2, .., 32
abbrev sample : List ℕ
sample =
    1 ∷ 2 ∷ 3 ∷ 4 ∷ 5 ∷ 6 ∷ 7 ∷ 8 ∷ 9 ∷ 10 ∷ 11 ∷ 12 ∷ 13 ∷ 14 ∷ 15 ∷ 16
    ∷ 17 ∷ 18 ∷ 19 ∷ 20 ∷ 21 ∷ 22 ∷ 23 ∷ 24 ∷ 25 ∷ 26 ∷ 27 ∷ 28 ∷ 29 ∷ 30 ∷ 31 ∷ 32 ∷ []

-- a dirty row of the address 0x01020304, written by the seat 0x0506
abbrev dirty_row : List ℕ
dirty_row = 0x04 ∷ 0x03 ∷ 0x02 ∷ 0x01 ∷ (sample ++ (1 ∷ 0x06 ∷ 0x05 ∷ 0 ∷ []))

abbrev dirty_record : AddressRow
dirty_record = address_row 0x01020304 sample 1 (bytes2 0x0506)

pub address-row : address_bytes dirty_record ≡ dirty_row
unfolding address_bytes
address-row = refl

pub address-row-read : read_address dirty_row ≡ dirty_record
unfolding read_address read_block
address-row-read = refl

-- a used row with the slot 0x0102, and a free one with the slot 200
abbrev used_bytes : List ℕ
used_bytes = sample ++ (0x02 ∷ 0x01 ∷ 0 ∷ 0 ∷ 1 ∷ 0 ∷ 0 ∷ 0 ∷ [])

abbrev free_bytes : ℕ → List ℕ
free_bytes k = replicate 32 0 ++ (k ∷ 0 ∷ 0 ∷ 0 ∷ 0 ∷ 0 ∷ 0 ∷ 0 ∷ [])

pub used-row : block_bytes (block_row sample 0x0102 1) ≡ used_bytes
unfolding block_bytes
used-row = refl

pub used-row-read : read_block used_bytes ≡ block_row sample 0x0102 1
unfolding read_address read_block
used-row-read = refl

pub free-row : block_bytes (free_row 200) ≡ free_bytes 200
unfolding block_bytes zeros
free-row = refl

pub free-row-read : read_block (free_bytes 200) ≡ free_row 200
unfolding zeros read_address read_block
free-row-read = refl

-- a table of three rows that holds one, and what it holds
pub held_one : address_table 3 (dirty_record ∷ []) ≡ dirty_row ++ replicate 80 0
unfolding address_table address_bytes flat zeros
held_one = refl

pub held-one-read : held_rows 1 (dirty_row ++ replicate 80 0) ≡ dirty_record ∷ []
unfolding held_rows rows read_address read_block
held-one-read = refl

-- fresh tables of three rows
pub fresh-addresses : fresh_addresses 3 ≡ replicate 120 0
unfolding fresh_addresses address_table flat zeros
fresh-addresses = refl

pub fresh-blocks : fresh_blocks 3 ≡ free_bytes 0 ++ (free_bytes 1 ++ free_bytes 2)
unfolding fresh_blocks block_table block_bytes flat zeros
fresh-blocks = refl

pub fresh-blocks-read : block_rows 3 (free_bytes 0 ++ (free_bytes 1 ++ free_bytes 2)) ≡ free_row 0 ∷ free_row 1 ∷ free_row 2 ∷ []
unfolding block_rows rows zeros read_address read_block
fresh-blocks-read = refl

-- refusal 6 by example, P = 9: tables of two rows, with the address, the dirty byte and the last padding byte of the first; its seat is 0x0807
abbrev address_bytes-of : ℕ → ℕ → ℕ → List ℕ
address_bytes-of a x y = a ∷ 0 ∷ 0 ∷ 0 ∷ (sample ++ (x ∷ 7 ∷ 8 ∷ y ∷ []))

-- a row that has a seat and nothing else
abbrev seat_alone : List ℕ
seat_alone = replicate 37 0 ++ (0 ∷ 1 ∷ 0 ∷ [])

abbrev six : ℕ → List ℕ → List ℕ → Bool
six n r s = addresses_unsound 9 2 n (r ++ s)

-- one row held: address 8 passes; address 9, dirty byte 2, padding, a second row that is not zero, or has a seat alone. Then: no row held,
-- two of one address, two that differ, three of two
pub sixes :
    six 1 (address_bytes-of 8 1 0) (replicate 40 0)
    ∷ six 1 (address_bytes-of 9 1 0) (replicate 40 0)
    ∷ six 1 (address_bytes-of 8 2 0) (replicate 40 0)
    ∷ six 1 (address_bytes-of 8 1 1) (replicate 40 0)
    ∷ six 1 (address_bytes-of 8 1 0) (address_bytes-of 0 0 1)
    ∷ six 1 (address_bytes-of 8 1 0) seat_alone
    ∷ six 0 (address_bytes-of 8 1 0) (replicate 40 0)
    ∷ six 2 (address_bytes-of 8 1 0) (address_bytes-of 8 0 0)
    ∷ six 2 (address_bytes-of 8 1 0) (address_bytes-of 7 0 0)
    ∷ six 3 (address_bytes-of 8 1 0) (address_bytes-of 7 0 0)
    ∷ []
    ≡ false ∷ true ∷ true ∷ true ∷ true ∷ true ∷ true ∷ true ∷ false ∷ true ∷ []
unfolding addresses_unsound rows any twice elem read_address read_block
sixes = refl

-- refusal 7 by example: tables of two rows, each with a fingerprint, a slot, the used byte and the last padding byte
abbrev block_bytes-of : List ℕ → ℕ → ℕ → ℕ → List ℕ
block_bytes-of g k x y = g ++ (k ∷ 0 ∷ 0 ∷ 0 ∷ x ∷ 0 ∷ 0 ∷ y ∷ [])

abbrev seven : List ℕ → List ℕ → Bool
seven r s = blocks_unsound 2 (r ++ s)

-- a free row and a used one pass, also where the used fingerprint is all zeros. Then: a free row after a used one, used byte 2, padding, a free
-- row with a fingerprint, a slot twice, slot 2, a fingerprint used twice, two that differ
pub sevens :
    seven (free_bytes 1) (block_bytes-of sample 0 1 0)
    ∷ seven (free_bytes 1) (block_bytes-of (replicate 32 0) 0 1 0)
    ∷ seven (block_bytes-of sample 0 1 0) (free_bytes 1)
    ∷ seven (free_bytes 1) (block_bytes-of sample 0 2 0)
    ∷ seven (free_bytes 1) (block_bytes-of sample 0 1 1)
    ∷ seven (block_bytes-of sample 1 0 0) (free_bytes 0)
    ∷ seven (free_bytes 1) (free_bytes 1)
    ∷ seven (free_bytes 0) (free_bytes 2)
    ∷ seven (block_bytes-of sample 1 1 0) (block_bytes-of sample 0 1 0)
    ∷ seven (block_bytes-of (replicate 32 0) 1 1 0) (block_bytes-of sample 0 1 0)
    ∷ []
    ≡ false ∷ false ∷ true ∷ true ∷ true ∷ true ∷ true ∷ true ∷ true ∷ false ∷ []
unfolding blocks_unsound free_after_used used_twice each_once count rows any all same read_address read_block
sevens = refl

-- refusal 8 by example: a dirty row and its block; the block of another fingerprint; a free row with its zeros; a clean row
abbrev eight : List ℕ → List ℕ → Bool
eight r s = dirty_uncached 1 1 r s

pub eights :
    eight dirty_row (block_bytes-of sample 0 1 0)
    ∷ eight dirty_row (block_bytes-of (replicate 32 7) 0 1 0)
    ∷ eight (replicate 36 0 ++ (1 ∷ 0 ∷ 0 ∷ 0 ∷ [])) (free_bytes 0)
    ∷ eight (address_bytes-of 8 0 0) (free_bytes 0)
    ∷ []
    ≡ false ∷ true ∷ true ∷ false ∷ []
unfolding dirty_uncached rows any same read_address read_block
eights = refl
