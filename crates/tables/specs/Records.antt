-- The layout of the two tables: a row as a record and as bytes, a table as a list of rows. No other crate of the project opens it but `table_laws`.
-- Assumes nothing.
use Rattle.std.specs.Prelude.{ℕ, zero, suc, ◌+◌, ◌-◌, ◌*◌, ◌/◌, ◌%◌, List, [], ◌∷◌, ◌++◌, map, length, take, drop, get_or}
use Rattle.tables.specs.Rows.{rows, flat, zeros, le4}

-- a number as four bytes, "little-endian"
abbrev pub bytes4 : ℕ → List ℕ
bytes4 a = a % 256 ∷ a / 256 % 256 ∷ a / 65536 % 256 ∷ a / 16777216 % 256 ∷ []

-- a seat number as two bytes, "little-endian": its low byte and its high byte
abbrev pub Seat : Type 0
Seat = ℕ × ℕ

abbrev pub bytes2 : ℕ → Seat
bytes2 z = (z % 256, z / 256 % 256)

-- "An address row: address (4 bytes, little-endian), fingerprint (32), dirty byte (1 if flash is newer than disk, else 0), 3 zero bytes."
-- U7: "The first two padding bytes of an address row become a seat number, little-endian"
pub record AddressRow : Type 0 where
  pub address : ℕ
  pub fingerprint : List ℕ
  pub dirty : ℕ
  pub seat : Seat

abbrev pub address_row : ℕ → List ℕ → ℕ → Seat → AddressRow
address_row a g x z = record { address = a; fingerprint = g; dirty = x; seat = z }

unfoldable pub address_bytes : AddressRow → List ℕ
address_bytes r = bytes4 r.address ++ (r.fingerprint ++ (r.dirty ∷ r.seat.0 ∷ r.seat.1 ∷ 0 ∷ []))

unfoldable pub read_address : List ℕ → AddressRow
read_address r = record { address = le4 r 0; fingerprint = take 32 (drop 4 r); dirty = get_or r 36 0; seat = (get_or r 37 0, get_or r 38 0) }

-- "A block row: fingerprint (32), slot (4, little-endian), used byte (1 or 0), 3 zero bytes."
pub record BlockRow : Type 0 where
  pub fingerprint : List ℕ
  pub slot : ℕ
  pub used : ℕ

abbrev pub block_row : List ℕ → ℕ → ℕ → BlockRow
block_row g s x = record { fingerprint = g; slot = s; used = x }

unfoldable pub block_bytes : BlockRow → List ℕ
block_bytes r = r.fingerprint ++ (bytes4 r.slot ++ (r.used ∷ 0 ∷ 0 ∷ 0 ∷ []))

unfoldable pub read_block : List ℕ → BlockRow
read_block r = record { fingerprint = take 32 r; slot = le4 r 32; used = get_or r 36 0 }

-- "3 zero bytes" end a row of either table: where byte j of them, of 0 to 2, stands in row k
abbrev pub padding_byte : (k j : ℕ) → ℕ
padding_byte k j = k * 40 + 37 + j

-- "Free rows (used 0, zero fingerprint)"
abbrev pub free_row : ℕ → BlockRow
free_row k = block_row (zeros 32) k 0

-- "Held rows come first, oldest use to newest; the other rows are zero." The table of m rows that holds rs, and the n rows held in a table.
unfoldable pub address_table : ℕ → List AddressRow → List ℕ
address_table m rs = flat (map address_bytes rs) ++ zeros ((m - length rs) * 40)

unfoldable pub held_rows : ℕ → List ℕ → List AddressRow
held_rows n t = map read_address (rows n t)

-- the table of block rows, and the d rows of a table
unfoldable pub block_table : List BlockRow → List ℕ
block_table rs = flat (map block_bytes rs)

unfoldable pub block_rows : ℕ → List ℕ → List BlockRow
block_rows d t = map read_block (rows d t)

-- "Fresh: n = 0, counters and address rows zero, block rows free with slots 0 to d − 1 in order"
abbrev pub slots_from : ℕ → ℕ → List ℕ
slots_from k zero = []
slots_from k (suc d) = k ∷ slots_from (suc k) d

unfoldable pub fresh_addresses : ℕ → List ℕ
fresh_addresses m = address_table m []

unfoldable pub fresh_blocks : ℕ → List ℕ
fresh_blocks d = block_table (map free_row (slots_from 0 d))
