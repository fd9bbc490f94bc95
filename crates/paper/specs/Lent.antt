-- The calls on lent bytes: which are refused, and what each answers and leaves.
-- Assumes nothing.
use Rattle.std.specs.Prelude.{Bool, true, false, not, ◌&&◌, ◌||◌, cond, List, [], ◌∷◌, ◌++◌, map, ℕ, zero, suc, ◌≤◌, ◌*◌, ◌^◌, eqb, leb, ltb, length, drop}
use Rattle.std.proofs.Math.Option
use Rattle.std.proofs.Math.Option.{Option, none, some}
use Rattle.tables.specs.Records as Table
use Rattle.tables.specs.Records.{address_table, held_rows, block_table, block_rows, free_row, fresh_addresses, fresh_blocks}
use Rattle.tables.specs.Unsound.{elem, addresses_unsound, blocks_unsound, dirty_uncached}
use Rattle.paper.specs.Keyed.{has}
use Rattle.paper.specs.Cache.{Numbers, AddressRow, BlockRow, Box, Call, About, about, Word, Counters, no_counts, counted, dirty_rows, serve}
use Rattle.paper.specs.Engine.{Fixed, fit, labelled}
use Rattle.tables.specs.Rows.{table_bytes, zeros}

-- What is lent and passes from call to call: "n is the number of addresses held now", "disk (P × B bytes), flash (d × B), address table
-- (m × 40), block table (d × 40) .. and the counters record". The box record is the four numbers, the label, the limit and n.
pub record Lent : Type 0 where
  pub n : ℕ
  pub disk : List ℕ
  pub flash : List ℕ
  pub addresses : List ℕ
  pub blocks : List ℕ
  pub counters : Counters

-- "Block number k of disk or flash starts at byte k × B."
abbrev pub join : {B : ℕ} → List (Fixed B) → List ℕ
join [] = []
join (b ∷ bs) = b.0 ++ join bs

unfoldable pub split : (B : ℕ) → ℕ → List ℕ → List (Fixed B)
split B zero l = []
split B (suc k) l = fit B l ∷ split B k (drop B l)

-- the rows of the tables, in the paper's words and back
abbrev pub bit : Bool → ℕ
bit true = 1
bit false = 0

abbrev pub held_row : AddressRow (Fixed 32) → Table.AddressRow
held_row r = Table.address_row r.address r.fingerprint.0 (bit r.dirty) r.seat

abbrev pub used_row : BlockRow (Fixed 32) → Table.BlockRow
used_row u = Table.block_row u.fingerprint.0 u.slot 1

abbrev pub as_held : Table.AddressRow → AddressRow (Fixed 32)
as_held r = record { address = r.address; fingerprint = fit 32 r.fingerprint; dirty = eqb r.dirty 1; seat = r.seat }

unfoldable pub free_slots : List Table.BlockRow → List ℕ
free_slots [] = []
free_slots (r ∷ rs) = cond (eqb r.used 1) (free_slots rs) (r.slot ∷ free_slots rs)

unfoldable pub used_rows : List Table.BlockRow → List (BlockRow (Fixed 32))
used_rows [] = []
used_rows (r ∷ rs) = cond (eqb r.used 1) (record { fingerprint = fit 32 r.fingerprint; slot = r.slot } ∷ used_rows rs) (used_rows rs)

-- the box in lent bytes
unfoldable pub box_in : (N : Numbers) → Lent → Box (Fixed 32) (Fixed N.B)
box_in N t =
    record {
      rows = map as_held (held_rows t.n t.addresses);
      free = free_slots (block_rows N.d t.blocks);
      used = used_rows (block_rows N.d t.blocks);
      flash = split N.B N.d t.flash;
      disk = split N.B N.P t.disk;
    }

-- the bytes of a box, with counters
unfoldable pub lent_of : (N : Numbers) → Box (Fixed 32) (Fixed N.B) → Counters → Lent
lent_of N s k =
    record {
      n = length s.rows;
      disk = join s.disk;
      flash = join s.flash;
      addresses = address_table N.m (map held_row s.rows);
      blocks = block_table (map free_row s.free ++ map used_row s.used);
      counters = k;
    }

-- A call as it is asked. "Only reads and writes take the one block", "of any bytes and length".
pub data Ask : Type 0 where
  read : ℕ → List ℕ → Ask
  -- U7: "writes carry" a seat number
  through back invalidate : ℕ → List ℕ → (seat : ℕ) → Ask
  look : ℕ → Ask
  -- of at most so many dirty rows
  flush : ℕ → Ask

-- An opening is asked of lent memory too; it is no call of a list.
pub data Asked : Type 0 where
  opening : Asked
  calling : Ask → Asked

-- the call on paper, its block made of the bytes lent to it
abbrev pub call_with : {X : Type 0} → (List ℕ → X) → Ask → Call X
call_with f (read a l) = Call.read a
call_with f (through a l z) = Call.through a (f l) (Table.bytes2 z)
call_with f (back a l z) = Call.back a (f l) (Table.bytes2 z)
call_with f (invalidate a l z) = Call.invalidate a (f l) (Table.bytes2 z)
call_with f (look a) = Call.look a
call_with f (flush k) = Call.flush k

unfoldable pub call_of : (B : ℕ) → Ask → Call (Fixed B)
call_of B q = call_with (fit B) q

-- what is asked, the block being the bytes as they are lent
abbrev pub about_ask : Ask → About (List ℕ)
about_ask q = about (call_with (λ l. l) q)

-- the address that is asked for; a flush has none
abbrev pub address_of : Ask → Option ℕ
address_of q = (about_ask q).address

-- the block lent to it
abbrev pub lent_block : Ask → Option (List ℕ)
lent_block (read a l) = some l
lent_block (through a l z) = some l
lent_block (back a l z) = some l
lent_block (invalidate a l z) = some l
lent_block (look a) = none
lent_block (flush k) = none

-- "1: B, P, m or d outside its set." "a power of two from 64 to 4,096"; "1 to 65,536"; "1 to 1,024"; "1 to 256"
abbrev pub between : ℕ → ℕ → ℕ → Bool
between a b x = leb a x && leb x b

unfoldable pub unfit : Numbers → Bool
unfit N =
    not (elem N.B (64 ∷ 128 ∷ 256 ∷ 512 ∷ 1024 ∷ 2048 ∷ 4096 ∷ []))
    || not (between 1 65536 N.P)
    || not (between 1 1024 N.m)
    || not (between 1 256 N.d)

-- U8: "a limit t from 1 to m"; "It refuses with 12 a limit outside its range, in every call right after 1 or 11"
abbrev pub limit_outside : Numbers → Bool
limit_outside N = not (between 1 N.m N.t)

-- "2: a lent length isn't the one above."; U6: "a 64-byte office label"
abbrev pub other_length : List ℕ → ℕ → Bool
other_length l k = not (eqb (length l) k)

unfoldable pub wrong_buffers : Numbers → Lent → Bool
wrong_buffers N t =
    other_length t.disk (N.P * N.B)
    || other_length t.flash (N.d * N.B)
    || other_length t.addresses (table_bytes N.m)
    || other_length t.blocks (table_bytes N.d)
    || other_length N.label 64

abbrev pub wrong_block : ℕ → Option (List ℕ) → Bool
wrong_block B none = false
wrong_block B (some l) = other_length l B

-- "3: address ≥ P." "Flush has no 3"
abbrev pub outside : ℕ → Option ℕ → Bool
outside P none = false
outside P (some a) = leb P a

-- "9: a counter above 2 to the power 63." "look [has] no 9"
unfoldable pub over : Counters → Bool
over k = ltb (2 ^ 63) k.reads || ltb (2 ^ 63) k.hits || ltb (2 ^ 63) k.flash_writes || ltb (2 ^ 63) k.primary_writes

abbrev pub counts : Ask → Bool
counts q = (about_ask q).counts

-- U8: "and with 13 a state with more than t dirty rows, right after 8"
abbrev pub over_limit : Numbers → Lent → Bool
over_limit N t = ltb N.t (dirty_rows (labelled N) (box_in N t).rows)

abbrev pub FewDirty : (N : Numbers) → Box (Fixed 32) (Fixed N.B) → Type 0
FewDirty N s = dirty_rows (labelled N) s.rows ≤ N.t

-- a test and the number of its refusal
pub record Test : Type 0 where
  pub holds : Bool
  pub number : ℕ

abbrev pub test : Bool → ℕ → Test
test b n = record { holds = b; number = n }

-- "the first that applies": the number of the first test that holds, 0 where none does
abbrev pub first : List Test → ℕ
first [] = 0
first (x ∷ xs) = cond x.holds x.number (first xs)

abbrev pub one_of : ℕ → List ℕ → Bool
one_of n l = has eqb (λ k. k) n l

-- the tests of the tables, which every call but opening makes
abbrev pub table_tests : Numbers → Lent → List Test → List Test
table_tests N t rest =
    test (addresses_unsound N.P N.m t.n t.addresses) 6
    ∷ test (blocks_unsound N.d t.blocks) 7
    ∷ test (dirty_uncached t.n N.d t.addresses t.blocks) 8
    ∷ test (over_limit N t) 13
    ∷ rest

-- "Checked in the order 1, 2, 3, 6, 7, 8, 9, the first that applies. Flush has no 3, look no 9, opening only 1 and 2."; U8's 12 and 13 in their places
abbrev pub tests : Numbers → Lent → Asked → List Test
tests N t opening = test (unfit N) 1 ∷ test (limit_outside N) 12 ∷ test (wrong_buffers N t) 2 ∷ []
tests N t (calling q) =
    test (unfit N) 1
    ∷ test (limit_outside N) 12
    ∷ test (wrong_buffers N t || wrong_block N.B (lent_block q)) 2
    ∷ test (outside N.P (address_of q)) 3
    ∷ table_tests N t (test (counts q && over t.counters) 9 ∷ [])

-- The number of a refusal, 0 where the call is served.
unfoldable pub refusal : Numbers → Lent → Asked → ℕ
refusal N t q = first (tests N t q)

-- An answer: the number of the refusal, or the word with the flash writes and primary writes. "Both are in the answer."
pub data Answer : Type 0 where
  refused : ℕ → Answer
  answered : Word → (flash_writes primary_writes : ℕ) → Answer

-- What a call answers and leaves: the lent memory, the one block lent to it, and the part that a look returns
pub record After : Type 0 where
  pub answer : Answer
  pub lent : Lent
  pub block : Option (List ℕ)
  pub part : List ℕ

-- the bytes of an answer, those given where there is none
abbrev pub bytes_or : {B : ℕ} → List ℕ → Option (Fixed B) → List ℕ
bytes_or l none = l
bytes_or l (some b) = b.0

-- "Read a: .. the answer is copied into the lent block"; a look returns it as its part
abbrev pub block_after : {B : ℕ} → Ask → Option (Fixed B) → Option (List ℕ)
block_after q b = Option.map (λ l. cond (about_ask q).reads (bytes_or l b) l) (lent_block q)

abbrev pub part_after : {B : ℕ} → Ask → Option (Fixed B) → List ℕ
part_after q b = cond ((about_ask q).returns && not (about_ask q).reads) (bytes_or [] b) []

-- a call that is served: the paper's call on the box in the lent bytes, written down again
unfoldable pub served : (N : Numbers) → Lent → Ask → After
served N t q =
    let o = serve (labelled N) N (box_in N t) (call_of N.B q) in
    record {
      answer = answered o.word o.flash_writes o.primary_writes;
      lent = lent_of N o.box (counted t.counters (call_of N.B q) o);
      block = block_after q o.block;
      part = part_after q o.block;
    }

-- "A refused call returns its number and the box record as given ..; every buffer and counter keeps its bytes"; "a refused look's part is empty"
unfoldable pub kept : ℕ → Lent → Ask → After
kept number t q = record { answer = refused number; lent = t; block = lent_block q; part = [] }

-- a call: refused, with everything kept, or served
unfoldable pub call : (N : Numbers) → Lent → Ask → After
call N t q = cond (eqb (refusal N t (calling q)) 0) (served N t q) (kept (refusal N t (calling q)) t q)

-- "Fresh: n = 0, counters and address rows zero, block rows free with slots 0 to d − 1 in order; flash and disk keep their bytes."
unfoldable pub fresh : Numbers → Lent → Lent
fresh N t = record { n = 0; disk = t.disk; flash = t.flash; addresses = fresh_addresses N.m; blocks = fresh_blocks N.d; counters = no_counts }

-- lent memory with other counters
abbrev pub with_counters : Lent → Counters → Lent
with_counters t k = record { n = t.n; disk = t.disk; flash = t.flash; addresses = t.addresses; blocks = t.blocks; counters = k }

-- "a refused opening: the numbers given, with n = 0"; "every buffer and counter keeps its bytes"
unfoldable pub unopened : Lent → Lent
unopened t = record { n = 0; disk = t.disk; flash = t.flash; addresses = t.addresses; blocks = t.blocks; counters = t.counters }

-- an opening: a fresh box, or refused
unfoldable pub opened : Numbers → Lent → Lent
opened N t = cond (eqb (refusal N t opening) 0) (fresh N t) (unopened t)

-- U6: "The box record carries the label, given at opening (zeros if refused)."
unfoldable pub label_after : Numbers → Lent → List ℕ
label_after N t = cond (eqb (refusal N t opening) 0) N.label (zeros 64)

-- numbers with another label
abbrev pub with_label : Numbers → List ℕ → Numbers
with_label N l = record { B = N.B; P = N.P; m = N.m; d = N.d; label = l; t = N.t }
