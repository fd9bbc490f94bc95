-- The cache as the document describes it: the two tables, the step of one request, and the calls.
-- F is the type of fingerprints and X that of blocks: 32 and B bytes in the real cache, labels in the worked examples.
use Rattle.std.specs.Prelude.{◌≡◌, Bool, true, false, not, ◌&&◌, ◌||◌, cond, List, [], ◌∷◌, ◌++◌, ℕ, zero, suc, ◌+◌, ◌<◌, eqb, ltb, length, get_or, set, take, drop}
use Rattle.std.proofs.Math.Option.{Option, none, some, map}
use Rattle.tables.specs.Records.{slots_from}
pub use Rattle.tables.specs.Records.{Seat}
use Rattle.paper.specs.Keyed.{has, without, find}

-- "B is the block size in bytes .. P is the number of disk blocks .. m is the most addresses held .. d is the number of cached blocks"
pub record Numbers : Type 0 where
  pub B : ℕ
  pub P : ℕ
  pub m : ℕ
  pub d : ℕ
  -- U6: "The box record carries the label": "a 64-byte office label"
  pub label : List ℕ
  -- U8: "The box record gains a limit t from 1 to m"
  pub t : ℕ

-- What the cache needs to know of blocks: the fingerprint of one, when two fingerprints are the same, and a block to stand for none.
pub record Hashing (F X : Type 0) : Type 0 where
  pub same : F → F → Bool
  pub same→≡ : (f g : F) → same f g ≡ true → f ≡ g
  pub same_refl : (f : F) → same f f ≡ true
  pub hash : X → F
  pub blank : X

-- "An address row: address (4 bytes, little-endian), fingerprint (32), dirty byte (1 if flash is newer than disk, else 0)"
pub record AddressRow (F : Type 0) : Type 0 where
  pub address : ℕ
  pub fingerprint : F
  pub dirty : Bool
  -- U7: "which seat last wrote each held address"
  pub seat : Seat

-- A used row of "fingerprint (32), slot (4, little-endian), used byte (1 or 0)". A free one is its slot.
pub record BlockRow (F : Type 0) : Type 0 where
  pub fingerprint : F
  pub slot : ℕ

-- Both tables, flash and disk
pub record Box (F X : Type 0) : Type 0 where
  -- "Held rows come first, oldest use to newest"
  pub rows : List (AddressRow F)
  -- "Free rows (used 0, zero fingerprint) come first, then used rows from oldest to newest use.": the slots of the free rows, and the used rows
  pub free : List ℕ
  pub used : List (BlockRow F)
  -- the blocks of flash by slot, and of disk by address
  pub flash : List X
  pub disk : List X

-- "A request is address a, fingerprint g, block b and a dirty value.", and U7's seat
pub record Request (F X : Type 0) : Type 0 where
  pub address : ℕ
  pub fingerprint : F
  pub block : X
  pub dirty : Bool
  pub seat : Seat

-- What steps 1, 3 and 4 leave
pub record RowOut (F X : Type 0) : Type 0 where
  pub rows : List (AddressRow F)
  pub gone : Option F
  pub disk : List X
  pub primary : ℕ

pub record BlockRows (F : Type 0) : Type 0 where
  pub free : List ℕ
  pub used : List (BlockRow F)

pub record Taken (F : Type 0) : Type 0 where
  pub slot : ℕ
  pub lost : Option F
  pub free : List ℕ
  pub used : List (BlockRow F)

pub record Stepped (F X : Type 0) : Type 0 where
  pub box : Box F X
  pub flash_writes : ℕ
  pub primary_writes : ℕ

abbrev pub newest : {F : Type 0} → ℕ → F → Bool → Seat → AddressRow F
newest a g w z = record { address = a; fingerprint = g; dirty = w; seat = z }

abbrev pub block_row : {F : Type 0} → F → ℕ → BlockRow F
block_row g k = record { fingerprint = g; slot = k }

-- "Held" means in the address table; `row_of` is the row.
module _ {F : Type 0} where
  abbrev pub held : ℕ → List (AddressRow F) → Bool
  held a rows = has eqb (λ r. r.address) a rows

  abbrev pub row_of : ℕ → List (AddressRow F) → Option (AddressRow F)
  row_of a rows = find eqb (λ r. r.address) a rows

  -- U7: "reads keep it, a read of an address not held sets 0"
  abbrev pub seat_in : Option (AddressRow F) → Seat
  seat_in none = (0, 0)
  seat_in (some r) = r.seat

  abbrev pub without_address : ℕ → List (AddressRow F) → List (AddressRow F)
  without_address a rows = without eqb (λ r. r.address) a rows

module _ {F X : Type 0} (H : Hashing F X) where
  -- some address row has the fingerprint
  abbrev pub known : F → List (AddressRow F) → Bool
  known g rows = has H.same (λ r. r.fingerprint) g rows

  -- "cached" means in a used block row
  abbrev pub cached : F → List (BlockRow F) → Bool
  cached g used = has H.same (λ u. u.fingerprint) g used

  abbrev pub without_block : F → List (BlockRow F) → List (BlockRow F)
  without_block g used = without H.same (λ u. u.fingerprint) g used

  -- the slot of a cached fingerprint, and the block in it
  abbrev pub slot_of : F → List (BlockRow F) → ℕ
  slot_of g [] = 0
  slot_of g (u ∷ us) = cond (H.same g u.fingerprint) u.slot (slot_of g us)

  abbrev pub block_of : F → List (BlockRow F) → List X → X
  block_of g used flash = get_or flash (slot_of g used) H.blank

  -- The dirty rows of those whose fingerprint is `chosen`: their blocks copied to their disk addresses, oldest row first;
  -- how many these are; and the rows after that, when they are clean.
  abbrev pub copied : (F → Bool) → List (AddressRow F) → List (BlockRow F) → List X → List X → List X
  copied chosen [] used flash disk = disk
  copied chosen (r ∷ rs) used flash disk =
      copied chosen rs used flash (cond (r.dirty && chosen r.fingerprint) (set disk r.address (block_of r.fingerprint used flash)) disk)

  abbrev pub copies : (F → Bool) → List (AddressRow F) → ℕ
  copies chosen [] = 0
  copies chosen (r ∷ rs) = cond (r.dirty && chosen r.fingerprint) 1 0 + copies chosen rs

  abbrev pub cleaned : (F → Bool) → List (AddressRow F) → List (AddressRow F)
  cleaned chosen [] = []
  cleaned chosen (r ∷ rs) = newest r.address r.fingerprint (r.dirty && not (chosen r.fingerprint)) r.seat ∷ cleaned chosen rs

  -- "the dirty rows before": how many these are
  abbrev pub dirty_rows : List (AddressRow F) → ℕ
  dirty_rows rows = copies (λ f. true) rows

  -- "one call cleans at most k dirty rows, oldest first": they are those among so many rows, from the oldest on
  abbrev pub reach : ℕ → List (AddressRow F) → ℕ
  reach k [] = 0
  reach zero (r ∷ rs) = 0
  reach (suc k) (r ∷ rs) = suc (cond r.dirty (reach k rs) (reach (suc k) rs))

  -- the rows when the first i are clean, and the box when the dirty ones among these are copied to disk too
  abbrev pub partly : ℕ → List (AddressRow F) → List (AddressRow F)
  partly i rows = cleaned (λ f. true) (take i rows) ++ drop i rows

  abbrev pub clean_to : ℕ → Box F X → Box F X
  clean_to i s =
      record {
        rows = partly i s.rows;
        free = s.free;
        used = s.used;
        flash = s.flash;
        disk = copied (λ f. true) (take i s.rows) s.used s.flash s.disk;
      }

  -- Step 1. "If a is held, its row is taken out. Otherwise, if n = m, the oldest row is taken out, after its block is copied
  -- to its disk address if it was dirty. Let q be the fingerprint of the row taken out, if any."
  unfoldable pub oldest_out : Box F X → List (AddressRow F) → RowOut F X
  oldest_out s [] = record { rows = []; gone = none; disk = s.disk; primary = 0 }
  oldest_out s (r ∷ rs) =
      record {
        rows = rs;
        gone = some r.fingerprint;
        disk = copied (λ f. true) (r ∷ []) s.used s.flash s.disk;
        primary = copies (λ f. true) (r ∷ []);
      }

  unfoldable pub step1 : ℕ → Box F X → ℕ → RowOut F X
  step1 m s a =
      cond (held a s.rows)
      (record { rows = without_address a s.rows; gone = map (λ r. r.fingerprint) (row_of a s.rows); disk = s.disk; primary = 0 })
      (cond (eqb (length s.rows) m)
      (oldest_out s s.rows)
      (record { rows = s.rows; gone = none; disk = s.disk; primary = 0 }))

  -- Step 3. "If q is cached, no address row has q now, and some row other than the newest has a fingerprint that is not
  -- cached, then q's block row becomes free and moves to the front." `others` are the rows but the newest, `rows` all.
  abbrev pub some_uncached : List (AddressRow F) → List (BlockRow F) → Bool
  some_uncached [] used = false
  some_uncached (r ∷ rs) used = not (cached r.fingerprint used) || some_uncached rs used

  unfoldable pub freed : F → BlockRows F → BlockRows F
  freed q b = record { free = slot_of q b.used ∷ b.free; used = without_block q b.used }

  unfoldable pub step3 : Option F → List (AddressRow F) → List (AddressRow F) → BlockRows F → BlockRows F
  step3 none others rows b = b
  step3 (some q) others rows b = cond (cached q b.used && not (known q rows) && some_uncached others b.used) (freed q b) b

  -- Step 4. "Otherwise one block row is taken: the first free one; if none, the oldest whose fingerprint no address row has; if none,
  -- the oldest."
  unfoldable pub oldest_unknown : List (AddressRow F) → List (BlockRow F) → Option (BlockRow F)
  oldest_unknown rows [] = none
  oldest_unknown rows (u ∷ us) = cond (known u.fingerprint rows) (oldest_unknown rows us) (some u)

  unfoldable pub victim : Option (BlockRow F) → List (BlockRow F) → Option (BlockRow F)
  victim (some u) used = some u
  victim none [] = none
  victim none (u ∷ us) = some u

  unfoldable pub taken_used : Option (BlockRow F) → List (BlockRow F) → Taken F
  taken_used (some u) used = record { slot = u.slot; lost = some u.fingerprint; free = []; used = without_block u.fingerprint used }
  taken_used none used = record { slot = 0; lost = none; free = []; used = used }

  unfoldable pub taken : List (AddressRow F) → List ℕ → List (BlockRow F) → Taken F
  taken rows (k ∷ free) used = record { slot = k; lost = none; free = free; used = used }
  taken rows [] used = taken_used (victim (oldest_unknown rows used) used) used

  -- a fingerprint is that of the used row that was taken, if one was
  abbrev pub is_lost : Option F → F → Bool
  is_lost none f = false
  is_lost (some v) f = H.same v f

  -- "If it was a used row and dirty address rows have its fingerprint, the block is first copied to each of their disk
  -- addresses, oldest row first, and they become clean. Then b goes to that slot, and the row with g becomes newest."
  unfoldable pub stored : List (AddressRow F) → List (BlockRow F) → List X → List X → F → X → ℕ → Taken F → Stepped F X
  stored rows used flash disk g b writes t =
      record {
        box = record {
          rows = cleaned (is_lost t.lost) rows;
          free = t.free;
          used = t.used ++ (block_row g t.slot ∷ []);
          flash = set flash t.slot b;
          disk = copied (is_lost t.lost) rows used flash disk;
        };
        flash_writes = 1;
        primary_writes = writes + copies (is_lost t.lost) rows;
      }

  -- "If g is cached, its block row becomes newest. Otherwise .."
  unfoldable pub step4 : List (AddressRow F) → BlockRows F → List X → List X → F → X → ℕ → Stepped F X
  step4 rows t flash disk g b writes =
      cond (cached g t.used)
      (record {
        box = record { rows = rows; free = t.free; used = without_block g t.used ++ (block_row g (slot_of g t.used) ∷ []); flash = flash; disk = disk };
        flash_writes = 0;
        primary_writes = writes;
      })
      (stored rows t.used flash disk g b writes (taken rows t.free t.used))

  -- The step of one request. Step 2: "The row (a, g, dirty value) is added as newest."
  unfoldable pub step : ℕ → Box F X → Request F X → Stepped F X
  step m s q =
      let out = step1 m s q.address in
      let rows = out.rows ++ (newest q.address q.fingerprint q.dirty q.seat ∷ []) in
      let blocks = step3 out.gone out.rows rows (record { free = s.free; used = s.used }) in
      step4 rows blocks s.flash out.disk q.fingerprint q.block out.primary

-- The calls, each with its address and the block lent to it; U7: "writes carry" a seat number
pub data Call (X : Type 0) : Type 0 where
  read : ℕ → Call X
  through : ℕ → X → Seat → Call X
  back : ℕ → X → Seat → Call X
  invalidate : ℕ → X → Seat → Call X
  look : ℕ → Call X
  -- of at most so many dirty rows; "The full flush becomes that call with k = m."
  flush : ℕ → Call X

-- What a call is about: its address, the block that it writes there, whether it is a read, whether it returns a block, and whether it counts
pub record About (X : Type 0) : Type 0 where
  pub address : Option ℕ
  pub written : Option X
  pub reads : Bool
  pub returns : Bool
  pub counts : Bool

-- "A read or look answers block a. Each write replaces block a by the block lent to it."; look "counts nothing"; a flush has no address
abbrev pub about : {X : Type 0} → Call X → About X
about (read a) = record { address = some a; written = none; reads = true; returns = true; counts = true }
about (through a b z) = record { address = some a; written = some b; reads = false; returns = false; counts = true }
about (back a b z) = record { address = some a; written = some b; reads = false; returns = false; counts = true }
about (invalidate a b z) = record { address = some a; written = some b; reads = false; returns = false; counts = true }
about (look a) = record { address = some a; written = none; reads = false; returns = true; counts = false }
about (flush k) = record { address = none; written = none; reads = false; returns = false; counts = true }

-- what is there, if anything, before a list
abbrev pub before : {A : Type 0} → Option A → List A → List A
before none xs = xs
before (some x) xs = x ∷ xs

-- its address, if it has one, is one of the disk's
abbrev pub Below : ℕ → Option ℕ → Type 0
Below P none = Unit {0}
Below P (some a) = a < P

abbrev pub Within : {X : Type 0} → ℕ → Call X → Type 0
Within P c = Below P (about c).address

-- "answer (hit, miss, same, new, cache, disk, done)"
pub data Word : Type 0 where
  hit miss same_block new_block from_cache from_disk done : Word

-- What a call leaves and answers. "Flash writes are blocks stored in step 4; primary writes are blocks copied to disk. Both are in the answer."
pub record Outcome (F X : Type 0) : Type 0 where
  pub box : Box F X
  pub word : Word
  -- the block returned, by a read or a look
  pub block : Option X
  pub flash_writes : ℕ
  pub primary_writes : ℕ

module _ {F X : Type 0} (H : Hashing F X) where
  -- the row of a, if a is held and its fingerprint cached
  unfoldable pub if_cached : List (BlockRow F) → Option (AddressRow F) → Option (AddressRow F)
  if_cached used none = none
  if_cached used (some r) = cond (cached H r.fingerprint used) (some r) none

  abbrev pub row_with_block : Box F X → ℕ → Option (AddressRow F)
  row_with_block s a = if_cached s.used (row_of a s.rows)

  unfoldable pub answer : Word → Option X → ℕ → Stepped F X → Outcome F X
  answer w b more t = record { box = t.box; word = w; block = b; flash_writes = t.flash_writes; primary_writes = more + t.primary_writes }

  -- "Read a: if a is held and its fingerprint cached, that block is the answer, a hit; g is the row's own fingerprint, nothing is hashed,
  -- and its dirty value stays. Otherwise a miss: the block is fetched from disk and the row is clean. The step runs in both"
  -- `x` is the block that a miss takes: the disk's, but for U2's repeats.
  unfoldable pub read_as : ℕ → Box F X → ℕ → X → Option (AddressRow F) → Outcome F X
  read_as m s a x (some r) =
      let b = block_of H r.fingerprint s.used s.flash in
      answer hit (some b) 0 (step H m s (record { address = a; fingerprint = r.fingerprint; block = b; dirty = r.dirty; seat = r.seat }))
  read_as m s a x none =
      answer miss (some x) 0 (step H m s (record { address = a; fingerprint = H.hash x; block = x; dirty = false; seat = seat_in (row_of a s.rows) }))

  -- "A write answers "same" if its fingerprint was cached before the call, else "new"."
  abbrev pub same_or_new : Box F X → X → Word
  same_or_new s b = cond (cached H (H.hash b) s.used) same_block new_block

  abbrev pub on_disk : Box F X → ℕ → X → Box F X
  on_disk s a b = record { rows = s.rows; free = s.free; used = s.used; flash = s.flash; disk = set s.disk a b }

  -- "Write through: the block goes to disk address a; the step runs, clean."
  unfoldable pub write_through : ℕ → Box F X → ℕ → X → Seat → Outcome F X
  write_through m s a b z =
      answer (same_or_new s b) none 1 (step H m (on_disk s a b) (record { address = a; fingerprint = H.hash b; block = b; dirty = false; seat = z }))

  -- "a write back to a held, clean address with the same fingerprint leaves the row clean": the dirty value of a write back of fingerprint g
  abbrev pub dirtied : F → Option (AddressRow F) → Bool
  dirtied g none = true
  dirtied g (some r) = r.dirty || not (H.same g r.fingerprint)

  -- "Write back: the step runs, dirty": but for that. "Disk address a isn't written by this call."
  abbrev pub back_request : Box F X → ℕ → X → Seat → Request F X
  back_request s a b z = record { address = a; fingerprint = H.hash b; block = b; dirty = dirtied (H.hash b) (row_of a s.rows); seat = z }

  unfoldable pub write_back : ℕ → Box F X → ℕ → X → Seat → Outcome F X
  write_back m s a b z = answer (same_or_new s b) none 0 (step H m s (back_request s a b z))

  -- "Write invalidate: the block goes to disk. If a is held, its row is taken out; if no row then has its fingerprint and it is cached,
  -- that block row becomes free and moves to the front."
  unfoldable pub dropped : List (AddressRow F) → BlockRows F → Option (AddressRow F) → BlockRows F
  dropped rows t none = t
  dropped rows t (some r) = cond (not (known H r.fingerprint rows) && cached H r.fingerprint t.used) (freed H r.fingerprint t) t

  unfoldable pub write_invalidate : Box F X → ℕ → X → Outcome F X
  write_invalidate s a b =
      let rows = without_address a s.rows in
      let blocks = dropped rows (record { free = s.free; used = s.used }) (row_of a s.rows) in
      record {
        box = record { rows = rows; free = blocks.free; used = blocks.used; flash = s.flash; disk = set s.disk a b };
        word = same_or_new s b;
        block = none;
        flash_writes = 0;
        primary_writes = 1;
      }

  -- "Look a: moves nothing, counts nothing, and returns a part of the flash if a is held with its block, of the disk otherwise."
  unfoldable pub look_as : Box F X → ℕ → Option (AddressRow F) → Outcome F X
  look_as s a (some r) = record { box = s; word = from_cache; block = some (block_of H r.fingerprint s.used s.flash); flash_writes = 0; primary_writes = 0 }
  look_as s a none = record { box = s; word = from_disk; block = some (get_or s.disk a H.blank); flash_writes = 0; primary_writes = 0 }

  -- "Flush: each dirty row, oldest first, is copied to disk and made clean. No order changes."; "one call cleans at most k dirty rows, oldest
  -- first, and says how many it cleaned": by the primary writes of its answer
  unfoldable pub flushed : ℕ → Box F X → Outcome F X
  flushed k s =
      let i = reach H k s.rows in
      record { box = clean_to H i s; word = done; block = none; flash_writes = 0; primary_writes = dirty_rows H (take i s.rows) }

  -- U8: "After the step of a write back, if more than t rows are dirty, the oldest dirty one is copied to disk and made clean.": as by a flush of one row
  abbrev pub excess : ℕ → List (AddressRow F) → ℕ
  excess t rows = cond (ltb t (dirty_rows H rows)) 1 0

  abbrev pub limited : ℕ → Outcome F X → Outcome F X
  limited t o =
      let f = flushed (excess t o.box.rows) o.box in
      record { box = f.box; word = o.word; block = o.block; flash_writes = o.flash_writes; primary_writes = o.primary_writes + f.primary_writes }

  unfoldable pub serve : Numbers → Box F X → Call X → Outcome F X
  serve N s (read a) = read_as N.m s a (get_or s.disk a H.blank) (row_with_block s a)
  serve N s (through a b z) = write_through N.m s a b z
  serve N s (back a b z) = limited N.t (write_back N.m s a b z)
  serve N s (invalidate a b z) = write_invalidate s a b
  serve N s (look a) = look_as s a (row_with_block s a)
  serve N s (flush k) = flushed k s

-- "Fresh: n = 0, counters and address rows zero, block rows free with slots 0 to d − 1 in order; flash and disk keep their bytes."
abbrev pub fresh : {F X : Type 0} → ℕ → List X → List X → Box F X
fresh d flash disk = record { rows = []; free = slots_from 0 d; used = []; flash = flash; disk = disk }

-- "The counters record holds reads, hits, flash writes and primary writes"
pub record Counters : Type 0 where
  pub reads : ℕ
  pub hits : ℕ
  pub flash_writes : ℕ
  pub primary_writes : ℕ

abbrev pub no_counts : Counters
no_counts = record { reads = 0; hits = 0; flash_writes = 0; primary_writes = 0 }

abbrev pub one_if : Bool → ℕ
one_if true = 1
one_if false = 0

abbrev pub is_read : {X : Type 0} → Call X → Bool
is_read c = (about c).reads

abbrev pub is_hit : Word → Bool
is_hit hit = true
is_hit miss = false
is_hit same_block = false
is_hit new_block = false
is_hit from_cache = false
is_hit from_disk = false
is_hit done = false

-- "every call but look adds its own to it". A look "counts nothing": its word is no hit and its writes are 0.
unfoldable pub counted : {F X : Type 0} → Counters → Call X → Outcome F X → Counters
counted k c o =
    record {
      reads = k.reads + one_if (is_read c);
      hits = k.hits + one_if (is_hit o.word);
      flash_writes = k.flash_writes + o.flash_writes;
      primary_writes = k.primary_writes + o.primary_writes;
    }
