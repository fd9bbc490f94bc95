-- The bytes of a box: what is written is read back, what passes 6, 7 and 8 is sound, and what a sound box writes passes.
use Rattle.std.specs.Prelude.{◌≡◌, refl, Bool, true, false, ◌||◌, ℕ, ◌≤◌, ◌<◌, ◌+◌, ◌*◌, ◌-◌, ◌^◌, eqb}
use Rattle.std.proofs.Common.{sym, ap₂, ◌∙◌, subst, arith, length-append, eqb-true}
use Rattle.std.proofs.Math.Path.{ap}
use Rattle.std.proofs.Math.Bool.{not}
use mathlib.Core.List.Permᴰ
use mathlib.Core.List.{List, [], ◌∷◌, ◌++◌, map}
use Rattle.std.proofs.Math.ListN.{length}
use Rattle.std.proofs.lemmas.List.{length-map}
use Rattle.std.proofs.lemmas.Bool.{not-false}
use Rattle.tables.specs.Rows.{rows, table_bytes}
use Rattle.tables.specs.Records as Table
use Rattle.tables.specs.Records.{address_bytes, read_address, block_bytes, read_block, address_table, held_rows, block_table, block_rows, free_row}
use Rattle.tables.specs.Find.{all, every, is_used}
use Rattle.tables.specs.Unsound.{addresses_unsound, blocks_unsound, dirty_uncached}
use Rattle.tables.specs.Sound.{address_ok, is_zero}
use Rattle.tables.specs.Index.{row_ok, dirty_ok}
use Rattle.tables.specs.RowLaws.{rows-length}
use Rattle.tables.specs.ShiftLaws.{length-zeros}
use Rattle.tables.specs.OperationLaws.{Wide}
use Rattle.tables.proofs.OperationLaws.{wide_rows, addr-forth}
use Rattle.table_laws.specs.Checked.{dirty-checked}
use Rattle.table_laws.specs.KeptLists.{both, zeros-zero}
use Rattle.table_laws.specs.KeptAddresses.{address_ok-of}
use Rattle.paper.specs.Cache.{Numbers, AddressRow, BlockRow, Box, Counters}
use Rattle.paper.specs.KeyedLaws.{All, all_map, all_of_map, all_left, all_right, all-perm, or-false-left, or-false-right}
use Rattle.paper.specs.Engine.{Fixed, fixed-≡, fit, labelled}
use Rattle.paper.specs.Lent.{Lent, bit, held_row, used_row, as_held, free_slots, used_rows, box_in, lent_of, with_counters, other_length, wrong_buffers}
use Rattle.paper.specs.Sound.{Sound}
use Rattle.paper.proofs.SoundLaws.{length-perm, length-slots_from}
use Rattle.paper.proofs.FaithfulLaws.{slots-below-0}
use Rattle.paper.proofs.Parts.{length-split, length-join, split-join}
use Rattle.table_laws.specs.Written.{address-wide, block-wide, block-used, block_read, block-passes, held-rows, held-rest, held-length, block-rows}
use Rattle.table_laws.specs.Written.{blocks-length}
use Rattle.paper.proofs.SoundTestsLaws.{addresses-good, good-addresses, blocks-good, good-blocks, addresses-below, addresses_apart, addresses-once}
use Rattle.paper.proofs.SoundTestsLaws.{fit_is, used-apart, used-once, slots-each, each-slots, dirty-cached, cached-dirty}
use Rattle.paper.specs.LentLaws.{Lengths, Passes, table_rows}

-- a row of the paper as a row of the tables and back
pub bit-back : (b : Bool) → eqb (bit b) 1 ≡ b
bit-back true = refl
bit-back false = refl

pub fit-whole : (n : ℕ) (f : Fixed n) → fit n f.0 ≡ f
fit-whole n f = fixed-≡ (fit n f.0) f (fit_is n f.0 f.1)

held_back : (r : AddressRow (Fixed 32)) → as_held (held_row r) ≡ r
held_back r =
    let f = fit-whole 32 r.fingerprint in
    let y = bit-back r.dirty in
    λ i. record { address = r.address; fingerprint = f i; dirty = y i; seat = r.seat }

free_back : (free : List ℕ) (used : List (BlockRow (Fixed 32))) → free_slots (table_rows free used) ≡ free
unfolding free_slots
free_back [] [] = refl
free_back [] (u ∷ us) = free_back [] us
free_back (k ∷ ks) used = ap {B = List ℕ} (λ l. k ∷ l) (free_back ks used)

used-back : (free : List ℕ) (used : List (BlockRow (Fixed 32))) → used_rows (table_rows free used) ≡ used
unfolding used_rows
used-back [] [] = refl
used-back [] (u ∷ us) =
    let f = fit-whole 32 u.fingerprint in
    ap₂ {C = List (BlockRow (Fixed 32))} (λ g l. record { fingerprint = g; slot = u.slot } ∷ l) f (used-back [] us)
used-back (k ∷ ks) used = used-back ks used

-- every row has the bytes of a row
pub held-wide : (rs : List (AddressRow (Fixed 32))) → Wide (map address_bytes (map held_row rs))
held-wide [] = tt
held-wide (r ∷ rs) = (address-wide (held_row r) r.fingerprint.1, held-wide rs)

pub table-wide : (free : List ℕ) (used : List (BlockRow (Fixed 32))) → Wide (map block_bytes (table_rows free used))
table-wide [] [] = tt
table-wide [] (u ∷ us) = (block-wide (used_row u) u.fingerprint.1, table-wide [] us)
table-wide (k ∷ ks) used = (block-wide (free_row k) (length-zeros 32), table-wide ks used)

pub table-length : (free : List ℕ) (used : List (BlockRow (Fixed 32))) → length (table_rows free used) ≡ length free + length used
table-length free used = length-append (map free_row free) (map used_row used) ∙ ap₂ ◌+◌ (length-map free free_row) (length-map used used_row)

-- the rows of the tables that are written
rows-held : (m : ℕ) (rs : List (AddressRow (Fixed 32))) → rows (length rs) (address_table m (map held_row rs)) ≡ map address_bytes (map held_row rs)
rows-held m rs = held-rows m (map held_row rs) (held-wide rs) (length rs) (length-map rs held_row)

rows-blocks : (d : ℕ) (free : List ℕ) (used : List (BlockRow (Fixed 32))) → length free + length used ≡ d
    → rows d (block_table (table_rows free used)) ≡ map block_bytes (table_rows free used)
rows-blocks d free used e = block-rows (table_rows free used) (table-wide free used) d (table-length free used ∙ e)

-- what the tables that are written hold
pub held-read : (m : ℕ) (rs : List (AddressRow (Fixed 32))) → All (λ r. r.address < 2 ^ 32) rs
    → map as_held (held_rows (length rs) (address_table m (map held_row rs))) ≡ rs
unfolding held_rows
held-read m rs q = ap (λ l. map as_held (map read_address l)) (rows-held m rs) ∙ back rs q
  where
    back : (rs : List (AddressRow (Fixed 32))) → All (λ r. r.address < 2 ^ 32) rs → map as_held (map read_address (map address_bytes (map held_row rs))) ≡ rs
    back [] q = refl
    back (r ∷ rs) q =
        ap₂ {C = List (AddressRow (Fixed 32))} (λ x l. x ∷ l)
        (ap as_held (addr-forth r.address r.fingerprint.0 (bit r.dirty) r.seat q.0 r.fingerprint.1) ∙ held_back r) (back rs q.1)

blocks-read : (d : ℕ) (free : List ℕ) (used : List (BlockRow (Fixed 32))) → length free + length used ≡ d → All (λ k. k < 2 ^ 32) free
    → All (λ u. u.slot < 2 ^ 32) used
    → block_rows d (block_table (table_rows free used)) ≡ table_rows free used
unfolding block_rows
blocks-read d free used e p q = ap (map read_block) (rows-blocks d free used e) ∙ back free used p q
  where
    back : (free : List ℕ) (used : List (BlockRow (Fixed 32))) → All (λ k. k < 2 ^ 32) free → All (λ u. u.slot < 2 ^ 32) used
        → map read_block (map block_bytes (table_rows free used)) ≡ table_rows free used
    back [] [] p q = refl
    back [] (u ∷ us) p q = ap₂ {C = List Table.BlockRow} (λ x l. x ∷ l) (block_read (used_row u) u.fingerprint.1 q.0) (back [] us p q.1)
    back (k ∷ ks) used p q = ap₂ {C = List Table.BlockRow} (λ x l. x ∷ l) (block_read (free_row k) (length-zeros 32) p.0) (back ks used p.1 q)

-- the rows that are written pass the tests of a row by itself
bit-low : (b : Bool) → bit b ≤ 1
bit-low true = omega arith
bit-low false = omega arith

held-each : (P : ℕ) → P ≤ 65536 → (rs : List (AddressRow (Fixed 32))) → All (λ r. r.address < P) rs
    → all (address_ok P) (map address_bytes (map held_row rs)) ≡ true
unfolding all
held-each P p [] q = refl
held-each P p (r ∷ rs) q =
    both (address_ok P (address_bytes (held_row r))) (all (address_ok P) (map address_bytes (map held_row rs)))
    (address_ok-of P r.address r.fingerprint.0 (bit r.dirty) r.seat q.0 (omega arith) (bit-low r.dirty) r.fingerprint.1)
    (held-each P p rs q.1)

all-used : (used : List (BlockRow (Fixed 32))) → all is_used (map block_bytes (map used_row used)) ≡ true
unfolding all
all-used [] = refl
all-used (u ∷ us) = rw (block-used (used_row u) u.fingerprint.1) (all-used us)

table-each : (d : ℕ) → d ≤ 256 → (free : List ℕ) (used : List (BlockRow (Fixed 32))) → All (λ k. k < d) free → All (λ u. u.slot < d) used
    → every (row_ok d) (map block_bytes (table_rows free used)) ≡ true
unfolding every
table-each d e [] [] p q = refl
table-each d e [] (u ∷ us) p q =
    let rs = map block_bytes (map used_row us) in
    both (row_ok d (block_bytes (used_row u)) rs) (every (row_ok d) rs)
    (block-passes (used_row u) u.fingerprint.1 d rs q.0 (omega arith) refl (all-used us)) (table-each d e [] us p q.1)
table-each d e (k ∷ ks) used p q =
    let rs = map block_bytes (table_rows ks used) in
    both (row_ok d (block_bytes (free_row k)) rs) (every (row_ok d) rs)
    (block-passes (free_row k) (length-zeros 32) d rs p.0 (omega arith) refl (zeros-zero 32)) (table-each d e ks used p.1 q)

pub label-right : (N : Numbers) (t : Lent) → wrong_buffers N t ≡ false → length N.label ≡ 64
unfolding wrong_buffers
label-right N t h =
    let others = other_length t.disk (N.P * N.B)
    || other_length t.flash (N.d * N.B)
    || other_length t.addresses (table_bytes N.m)
    || other_length t.blocks (table_bytes N.d) in
    eqb-true (length N.label) 64 (not-false (eqb (length N.label) 64) (or-false-right others (other_length N.label 64) h))

pub right-lengths : (N : Numbers) (t : Lent) → wrong_buffers N t ≡ false → Lengths N t
unfolding wrong_buffers
right-lengths N t h =
    let a = other_length t.disk (N.P * N.B) in
    let b = other_length t.flash (N.d * N.B) in
    let c = other_length t.addresses (table_bytes N.m) in
    let d = other_length t.blocks (table_bytes N.d) in
    let h₄ = or-false-left (a || b || c || d) (other_length N.label 64) h in
    let h₃ = or-false-left (a || b || c) d h₄ in
    let h₂ = or-false-left (a || b) c h₃ in
    record {
      disk = length-is t.disk (N.P * N.B) (or-false-left a b h₂);
      flash = length-is t.flash (N.d * N.B) (or-false-right a b h₂);
      addresses = length-is t.addresses (table_bytes N.m) (or-false-right (a || b) c h₃);
      blocks = length-is t.blocks (table_bytes N.d) (or-false-right (a || b || c) d h₄);
    }
  where
    length-is : (l : List ℕ) (k : ℕ) → other_length l k ≡ false → length l ≡ k
    length-is l k e = eqb-true (length l) k (not-false (eqb (length l) k) e)

-- other counters leave the box as it is, and memory that passes
pub counters-box : (N : Numbers) (t : Lent) (k : Counters) → box_in N (with_counters t k) ≡ box_in N t
unfolding box_in
counters-box N t k = refl

pub counters-pass : (N : Numbers) (t : Lent) (k : Counters) → Passes N t → Passes N (with_counters t k)
counters-pass N t k p =
    let l = p.lengths in
    record {
      lengths = record { disk = l.disk; flash = l.flash; addresses = l.addresses; blocks = l.blocks };
      addresses = p.addresses;
      blocks = p.blocks;
      dirty = p.dirty;
    }

pub passes-sound : (N : Numbers) (t : Lent) → Passes N t → Sound (labelled N) N (box_in N t)
unfolding box_in held_rows block_rows
passes-sound N t p =
    let l = p.lengths in
    let a = addresses-good N.P N.m t.n t.addresses p.addresses in
    let b = blocks-good N.d t.blocks p.blocks in
    let few = a.few in
    let al = l.addresses in
    let bl = l.blocks in
    let held = rows t.n t.addresses in
    let cached = rows N.d t.blocks in
    let hw : Wide held = wide_rows t.n t.addresses (omega arith) in
    let cw : Wide cached = wide_rows N.d t.blocks (omega arith) in
    record {
      addresses = addresses_apart held a.apart;
      below = addresses-below N.P held a.each;
      few = subst (λ k. k ≤ N.m) (sym (length-map (map read_address held) as_held ∙ length-map held read_address ∙ rows-length t.n t.addresses)) few;
      fingerprints = used-apart N cached cw b.once;
      slots = slots-each N.d cached (rows-length N.d t.blocks) b.each b.apart;
      dirty_cached = dirty-cached N cached cw held hw
          (not-false (all (dirty_ok cached) held) (sym (dirty-checked t.n N.d t.addresses t.blocks) ∙ p.dirty));
      flash_length = length-split N.B N.d t.flash;
      disk_length = length-split N.B N.P t.disk;
    }

-- what a sound box writes
module _ (N : Numbers) (s : Box (Fixed 32) (Fixed N.B)) (h : Sound (labelled N) N s) where
  slots-below : All (λ k. k < N.d) (s.free ++ map (λ u. u.slot) s.used)
  slots-below = all-perm (λ k. k < N.d) (Permᴰ.symm h.slots) (slots-below-0 N.d)

  pub free-below : All (λ k. k < N.d) s.free
  free-below = all_left (λ k. k < N.d) s.free (map (λ u. u.slot) s.used) slots-below

  pub used-below : All (λ u. u.slot < N.d) s.used
  used-below = all_of_map (λ u. u.slot) (λ k. k < N.d) s.used (all_right (λ k. k < N.d) s.free (map (λ u. u.slot) s.used) slots-below)

  pub block-count : length s.free + length s.used ≡ N.d
  block-count =
      sym (length-append s.free (map (λ u. u.slot) s.used) ∙ ap (λ k. length s.free + k) (length-map s.used (λ u. u.slot)))
      ∙ length-perm h.slots ∙ length-slots_from 0 N.d

  pub sound-lengths : (k : Counters) → Lengths N (lent_of N s k)
  unfolding lent_of
  sound-lengths k =
      record {
        disk = length-join N.B s.disk ∙ ap (λ j. j * N.B) h.disk_length;
        flash = length-join N.B s.flash ∙ ap (λ j. j * N.B) h.flash_length;
        addresses = held-length N.m (map held_row s.rows) (held-wide s.rows) (length s.rows) (length-map s.rows held_row) h.few;
        blocks = blocks-length (table_rows s.free s.used) (table-wide s.free s.used) N.d (table-length s.free s.used ∙ block-count);
      }

  module _ (k : Counters) (P1 : N.P ≤ 65536) (d1 : N.d ≤ 256) where
    blocks-written : block_rows N.d (block_table (table_rows s.free s.used)) ≡ table_rows s.free s.used
    blocks-written =
        blocks-read N.d s.free s.used block-count (all_map (λ j. j < N.d) (λ j. j < 2 ^ 32) (λ j y. omega arith) s.free free-below)
        (all_map (λ u. u.slot < N.d) (λ u. u.slot < 2 ^ 32) (λ u y. omega arith) s.used used-below)

    -- what is written is read back
    pub lent_back : box_in N (lent_of N s k) ≡ s
    unfolding box_in lent_of
    lent_back =
        let r = held-read N.m s.rows (all_map (λ r. r.address < N.P) (λ r. r.address < 2 ^ 32) (λ r y. omega arith) s.rows h.below) in
        let f = ap free_slots blocks-written ∙ free_back s.free s.used in
        let u = ap used_rows blocks-written ∙ used-back s.free s.used in
        let fl = split-join N.B N.d s.flash h.flash_length in
        let di = split-join N.B N.P s.disk h.disk_length in
        λ i. record { rows = r i; free = f i; used = u i; flash = fl i; disk = di i }

    sound-again : Sound (labelled N) N (box_in N (lent_of N s k))
    sound-again = rw lent_back h

    -- no sound box gets 6, 7 or 8
    pub sound-passes : Passes N (lent_of N s k)
    unfolding box_in lent_of held_rows block_rows
    sound-passes =
        let n = length s.rows in
        let t = address_table N.m (map held_row s.rows) in
        let b = block_table (table_rows s.free s.used) in
        let held = rows n t in
        let cached = rows N.d b in
        let hr : held ≡ map address_bytes (map held_row s.rows) = rows-held N.m s.rows in
        let br : cached ≡ map block_bytes (table_rows s.free s.used) = rows-blocks N.d s.free s.used block-count in
        let hw : Wide held = rw hr (held-wide s.rows) in
        let bw : Wide cached = rw br (table-wide s.free s.used) in
        record {
          lengths = sound-lengths k;
          addresses = good-addresses N.P N.m n t (record {
            few = h.few;
            each = ap (all (address_ok N.P)) hr ∙ held-each N.P P1 s.rows h.below;
            apart = addresses-once held sound-again.addresses;
            rest = ap (all is_zero) (held-rest N.m (map held_row s.rows) (held-wide s.rows) n (length-map s.rows held_row))
                ∙ zeros-zero (table_bytes (N.m - n));
          });
          blocks = good-blocks N.d b (record {
            each = ap (every (row_ok N.d)) br ∙ table-each N.d d1 s.free s.used free-below used-below;
            apart = each-slots N.d cached sound-again.slots;
            once = used-once N cached bw sound-again.fingerprints;
          });
          dirty = dirty-checked n N.d t b ∙ ap not (cached-dirty N cached bw held hw sound-again.dirty_cached);
        }
