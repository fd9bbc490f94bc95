-- What the functions of `tables` read and leave at a row, in the paper's rows. Assumes nothing.
use Rattle.std.specs.Prelude.{◌≡◌, refl, Bool, true, false, ℕ, suc, zero, ◌<◌, ◌+◌, eqb, length, get_or}
use Rattle.std.proofs.Math.Path.{sym, ap}
use Rattle.std.proofs.Common.{ap₂, ◌∙◌, le_of_suc-le-suc, zero-add, suc-add, arith}
use mathlib.Core.List.{List, [], ◌∷◌, ◌++◌, map, append_assoc}
use Rattle.std.proofs.Math.ListN.{set}
use Rattle.std.proofs.lemmas.List.{length-map}
use Rattle.tables.specs.Rows.{remove_at, row_at}
use Rattle.tables.specs.Records.{address_row, address_bytes, block_bytes, read_address, read_block, free_row, address_table, block_table}
use Rattle.tables.specs.Records as R
use Rattle.tables.specs.Find.{is_dirty, is_used}
use Rattle.tables.specs.Operations.{row_out, row_added, row_cleaned, row_newest, row_freed, row_filled}
use Rattle.tables.specs.SoundLaws.{map_at}
use Rattle.tables.specs.ShiftLaws.{length-zeros}
use Rattle.tables.proofs.OperationLaws.{addr-forth, map-++, map-remove_at, map-set}
use Rattle.table_laws.specs.Written.{clean_row, address-address, address-dirty, block-slot, held_at, held_out, held-added, held-cleaned, block_at}
use Rattle.table_laws.specs.Written.{blocks-newest, blocks-freed, blocks-filled}
use Rattle.paper.specs.KeyedLaws.{All}
use Rattle.paper.specs.Cache.{Seat, AddressRow, BlockRow, newest, block_row}
use Rattle.paper.specs.Engine.{Fixed}
use Rattle.paper.specs.Lent.{bit, held_row, used_row}
use Rattle.paper.specs.LentLaws.{table_rows}
use Rattle.paper.proofs.LentLaws.{bit-back, held-wide, table-wide, table-length}
use Rattle.paper.specs.Layout.{addresses_of, blocks_of, Addrs, Blocks}
use Rattle.parts.specs.Rep.{clean}
use Rattle.parts.specs.TableLaws.{addr_bytes, used_bytes, free_bytes, fp-of, fp-used, flag-used, flag-free}

pub all_get_d : {A : Type 0} (Q : A → Type 0) (l : List A) (i : ℕ) (z : A) → All Q l → i < length l → Q (get_or l i z)
all_get_d Q [] i z q h = absurd (omega arith)
all_get_d Q (x ∷ xs) zero z q h = q.0
all_get_d Q (x ∷ xs) (suc i) z q h = all_get_d Q xs i z q.1 (le_of_suc-le-suc h)

-- ---- address rows
module _ (P m n : ℕ) (t : List ℕ) (l : List (AddressRow (Fixed 32))) (h : Addrs P m n t l) where
  count : length (map held_row l) ≡ n
  count = length-map l held_row ∙ h.count

  module _ (i : ℕ) (b : i < n) (z : AddressRow (Fixed 32)) where
    within : i < length l
    within = omega (arith, h.count)

    held-row : get_or (map held_row l) i (held_row z) ≡ held_row (get_or l i z)
    held-row = map_at held_row l i (held_row z) z within

    pub row_is : row_at t i ≡ addr_bytes (get_or l i z)
    unfolding addresses_of
    row_is = ap (λ (x : List ℕ). row_at x i) h.is ∙ held_at m (map held_row l) (held-wide l) n count i b (held_row z) ∙ ap address_bytes held-row

    pub address_below : (get_or l i z).address < P
    address_below = all_get_d (λ (x : AddressRow (Fixed 32)). x.address < P) l i z h.below within

    pub address_is : (read_address (row_at t i)).address ≡ (get_or l i z).address
    address_is = ap (λ (x : List ℕ). (read_address x).address) row_is ∙ address-address (held_row (get_or l i z)) (omega (arith, h.small, address_below))

    pub dirty-is : is_dirty (row_at t i) ≡ (get_or l i z).dirty
    dirty-is =
        ap is_dirty row_is ∙ ap (λ (k : ℕ). eqb k 1) (address-dirty (held_row (get_or l i z)) (get_or l i z).fingerprint.1) ∙ bit-back (get_or l i z).dirty

    pub seat-is : (read_address (row_at t i)).seat ≡ (get_or l i z).seat
    seat-is =
        let r = get_or l i z in
        ap (λ (x : List ℕ). (read_address x).seat) row_is
        ∙ ap (λ (x : R.AddressRow). x.seat)
        (addr-forth r.address r.fingerprint.0 (bit r.dirty) r.seat (omega (arith, h.small, address_below)) r.fingerprint.1)

    pub fp-is : (read_address (row_at t i)).fingerprint ≡ (get_or l i z).fingerprint.0
    fp-is = ap (λ (x : List ℕ). (read_address x).fingerprint) row_is ∙ fp-of (get_or l i z)

    -- remove_row
    pub removed : row_out n i t ≡ addresses_of m (remove_at l i)
    unfolding addresses_of
    removed = ap (row_out n i) h.is ∙ held_out m (map held_row l) (held-wide l) n count i b (held_row z) h.few
        ∙ ap (address_table m) (sym (map-remove_at held_row l i))

    -- set_clean
    pub cleaned-row : row_cleaned i t ≡ addresses_of m (set l i (clean (get_or l i z)))
    unfolding addresses_of
    cleaned-row =
        ap (row_cleaned i) h.is ∙ held-cleaned m (map held_row l) (held-wide l) n count i b (held_row z) h.few
        ∙ ap (address_table m) (ap (λ (r : R.AddressRow). set (map held_row l) i (clean_row r)) held-row ∙ sym (map-set held_row l i (clean (get_or l i z))))

  -- push_address
  pub pushed : n < m → (a : ℕ) (f : Fixed 32) (w : Bool) (z : Seat)
      → row_added n (address_bytes (address_row a f.0 (bit w) z)) t ≡ addresses_of m (l ++ (newest a f w z ∷ []))
  unfolding addresses_of
  pushed b a f w z =
      ap (row_added n (address_bytes (address_row a f.0 (bit w) z))) h.is ∙ held-added m (map held_row l) (held-wide l) n count b (held_row (newest a f w z))
      ∙ ap (address_table m) (sym (map-++ held_row l (newest a f w z ∷ [])))

-- ---- block rows
get_d-right : {A : Type 0} (xs ys : List A) (k : ℕ) (e : A) → get_or (xs ++ ys) (length xs + k) e ≡ get_or ys k e
get_d-right [] ys k e = rw (zero-add k) refl
get_d-right (x ∷ xs) ys k e = rw (suc-add (length xs) k) (get_d-right xs ys k e)

remove_at-right : {A : Type 0} (xs ys : List A) (k : ℕ) → remove_at (xs ++ ys) (length xs + k) ≡ xs ++ remove_at ys k
remove_at-right [] ys k = rw (zero-add k) refl
remove_at-right {A} (x ∷ xs) ys k = rw (suc-add (length xs) k) (ap {B = List A} (λ l. x ∷ l) (remove_at-right xs ys k))

-- a used row behind the others
more-used : (free : List ℕ) (used : List (BlockRow (Fixed 32))) (u : BlockRow (Fixed 32))
    → table_rows free used ++ (used_row u ∷ []) ≡ table_rows free (used ++ (u ∷ []))
more-used free used u =
    append_assoc (map free_row free) (map used_row used) (used_row u ∷ [])
    ∙ ap (λ (x : List R.BlockRow). map free_row free ++ x) (sym (map-++ used_row used (u ∷ [])))

module _ (d : ℕ) (t : List ℕ) (free : List ℕ) (used : List (BlockRow (Fixed 32))) (h : Blocks d t free used) where
  table-count : length (table_rows free used) ≡ d
  table-count = table-length free used ∙ h.count

  -- row `length free + k`, which is used
  module _ (k : ℕ) (b : k < length used) (z : BlockRow (Fixed 32)) where
    below : length free + k < d
    below = omega (arith, h.count)

    used-at : get_or (table_rows free used) (length free + k) (used_row z) ≡ used_row (get_or used k z)
    used-at =
        ap (λ (j : ℕ). get_or (table_rows free used) (j + k) (used_row z)) (sym (length-map free free_row))
        ∙ get_d-right (map free_row free) (map used_row used) k (used_row z) ∙ map_at used_row used k (used_row z) z b

    rest_at : remove_at (table_rows free used) (length free + k) ≡ table_rows free (remove_at used k)
    rest_at =
        ap (λ (j : ℕ). remove_at (table_rows free used) (j + k)) (sym (length-map free free_row))
        ∙ remove_at-right (map free_row free) (map used_row used) k ∙ ap (λ (x : List R.BlockRow). map free_row free ++ x) (sym (map-remove_at used_row used k))

    print-at : length (get_or (table_rows free used) (length free + k) (used_row z)).fingerprint ≡ 32
    print-at = ap (λ (r : R.BlockRow). length r.fingerprint) used-at ∙ (get_or used k z).fingerprint.1

    pub used-row : row_at t (length free + k) ≡ used_bytes (get_or used k z)
    unfolding blocks_of
    used-row = ap (λ (x : List ℕ). row_at x (length free + k)) h.is
        ∙ block_at (table_rows free used) (table-wide free used) d table-count (length free + k) below (used_row z) ∙ ap block_bytes used-at

    pub slot-below : (get_or used k z).slot < d
    slot-below = all_get_d (λ (x : BlockRow (Fixed 32)). x.slot < d) used k z h.used-below b

    pub slot_is : (read_block (row_at t (length free + k))).slot ≡ (get_or used k z).slot
    slot_is =
        ap (λ (x : List ℕ). (read_block x).slot) used-row ∙ block-slot (used_row (get_or used k z)) (get_or used k z).fingerprint.1
        (omega (arith, h.small, slot-below))

    pub used-flag : is_used (row_at t (length free + k)) ≡ true
    used-flag = ap is_used used-row ∙ ap (λ (n : ℕ). eqb n 1) (flag-used (get_or used k z))

    pub used-fp : (read_block (row_at t (length free + k))).fingerprint ≡ (get_or used k z).fingerprint.0
    used-fp = ap (λ (x : List ℕ). (read_block x).fingerprint) used-row ∙ fp-used (get_or used k z)

    -- to_newest
    pub renewed : row_newest d (length free + k) t ≡ blocks_of free (remove_at used k ++ (get_or used k z ∷ []))
    unfolding blocks_of
    renewed =
        ap (row_newest d (length free + k)) h.is ∙ blocks-newest (table_rows free used) (table-wide free used) d table-count (length free + k) below
        (used_row z)
        ∙ ap block_table (ap₂ {C = List R.BlockRow} (λ x y. x ++ (y ∷ [])) rest_at used-at ∙ more-used free (remove_at used k) (get_or used k z))

    -- to_front
    pub fronted : row_freed d (length free + k) t ≡ blocks_of ((get_or used k z).slot ∷ free) (remove_at used k)
    unfolding blocks_of
    fronted =
        ap (row_freed d (length free + k)) h.is ∙ blocks-freed (table_rows free used) (table-wide free used) d table-count (length free + k) below
        (used_row z) print-at
        ∙ ap block_table (ap₂ {C = List R.BlockRow} (λ x y. free_row y.slot ∷ x) rest_at used-at)

    -- put_block on a used row
    pub refilled : (f : Fixed 32) → row_filled d (length free + k) f.0 t ≡ blocks_of free (remove_at used k ++ (block_row f (get_or used k z).slot ∷ []))
    unfolding blocks_of
    refilled f =
        ap (row_filled d (length free + k) f.0) h.is ∙ blocks-filled (table_rows free used) (table-wide free used) d table-count (length free + k) below
        (used_row z) print-at f.0
        ∙ ap block_table (ap₂ {C = List R.BlockRow} (λ x y. x ++ (R.block_row f.0 y.slot 1 ∷ [])) rest_at used-at
        ∙ more-used free (remove_at used k) (block_row f (get_or used k z).slot))

-- the first row, where it is free
module _ (d : ℕ) (t : List ℕ) (s : ℕ) (free : List ℕ) (used : List (BlockRow (Fixed 32))) (h : Blocks d t (s ∷ free) used) where
  some-row : 0 < d
  some-row = omega (arith, h.count)

  pub first-row : row_at t 0 ≡ free_bytes s
  unfolding blocks_of
  first-row = ap (λ (x : List ℕ). row_at x 0) h.is
      ∙ block_at (table_rows (s ∷ free) used) (table-wide (s ∷ free) used) d (table-length (s ∷ free) used ∙ h.count) 0 some-row (free_row s)

  pub first-flag : is_used (row_at t 0) ≡ false
  first-flag = ap is_used first-row ∙ ap (λ (n : ℕ). eqb n 1) (flag-free s)

  pub first_slot : (read_block (row_at t 0)).slot ≡ s
  first_slot = ap (λ (x : List ℕ). (read_block x).slot) first-row ∙ block-slot (free_row s) (length-zeros 32) (omega (arith, h.small, h.free-below.0))

  -- put_block on it
  pub first-filled : (f : Fixed 32) → row_filled d 0 f.0 t ≡ blocks_of free (used ++ (block_row f s ∷ []))
  unfolding blocks_of
  first-filled f =
      ap (row_filled d 0 f.0) h.is
      ∙ blocks-filled (table_rows (s ∷ free) used) (table-wide (s ∷ free) used) d (table-length (s ∷ free) used ∙ h.count) 0 some-row (free_row s)
      (length-zeros 32) f.0
      ∙ ap block_table (more-used free used (block_row f s))
