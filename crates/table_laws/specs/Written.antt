-- For the crates above, which do not open the layout: a row that is written and read back field by field, a table that is written from records and its rows,
-- and what each operation makes of it, as records. Assumes nothing.
use Rattle.std.specs.Prelude.{◌≡◌, refl, false, cond, ◌&&◌, eqb, leb, ltb, take, get_or, set}
use Rattle.std.proofs.Math.Path.{sym, ap, ap₂}
use Rattle.std.proofs.Common.{◌∙◌, arith, length-set, drop_at, drop-drop, length-take-le, leb-true, lt-ltb}
use Rattle.std.proofs.Math.Bool.{true}
use mathlib.Core.List.{List, [], ◌∷◌, ◌++◌, map}
use Prim.Native.Nat.{ℕ, suc, zero, ◌+◌, ◌-◌, ◌*◌, ◌^◌, ◌≤◌, ◌<◌}
use Rattle.std.proofs.Math.ListN.{length, drop, length-append, length-map}
use Rattle.std.proofs.lemmas.List.{replicate-append-replicate, set_at}
use Rattle.std.proofs.Math.Seq.{take_at, get_or_at}
use Rattle.tables.specs.Rows.{rows, flat, zeros, row_at, remove_at, row_bytes, table_bytes}
use Rattle.tables.specs.Records.{AddressRow, BlockRow, address_row, block_row, free_row, address_bytes, block_bytes, read_address, read_block, bytes4}
use Rattle.tables.specs.Records.{address_table, block_table, slots_from, fresh_addresses, fresh_blocks}
use Rattle.tables.specs.Find.{all, is_used}
use Rattle.tables.specs.Operations.{freed_row, filled, row_out, row_added, row_cleaned, row_newest, row_freed, row_filled}
use Rattle.tables.specs.Sound.{is_zero, tail_ok, seated_tail}
use Rattle.tables.specs.Index.{row_ok}
use Rattle.tables.specs.RowLaws.{rows_at, length_part}
use Rattle.tables.specs.SoundLaws.{and_left, map_at}
use Rattle.tables.specs.ShiftLaws.{length-zeros, length-freed}
use Rattle.tables.specs.OperationLaws.{Wide}
use Rattle.tables.proofs.OperationLaws.{rows-flat, length-flat, drop-flat, rows_whole, map-++, map-remove_at, map-set, length-remove_at}
use Rattle.tables.proofs.OperationLaws.{le4-bytes4, off, clean-rows, block-freed}
use Rattle.table_laws.specs.KeptLists.{both}
use Rattle.table_laws.specs.KeptBlocks.{zeros-four, zeros-three, free-wide, free-count}

-- ---- a row

-- the fingerprint of a row
pub address-print-length : (r : List ℕ) → length r ≡ row_bytes → length (read_address r).fingerprint ≡ 32
unfolding read_address
address-print-length r l = length_part r 4 32 (omega arith)

pub block-print-length : (r : List ℕ) → length r ≡ row_bytes → length (read_block r).fingerprint ≡ 32
unfolding read_block
block-print-length r l = length-take-le 32 r (omega arith)

-- the dirty byte, and the used byte, of a row whose last four bytes pass
pub low-dirty : (r : List ℕ) → seated_tail r ≡ true → (read_address r).dirty ≤ 1
unfolding seated_tail read_address
low-dirty r e = leb-true (get_or r 36 0) 1 (and_left (leb (get_or r 36 0) 1) _ e)

pub low-used : (r : List ℕ) → tail_ok r ≡ true → (read_block r).used ≤ 1
unfolding tail_ok read_block
low-used r e = leb-true (get_or r 36 0) 1 (and_left (leb (get_or r 36 0) 1) _ e)

-- an address row that is written
module _ (r : AddressRow) where
  pub address-wide : length r.fingerprint ≡ 32 → length (address_bytes r) ≡ row_bytes
  unfolding address_bytes
  address-wide l = omega (arith, length-append r.fingerprint (r.dirty ∷ r.seat.0 ∷ r.seat.1 ∷ 0 ∷ []))

  print-length : length (address_bytes r) ≡ row_bytes → length r.fingerprint ≡ 32
  unfolding address_bytes
  print-length l = omega (arith, length-append r.fingerprint (r.dirty ∷ r.seat.0 ∷ r.seat.1 ∷ 0 ∷ []))

  pub address-address : r.address < 2 ^ 32 → (read_address (address_bytes r)).address ≡ r.address
  unfolding address_bytes read_address
  address-address h = le4-bytes4 r.address h

  pub address-print : length r.fingerprint ≡ 32 → (read_address (address_bytes r)).fingerprint ≡ r.fingerprint
  unfolding address_bytes read_address
  address-print l = take_at r.fingerprint (r.dirty ∷ r.seat.0 ∷ r.seat.1 ∷ 0 ∷ []) 32 l

  pub address-dirty : length r.fingerprint ≡ 32 → (read_address (address_bytes r)).dirty ≡ r.dirty
  unfolding address_bytes read_address
  address-dirty l = get_or_at r.fingerprint r.dirty (r.seat.0 ∷ r.seat.1 ∷ 0 ∷ []) 0 32 l

-- a block row that is written
module _ (r : BlockRow) (l : length r.fingerprint ≡ 32) where
  pub block-wide : length (block_bytes r) ≡ row_bytes
  unfolding block_bytes
  block-wide = omega (arith, length-append r.fingerprint (bytes4 r.slot ++ (r.used ∷ 0 ∷ 0 ∷ 0 ∷ [])))

  pub block-print : (read_block (block_bytes r)).fingerprint ≡ r.fingerprint
  unfolding block_bytes read_block
  block-print = take_at r.fingerprint (bytes4 r.slot ++ (r.used ∷ 0 ∷ 0 ∷ 0 ∷ [])) 32 l

  pub block-slot : r.slot < 2 ^ 32 → (read_block (block_bytes r)).slot ≡ r.slot
  unfolding block_bytes read_block
  block-slot h =
      let g : List ℕ = r.fingerprint in
      let w : List ℕ = bytes4 r.slot ++ (r.used ∷ 0 ∷ 0 ∷ 0 ∷ []) in
      rw (off g w 0 l, off g w 1 l, off g w 2 l, off g w 3 l) (le4-bytes4 r.slot h)

  pub block-used : (read_block (block_bytes r)).used ≡ r.used
  unfolding block_bytes read_block
  block-used = off r.fingerprint (bytes4 r.slot ++ (r.used ∷ 0 ∷ 0 ∷ 0 ∷ [])) 4 l

  block-tail : leb r.used 1 ≡ true → tail_ok (block_bytes r) ≡ true
  unfolding block_bytes tail_ok
  block-tail u =
      let g : List ℕ = r.fingerprint in
      let w : List ℕ = bytes4 r.slot ++ (r.used ∷ 0 ∷ 0 ∷ 0 ∷ []) in
      rw (off g w 4 l, off g w 5 l, off g w 6 l, off g w 7 l) (both (leb r.used 1) true u refl)

  pub block_read : r.slot < 2 ^ 32 → read_block (block_bytes r) ≡ r
  block_read h =
      let s = block-slot h in
      λ i. block_row (block-print i) (s i) (block-used i)

  -- it passes the test for 7 of a row by itself, before the rows rs
  pub block-passes : (d : ℕ) (rs : List (List ℕ)) → r.slot < d → d ≤ 2 ^ 32 → leb r.used 1 ≡ true
      → cond (eqb r.used 1) (all is_used rs) (all is_zero r.fingerprint) ≡ true
      → row_ok d (block_bytes r) rs ≡ true
  block-passes d rs h hd u e =
      let b : List ℕ = block_bytes r in
      let rest = cond (is_used b) (all is_used rs) (all is_zero (read_block b).fingerprint) in
      both (ltb (read_block b).slot d) (tail_ok b && rest)
      (ap (λ k. ltb k d) (block-slot (omega arith)) ∙ lt-ltb r.slot d h)
      (both (tail_ok b) rest (block-tail u) (ap₂ (λ x g. cond (eqb x 1) (all is_used rs) (all is_zero g)) block-used block-print ∙ e))

-- ---- an address table

pub zeros-add : (a b : ℕ) → zeros a ++ zeros b ≡ zeros (a + b)
unfolding zeros
zeros-add a b = replicate-append-replicate a b 0

pub drop-zeros : (a b : ℕ) → drop a (zeros (a + b)) ≡ zeros b
drop-zeros a b = ap (drop a) (sym (zeros-add a b)) ∙ drop_at (zeros a) (zeros b) a (length-zeros a)

-- a row made clean
abbrev pub clean_row : AddressRow → AddressRow
clean_row r = address_row r.address r.fingerprint 0 r.seat

clean-bytes : (r : AddressRow) → length r.fingerprint ≡ 32 → set (address_bytes r) 36 0 ≡ address_bytes (clean_row r)
unfolding address_bytes
clean-bytes r l = ap (λ (x : List ℕ). bytes4 r.address ++ x) (set_at r.fingerprint r.dirty (r.seat.0 ∷ r.seat.1 ∷ 0 ∷ []) 0 32 l)

module _ (m : ℕ) (rs : List AddressRow) (w : Wide (map address_bytes rs)) (n : ℕ) (e : length rs ≡ n) where
  count : n ≡ length (map address_bytes rs)
  count = sym (length-map rs address_bytes ∙ e)

  pub held-rows : rows n (address_table m rs) ≡ map address_bytes rs
  unfolding address_table
  held-rows =
      let z = zeros ((m - length rs) * 40) in
      ap (λ (k : ℕ). rows k (flat (map address_bytes rs) ++ z)) count ∙ rows-flat (map address_bytes rs) z w

  pub held-rest : drop (table_bytes n) (address_table m rs) ≡ zeros (table_bytes (m - n))
  unfolding address_table
  held-rest =
      let z = zeros ((m - length rs) * 40) in
      ap (λ (k : ℕ). drop (k * 40) (flat (map address_bytes rs) ++ z)) count
      ∙ drop-flat (map address_bytes rs) z w ∙ ap (λ (k : ℕ). zeros ((m - k) * 40)) e

  pub held-length : n ≤ m → length (address_table m rs) ≡ table_bytes m
  unfolding address_table
  held-length h =
      length-append (flat (map address_bytes rs)) (zeros ((m - length rs) * 40))
      ∙ omega (arith, length-flat (map address_bytes rs) w, length-map rs address_bytes, length-zeros ((m - length rs) * 40), e, h)

  -- the table of another list of as many rows
  same_count : (ls : List AddressRow) → length ls ≡ n → address_table m ls ≡ flat (map address_bytes ls) ++ zeros (table_bytes (m - n))
  unfolding address_table
  same_count ls q = ap (λ (k : ℕ). flat (map address_bytes ls) ++ zeros ((m - k) * 40)) q

  -- row i
  module _ (i : ℕ) (h : i < n) (z : AddressRow) where
    pub held_at : row_at (address_table m rs) i ≡ address_bytes (get_or rs i z)
    held_at = sym (rows_at n (address_table m rs) i h) ∙ ap (λ (x : List (List ℕ)). get_or x i []) held-rows ∙ map_at address_bytes rs i [] z (omega (arith, e, h))

    wide_at : (ls : List AddressRow) → Wide (map address_bytes ls) → (j : ℕ) → j < length ls → length (address_bytes (get_or ls j z)) ≡ row_bytes
    wide_at [] v j k = absurd (omega arith)
    wide_at (x ∷ ls) v zero k = v.0
    wide_at (x ∷ ls) v (suc j) k = wide_at ls v.1 j (omega arith)

    -- remove_row
    pub held_out : n ≤ m → row_out n i (address_table m rs) ≡ address_table m (remove_at rs i)
    unfolding row_out address_table
    held_out f =
        let lr : length (remove_at rs i) ≡ length rs - 1 = length-remove_at rs i (omega (arith, e, h)) in
        let q : 40 + (m - n) * 40 ≡ (m - length (remove_at rs i)) * 40 = omega (arith, lr, e, f, h) in
        ap₂ {C = List ℕ} (λ x y. flat (remove_at x i) ++ (zeros 40 ++ y)) held-rows held-rest
        ∙ ap₂ {C = List ℕ} (λ x y. flat x ++ y) (sym (map-remove_at address_bytes rs i)) (zeros-add 40 ((m - n) * 40) ∙ ap zeros q)

    -- set_clean
    pub held-cleaned : n ≤ m → row_cleaned i (address_table m rs) ≡ address_table m (set rs i (clean_row (get_or rs i z)))
    held-cleaned f =
        let t = address_table m rs in
        let r = get_or rs i z in
        let lr = print-length r (wide_at rs w i (omega (arith, e, h))) in
        clean-rows n t i h (omega (arith, held-length f, f))
        ∙ ap₂ {C = List ℕ} (λ x y. flat x ++ y) (ap₂ {C = List (List ℕ)} (λ x y. set x i y) held-rows
        (ap (λ (x : List ℕ). set x 36 0) held_at ∙ clean-bytes r lr) ∙ sym (map-set address_bytes rs i (clean_row r))) held-rest
        ∙ sym (same_count (set rs i (clean_row r)) (length-set rs i (clean_row r) ∙ e))

  -- push_address
  pub held-added : n < m → (r : AddressRow) → row_added n (address_bytes r) (address_table m rs) ≡ address_table m (rs ++ (r ∷ []))
  unfolding row_added address_table
  held-added h r =
      let ll : length (rs ++ (r ∷ [])) ≡ length rs + 1 = length-append rs (r ∷ []) in
      let k = (m - length (rs ++ (r ∷ []))) * 40 in
      let q : (m - n) * 40 ≡ 40 + (m - length (rs ++ (r ∷ []))) * 40 = omega (arith, ll, e, h) in
      let y = sym (drop-drop 40 (n * 40) (address_table m rs)) ∙ ap (drop 40) (held-rest ∙ ap zeros q) ∙ drop-zeros 40 k in
      ap₂ {C = List ℕ} (λ x v. flat (x ++ (address_bytes r ∷ [])) ++ v) held-rows y
      ∙ ap (λ (x : List (List ℕ)). flat x ++ zeros k) (sym (map-++ address_bytes rs (r ∷ [])))

-- ---- a block table

-- the four bytes of a slot
slot-bytes : (r : BlockRow) → length r.fingerprint ≡ 32 → take 4 (drop 32 (block_bytes r)) ≡ bytes4 r.slot
unfolding block_bytes
slot-bytes r l = ap (take 4) (drop_at r.fingerprint (bytes4 r.slot ++ (r.used ∷ 0 ∷ 0 ∷ 0 ∷ [])) 32 l)

freed-bytes : (r : BlockRow) → length r.fingerprint ≡ 32 → freed_row (block_bytes r) ≡ block_bytes (free_row r.slot)
unfolding freed_row block_bytes
freed-bytes r l = ap₂ {C = List ℕ} (λ x y. zeros 32 ++ (x ++ y)) (slot-bytes r l) zeros-four

filled-bytes : (g : List ℕ) (r : BlockRow) → length r.fingerprint ≡ 32 → filled g (block_bytes r) ≡ block_bytes (block_row g r.slot 1)
unfolding filled block_bytes
filled-bytes g r l = ap₂ {C = List ℕ} (λ x y. g ++ (x ++ (1 ∷ y))) (slot-bytes r l) zeros-three

module _ (rs : List BlockRow) (w : Wide (map block_bytes rs)) (d : ℕ) (e : length rs ≡ d) where
  pub block-rows : rows d (block_table rs) ≡ map block_bytes rs
  unfolding block_table
  block-rows = rows_whole d (map block_bytes rs) w (length-map rs block_bytes ∙ e)

  pub blocks-length : length (block_table rs) ≡ table_bytes d
  unfolding block_table
  blocks-length = length-flat (map block_bytes rs) w ∙ ap table_bytes (length-map rs block_bytes ∙ e)

  -- row i
  module _ (i : ℕ) (h : i < d) (z : BlockRow) where
    at : get_or (rows d (block_table rs)) i [] ≡ block_bytes (get_or rs i z)
    at = ap (λ (x : List (List ℕ)). get_or x i []) block-rows ∙ map_at block_bytes rs i [] z (omega (arith, e, h))

    pub block_at : row_at (block_table rs) i ≡ block_bytes (get_or rs i z)
    block_at = sym (rows_at d (block_table rs) i h) ∙ at

    rest : remove_at (rows d (block_table rs)) i ≡ map block_bytes (remove_at rs i)
    rest = ap (λ (x : List (List ℕ)). remove_at x i) block-rows ∙ sym (map-remove_at block_bytes rs i)

    -- row i out, and the row r at the end
    last : (x : List ℕ) (r : BlockRow) → x ≡ block_bytes r → flat (remove_at (rows d (block_table rs)) i ++ (x ∷ [])) ≡ block_table (remove_at rs i ++ (r ∷ []))
    unfolding block_table
    last x r q = ap₂ {C = List ℕ} (λ l y. flat (l ++ (y ∷ []))) rest q ∙ ap flat (sym (map-++ block_bytes (remove_at rs i) (r ∷ [])))

    -- to_newest
    pub blocks-newest : row_newest d i (block_table rs) ≡ block_table (remove_at rs i ++ (get_or rs i z ∷ []))
    unfolding row_newest
    blocks-newest = last (get_or (rows d (block_table rs)) i []) (get_or rs i z) at

    module _ (l : length (get_or rs i z).fingerprint ≡ 32) where
      -- to_front
      pub blocks-freed : row_freed d i (block_table rs) ≡ block_table (free_row (get_or rs i z).slot ∷ remove_at rs i)
      unfolding row_freed block_table
      blocks-freed = ap₂ {C = List ℕ} (λ x y. flat (x ∷ y)) (ap freed_row at ∙ freed-bytes (get_or rs i z) l) rest

      -- put_block
      pub blocks-filled : (g : List ℕ) → row_filled d i g (block_table rs) ≡ block_table (remove_at rs i ++ (block_row g (get_or rs i z).slot 1 ∷ []))
      unfolding row_filled
      blocks-filled g = last (filled g (get_or (rows d (block_table rs)) i [])) (block_row g (get_or rs i z).slot 1)
          (ap (filled g) at ∙ filled-bytes g (get_or rs i z) l)

-- a row that is freed is the first, and free
pub front-free : (d i : ℕ) (t : List ℕ) → length t ≡ table_bytes d → i < d → is_used (row_at (row_freed d i t) 0) ≡ false
unfolding row_freed flat
front-free d i t l h =
    let r : List ℕ = get_or (rows d t) i [] in
    let w : length r ≡ row_bytes = ap length (rows_at d t i h) ∙ length_part t (i * 40) 40 (omega arith) in
    ap is_used (take_at (freed_row r) (flat (remove_at (rows d t) i)) 40 (length-freed r w)) ∙ ap (λ (x : BlockRow). eqb x.used 1) (block-freed r w)

-- ---- fresh tables

pub fresh-addresses-length : (m : ℕ) → length (fresh_addresses m) ≡ table_bytes m
unfolding fresh_addresses
fresh-addresses-length m = held-length m [] tt 0 refl (omega arith)

pub fresh-blocks-length : (d : ℕ) → length (fresh_blocks d) ≡ table_bytes d
unfolding fresh_blocks
fresh-blocks-length d = blocks-length (map free_row (slots_from 0 d)) (free-wide 0 d) d
    (sym (length-map (map free_row (slots_from 0 d)) block_bytes) ∙ free-count 0 d)
