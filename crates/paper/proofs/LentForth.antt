-- Lent memory that passes 6 and 7 is what its box writes.
use Rattle.std.specs.Prelude.{◌≡◌, refl, true, false, ◌&&◌, cond, List, [], ◌∷◌, map, ℕ, ◌≤◌, eqb, ltb, length}
use Rattle.std.proofs.Common.{sym, ap₂, ◌∙◌, arith, eqb-true}
use Rattle.std.proofs.Math.Path.{ap}
use Rattle.std.proofs.Math.ListN.{length-map}
use Rattle.std.proofs.lemmas.Bool.{eqb-false}
use Rattle.tables.specs.Rows.{rows, zeros, row_bytes}
use Rattle.tables.specs.Records as Table
use Rattle.tables.specs.Records.{read_address, read_block, address_table, held_rows, block_table, block_rows, free_row}
use Rattle.tables.specs.Find.{all, every, is_used}
use Rattle.tables.specs.Unsound.{addresses_unsound, blocks_unsound}
use Rattle.tables.specs.Sound.{is_zero, tail_ok, seated_tail, address_ok, row_address, row_slot}
use Rattle.tables.specs.Index.{row_ok}
use Rattle.tables.specs.RowLaws.{rows-length}
use Rattle.tables.proofs.RecordLaws.{zeros-all}
use Rattle.tables.specs.OperationLaws.{Wide}
use Rattle.tables.proofs.OperationLaws.{wide_rows}
use Rattle.table_laws.specs.Written.{low-dirty, low-used, block-print-length}
use Rattle.table_laws.specs.Promises.{addresses-back, blocks-back}
use Rattle.paper.specs.KeyedLaws.{by-test, and_left, and_right}
use Rattle.paper.specs.Engine.{fit}
use Rattle.paper.specs.Cache.{Numbers}
use Rattle.paper.specs.Lent.{Lent, bit, held_row, used_row, as_held, free_slots, used_rows, box_in, lent_of}
use Rattle.paper.proofs.Parts.{join-split}
use Rattle.paper.specs.RowBytes.{Bytes}
use Rattle.paper.proofs.RowBytesLaws.{bytes-at}
use Rattle.paper.proofs.SoundTestsLaws.{addresses-good, blocks-good, print-is, held-print-is}
use Rattle.paper.specs.LentLaws.{Lengths, table_rows}

-- the rows of an address table that passes 6
bit-forth : (y : ℕ) → y ≤ 1 → bit (eqb y 1) ≡ y
bit-forth y l = by-test (eqb y 1) (λ e. rw e (sym (eqb-true y 1 e))) (λ e. rw e (let n = eqb-false y 1 e in omega arith))

held-forth : (P : ℕ) (rs : List (List ℕ)) → Wide rs → all (address_ok P) rs ≡ true → map held_row (map as_held (map read_address rs)) ≡ map read_address rs
unfolding all
held-forth P [] w h = refl
held-forth P (r ∷ rs) w h =
    let ok = and_right (ltb (row_address r) P) (seated_tail r) (and_left (address_ok P r) (all (address_ok P) rs) h) in
    let f = held-print-is r w.0 in
    let y = bit-forth (read_address r).dirty (low-dirty r ok) in
    let more = held-forth P rs w.1 (and_right (address_ok P r) (all (address_ok P) rs) h) in
    λ i. Table.address_row (row_address r) (f i) (y i) (read_address r).seat ∷ more i

-- the rows of a block table that passes 7
used-forth : (r : List ℕ) → length r ≡ row_bytes → is_used r ≡ true
    → used_row (record { fingerprint = fit 32 (read_block r).fingerprint; slot = row_slot r }) ≡ read_block r
used-forth r l u =
    let f = print-is r l in
    let y = sym (eqb-true (read_block r).used 1 u) in
    λ i. Table.block_row (f i) (row_slot r) (y i)

free-forth : (r : List ℕ) → length r ≡ row_bytes → is_used r ≡ false → tail_ok r ≡ true → all is_zero (read_block r).fingerprint ≡ true
    → free_row (row_slot r) ≡ read_block r
free-forth r l u ok z =
    let low = low-used r ok in
    let n = eqb-false (read_block r).used 1 u in
    let y : 0 ≡ (read_block r).used = omega arith in
    let f = sym (zeros-all (read_block r).fingerprint z ∙ ap zeros (block-print-length r l)) in
    λ i. Table.block_row (f i) (row_slot r) (y i)

all-used : (rs : List (List ℕ)) → Wide rs → all is_used rs ≡ true
    → (free_slots (map read_block rs) ≡ []) × (map used_row (used_rows (map read_block rs)) ≡ map read_block rs)
unfolding all free_slots used_rows
all-used [] w h = (refl, refl)
all-used (r ∷ rs) w h =
    let u = and_left (is_used r) (all is_used rs) h in
    let more = all-used rs w.1 (and_right (is_used r) (all is_used rs) h) in
    (rw u more.0, rw u (ap₂ {C = List Table.BlockRow} (λ x l. x ∷ l) (used-forth r w.0 u) more.1))

rows-forth : (d : ℕ) (rs : List (List ℕ)) → Wide rs → every (row_ok d) rs ≡ true
    → table_rows (free_slots (map read_block rs)) (used_rows (map read_block rs)) ≡ map read_block rs
unfolding every free_slots used_rows
rows-forth d [] w h = refl
rows-forth d (r ∷ rs) w h =
    let rest = cond (is_used r) (all is_used rs) (all is_zero (read_block r).fingerprint) in
    let p = and_right (ltb (row_slot r) d) (tail_ok r && rest) (and_left (row_ok d r rs) (every (row_ok d) rs) h) in
    let ok = and_left (tail_ok r) rest p in
    let more = and_right (row_ok d r rs) (every (row_ok d) rs) h in
    by-test (is_used r)
    (λ u.
    let a = all-used rs w.1 (rw u at (and_right (tail_ok r) rest p)) in
    rw (u, a.0) (ap₂ {C = List Table.BlockRow} (λ x l. x ∷ l) (used-forth r w.0 u) a.1))
    (λ u. rw u (ap₂ {C = List Table.BlockRow} (λ x l. x ∷ l) (free-forth r w.0 u ok (rw u at (and_right (tail_ok r) rest p))) (rows-forth d rs w.1 more)))

module _ (N : Numbers) (t : Lent) (lengths : Lengths N t) (bytes_a : Bytes t.addresses) (bytes_b : Bytes t.blocks)
    (six : addresses_unsound N.P N.m t.n t.addresses ≡ false) (seven : blocks_unsound N.d t.blocks ≡ false) where
  address-table : address_table N.m (map held_row (map as_held (held_rows t.n t.addresses))) ≡ t.addresses
  unfolding held_rows
  address-table =
      let a = t.addresses in
      let l = lengths.addresses in
      let g = addresses-good N.P N.m t.n a six in
      let few = g.few in
      ap (address_table N.m) (held-forth N.P (rows t.n a) (wide_rows t.n a (omega arith)) g.each)
      ∙ addresses-back N.P N.m t.n a six l (bytes-at a bytes_a)

  block-table : let rs = block_rows N.d t.blocks in block_table (table_rows (free_slots rs) (used_rows rs)) ≡ t.blocks
  unfolding block_rows
  block-table =
      let b = t.blocks in
      let l = lengths.blocks in
      ap block_table (rows-forth N.d (rows N.d b) (wide_rows N.d b (omega arith)) (blocks-good N.d b seven).each)
      ∙ blocks-back N.d b seven l (bytes-at b bytes_b)

  held-length : length (held_rows t.n t.addresses) ≡ t.n
  unfolding held_rows
  held-length = length-map (rows t.n t.addresses) read_address ∙ rows-length t.n t.addresses

  pub lent-forth : lent_of N (box_in N t) t.counters ≡ t
  unfolding lent_of box_in
  lent-forth =
      let n = length-map (held_rows t.n t.addresses) as_held ∙ held-length in
      let di = join-split N.B N.P t.disk lengths.disk in
      let fl = join-split N.B N.d t.flash lengths.flash in
      λ i. record { n = n i; disk = di i; flash = fl i; addresses = address-table i; blocks = block-table i; counters = t.counters }
