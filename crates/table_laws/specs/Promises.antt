-- For the crates above, by the tests of `Unsound`: a table that passes is the bytes of its records, and each operation keeps it passing.
-- Each statement has the bytes at exit as the function's contract writes them. `Checked.each-once` is the law of the slots. Assumes nothing.
use Rattle.std.specs.Prelude.{◌≡◌, refl, Bool, true, false, not, cond, ◌&&◌, ◌||◌, List, map, ℕ, ◌+◌, ◌-◌, ◌*◌, ◌^◌, ◌≤◌, ◌<◌, length, get_or, None}
use Rattle.std.proofs.Common.{sym, ap, ◌∙◌, arith}
use Rattle.std.proofs.lemmas.Bool.{not-false}
use Rattle.tables.specs.Rows.{rows, row_at}
use Rattle.tables.specs.Records.{Seat, address_bytes, address_row, address_table, held_rows, block_table, block_rows, fresh_addresses, fresh_blocks}
use Rattle.tables.specs.Find.{every, find_from, has_address, caches, is_used}
use Rattle.tables.specs.Unsound.{addresses_unsound, blocks_unsound, dirty_uncached, tables_refused}
use Rattle.tables.specs.Sound.{distinct, sound_addresses, sound_blocks, block_ok, addresses_fit, blocks_fit, row_slot}
use Rattle.tables.specs.Index.{unique, row_ok}
use Rattle.tables.proofs.RecordLaws.{address_table-held, block_table-blocks}
use Rattle.table_laws.specs.SoundSplit.{sound-split}
use Rattle.table_laws.specs.Checked.{addresses-checked, blocks-checked, fit-addresses, fit-blocks}
use Rattle.tables.specs.SoundLaws.{and_left, and_right, or_right}
use Rattle.table_laws.specs.KeptAddresses.{Addrs, addrs-parts, parts-addrs, addrs-removed, addrs-pushed, addrs-clean, addrs-fresh, address_ok-of}
use Rattle.table_laws.specs.KeptAddresses.{length-of_addr, le4-of_addr}
use Rattle.table_laws.specs.KeptBlocks.{Blocks, blocks-parts, parts-blocks, kept-newest, kept-front, kept_put, kept_fresh}
use Rattle.tables.specs.Operations.{row_out, row_added, row_cleaned, row_newest, row_freed, row_filled}

-- ---- the address table

sound-addresses : (P m n : ℕ) (t : List ℕ) → addresses_unsound P m n t ≡ false → sound_addresses P m n t ≡ true
sound-addresses P m n t e = not-false (sound_addresses P m n t) (sym (addresses-checked P m n t) ∙ e)

passes : (P m n : ℕ) (t : List ℕ) → Addrs P m n t → addresses_unsound P m n t ≡ false
passes P m n t s = addresses-checked P m n t ∙ ap not (parts-addrs P m n t s)

-- decode then encode
pub addresses-back : (P m n : ℕ) (t : List ℕ) → addresses_unsound P m n t ≡ false → length t ≡ m * 40 → ((i : ℕ) → get_or t i 0 < 256)
    → address_table m (held_rows n t) ≡ t
addresses-back P m n t e l b = address_table-held P m n t b l (sound-addresses P m n t e)

pub fresh-addresses-kept : (P m : ℕ) → addresses_unsound P m 0 (fresh_addresses m) ≡ false
fresh-addresses-kept P m = passes P m 0 (fresh_addresses m) (addrs-fresh P m)

module _ (P m n : ℕ) (t : List ℕ) (e : addresses_unsound P m n t ≡ false) (l : length t ≡ m * 40) where
  parts : Addrs P m n t
  parts = addrs-parts P m n t (sound-addresses P m n t e)

  pub remove-row-kept : (i : ℕ) → i < n → addresses_unsound P m (n - 1) (row_out n i t) ≡ false
  remove-row-kept i h = passes P m (n - 1) (row_out n i t) (addrs-removed P m n t i h l parts)

  -- an address below P that is not held, where a row is left
  pub push-address-kept : (a : ℕ) (g : List ℕ) (x : ℕ) (z : Seat) → n < m → P ≤ 2 ^ 32 → a < P → length g ≡ 32 → x ≤ 1
      → find_from (has_address a) 0 (rows n t) ≡ None → addresses_unsound P m (n + 1) (row_added n (address_bytes (address_row a g x z)) t) ≡ false
  push-address-kept a g x z hn hp ha lg hx f =
      let r : List ℕ = address_bytes (address_row a g x z) in
      passes P m (n + 1) (row_added n r t)
      (addrs-pushed P m n t r hn l (length-of_addr a g x z lg) (address_ok-of P a g x z ha hp hx lg)
      (ap (λ (k : ℕ). find_from (has_address k) 0 (rows n t)) (le4-of_addr a g x z (omega arith)) ∙ f) parts)

  pub set-clean-kept : (k : ℕ) → k < n → addresses_unsound P m n (row_cleaned k t) ≡ false
  set-clean-kept k h = passes P m n (row_cleaned k t) (addrs-clean P m n t k h l parts)

-- ---- the block table

regroup : (a b c : Bool) → a && (b && c) ≡ (a && c) && b
regroup true true true = refl
regroup true true false = refl
regroup true false true = refl
regroup true false false = refl
regroup false b c = refl

blocks-sound : (d : ℕ) (t : List ℕ) → blocks_unsound d t ≡ not (sound_blocks d t)
unfolding sound_blocks
blocks-sound d t =
    let rs : List (List ℕ) = rows d t in
    blocks-checked d t
    ∙ ap not (regroup (every (row_ok d) rs) (distinct (map row_slot rs)) (every unique rs)
    ∙ ap (λ (b : Bool). b && distinct (map row_slot rs)) (sym (sound-split d rs)))

sound-blocks : (d : ℕ) (t : List ℕ) → blocks_unsound d t ≡ false → sound_blocks d t ≡ true
sound-blocks d t e = not-false (sound_blocks d t) (sym (blocks-sound d t) ∙ e)

sound_blocks-opened : (d : ℕ) (t : List ℕ) → sound_blocks d t ≡ true → every (block_ok d) (rows d t) && distinct (map row_slot (rows d t)) ≡ true
unfolding sound_blocks
sound_blocks-opened d t e = e

blocks-pass : (d : ℕ) (t : List ℕ) → Blocks d t → blocks_unsound d t ≡ false
blocks-pass d t s = blocks-sound d t ∙ ap not (parts-blocks d t s)

-- decode then encode
pub blocks-back : (d : ℕ) (t : List ℕ) → blocks_unsound d t ≡ false → length t ≡ d * 40 → ((i : ℕ) → get_or t i 0 < 256) → block_table (block_rows d t) ≡ t
blocks-back d t e l b = block_table-blocks d t b l (sound-blocks d t e)

pub fresh-blocks-kept : (d : ℕ) → d ≤ 256 → blocks_unsound d (fresh_blocks d) ≡ false
fresh-blocks-kept d h = blocks-pass d (fresh_blocks d) (kept_fresh d h)

module _ (d : ℕ) (t : List ℕ) (i : ℕ) (h : i < d) (e : blocks_unsound d t ≡ false) (l : length t ≡ d * 40) where
  block-parts : Blocks d t
  block-parts = blocks-parts d t (sound-blocks d t e)

  -- a used row
  pub to-newest-kept : is_used (row_at t i) ≡ true → blocks_unsound d (row_newest d i t) ≡ false
  to-newest-kept u = blocks-pass d (row_newest d i t) (kept-newest d t i h l block-parts u)

  pub to-front-kept : blocks_unsound d (row_freed d i t) ≡ false
  to-front-kept = blocks-pass d (row_freed d i t) (kept-front d t i h l block-parts)

  -- a fingerprint that is not cached
  pub put-block-kept : (g : List ℕ) → length g ≡ 32 → find_from (caches g) 0 (rows d t) ≡ None → blocks_unsound d (row_filled d i g t) ≡ false
  put-block-kept g lg f = blocks-pass d (row_filled d i g t) (kept_put d t i h l block-parts g lg f)

-- ---- the three tests in turn

-- where the lengths and sizes are those of refusals 1 and 2, the number that `tables_refused` gives is `tables_refused`
pub refused-is : (P m n d : ℕ) (a b : List ℕ) → addresses_fit P m a ≡ true → blocks_fit d b ≡ true
    → cond (not (addresses_fit P m a) || addresses_unsound P m n a) 6 (cond (not (blocks_fit d b) || blocks_unsound d b) 7 (cond (dirty_uncached n d a b) 8 0))
    ≡ tables_refused P m n d a b
unfolding tables_refused
refused-is P m n d a b e f = rw (e, f)

-- what is known of two tables that pass
pub record Passed (P m n d : ℕ) (a b : List ℕ) : Type 0 where
  pub held : n ≤ m
  pub most : m ≤ 1024
  pub sized : length a ≡ m * 40
  pub few : d ≤ 256
  pub sized-blocks : length b ≡ d * 40
  pub six : addresses_unsound P m n a ≡ false
  pub seven : blocks_unsound d b ≡ false
  pub eight : dirty_uncached n d a b ≡ false
  pub once : every unique (rows d b) ≡ true

tests-none : (x y z : Bool) → ◌≡◌ {A = ℕ} (cond x 6 (cond y 7 (cond z 8 0))) 0 → (x ≡ false) × (y ≡ false) × (z ≡ false)
tests-none true y z e = absurd (omega arith)
tests-none false true z e = absurd (omega arith)
tests-none false false true e = absurd (omega arith)
tests-none false false false e = (refl, refl, refl)

pub passed : (P m n d : ℕ) (a b : List ℕ)
    → ◌≡◌ {A = ℕ} (cond (not (addresses_fit P m a) || addresses_unsound P m n a) 6
    (cond (not (blocks_fit d b) || blocks_unsound d b) 7 (cond (dirty_uncached n d a b) 8 0))) 0 → Passed P m n d a b
passed P m n d a b e =
    let t = tests-none (not (addresses_fit P m a) || addresses_unsound P m n a) (not (blocks_fit d b) || blocks_unsound d b) (dirty_uncached n d a b) e in
    let f = fit-addresses P m n a t.0 in
    let g = fit-blocks d b t.1 in
    let s = or_right (not (blocks_fit d b)) (blocks_unsound d b) t.1 in
    let rs = rows d b in
    record {
      held = f.0;
      most = f.1;
      sized = f.2;
      few = g.0;
      sized-blocks = g.1;
      six = or_right (not (addresses_fit P m a)) (addresses_unsound P m n a) t.0;
      seven = s;
      eight = t.2;
      once = and_right (every (row_ok d) rs) (every unique rs)
          (sym (sound-split d rs) ∙ and_left (every (block_ok d) rs) (distinct (map row_slot rs)) (sound_blocks-opened d b (sound-blocks d b s)));
    }
