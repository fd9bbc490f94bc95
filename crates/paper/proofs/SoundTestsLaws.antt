-- The tests for 6, 7 and 8 in their positive parts, and what these say of the box in the bytes.
use Rattle.std.specs.Prelude.{◌≡◌, Bool, false, ◌&&◌, ◌||◌, ℕ, suc, ◌<◌, eqb, length, is_none}
use Rattle.std.proofs.Math.Path.{refl, ap}
use Rattle.std.proofs.Common.{sym, ◌∙◌, take_at}
use Rattle.std.proofs.Math.Bool.{true, not, cond}
use mathlib.Core.List.{List, [], ◌∷◌, ◌++◌, map, map-map, Permᴰ}
use Rattle.std.proofs.Math.Dec.{ltb}
use Rattle.std.proofs.lemmas.List.{length-map}
use borrow.Author.Tests.{ltb-true, not-true, not-false}
use Rattle.tables.specs.Rows.{rows, zeros, row_bytes}
use Rattle.tables.specs.Records as Table
use Rattle.tables.specs.Records.{read_address, read_block, slots_from}
use Rattle.tables.specs.Find.{all, every, find_from, same, caches, is_used}
use Rattle.tables.specs.Unsound.{elem, addresses_unsound, blocks_unsound}
use Rattle.tables.specs.Sound.{distinct, tail_ok, seated_tail, address_ok, is_zero, sound_addresses, row_address, row_slot}
use Rattle.tables.specs.Index.{unique, row_ok, dirty_ok}
use Rattle.table_laws.specs.Written.{address-print-length, block-print-length}
use Rattle.tables.specs.OperationLaws.{Wide}
use Rattle.table_laws.specs.Checked.{addresses-checked, blocks-checked}
use Rattle.table_laws.specs.KeptLists.{both}
use Rattle.table_laws.specs.KeptAddresses.{Addrs, addrs-parts, parts-addrs}
use Rattle.paper.specs.Cache.{Numbers, cached}
use Rattle.paper.specs.KeyedLaws.{All, Distinct, by-test, and_left, and_right}
use Rattle.paper.specs.Keyed.{has}
use Rattle.paper.specs.Engine.{Fixed, fit, labelled}
use Rattle.paper.specs.Lent.{as_held, free_slots, used_rows}
use Rattle.paper.specs.Sound.{DirtyCached}
use Rattle.paper.proofs.TestLaws.{same-swap, slots-are, slots-differ}
use Rattle.paper.specs.SoundTests.{GoodBlocks}

-- 6
pub addresses-good : (P m n : ℕ) (t : List ℕ) → addresses_unsound P m n t ≡ false → Addrs P m n t
addresses-good P m n t h = addrs-parts P m n t (not-false (sound_addresses P m n t) (sym (addresses-checked P m n t) ∙ h))

pub good-addresses : (P m n : ℕ) (t : List ℕ) → Addrs P m n t → addresses_unsound P m n t ≡ false
good-addresses P m n t g = addresses-checked P m n t ∙ ap not (parts-addrs P m n t g)

pub blocks-good : (d : ℕ) (t : List ℕ) → blocks_unsound d t ≡ false → GoodBlocks d t
blocks-good d t h =
    let a = every (row_ok d) (rows d t) in
    let b = distinct (map row_slot (rows d t)) in
    let c = every unique (rows d t) in
    let p : a && (b && c) ≡ true = not-false (a && (b && c)) (sym (blocks-checked d t) ∙ h) in
    let q = and_right a (b && c) p in
    record { each = and_left a (b && c) p; apart = and_left b c q; once = and_right b c q }

pub good-blocks : (d : ℕ) (t : List ℕ) → GoodBlocks d t → blocks_unsound d t ≡ false
good-blocks d t g = blocks-checked d t ∙ rw (g.each, g.apart, g.once)

-- addresses: below P, and no two the same
pub addresses-below : (P : ℕ) (rs : List (List ℕ)) → all (address_ok P) rs ≡ true → All (λ r. r.address < P) (map as_held (map read_address rs))
unfolding all
addresses-below P [] e = tt
addresses-below P (r ∷ rs) e = (
  ltb-true (row_address r) P (and_left (ltb (row_address r) P) (seated_tail r) (and_left (address_ok P r) (all (address_ok P) rs) e)),
  addresses-below P rs (and_right (address_ok P r) (all (address_ok P) rs) e),
)

elem-held : (k : ℕ) (rs : List (List ℕ)) → elem k (map row_address rs) ≡ has eqb (λ r. r.address) k (map as_held (map read_address rs))
unfolding elem
elem-held k [] = refl
elem-held k (r ∷ rs) = ap (λ b. eqb k (row_address r) || b) (elem-held k rs)

pub addresses_apart : (rs : List (List ℕ)) → distinct (map row_address rs) ≡ true → Distinct eqb (λ r. r.address) (map as_held (map read_address rs))
unfolding distinct
addresses_apart [] h = tt
addresses_apart (r ∷ rs) h =
    let x = elem (row_address r) (map row_address rs) in
    let y = distinct (map row_address rs) in
    (sym (elem-held (row_address r) rs) ∙ not-true x (and_left (not x) y h), addresses_apart rs (and_right (not x) y h))

pub addresses-once : (rs : List (List ℕ)) → Distinct eqb (λ r. r.address) (map as_held (map read_address rs)) → distinct (map row_address rs) ≡ true
unfolding distinct
addresses-once [] h = refl
addresses-once (r ∷ rs) h = both (not (elem (row_address r) (map row_address rs))) (distinct (map row_address rs)) (ap not (elem-held (row_address r) rs ∙ h.0))
    (addresses-once rs h.1)

-- a list of the right length fits
pub fit_is : (n : ℕ) (l : List ℕ) → length l ≡ n → (fit n l).0 ≡ l
unfolding fit
fit_is n l e = take_at l (zeros n) n e

-- the fingerprint of a row
pub print-is : (r : List ℕ) → length r ≡ row_bytes → (fit 32 (read_block r).fingerprint).0 ≡ (read_block r).fingerprint
print-is r l = fit_is 32 (read_block r).fingerprint (block-print-length r l)

pub held-print-is : (r : List ℕ) → length r ≡ row_bytes → (fit 32 (read_address r).fingerprint).0 ≡ (read_address r).fingerprint
held-print-is r l = fit_is 32 (read_address r).fingerprint (address-print-length r l)

-- "cached" as the tables search for it
pub cached-is : (N : Numbers) (g : Fixed 32) (k : ℕ) (rs : List (List ℕ)) → Wide rs
    → is_none (find_from (caches g.0) k rs) ≡ not (cached (labelled N) g (used_rows (map read_block rs)))
unfolding used_rows find_from
cached-is N g k [] w = refl
cached-is N g k (r ∷ rs) w =
    by-test (is_used r)
    (λ u. rw (u, ap (same g.0) (print-is r w.0) ∙ same-swap g.0 (read_block r).fingerprint)
    (by-test (same (read_block r).fingerprint g.0) (λ e. rw e) (λ e. rw e (cached-is N g (suc k) rs w.1))))
    (λ u. rw u (cached-is N g (suc k) rs w.1))

-- a fingerprint used once
row-cached : (N : Numbers) (r : List ℕ) (rs : List (List ℕ)) → length r ≡ row_bytes → Wide rs
    → is_none (find_from (caches (read_block r).fingerprint) 0 rs) ≡ not (cached (labelled N) (fit 32 (read_block r).fingerprint) (used_rows (map read_block rs)))
row-cached N r rs l w = ap (λ g. is_none (find_from (caches g) 0 rs)) (sym (print-is r l)) ∙ cached-is N (fit 32 (read_block r).fingerprint) 0 rs w

pub used-apart : (N : Numbers) (rs : List (List ℕ)) → Wide rs → every unique rs ≡ true
    → Distinct (labelled N).same (λ u. u.fingerprint) (used_rows (map read_block rs))
unfolding every used_rows
used-apart N [] w = λ h. tt
used-apart N (r ∷ rs) w =
    by-test (is_used r)
    (λ u. rw u (λ h.
    let a = is_none (find_from (caches (read_block r).fingerprint) 0 rs) in
    let c = cached (labelled N) (fit 32 (read_block r).fingerprint) (used_rows (map read_block rs)) in
    (not-true c (sym (row-cached N r rs w.0 w.1) ∙ and_left a (every unique rs) h), used-apart N rs w.1 (and_right a (every unique rs) h))))
    (λ u. rw u (λ h. used-apart N rs w.1 h))

pub used-once : (N : Numbers) (rs : List (List ℕ)) → Wide rs → Distinct (labelled N).same (λ u. u.fingerprint) (used_rows (map read_block rs))
    → every unique rs ≡ true
unfolding every used_rows
used-once N [] w = λ h. refl
used-once N (r ∷ rs) w =
    by-test (is_used r)
    (λ u. rw u (λ h. both (is_none (find_from (caches (read_block r).fingerprint) 0 rs)) (every unique rs) (row-cached N r rs w.0 w.1 ∙ ap not h.0)
    (used-once N rs w.1 h.1)))
    (λ u. rw u (λ h. used-once N rs w.1 h))

-- slots
slots-perm : (l : List Table.BlockRow) → Permᴰ (free_slots l ++ map (λ u. u.slot) (used_rows l)) (map (λ r. r.slot) l)
unfolding free_slots used_rows
slots-perm [] = mathlib.Core.List.Permᴰ.nil
slots-perm (r ∷ rs) =
    by-test (eqb r.used 1)
    (λ e. rw e (mathlib.Core.List.Permᴰ.trans (mathlib.Core.List.Permᴰ.middle r.slot (free_slots rs) (map (λ u. u.slot) (used_rows rs))) (mathlib.Core.List.Permᴰ.cons refl (slots-perm rs))))
    (λ e. rw e (mathlib.Core.List.Permᴰ.cons refl (slots-perm rs)))

module _ (d : ℕ) where
  slots-below : (rs : List (List ℕ)) → every (row_ok d) rs ≡ true → all (λ k. ltb k d) (map row_slot rs) ≡ true
  unfolding every all
  slots-below [] h = refl
  slots-below (r ∷ rs) h =
      let rest = tail_ok r && cond (is_used r) (all is_used rs) (all is_zero (read_block r).fingerprint) in
      both (ltb (row_slot r) d) (all (λ k. ltb k d) (map row_slot rs))
      (and_left (ltb (row_slot r) d) rest (and_left (row_ok d r rs) (every (row_ok d) rs) h))
      (slots-below rs (and_right (row_ok d r rs) (every (row_ok d) rs) h))

  module _ (rs : List (List ℕ)) where
    pub slots-each : length rs ≡ d → every (row_ok d) rs ≡ true → distinct (map row_slot rs) ≡ true
        → Permᴰ (free_slots (map read_block rs) ++ map (λ u. u.slot) (used_rows (map read_block rs))) (slots_from 0 d)
    slots-each l h e =
        let p : Permᴰ (map (λ r. r.slot) (map read_block rs)) (slots_from 0 d) =
        rw (map-map (λ (r : Table.BlockRow). r.slot) read_block rs) (slots-are d (map row_slot rs) (length-map rs row_slot ∙ l) (slots-below rs h) e) in
        mathlib.Core.List.Permᴰ.trans (slots-perm (map read_block rs)) p

    pub each-slots : Permᴰ (free_slots (map read_block rs) ++ map (λ u. u.slot) (used_rows (map read_block rs))) (slots_from 0 d)
        → distinct (map row_slot rs) ≡ true
    each-slots p = slots-differ d (map row_slot rs) (rw (map-map (λ (r : Table.BlockRow). r.slot) read_block rs) at
        (mathlib.Core.List.Permᴰ.trans (mathlib.Core.List.Permᴰ.symm (slots-perm (map read_block rs))) p))

-- dirty rows
module _ (N : Numbers) (bs : List (List ℕ)) (wide : Wide bs) where
  held-cached : (r : List ℕ) → length r ≡ row_bytes → is_none (find_from (caches (read_address r).fingerprint) 0 bs)
      ≡ not (cached (labelled N) (as_held (read_address r)).fingerprint (used_rows (map read_block bs)))
  held-cached r l = ap (λ g. is_none (find_from (caches g) 0 bs)) (sym (held-print-is r l)) ∙ cached-is N (fit 32 (read_address r).fingerprint) 0 bs wide

  pub dirty-cached : (rs : List (List ℕ)) → Wide rs → all (dirty_ok bs) rs ≡ true
      → All (DirtyCached (labelled N) (used_rows (map read_block bs))) (map as_held (map read_address rs))
  unfolding all
  dirty-cached [] w h = tt
  dirty-cached (r ∷ rs) w h = (
    (λ y. not-not (cached (labelled N) (as_held (read_address r)).fingerprint (used_rows (map read_block bs)))
        (ap not (sym (held-cached r w.0)) ∙ (rw y at (and_left (dirty_ok bs r) (all (dirty_ok bs) rs) h)))),
    dirty-cached rs w.1 (and_right (dirty_ok bs r) (all (dirty_ok bs) rs) h),
  )
    where
      not-not : (b : Bool) → not (not b) ≡ true → b ≡ true
      not-not b e = not-false b (not-true (not b) e)

  pub cached-dirty : (rs : List (List ℕ)) → Wide rs → All (DirtyCached (labelled N) (used_rows (map read_block bs))) (map as_held (map read_address rs))
      → all (dirty_ok bs) rs ≡ true
  unfolding all
  cached-dirty [] w h = refl
  cached-dirty (r ∷ rs) w h =
      both (dirty_ok bs r) (all (dirty_ok bs) rs)
      (by-test (eqb (read_address r).dirty 1) (λ e. rw e (ap not (held-cached r w.0 ∙ ap not (h.0 e)))) (λ e. rw e))
      (cached-dirty rs w.1 h.1)
