-- The paper's steps by what the code finds. Assumes nothing.
use mathlib.Core.Path.{◌≡◌, refl, sym, ap, ap₂, ◌∙◌}
use mathlib.Core.Bool.{Bool, true, false, not, ◌&&◌, cond}
use mathlib.Core.List.{List, [], ◌∷◌, ◌++◌}
use mathlib.Core.Option.{Option, none, some}
use Prim.Native.Nat.{ℕ, suc, ◌≤◌, ◌<◌, ◌+◌, ◌-◌}
use native.Mathlib.Nat.{zero-add}
use native.Mathlib.Omega.{arith}
use lib.Dec.{eqb}
use lib.ListN.{length, get_or, set, take, drop}
use borrow.Author.Tests.{eq-eqb, ne_eqb}
use Rattle.parts.specs.declared.BoxRecord.{BoxRecord}
use Rattle.tables.specs.Rows.{row_at, rows, remove_at}
use Rattle.tables.specs.Operations.{row_freed, row_filled}
use Rattle.paper.specs.KeyedLaws.{All, by-test, clash, Distinct}
use Rattle.paper.specs.Cache.{Numbers, AddressRow, BlockRow, Box, block_row, held, known, cached, some_uncached, slot_of, copied, copies, cleaned, step1, oldest_out, step3}
use Rattle.paper.specs.Engine.{Fixed, labelled, comparing}
use Rattle.paper.specs.Lent.{join}
use Rattle.paper.specs.Index.{index_where}
use Rattle.paper.proofs.IndexLaws.{has-yes, has_no}
use Rattle.paper.specs.Layout.{Addrs, Blocks, addresses_of, blocks_of}
use Rattle.parts.specs.Rep.{numbers_of, Rep, Copied, copied_row, copied_rows, part_box, no_row, clean, engine}
use Rattle.parts.specs.Asked.{no_block}
use Rattle.step.specs.Steps.{place_of, Out1, out1, block_bytes, Picked, picked_taken}
use Rattle.parts.specs.MoveLaws.{used-flag, first-flag, used-fp, refilled, first-filled}
use Rattle.step.specs.Taking.{own-slot}
use Rattle.parts.specs.CopyLaws.{right-no}
use Rattle.step.specs.Dropping.{not_there, there, known_as, freed-at, without-row, row_is, one_less}
use Rattle.tables.specs.Records.{read_block}
use Rattle.tables.specs.Find.{is_used}

-- ---- step 1
module _ (b : BoxRecord) (disk flash addrs blocks : List ℕ) (s : Box (Fixed 32) (Fixed b.size)) (h : Rep b disk flash addrs blocks s) (a : ℕ) (i : ℕ) (e : i ≡ index_where (λ x. eqb a x.address) s.rows) where
  -- a is held
  pub out-held : Distinct eqb (λ x. x.address) s.rows → i < b.held → (place : ℕ) (addrs' : List ℕ) → (place ≡ place_of (some (get_or s.rows i no_row).fingerprint) s.free s.used) × (addrs' ≡ addresses_of b.rows (remove_at s.rows i))
      → ◌≡◌ {A = Out1} (record { held = b.held - 1; place = place; primary = 0; disk = disk; addrs = addrs' }) (out1 b s (step1 (engine b) b.rows s a))
  unfolding out1 step1
  out-held d l place addrs' q =
      let y : held a s.rows ≡ true = has-yes eqb (λ (x : AddressRow (Fixed 32)). x.address) a s.rows (omega (arith, e, h.rows_are.count)) in
      let w = without-row b.blocks b.rows b.held addrs s.rows h.rows_are a i e d l in
      let f = row_is b.blocks b.rows b.held addrs s.rows h.rows_are a i e d l in
      let n = one_less b.blocks b.rows b.held addrs s.rows h.rows_are a i e d l in
      rw (y, f) (λ j. record { held = n j; place = q.0 j; primary = 0; disk = h.disk-is.is j; addrs = (q.1 ∙ ap (addresses_of b.rows) (sym w)) j })

  -- it is not, and there is room
  pub out-room : b.held ≤ i → b.held < b.rows → ◌≡◌ {A = Out1} (record { held = b.held; place = b.slots; primary = 0; disk = disk; addrs = addrs }) (out1 b s (step1 (engine b) b.rows s a))
  unfolding out1 step1
  out-room l r =
      let y : held a s.rows ≡ false = has_no eqb (λ (x : AddressRow (Fixed 32)). x.address) a s.rows (omega (arith, e, h.rows_are.count)) in
      let z : eqb (length s.rows) b.rows ≡ false = ne_eqb (length s.rows) b.rows (λ w. omega (arith, w, h.rows_are.count)) in
      rw (y, z) (λ j. record { held = sym h.rows_are.count j; place = sym h.blocks-are.count j; primary = 0; disk = h.disk-is.is j; addrs = h.rows_are.is j })

-- the oldest row goes, when its block is copied if it is dirty
abbrev pub clean_first : Bool → List (AddressRow (Fixed 32)) → List (AddressRow (Fixed 32))
clean_first t l = cond t (set l 0 (clean (get_or l 0 no_row))) l

after-fp : (t : Bool) (l : List (AddressRow (Fixed 32))) → 0 < length l → (get_or (clean_first t l) 0 no_row).fingerprint ≡ (get_or l 0 no_row).fingerprint
after-fp t [] h = absurd (omega arith)
after-fp true (r ∷ l) h = refl
after-fp false (r ∷ l) h = refl

after-rest : (t : Bool) (l : List (AddressRow (Fixed 32))) → 0 < length l → remove_at (clean_first t l) 0 ≡ drop 1 l
after-rest t [] h = absurd (omega arith)
after-rest true (r ∷ l) h = refl
after-rest false (r ∷ l) h = refl

after-length : (t : Bool) (l : List (AddressRow (Fixed 32))) → length (clean_first t l) ≡ length l
after-length true [] = refl
after-length true (r ∷ l) = refl
after-length false l = refl

after-below : (P : ℕ) (t : Bool) (l : List (AddressRow (Fixed 32))) → All (λ r. r.address < P) l → All (λ r. r.address < P) (clean_first t l)
after-below P true [] q = q
after-below P true (r ∷ l) q = q
after-below P false l q = q

pub oldest-is : (N : Numbers) (s : Box (Fixed 32) (Fixed N.B)) (l : List (AddressRow (Fixed 32))) → 0 < length l
    → oldest_out (labelled N) s l ≡ record { rows = drop 1 l; gone = some (get_or l 0 no_row).fingerprint; disk = copied (labelled N) (λ f. true) (get_or l 0 no_row ∷ []) s.used s.flash s.disk; primary = copies (labelled N) (λ f. true) (get_or l 0 no_row ∷ []) }
unfolding oldest_out
oldest-is N s [] h = absurd (omega arith)
oldest-is N s (r ∷ l) h = refl

drop-length : (l : List (AddressRow (Fixed 32))) → 0 < length l → length (drop 1 l) ≡ length l - 1
drop-length [] h = absurd (omega arith)
drop-length (r ∷ l) h = omega arith

module _ (b : BoxRecord) (disk flash addrs blocks : List ℕ) (s : Box (Fixed 32) (Fixed b.size)) (h : Rep b disk flash addrs blocks s) (count : ℕ) (disk' addrs₁ : List ℕ) (c : ◌≡◌ {A = Copied} (record { count = count; disk = disk'; addrs = addrs₁ }) (copied_row b (λ f. true) s 0)) where
  pub addrs-after : Addrs b.blocks b.rows b.held addrs₁ (clean_first ((get_or s.rows 0 no_row).dirty && true) s.rows)
  unfolding copied_row
  addrs-after =
      record {
        count = after-length ((get_or s.rows 0 no_row).dirty && true) s.rows ∙ h.rows_are.count;
        few = h.rows_are.few;
        below = after-below b.blocks ((get_or s.rows 0 no_row).dirty && true) s.rows h.rows_are.below;
        small = h.rows_are.small;
        is = by-test ((get_or s.rows 0 no_row).dirty && true) (λ y. rw y (ap (λ (x : Copied). x.addrs) (rw y at c))) (λ y. rw y (ap (λ (x : Copied). x.addrs) (rw y at c)));
      }

  pub out-old : (a i : ℕ) → i ≡ index_where (λ x. eqb a x.address) s.rows → b.held ≤ i → b.rows ≤ b.held → 0 < b.rows → (place : ℕ) (addrs' : List ℕ)
      → (place ≡ place_of (some (get_or (clean_first ((get_or s.rows 0 no_row).dirty && true) s.rows) 0 no_row).fingerprint) s.free s.used) × (addrs' ≡ addresses_of b.rows (remove_at (clean_first ((get_or s.rows 0 no_row).dirty && true) s.rows) 0))
      → ◌≡◌ {A = Out1} (record { held = b.held - 1; place = place; primary = count; disk = disk'; addrs = addrs' }) (out1 b s (step1 (engine b) b.rows s a))
  unfolding out1 step1 copied_row
  out-old a i e l m0 mp place addrs' q =
      let y : held a s.rows ≡ false = has_no eqb (λ (x : AddressRow (Fixed 32)). x.address) a s.rows (omega (arith, e, h.rows_are.count)) in
      let z : eqb (length s.rows) b.rows ≡ true = eq-eqb (length s.rows) b.rows (omega (arith, h.rows_are.count, h.rows_are.few)) in
      let lt : 0 < length s.rows = omega (arith, h.rows_are.count) in
      let t : Bool = (get_or s.rows 0 no_row).dirty && true in
      let n : b.held - 1 ≡ length (drop 1 s.rows) = ap (λ (k : ℕ). k - 1) (sym h.rows_are.count) ∙ sym (drop-length s.rows lt) in
      let p : place ≡ place_of (some (get_or s.rows 0 no_row).fingerprint) s.free s.used = q.0 ∙ ap (λ (f : Fixed 32). place_of (some f) s.free s.used) (after-fp ((get_or s.rows 0 no_row).dirty && true) s.rows lt) in
      let w : addrs' ≡ addresses_of b.rows (drop 1 s.rows) = q.1 ∙ ap (addresses_of b.rows) (after-rest ((get_or s.rows 0 no_row).dirty && true) s.rows lt) in
      rw (y, z, oldest-is (numbers_of b) s s.rows lt)
      (by-test ((get_or s.rows 0 no_row).dirty && true)
      (λ t1. let c1 = rw t1 at c in rw t1 (λ j. record { held = n j; place = p j; primary = ap (λ (x : Copied). x.count) c1 j; disk = ap (λ (x : Copied). x.disk) c1 j; addrs = w j }))
      (λ t1. let c1 = rw t1 at c in rw t1 (λ j. record { held = n j; place = p j; primary = ap (λ (x : Copied). x.count) c1 j; disk = ap (λ (x : Copied). x.disk) c1 j; addrs = w j })))

-- ---- step 3
module _ (N : Numbers) (d : ℕ) (t : List ℕ) (others l : List (AddressRow (Fixed 32))) (free : List ℕ) (used : List (BlockRow (Fixed 32))) (h : Blocks d t free used) (place : ℕ) where
  pub gone-out : (gone : Option (Fixed 32)) → place ≡ place_of gone free used → d ≤ place → t ≡ block_bytes (step3 (labelled N) gone others l (record { free = free; used = used }))
  unfolding step3
  gone-out none e b = h.is
  gone-out (some q) e b = rw (not_there N d t free used h place q e b) h.is

  pub gone-cached : (gone : Option (Fixed 32)) → some_uncached (labelled N) others used ≡ false → t ≡ block_bytes (step3 (labelled N) gone others l (record { free = free; used = used }))
  unfolding step3
  gone-cached none f = h.is
  gone-cached (some q) f = rw (right-no (cached (labelled N) q used && not (known comparing q l)) (some_uncached (labelled N) others used) f) h.is

  -- q's row is there: what is known of its bytes
  module _ (v : Bool) (g : List ℕ) (eg : g ≡ (read_block (row_at t place)).fingerprint) (f : (q : Fixed 32) → q.0 ≡ g → v ≡ known (comparing) q l) (b : place < d) where
    pub gone-known : (gone : Option (Fixed 32)) → place ≡ place_of gone free used → v ≡ true → t ≡ block_bytes (step3 (labelled N) gone others l (record { free = free; used = used }))
    unfolding step3
    gone-known none e y = absurd (omega (arith, e, h.count))
    gone-known (some q) e y = rw (there N d t free used h place q e b, known_as N d t free used h place q e b l v g eg f ∙ y) h.is

    pub gone-freed : (gone : Option (Fixed 32)) → place ≡ place_of gone free used → v ≡ false → Distinct comparing.same (λ u. u.fingerprint) used → some_uncached (labelled N) others used ≡ true
        → row_freed d place t ≡ block_bytes (step3 (labelled N) gone others l (record { free = free; used = used }))
    unfolding step3
    gone-freed none e y ds u = absurd (omega (arith, e, h.count))
    gone-freed (some q) e y ds u = rw (there N d t free used h place q e b, known_as N d t free used h place q e b l v g eg f ∙ y, u) (freed-at N d t free used h place q e b ds)

-- ---- step 4
none-cleaned : (N : Numbers) (l : List (AddressRow (Fixed 32))) → cleaned (labelled N) (λ f. false) l ≡ l
none-cleaned N [] = refl
none-cleaned N (r ∷ l) = by-test r.dirty (λ e. ap₂ {C = List (AddressRow (Fixed 32))} (λ x y. record { address = r.address; fingerprint = r.fingerprint; dirty = x; seat = r.seat } ∷ y) (rw e refl) (none-cleaned N l)) (λ e. ap₂ {C = List (AddressRow (Fixed 32))} (λ x y. record { address = r.address; fingerprint = r.fingerprint; dirty = x; seat = r.seat } ∷ y) (rw e refl) (none-cleaned N l))

none-copied : (N : Numbers) (l : List (AddressRow (Fixed 32))) (used : List (BlockRow (Fixed 32))) (fl di : List (Fixed N.B)) → copied (labelled N) (λ f. false) l used fl di ≡ di
none-copied N [] used fl di = refl
none-copied N (r ∷ l) used fl di = by-test r.dirty (λ e. rw e (none-copied N l used fl di)) (λ e. rw e (none-copied N l used fl di))

none-copies : (N : Numbers) (l : List (AddressRow (Fixed 32))) → copies (labelled N) (λ f. false) l ≡ 0
none-copies N [] = refl
none-copies N (r ∷ l) = by-test r.dirty (λ e. rw e (zero-add _ ∙ none-copies N l)) (λ e. rw e (zero-add _ ∙ none-copies N l))

pub none-lost : (b : BoxRecord) (disk flash addrs blocks : List ℕ) (s : Box (Fixed 32) (Fixed b.size)) → Rep b disk flash addrs blocks s → (n : ℕ) → ◌≡◌ {A = Copied} (record { count = 0; disk = disk; addrs = addrs }) (copied_rows b (λ f. false) s n)
unfolding copied_rows part_box
none-lost b disk flash addrs blocks s h n =
    let r : cleaned (engine b) (λ f. false) (take n s.rows) ++ drop n s.rows ≡ s.rows = ap (λ (x : List (AddressRow (Fixed 32))). x ++ drop n s.rows) (none-cleaned (numbers_of b) (take n s.rows)) ∙ lib.ListN.take-append-drop n s.rows in
    λ j. record { count = sym (none-copies (numbers_of b) (take n s.rows)) j; disk = (h.disk-is.is ∙ ap join (sym (none-copied (numbers_of b) (take n s.rows) s.used s.flash s.disk))) j; addrs = (h.rows_are.is ∙ ap (addresses_of b.rows) (sym r)) j }

flag_at : (t i j : ℕ) (x : List ℕ) → i ≡ j → (c : Bool) → is_used (row_at x i) ≡ c → is_used (row_at x j) ≡ c
flag_at t i j x e c q = ap (λ (k : ℕ). is_used (row_at x k)) (sym e) ∙ q

-- the row at t is free, or it is used
pub picked-free : (d : ℕ) (bt : List ℕ) (free : List ℕ) (used : List (BlockRow (Fixed 32))) (t : ℕ) → Blocks d bt free used → Picked free used t → is_used (row_at bt t) ≡ false → (picked_taken free used t).lost ≡ none
unfolding picked_taken
picked-free d bt (k ∷ free) used t h p e = refl
picked-free d bt [] used t h p e = clash (flag_at 0 (0 + t) t bt (zero-add t) true (used-flag d bt [] used h t p no_block)) e

pub record Used (N : Numbers) (bt : List ℕ) (free : List ℕ) (used : List (BlockRow (Fixed 32))) (t : ℕ) : Type 0 where
  pub lost : (picked_taken free used t).lost ≡ some (get_or used t no_block).fingerprint
  pub bytes : (get_or used t no_block).fingerprint.0 ≡ (read_block (row_at bt t)).fingerprint
  pub slot : slot_of (labelled N) (get_or used t no_block).fingerprint used ≡ (picked_taken free used t).slot

pub picked-used : (N : Numbers) (d : ℕ) (bt : List ℕ) (free : List ℕ) (used : List (BlockRow (Fixed 32))) (t : ℕ) → Blocks d bt free used → Distinct comparing.same (λ u. u.fingerprint) used → Picked free used t → is_used (row_at bt t) ≡ true → Used N bt free used t
unfolding picked_taken
picked-used N d bt (k ∷ free) used t h ds p e = clash (flag_at 0 t 0 bt p true e) (first-flag d bt k free used h)
picked-used N d bt [] used t h ds p e =
    record {
      lost = refl;
      bytes = sym (used-fp d bt [] used h t p no_block) ∙ ap (λ (k : ℕ). (read_block (row_at bt k)).fingerprint) (zero-add t);
      slot = own-slot N used t ds p;
    }

-- fill
pub filled_at : (d : ℕ) (bt : List ℕ) (free : List ℕ) (used : List (BlockRow (Fixed 32))) (t k : ℕ) (f : Fixed 32) → Blocks d bt free used → Picked free used t → k ≡ (picked_taken free used t).slot
    → row_filled d t f.0 bt ≡ blocks_of (picked_taken free used t).free ((picked_taken free used t).used ++ (block_row f k ∷ []))
unfolding picked_taken
filled_at d bt (x ∷ free) used t k f h p e =
    ap (λ (i : ℕ). row_filled d i f.0 bt) p ∙ first-filled d bt x free used h f ∙ ap (λ (j : ℕ). blocks_of free (used ++ (block_row f j ∷ []))) (sym e)
filled_at d bt [] used t k f h p e =
    ap (λ (i : ℕ). row_filled d i f.0 bt) (sym (zero-add t)) ∙ refilled d bt [] used h t p no_block f ∙ ap (λ (j : ℕ). blocks_of [] ((take t used ++ drop (suc t) used) ++ (block_row f j ∷ []))) (sym e)
