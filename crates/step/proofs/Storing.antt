-- Step 4 by what the code finds. Assumes nothing.
use mathlib.Core.Path.{◌≡◌, sym, ap, ap₂, ◌∙◌, subst}
use mathlib.Core.Bool.{Bool, true, false}
use mathlib.Core.List.{List, [], ◌∷◌, ◌++◌, append-nil}
use Prim.Native.Nat.{ℕ, ◌≤◌, ◌<◌, ◌+◌}
use native.Mathlib.Nat.{zero-add}
use native.Mathlib.Omega.{arith}
use lib.ListN.{length, get_or, set, take, drop, drop_of_length-le}
use lib.Seq.{take_all}
use Rattle.parts.specs.declared.BoxRecord.{BoxRecord}
use Rattle.tables.specs.Rows.{row_at}
use Rattle.paper.specs.KeyedLaws.{Distinct}
use Rattle.paper.specs.Cache.{AddressRow, BlockRow, Box, Taken, block_row, cached, copied, copies, cleaned, is_lost, taken, stored, step4}
use Rattle.paper.specs.Engine.{Fixed, comparing}
use Rattle.paper.specs.Lent.{join}
use Rattle.paper.specs.Index.{index_where}
use Rattle.paper.proofs.IndexLaws.{has-yes, has_no}
use Rattle.paper.specs.Layout.{Blocks, addresses_of, blocks_of}
use Rattle.parts.specs.Rep.{numbers_of, Rep, Copied, copied_rows, part_box, engine}
use Rattle.parts.specs.Asked.{no_block, victim_place}
use Rattle.step.specs.Steps.{Picked, picked_taken, Out4, out4}
use Rattle.parts.specs.MoveLaws.{slot_is, slot-below, first_slot}
use Rattle.step.specs.Taking.{victim-picked, taken_is, renewed-at}
use Rattle.tables.specs.Records.{read_block}
use Rattle.tables.specs.Operations.{row_newest}

picked-slot : (d : ℕ) (bt : List ℕ) (free : List ℕ) (used : List (BlockRow (Fixed 32))) (t : ℕ) → Blocks d bt free used → Picked free used t → (read_block (row_at bt t)).slot ≡ (picked_taken free used t).slot
unfolding picked_taken
picked-slot d bt (k ∷ free) used t h p = ap (λ (i : ℕ). (read_block (row_at bt i)).slot) p ∙ first_slot d bt k free used h
picked-slot d bt [] used t h p = ap (λ (i : ℕ). (read_block (row_at bt i)).slot) (sym (zero-add t)) ∙ slot_is d bt [] used h t p no_block

picked-below : (d : ℕ) (bt : List ℕ) (free : List ℕ) (used : List (BlockRow (Fixed 32))) (t : ℕ) → Blocks d bt free used → Picked free used t → (picked_taken free used t).slot < d
unfolding picked_taken
picked-below d bt (k ∷ free) used t h p = h.free-below.0
picked-below d bt [] used t h p = slot-below d bt [] used h t p no_block

-- the place that the victim gives
module _ (b : BoxRecord) (disk flash addrs blocks : List ℕ) (s : Box (Fixed 32) (Fixed b.size)) (h : Rep b disk flash addrs blocks s) (d0 : 0 < b.slots)
    (t : ℕ) (et : t ≡ victim_place s.rows s.free s.used) where
  pub at-picked : Picked s.free s.used t
  at-picked = subst (Picked s.free s.used) (sym et) (victim-picked b.slots blocks s.rows s.used s.free h.blocks-are d0)

  pub at-taken : Distinct comparing.same (λ u. u.fingerprint) s.used → taken (engine b) s.rows s.free s.used ≡ picked_taken s.free s.used t
  at-taken ds =
      taken_is (numbers_of b) s.rows s.free s.used ds (victim-picked b.slots blocks s.rows s.used s.free h.blocks-are d0)
      ∙ ap (picked_taken s.free s.used) (sym et)

-- a place that can be taken
module _ (b : BoxRecord) (disk flash addrs blocks : List ℕ) (s : Box (Fixed 32) (Fixed b.size)) (h : Rep b disk flash addrs blocks s) (t k : ℕ)
    (p : Picked s.free s.used t) (ek : k ≡ (read_block (row_at blocks t)).slot) where
  pub at_slot : k ≡ (picked_taken s.free s.used t).slot
  at_slot = ek ∙ picked-slot b.slots blocks s.free s.used t h.blocks-are p

  pub at-below : k < b.slots
  at-below = subst (λ (x : ℕ). x < b.slots) (sym at_slot) (picked-below b.slots blocks s.free s.used t h.blocks-are p)

  pub store_is : (f : Fixed 32) (x : Fixed b.size) (count : ℕ) (disk' addrs' flash' blocks' : List ℕ) → ◌≡◌ {A = Copied} (record { count = count; disk = disk'; addrs = addrs' }) (copied_rows b (is_lost (engine b) (picked_taken s.free s.used t).lost) s b.held)
      → (flash' ≡ join (set s.flash k x)) × (blocks' ≡ blocks_of (picked_taken s.free s.used t).free ((picked_taken s.free s.used t).used ++ (block_row f k ∷ [])))
      → ◌≡◌ {A = Out4} (record { flashed = 1; primary = count; disk = disk'; flash = flash'; addrs = addrs'; blocks = blocks' })
      (out4 b (stored (engine b) s.rows s.used s.flash s.disk f x 0 (picked_taken s.free s.used t)))
  unfolding out4 stored copied_rows part_box
  store_is f x count disk' addrs' flash' blocks' e q =
      let T : Taken (Fixed 32) = picked_taken s.free s.used t in
      let c : Fixed 32 → Bool = is_lost (engine b) (picked_taken s.free s.used t).lost in
      let lr : length s.rows ≤ b.held = omega (arith, h.rows_are.count) in
      let all : take b.held s.rows ≡ s.rows = take_all b.held s.rows lr in
      let nil : drop b.held s.rows ≡ [] = drop_of_length-le s.rows lr in
      let kt : k ≡ (picked_taken s.free s.used t).slot = at_slot in
      let e1 : count ≡ 0 + copies (engine b) (is_lost (engine b) (picked_taken s.free s.used t).lost) s.rows
      = ap (λ (y : Copied). y.count) e ∙ ap (copies (engine b) (is_lost (engine b) (picked_taken s.free s.used t).lost)) all ∙ sym (zero-add _) in
      let e2 : disk' ≡ join (copied (engine b) (is_lost (engine b) (picked_taken s.free s.used t).lost) s.rows s.used s.flash s.disk)
      = ap (λ (y : Copied). y.disk) e ∙ ap (λ (y : List (AddressRow (Fixed 32))). join (copied (engine b) (is_lost (engine b) (picked_taken s.free s.used t).lost) y s.used s.flash s.disk)) all in
      let e3 : addrs' ≡ addresses_of b.rows (cleaned (engine b) (is_lost (engine b) (picked_taken s.free s.used t).lost) s.rows)
      = ap (λ (y : Copied). y.addrs) e ∙ ap₂ {C = List ℕ} (λ y z. addresses_of b.rows (cleaned (engine b) (is_lost (engine b) (picked_taken s.free s.used t).lost) y ++ z)) all nil
      ∙ ap (addresses_of b.rows) (append-nil (cleaned (engine b) (is_lost (engine b) (picked_taken s.free s.used t).lost) s.rows)) in
      let e4 : flash' ≡ join (set s.flash (picked_taken s.free s.used t).slot x) = q.0 ∙ ap (λ (y : ℕ). join (set s.flash y x)) kt in
      let e5 : blocks' ≡ blocks_of (picked_taken s.free s.used t).free ((picked_taken s.free s.used t).used ++ (block_row f (picked_taken s.free s.used t).slot ∷ []))
      = q.1 ∙ ap (λ (y : ℕ). blocks_of (picked_taken s.free s.used t).free ((picked_taken s.free s.used t).used ++ (block_row f y ∷ []))) kt in
      (λ j. record { flashed = 1; primary = e1 j; disk = e2 j; flash = e4 j; addrs = e3 j; blocks = e5 j })

-- step 4
module _ (b : BoxRecord) (disk flash addrs blocks : List ℕ) (s : Box (Fixed 32) (Fixed b.size)) (h : Rep b disk flash addrs blocks s) (f : Fixed 32) (x : Fixed b.size) (j : ℕ) (ej : j ≡ length s.free + index_where (λ u. comparing.same f u.fingerprint) s.used) where
  pub step4-hit : Distinct comparing.same (λ u. u.fingerprint) s.used → j < b.slots → (blocks' : List ℕ) → blocks' ≡ row_newest b.slots j blocks
      → ◌≡◌ {A = Out4} (record { flashed = 0; primary = 0; disk = disk; flash = flash; addrs = addrs; blocks = blocks' }) (out4 b (step4 (engine b) s.rows (record { free = s.free; used = s.used }) s.flash s.disk f x 0))
  unfolding out4 step4
  step4-hit ds l blocks' eb =
      let y : cached (engine b) f s.used ≡ true
      = has-yes comparing.same (λ (u : BlockRow (Fixed 32)). u.fingerprint) f s.used (omega (arith, ej, l, h.blocks-are.count)) in
      let e5 = eb ∙ renewed-at (numbers_of b) b.slots blocks s.free s.used h.blocks-are ds f j ej l in
      rw y (λ n. record { flashed = 0; primary = 0; disk = h.disk-is.is n; flash = h.flash-is.is n; addrs = h.rows_are.is n; blocks = e5 n })

  pub step4-miss : b.slots ≤ j → (o : Out4) → o ≡ out4 b (stored (engine b) s.rows s.used s.flash s.disk f x 0 (taken (engine b) s.rows s.free s.used))
      → o ≡ out4 b (step4 (engine b) s.rows (record { free = s.free; used = s.used }) s.flash s.disk f x 0)
  unfolding step4
  step4-miss l o e =
      let y : cached (engine b) f s.used ≡ false = has_no comparing.same (λ (u : BlockRow (Fixed 32)). u.fingerprint) f s.used (omega (arith, ej, h.blocks-are.count)) in
      rw y e
