-- Rows copied one after the other: the turn of a loop over them. Assumes nothing.
use mathlib.Core.Path.{◌≡◌, refl, sym, ap, ap₂, ◌∙◌}
use mathlib.Core.Bool.{Bool, true, false, not, ◌&&◌, cond, true≢false, false≢true}
use mathlib.Core.List.{List, [], ◌∷◌, ◌++◌}
use Prim.Native.Nat.{ℕ, suc, zero, ◌<◌, ◌+◌}
use native.Mathlib.Nat.{le_of_suc-le-suc}
use native.Mathlib.Omega.{arith}
use lib.ListN.{length, get_or, set, take, drop, length-append, take-append-drop}
use Rattle.parts.specs.declared.BoxRecord.{BoxRecord}
use Rattle.paper.specs.KeyedLaws.{All, by-test}
use Rattle.paper.specs.Cache.{Hashing, AddressRow, BlockRow, Box, newest, slot_of, block_of, copied, copies, cleaned}
use Rattle.paper.specs.Engine.{Fixed}
use Rattle.paper.specs.Lent.{join}
use Rattle.paper.proofs.SoundLaws.{length-cleaned, length-copied}
use Rattle.paper.specs.Layout.{addresses_of}
use Rattle.parts.specs.Rep.{Rep, Copied, copied_row, copied_rows, part_box, no_row, clean, engine}

and_yes : (d x : Bool) → (d && x) ≡ true → (d && not x) ≡ false
and_yes true true e = refl
and_yes true false e = absurd (false≢true e)
and_yes false x e = refl

and_no : (d x : Bool) → (d && x) ≡ false → (d && not x) ≡ d
and_no true true e = absurd (true≢false e)
and_no true false e = refl
and_no false x e = refl

module _ {X : Type 0} (H : Hashing (Fixed 32) X) (c : Fixed 32 → Bool) where
  rows-yes : (l : List (AddressRow (Fixed 32))) (i : ℕ) (z : AddressRow (Fixed 32)) → i < length l → ((get_or l i z).dirty && c (get_or l i z).fingerprint) ≡ true
      → set (cleaned H c (take i l) ++ drop i l) i (clean (get_or l i z)) ≡ cleaned H c (take (suc i) l) ++ drop (suc i) l
  rows-yes [] i z h e = absurd (omega arith)
  rows-yes (r ∷ rs) zero z h e = ap (λ (d : Bool). newest r.address r.fingerprint d r.seat ∷ rs) (sym (and_yes r.dirty (c r.fingerprint) e))
  rows-yes (r ∷ rs) (suc i) z h e = ap (λ (l : List (AddressRow (Fixed 32))). newest r.address r.fingerprint (r.dirty && not (c r.fingerprint)) r.seat ∷ l) (rows-yes rs i z (le_of_suc-le-suc h) e)

  rows-no : (l : List (AddressRow (Fixed 32))) (i : ℕ) (z : AddressRow (Fixed 32)) → i < length l → ((get_or l i z).dirty && c (get_or l i z).fingerprint) ≡ false
      → cleaned H c (take i l) ++ drop i l ≡ cleaned H c (take (suc i) l) ++ drop (suc i) l
  rows-no [] i z h e = absurd (omega arith)
  rows-no (r ∷ rs) zero z h e = ap (λ (d : Bool). newest r.address r.fingerprint d r.seat ∷ rs) (sym (and_no r.dirty (c r.fingerprint) e))
  rows-no (r ∷ rs) (suc i) z h e = ap (λ (l : List (AddressRow (Fixed 32))). newest r.address r.fingerprint (r.dirty && not (c r.fingerprint)) r.seat ∷ l) (rows-no rs i z (le_of_suc-le-suc h) e)

  row-part : (l : List (AddressRow (Fixed 32))) (i : ℕ) (z : AddressRow (Fixed 32)) → i < length l → get_or (cleaned H c (take i l) ++ drop i l) i z ≡ get_or l i z
  row-part [] i z h = absurd (omega arith)
  row-part (r ∷ rs) zero z h = refl
  row-part (r ∷ rs) (suc i) z h = row-part rs i z (le_of_suc-le-suc h)

  copied-step : (l : List (AddressRow (Fixed 32))) (i : ℕ) (z : AddressRow (Fixed 32)) (used : List (BlockRow (Fixed 32))) (fl di : List X) → i < length l
      → copied H c (take (suc i) l) used fl di ≡ cond ((get_or l i z).dirty && c (get_or l i z).fingerprint) (set (copied H c (take i l) used fl di) (get_or l i z).address (block_of H (get_or l i z).fingerprint used fl)) (copied H c (take i l) used fl di)
  copied-step [] i z used fl di h = absurd (omega arith)
  copied-step (r ∷ rs) zero z used fl di h = refl
  copied-step (r ∷ rs) (suc i) z used fl di h = copied-step rs i z used fl (cond (r.dirty && c r.fingerprint) (set di r.address (block_of H r.fingerprint used fl)) di) (le_of_suc-le-suc h)

  copies-step : (l : List (AddressRow (Fixed 32))) (i : ℕ) (z : AddressRow (Fixed 32)) → i < length l → copies H c (take (suc i) l) ≡ copies H c (take i l) + cond ((get_or l i z).dirty && c (get_or l i z).fingerprint) 1 0
  copies-step [] i z h = absurd (omega arith)
  copies-step (r ∷ rs) zero z h = omega arith
  copies-step (r ∷ rs) (suc i) z h =
      let ih : copies H c (take (suc i) rs) ≡ copies H c (take i rs) + cond ((get_or rs i z).dirty && c (get_or rs i z).fingerprint) 1 0 = copies-step rs i z (le_of_suc-le-suc h) in
      omega (arith, ih)

  part_length : (l : List (AddressRow (Fixed 32))) (i : ℕ) → length (cleaned H c (take i l) ++ drop i l) ≡ length l
  part_length l i =
      length-append (cleaned H c (take i l)) (drop i l) ∙ ap (λ (k : ℕ). k + length (drop i l)) (length-cleaned H c (take i l)) ∙ sym (length-append (take i l) (drop i l)) ∙ ap length (take-append-drop i l)

  part-below : (P : ℕ) (l : List (AddressRow (Fixed 32))) (i : ℕ) → All (λ r. r.address < P) l → All (λ r. r.address < P) (cleaned H c (take i l) ++ drop i l)
  part-below P [] zero q = q
  part-below P [] (suc i) q = q
  part-below P (r ∷ rs) zero q = q
  part-below P (r ∷ rs) (suc i) q = (q.0, part-below P rs i q.1)

module _ (b : BoxRecord) (c : Fixed 32 → Bool) (disk₀ flash addrs₀ blocks : List ℕ) (s : Box (Fixed 32) (Fixed b.size)) (h : Rep b disk₀ flash addrs₀ blocks s) (i count : ℕ) (disk addrs : List ℕ) (inv : ◌≡◌ {A = Copied} (record { count = count; disk = disk; addrs = addrs }) (copied_rows b c s i)) where
  H : Hashing (Fixed 32) (Fixed b.size)
  H = engine b

  -- the bytes so far are those of `part_box`
  pub rep-part : Rep b disk flash addrs blocks (part_box b c s i)
  unfolding copied_rows part_box
  rep-part =
      record {
        rows_are = record {
          count = part_length (engine b) c s.rows i ∙ h.rows_are.count;
          few = h.rows_are.few;
          below = part-below (engine b) c b.blocks s.rows i h.rows_are.below;
          small = h.rows_are.small;
          is = ap (λ (x : Copied). x.addrs) inv;
        };
        blocks-are = h.blocks-are;
        flash-is = h.flash-is;
        disk-is = record { count = length-copied (engine b) c (take i s.rows) s.used s.flash s.disk ∙ h.disk-is.count; is = ap (λ (x : Copied). x.disk) inv };
      }

  -- row i is done
  pub part_step : i < b.held → (k : ℕ) (disk' addrs' : List ℕ) → ◌≡◌ {A = Copied} (record { count = k; disk = disk'; addrs = addrs' }) (copied_row b c (part_box b c s i) i)
      → ◌≡◌ {A = Copied} (record { count = count + k; disk = disk'; addrs = addrs' }) (copied_rows b c s (suc i))
  unfolding copied_rows copied_row part_box
  part_step l k disk' addrs' e =
      let li : i < length s.rows = omega (arith, h.rows_are.count) in
      let r : AddressRow (Fixed 32) = get_or s.rows i no_row in
      let t : Bool = r.dirty && c r.fingerprint in
      let rp : get_or (cleaned (engine b) c (take i s.rows) ++ drop i s.rows) i no_row ≡ r = row-part (engine b) c s.rows i no_row li in
      let e1 : ◌≡◌ {A = Copied} (record { count = k; disk = disk'; addrs = addrs' })
      (cond (r.dirty && c r.fingerprint)
      (record { count = 1; disk = join (set (copied (engine b) c (take i s.rows) s.used s.flash s.disk) r.address (block_of (engine b) r.fingerprint s.used s.flash)); addrs = addresses_of b.rows (set (cleaned (engine b) c (take i s.rows) ++ drop i s.rows) i (clean r)) })
      (record { count = 0; disk = join (copied (engine b) c (take i s.rows) s.used s.flash s.disk); addrs = addresses_of b.rows (cleaned (engine b) c (take i s.rows) ++ drop i s.rows) }))
      = rw rp at e in
      let cs = copied-step (engine b) c s.rows i no_row s.used s.flash s.disk li in
      let ks = copies-step (engine b) c s.rows i no_row li in
      let ci : count ≡ copies (engine b) c (take i s.rows) = ap (λ (x : Copied). x.count) inv in
      by-test (r.dirty && c r.fingerprint)
      (λ y.
      let e2 = rw y at e1 in
      λ j. record { count = (ap₂ ◌+◌ ci (ap (λ (x : Copied). x.count) e2) ∙ sym (rw y at ks)) j; disk = (ap (λ (x : Copied). x.disk) e2 ∙ ap join (sym (rw y at cs))) j; addrs = (ap (λ (x : Copied). x.addrs) e2 ∙ ap (addresses_of b.rows) (rows-yes (engine b) c s.rows i no_row li y)) j })
      (λ y.
      let e2 = rw y at e1 in
      λ j. record { count = (ap₂ ◌+◌ ci (ap (λ (x : Copied). x.count) e2) ∙ sym (rw y at ks)) j; disk = (ap (λ (x : Copied). x.disk) e2 ∙ ap join (sym (rw y at cs))) j; addrs = (ap (λ (x : Copied). x.addrs) e2 ∙ ap (addresses_of b.rows) (rows-no (engine b) c s.rows i no_row li y)) j })

-- none is done
pub part_none : (b : BoxRecord) (c : Fixed 32 → Bool) (disk flash addrs blocks : List ℕ) (s : Box (Fixed 32) (Fixed b.size)) → Rep b disk flash addrs blocks s → ◌≡◌ {A = Copied} (record { count = 0; disk = disk; addrs = addrs }) (copied_rows b c s 0)
unfolding copied_rows part_box
part_none b c disk flash addrs blocks s h = λ j. record { count = 0; disk = h.disk-is.is j; addrs = h.rows_are.is j }

pub used-part : (b : BoxRecord) (c : Fixed 32 → Bool) (s : Box (Fixed 32) (Fixed b.size)) (i : ℕ) (v : Fixed 32) → slot_of (engine b) v (part_box b c s i).used ≡ slot_of (engine b) v s.used
unfolding part_box
used-part b c s i v = refl
