-- A block copied to the disk, and what a row's copy leaves. Assumes nothing.
use Rattle.std.specs.Prelude.{◌≡◌, refl, Bool, ◌&&◌, ℕ, suc, zero, ◌≤◌, ◌<◌, ◌+◌, ◌*◌, ltb, length, get_or, set, take, drop, None, Option, Some}
use Rattle.std.proofs.Common.{sym, ◌∙◌, arith, take_at, ltb-true, ltb-false, le-ltb}
use Rattle.std.proofs.Math.Path.{ap, ap₂}
use Rattle.std.proofs.Math.Bool.{true, false}
use mathlib.Core.List.{List, [], ◌∷◌}
use native.Mathlib.Nat.{le_of_suc-le-suc}
use Rattle.std.proofs.Math.Seq.{drop-append-add}
use Rattle.block.specs.Blocks.{part, splice}
use Rattle.parts.specs.declared.BoxRecord.{BoxRecord}
use Rattle.tables.specs.Rows.{rows, row_at}
use Rattle.tables.specs.Index.{code, place_in}
use Rattle.paper.specs.KeyedLaws.{All, by-test}
use Rattle.paper.specs.Cache.{Numbers, AddressRow, BlockRow, Box, slot_of, block_of, block_row}
use Rattle.paper.specs.Engine.{Fixed, labelled, comparing}
use Rattle.paper.specs.Lent.{join}
use Rattle.paper.proofs.Parts.{length-join, join-set}
use Rattle.paper.specs.Layout.{Addrs, Blocks, Parts}
use Rattle.parts.specs.Rep.{Rep, Copied, copied_row, no_row, engine}
use Rattle.parts.specs.Asked.{slot_in}
use Rattle.paper.specs.Index.{index_where}
use Rattle.paper.proofs.IndexLaws.{slot_of-yes, slot_of-no}
use Rattle.parts.specs.MoveLaws.{row_is, slot_is, address_is, address_below, dirty-is, cleaned-row}
use Rattle.tables.specs.Find.{find_from, has_fingerprint, caches, is_dirty}
use Rattle.parts.specs.TableLaws.{addr_bytes, fp-of, has-fp, block-index}
use Rattle.tables.specs.Records.{read_address, read_block}
use Rattle.tables.specs.Operations.{row_cleaned}

-- block k of the bytes
join-part : (n : ℕ) (bs : List (Fixed n)) (k : ℕ) (z : Fixed n) → k < length bs → take n (drop (k * n) (join bs)) ≡ (get_or bs k z).0
join-part n [] k z h = absurd (omega arith)
join-part n (x ∷ xs) zero z h = let e : 0 * n ≡ 0 = omega arith in rw e (take_at x.0 (join xs) n x.1)
join-part n (x ∷ xs) (suc k) z h =
    let lx : length x.0 ≡ n = x.1 in
    let e : suc k * n ≡ length x.0 + k * n = omega arith in
    rw (e, drop-append-add x.0 (join xs) (k * n)) (join-part n xs k z (le_of_suc-le-suc h))

pub part-block : (B c : ℕ) (t : List ℕ) (bs : List (Fixed B)) → Parts B c t bs → (k : ℕ) (z : Fixed B) → k < c → part (k * B) B t ≡ (get_or bs k z).0
unfolding part
part-block B c t bs h k z b = ap (λ (x : List ℕ). take B (drop (k * B) x)) h.is ∙ join-part B bs k z (omega (arith, h.count))

pub parts-length : (B c : ℕ) (t : List ℕ) (bs : List (Fixed B)) → Parts B c t bs → length t ≡ c * B
parts-length B c t bs h = ap length h.is ∙ length-join B bs ∙ ap (λ (k : ℕ). k * B) h.count

pub block-ends : (k c B : ℕ) → k < c → k * B + B ≤ c * B
block-ends k c B h = let e : suc k * B ≡ k * B + B = omega arith in rw (← e) (native.Mathlib.Nat.mul-le-mul_right B h)

pub put-block-is : (B P : ℕ) (t : List ℕ) (di : List (Fixed B)) → Parts B P t di → (a : ℕ) → a < P → (x : Fixed B) → splice (a * B) x.0 t ≡ join (set di a x)
unfolding splice
put-block-is B P t di h a b x =
    rw (x.1, h.is) (sym (join-set B di a x (omega (arith, h.count))))

pub copy_is : (B d P : ℕ) (flash disk : List ℕ) (fl di : List (Fixed B)) → Parts B d flash fl → Parts B P disk di → (k a : ℕ) (z : Fixed B) → k < d → a < P
    → splice (a * B) (part (k * B) B flash) disk ≡ join (set di a (get_or fl k z))
copy_is B d P flash disk fl di hf hd k a z kb ab =
    ap (λ (x : List ℕ). splice (a * B) x disk) (part-block B d flash fl hf k z kb) ∙ put-block-is B P disk di hd a ab (get_or fl k z)

pub slot_of-below : (N : Numbers) (d : ℕ) (f : Fixed 32) (used : List (BlockRow (Fixed 32))) → 0 < d → All (λ u. u.slot < d) used
    → slot_of (labelled N) f used < d
slot_of-below N d f [] h q = h
slot_of-below N d f (u ∷ us) h q = by-test ((labelled N).same f u.fingerprint) (λ e. rw e q.0) (λ e. rw e (slot_of-below N d f us h q.1))

module _ (b : BoxRecord) (disk flash addrs blocks : List ℕ) (s : Box (Fixed 32) (Fixed b.size)) (h : Rep b disk flash addrs blocks s)
    (chosen : Fixed 32 → Bool) (i : ℕ) (l : i < b.held) where
  row : AddressRow (Fixed 32)
  row = get_or s.rows i no_row

  pub row-left : (is_dirty (row_at addrs i) && chosen (get_or s.rows i no_row).fingerprint) ≡ false
      → ◌≡◌ {A = Copied} (record { count = 0; disk = disk; addrs = addrs }) (copied_row b chosen s i)
  unfolding copied_row
  row-left e =
      let d : ((get_or s.rows i no_row).dirty && chosen (get_or s.rows i no_row).fingerprint) ≡ false
      = ap (λ (x : Bool). x && chosen (get_or s.rows i no_row).fingerprint)
      (sym (dirty-is b.blocks b.rows b.held addrs s.rows h.rows_are i l no_row)) ∙ e in
      rw d (λ j. record { count = 0; disk = h.disk-is.is j; addrs = h.rows_are.is j })

  pub row_copied : (is_dirty (row_at addrs i) && chosen (get_or s.rows i no_row).fingerprint) ≡ true → (a k : ℕ) → a ≡ (read_address (row_at addrs i)).address
      → k ≡ slot_of (engine b) (get_or s.rows i no_row).fingerprint s.used → k < b.slots
      → ◌≡◌ {A = Copied} (record { count = 1; disk = splice (a * b.size) (part (k * b.size) b.size flash) disk; addrs = row_cleaned i addrs })
      (copied_row b chosen s i)
  unfolding copied_row
  row_copied e a k ea ek kb =
      let d : ((get_or s.rows i no_row).dirty && chosen (get_or s.rows i no_row).fingerprint) ≡ true
      = ap (λ (x : Bool). x && chosen (get_or s.rows i no_row).fingerprint)
      (sym (dirty-is b.blocks b.rows b.held addrs s.rows h.rows_are i l no_row)) ∙ e in
      let z = (engine b).blank in
      let aa : a ≡ (get_or s.rows i no_row).address = ea ∙ address_is b.blocks b.rows b.held addrs s.rows h.rows_are i l no_row in
      let ab : a < b.blocks = rw aa (address_below b.blocks b.rows b.held addrs s.rows h.rows_are i l no_row) in
      let c : splice (a * b.size) (part (k * b.size) b.size flash) disk
      ≡ join (set s.disk (get_or s.rows i no_row).address (block_of (engine b) (get_or s.rows i no_row).fingerprint s.used s.flash))
      = copy_is b.size b.slots b.blocks flash disk s.flash s.disk h.flash-is h.disk-is k a z kb ab
      ∙ ap₂ {C = List ℕ} (λ x y. join (set s.disk x (get_or s.flash y z))) aa ek in
      let r = cleaned-row b.blocks b.rows b.held addrs s.rows h.rows_are i l no_row in
      rw d (λ j. record { count = 1; disk = c j; addrs = r j })

-- a row that is chosen
pub copied-chosen : (b : BoxRecord) (chosen : Fixed 32 → Bool) (s : Box (Fixed 32) (Fixed b.size)) (i : ℕ)
    → chosen (get_or s.rows i no_row).fingerprint ≡ true → copied_row b (λ f. true) s i ≡ copied_row b chosen s i
unfolding copied_row
copied-chosen b chosen s i e = rw e refl

-- the slot of a fingerprint, by its place
module _ (N : Numbers) (d : ℕ) (t : List ℕ) (free : List ℕ) (used : List (BlockRow (Fixed 32))) (f : Fixed 32) (h : Blocks d t free used) (j : ℕ)
    (e : j ≡ length free + index_where (λ u. comparing.same f u.fingerprint) used) where
  pub slot-none : d ≤ j → 0 ≡ slot_of (labelled N) f used
  slot-none b = sym (slot_of-no (labelled N) f used (omega (arith, h.count, e)))

  pub slot-some : j < d → (r : ℕ) → r ≡ (read_block (row_at t j)).slot → r ≡ slot_of (labelled N) f used
  slot-some b r er =
      let k : ℕ = index_where (λ (u : BlockRow (Fixed 32)). (labelled N).same f u.fingerprint) used in
      let kb : k < length used = omega (arith, h.count, e) in
      let z : BlockRow (Fixed 32) = block_row f 0 in
      er ∙ ap (λ (x : ℕ). (read_block (row_at t x)).slot) e ∙ slot_is d t free used h k kb z ∙ sym (slot_of-yes (labelled N) f used z kb)

  pub slot_placed : slot_in t d j ≡ slot_of (labelled N) f used
  slot_placed = by-test (ltb j d) (λ y. rw y (slot-some (ltb-true j d y) (read_block (row_at t j)).slot refl)) (λ y. rw y (slot-none (ltb-false j d y)))

-- the same by the place of a row's block row, or 256
slot-coded : (N : Numbers) (d : ℕ) (t free : List ℕ) (used : List (BlockRow (Fixed 32))) (g : List ℕ) (q : Fixed 32) → Blocks d t free used → d ≤ 256 → q.0 ≡ g
    → (f : Option ℕ) → find_from (caches g) 0 (rows d t) ≡ f
    → slot_in t d (code f) ≡ slot_of (labelled N) q used
slot-coded N d t free used g q h b e (Some i) x = slot_placed N d t free used q h i (block-index d t free used h g q e (Some i) x)
slot-coded N d t free used g q h b e None x = rw (le-ltb 256 d b) (slot-none N d t free used q h d (block-index d t free used h g q e None x)
    (omega arith))

pub slot_of_row : (N : Numbers) (P m n d : ℕ) (addrs blocks : List ℕ) (l : List (AddressRow (Fixed 32))) (free : List ℕ) (used : List (BlockRow (Fixed 32)))
    → Addrs P m n addrs l → Blocks d blocks free used → d ≤ 256
    → (i : ℕ) → i < n → slot_in blocks d (place_in (rows d blocks) (row_at addrs i)) ≡ slot_of (labelled N) (get_or l i no_row).fingerprint used
unfolding place_in
slot_of_row N P m n d addrs blocks l free used h k b i li =
    let r : AddressRow (Fixed 32) = get_or l i no_row in
    ap (λ t. slot_in blocks d (place_in (rows d blocks) t)) (row_is P m n addrs l h i li no_row)
    ∙ slot-coded N d blocks free used (read_address (addr_bytes r)).fingerprint r.fingerprint k b (sym (fp-of r))
    (find_from (caches (read_address (addr_bytes r)).fingerprint) 0 (rows d blocks)) refl

-- a row's block and its place on the disk are there
pub copy-fits : (b : BoxRecord) (disk flash addrs blocks : List ℕ) (s : Box (Fixed 32) (Fixed b.size)) → Rep b disk flash addrs blocks s → (i : ℕ)
    → i < b.held → (a k : ℕ) → a ≡ (read_address (row_at addrs i)).address → k < b.slots
    → (k * b.size + b.size ≤ length flash) × (a * b.size + b.size ≤ length disk)
copy-fits b disk flash addrs blocks s h i l a k ea kb =
    let aa : a ≡ (get_or s.rows i no_row).address = ea ∙ address_is b.blocks b.rows b.held addrs s.rows h.rows_are i l no_row in
    let ab : a < b.blocks = rw aa (address_below b.blocks b.rows b.held addrs s.rows h.rows_are i l no_row) in (
      rw (parts-length b.size b.slots flash s.flash h.flash-is) (block-ends k b.slots b.size kb),
      rw
          (parts-length b.size b.blocks disk s.disk h.disk-is) (block-ends a b.blocks b.size ab),
    )

pub both_yes : (x y : Bool) → x ≡ true → y ≡ true → (x && y) ≡ true
both_yes x y e f = rw (e, f) refl

pub left-no : (x y : Bool) → x ≡ false → (x && y) ≡ false
left-no x y e = rw e refl

pub right-no : (x y : Bool) → y ≡ false → (x && y) ≡ false
right-no true y e = e
right-no false y e = refl

-- fingerprint_is
pub row-fp : (b : BoxRecord) (disk flash addrs blocks : List ℕ) (s : Box (Fixed 32) (Fixed b.size)) → Rep b disk flash addrs blocks s → (i : ℕ)
    → i < b.held → (g : List ℕ) (v : Fixed 32) → v.0 ≡ g
    → has_fingerprint g (row_at addrs i) ≡ (engine b).same v (get_or s.rows i no_row).fingerprint
row-fp b disk flash addrs blocks s h i l g v e = ap (has_fingerprint g) (row_is b.blocks b.rows b.held addrs s.rows h.rows_are i l no_row)
    ∙ has-fp g v e (get_or s.rows i no_row)

pub same-slot : (N : Numbers) (v f : Fixed 32) (used : List (BlockRow (Fixed 32))) → (labelled N).same v f ≡ true
    → slot_of (labelled N) v used ≡ slot_of (labelled N) f used
same-slot N v f used e = ap (λ (x : Fixed 32). slot_of (labelled N) x used) ((labelled N).same→≡ v f e)
