-- The calls, from their steps. Assumes nothing.
use Rattle.std.specs.Prelude.{◌≡◌, Bool, not, cond, List, [], ℕ, ◌≤◌, ◌<◌, ◌+◌, ◌*◌, ltb, get_or, take}
use Rattle.std.proofs.Math.Path.{refl, ap}
use Rattle.std.proofs.Common.{sym, ap₂, ◌∙◌, zero-add, arith, length-set}
use Rattle.std.proofs.Math.Bool.{true, false}
use Rattle.std.proofs.Math.Option.{Option, none, some}
use Rattle.std.proofs.Math.Dec.{eqb}
use Rattle.std.proofs.Math.ListN.{length}
use borrow.Author.Tests.{ltb-true, ltb-false}
use Rattle.block.specs.Blocks.{splice}
use Rattle.parts.specs.declared.BoxRecord.{BoxRecord}
use Rattle.paper.specs.KeyedLaws.{by-test}
use Rattle.paper.specs.Cache.{Numbers, AddressRow, BlockRow, Box, Call, Word, same_block, new_block, Stepped, answer, cached, serve, write_back, write_through}
use Rattle.paper.specs.Cache.{write_invalidate, flushed, limited, excess, dirty_rows, reach, partly, dirtied, on_disk, without_address, dropped, step, hit, miss}
use Rattle.paper.specs.Cache.{read_as, row_with_block}
use Rattle.paper.specs.Cache.{Seat, seat_in, row_of, if_cached, block_of}
use Rattle.paper.proofs.PartlyLaws.{length-partly}
use Rattle.paper.specs.Engine.{Fixed, labelled, comparing}
use Rattle.paper.specs.Lent.{bit, join}
use Rattle.paper.specs.Index.{index_where}
use Rattle.paper.proofs.IndexLaws.{has-yes, has_no, find-yes, find-no}
use Rattle.parts.specs.Rep.{numbers_of, with_held, no_row, Rep, Copied, copied_rows, part_box, engine}
use Rattle.paper.specs.Layout.{Addrs, Blocks, addresses_of, blocks_of}
use Rattle.paper.proofs.LentLaws.{block-count, free-below, used-below}
use Rattle.tables.specs.Rows.{row_at}
use Rattle.tables.specs.Records.{read_address}
use Rattle.tables.specs.Find.{is_dirty, has_fingerprint}
use Rattle.parts.specs.MoveLaws.{row_is, dirty-is, seat-is}
use Rattle.parts.specs.TableLaws.{has-fp}
use Rattle.step.specs.Steps.{Sure, out4, StepLeft, after, asks, block_bytes}
use Rattle.serve.specs.Calls.{is_yes, returned_or, Leaves, leaves, HitAt}
use Rattle.parts.specs.CopyLaws.{put-block-is}

-- "same" where the fingerprint has a place
pub yes-is : (N : Numbers) (d : ℕ) (t : List ℕ) (free : List ℕ) (used : List (BlockRow (Fixed 32))) → Blocks d t free used → (f : Fixed 32) (j : ℕ)
    → j ≡ length free + index_where (λ u. comparing.same f u.fingerprint) used
    → ltb j d ≡ is_yes (cond (cached (labelled N) f used) same_block new_block)
yes-is N d t free used h f j e =
    by-test (ltb j d)
    (λ y. let l = ltb-true j d y in let c : cached (labelled N) f used
    ≡ true = has-yes comparing.same (λ (u : BlockRow (Fixed 32)). u.fingerprint) f used (omega (arith, e, l, h.count)) in y ∙ rw c refl)
    (λ y. let l = ltb-false j d y in let c : cached (labelled N) f used
    ≡ false = has_no comparing.same (λ (u : BlockRow (Fixed 32)). u.fingerprint) f used (omega (arith, e, l, h.count)) in y ∙ rw c refl)

pub answer-is : (b : BoxRecord) (lent : List ℕ) (w : Word) (o : Option (Fixed b.size)) (more : ℕ) (t : Stepped (Fixed 32) (Fixed b.size)) (yes : Bool)
    (held flashed p q : ℕ) (disk flash addrs blocks block : List ℕ)
    → ◌≡◌ {A = StepLeft} (record {
      held = held;
      left = (record { flashed = flashed; primary = p; disk = disk; flash = flash; addrs = addrs; blocks = blocks });
    }) (after b t) → yes ≡ is_yes w → q ≡ more + p → block ≡ returned_or o lent
    → ◌≡◌ {A = Leaves} (record {
      yes = yes;
      held = held;
      left = (record { flashed = flashed; primary = q; disk = disk; flash = flash; addrs = addrs; blocks = blocks });
      block = block;
    }) (leaves b lent (answer (engine b) w o more t))
unfolding leaves answer after out4
answer-is b lent w o more t y0 held flashed p q disk flash addrs blocks block e ey eq eb =
    λ j. record {
      yes = ey j;
      held = ap (λ (y : StepLeft). y.held) e j;
      left = (record {
        flashed = ap (λ (y : StepLeft). y.left.flashed) e j;
        primary = (eq ∙ ap (λ (y : StepLeft). more + y.left.primary) e) j;
        disk = ap (λ (y : StepLeft). y.left.disk) e j;
        flash = ap (λ (y : StepLeft). y.left.flash) e j;
        addrs = ap (λ (y : StepLeft). y.left.addrs) e j;
        blocks = ap (λ (y : StepLeft). y.left.blocks) e j;
      });
      block = eb j;
    }

-- the bytes of a sound box
pub sound-rep : (b : BoxRecord) (n : ℕ) (disk flash addrs blocks : List ℕ) (s : Box (Fixed 32) (Fixed b.size)) → Sure b s → b.blocks ≤ 65536
    → b.slots ≤ 256 → length s.rows ≡ n
    → disk ≡ join s.disk → flash ≡ join s.flash → addrs ≡ addresses_of b.rows s.rows → blocks ≡ blocks_of s.free s.used
    → Rep (with_held b n) disk flash addrs blocks s
sound-rep b n disk flash addrs blocks s h P1 d1 c ed ef ea eb =
    let N = numbers_of b in
    record {
      rows_are = record { count = c; few = rw (← c) h.few; below = h.below; small = P1; is = ea };
      blocks-are = record { count = block-count N s h; free-below = free-below N s h; used-below = used-below N s h; small = d1; is = eb };
      flash-is = record { count = h.flash_length; is = ef };
      disk-is = record { count = h.disk_length; is = ed };
    }

-- the bytes that a step leaves of a sound box
pub step-rep : (b : BoxRecord) (t : Stepped (Fixed 32) (Fixed b.size)) (held flashed primary : ℕ) (disk flash addrs blocks : List ℕ)
    → Sure b t.box → b.blocks ≤ 65536 → b.slots ≤ 256
    → ◌≡◌ {A = StepLeft} (record {
      held = held;
      left = (record { flashed = flashed; primary = primary; disk = disk; flash = flash; addrs = addrs; blocks = blocks });
    }) (after b t)
    → Rep (with_held b held) disk flash addrs blocks t.box
unfolding after out4
step-rep b t held flashed primary disk flash addrs blocks h P1 d1 e =
    sound-rep b held disk flash addrs blocks t.box h P1 d1 (sym (ap (λ (y : StepLeft). y.held) e)) (ap (λ (y : StepLeft). y.left.disk) e)
    (ap (λ (y : StepLeft). y.left.flash) e) (ap (λ (y : StepLeft). y.left.addrs) e) (ap (λ (y : StepLeft). y.left.blocks) e)

-- a step, and the oldest dirty row copied where more are dirty than the limit
pub limited-is : (b : BoxRecord) (lent : List ℕ) (w : Word) (t : Stepped (Fixed 32) (Fixed b.size)) (yes : Bool) (held flashed p more : ℕ)
    (disk flash addrs blocks disk' addrs' : List ℕ)
    → ◌≡◌ {A = StepLeft} (record {
      held = held;
      left = (record { flashed = flashed; primary = p; disk = disk; flash = flash; addrs = addrs; blocks = blocks });
    }) (after b t)
    → ◌≡◌ {A = Copied} (record { count = more; disk = disk'; addrs = addrs' })
    (copied_rows (with_held b held) (λ f. true) t.box (reach (engine b) (excess (engine b) b.limit t.box.rows) t.box.rows))
    → yes ≡ is_yes w
    → ◌≡◌ {A = Leaves} (record {
      yes = yes;
      held = held;
      left = (record { flashed = flashed; primary = p + more; disk = disk'; flash = flash; addrs = addrs'; blocks = blocks });
      block = lent;
    }) (leaves b lent (limited (engine b) b.limit (answer (engine b) w none 0 t)))
unfolding leaves answer after out4 flushed copied_rows part_box
limited-is b lent w t y0 held flashed p more disk flash addrs blocks disk' addrs' e c ey =
    let rows = t.box.rows in
    let i = reach (engine b) (excess (engine b) b.limit rows) rows in
    let writes : p + more ≡ (0 + t.primary_writes) + dirty_rows (engine b) (take i rows)
    = ap₂ ◌+◌ (ap (λ (y : StepLeft). y.left.primary) e ∙ sym (zero-add t.primary_writes)) (ap (λ (y : Copied). y.count) c) in
    λ j. record {
      yes = ey j;
      held = (ap (λ (y : StepLeft). y.held) e ∙ sym (length-partly (engine b) i rows)) j;
      left = (record {
        flashed = ap (λ (y : StepLeft). y.left.flashed) e j;
        primary = writes j;
        disk = (c j).disk;
        flash = ap (λ (y : StepLeft). y.left.flash) e j;
        addrs = (c j).addrs;
        blocks = ap (λ (y : StepLeft). y.left.blocks) e j;
      });
      block = lent;
    }

module _ (P m n : ℕ) (t : List ℕ) (l : List (AddressRow (Fixed 32))) (h : Addrs P m n t l) (a i : ℕ)
    (ei : i ≡ index_where (λ x. eqb a x.address) l) where
  no-row : n ≤ i → row_of a l ≡ none
  no-row k = find-no eqb (λ (x : AddressRow (Fixed 32)). x.address) a l (omega (arith, ei, k, h.count))

  row_here : i < n → row_of a l ≡ some (get_or l i no_row)
  row_here k =
      find-yes eqb (λ (x : AddressRow (Fixed 32)). x.address) a l no_row (omega (arith, ei, k, h.count)) ∙ ap (λ (j : ℕ). some (get_or l j no_row)) (sym ei)

  -- the seat of a read that misses: no such row, a row
  pub seat-none : n ≤ i → (0, 0) ≡ seat_in (row_of a l)
  seat-none k = rw (no-row k) refl

  pub seat-kept : i < n → (read_address (row_at t i)).seat ≡ seat_in (row_of a l)
  seat-kept k = seat-is P m n t l h i k no_row ∙ rw (row_here k) refl

-- the dirty value of a write back: no such row, a dirty row, the same fingerprint, another
module _ (N : Numbers) (P m n : ℕ) (t : List ℕ) (l : List (AddressRow (Fixed 32))) (h : Addrs P m n t l) (a i : ℕ)
    (ei : i ≡ index_where (λ x. eqb a x.address) l) (f : Fixed 32) (g : List ℕ) (ef : f.0 ≡ g) where
  pub value_none : n ≤ i → 1 ≡ bit (dirtied (labelled N) f (row_of a l))
  value_none k = rw (no-row P m n t l h a i ei k) refl

  pub value-dirty : i < n → is_dirty (row_at t i) ≡ true → 1 ≡ bit (dirtied (labelled N) f (row_of a l))
  value-dirty k d = rw (row_here P m n t l h a i ei k, sym (dirty-is P m n t l h i k no_row) ∙ d) refl

  pub value-clean : i < n → is_dirty (row_at t i) ≡ false → (y : Bool) → has_fingerprint g (row_at t i) ≡ y → bit (not y) ≡ bit (dirtied (labelled N) f (row_of a l))
  value-clean k d y e =
      let z : (labelled N).same f (get_or l i no_row).fingerprint ≡ y
      = sym (has-fp g f ef (get_or l i no_row)) ∙ ap (has_fingerprint g) (sym (row_is P m n t l h i k no_row)) ∙ e in
      rw (row_here P m n t l h a i ei k, sym (dirty-is P m n t l h i k no_row) ∙ d, z) refl

pub back_is : (b : BoxRecord) (lent : List ℕ) (s : Box (Fixed 32) (Fixed b.size)) (a : ℕ) (x : Fixed b.size) (z : Seat)
    → leaves b lent (limited (engine b) b.limit (answer (engine b) (cond (cached (engine b) ((engine b).hash x) s.used) same_block new_block) none 0
    (step (engine b) b.rows s (asks a ((engine b).hash x) x (dirtied (engine b) ((engine b).hash x) (row_of a s.rows)) z))))
    ≡ leaves b lent (serve (engine b) (numbers_of b) s (Call.back a x z))
unfolding serve write_back
back_is b lent s a x z = refl

pub through-is : (b : BoxRecord) (lent : List ℕ) (s : Box (Fixed 32) (Fixed b.size)) (a : ℕ) (x : Fixed b.size) (z : Seat)
    → leaves b lent (answer (engine b) (cond (cached (engine b) ((engine b).hash x) s.used) same_block new_block) none 1
    (step (engine b) b.rows (on_disk (engine b) s a x) (asks a ((engine b).hash x) x false z)))
    ≡ leaves b lent (serve (engine b) (numbers_of b) s (Call.through a x z))
unfolding serve write_through
through-is b lent s a x z = refl

-- the disk with the block on it
pub rep-on_disk : (b : BoxRecord) (disk flash addrs blocks : List ℕ) (s : Box (Fixed 32) (Fixed b.size)) → Rep b disk flash addrs blocks s → (a : ℕ)
    → a < b.blocks → (x : Fixed b.size) (disk' : List ℕ) → disk' ≡ splice (a * b.size) x.0 disk
    → Rep b disk' flash addrs blocks (on_disk (engine b) s a x)
rep-on_disk b disk flash addrs blocks s h a l x disk' e =
    record {
      rows_are = h.rows_are;
      blocks-are = h.blocks-are;
      flash-is = h.flash-is;
      disk-is = record {
        count = length-set s.disk a x ∙ h.disk-is.count;
        is = e ∙ put-block-is b.size b.blocks disk s.disk h.disk-is a l x;
      };
    }

-- a flush of at most k rows
pub flush-is : (b : BoxRecord) (k : ℕ) (lent disk flash addrs blocks : List ℕ) (s : Box (Fixed 32) (Fixed b.size)) → Rep b disk flash addrs blocks s
    → (count : ℕ) (disk' addrs' : List ℕ)
    → ◌≡◌ {A = Copied} (record { count = count; disk = disk'; addrs = addrs' }) (copied_rows b (λ f. true) s (reach (engine b) k s.rows))
    → ◌≡◌ {A = Leaves}
    (record {
      yes = true;
      held = b.held;
      left = (record { flashed = 0; primary = count; disk = disk'; flash = flash; addrs = addrs'; blocks = blocks });
      block = lent;
    })
    (leaves b lent (serve (engine b) (numbers_of b) s (Call.flush k)))
unfolding leaves serve flushed out4 copied_rows part_box
flush-is b k lent disk flash addrs blocks s h count disk' addrs' e =
    let i = reach (engine b) k s.rows in
    let n : b.held ≡ length (partly (engine b) i s.rows) = sym h.rows_are.count ∙ sym (length-partly (engine b) i s.rows) in
    λ j. record {
      yes = true;
      held = n j;
      left = (record { flashed = 0; primary = (e j).count; disk = (e j).disk; flash = h.flash-is.is j; addrs = (e j).addrs; blocks = h.blocks-are.is j });
      block = lent;
    }

-- invalidate
pub invalidate-is : (b : BoxRecord) (lent disk flash addrs blocks : List ℕ) (s : Box (Fixed 32) (Fixed b.size)) → Rep b disk flash addrs blocks s
    → (a : ℕ) → a < b.blocks → (x : Fixed b.size) (z : Seat) (yes : Bool) (held : ℕ) (disk' addrs' blocks' : List ℕ)
    → yes ≡ is_yes (cond (cached (engine b) ((engine b).hash x) s.used) same_block new_block) → disk' ≡ splice (a * b.size) x.0 disk
    → (held ≡ length (without_address a s.rows)) × (addrs' ≡ addresses_of b.rows (without_address a s.rows)) ×
    (blocks' ≡ block_bytes (dropped (engine b) (without_address a s.rows) (record { free = s.free; used = s.used }) (row_of a s.rows)))
    → ◌≡◌ {A = Leaves} (record {
      yes = yes;
      held = held;
      left = (record { flashed = 0; primary = 1; disk = disk'; flash = flash; addrs = addrs'; blocks = blocks' });
      block = lent;
    }) (leaves b lent (serve (engine b) (numbers_of b) s (Call.invalidate a x z)))
unfolding leaves serve write_invalidate out4
invalidate-is b lent disk flash addrs blocks s h a l x z y0 n disk' addrs' blocks' ey ed q =
    let d = rep-on_disk b disk flash addrs blocks s h a l x disk' ed in
    λ j. record {
      yes = ey j;
      held = q.0 j;
      left = (record { flashed = 0; primary = 1; disk = d.disk-is.is j; flash = h.flash-is.is j; addrs = q.1 j; blocks = q.2 j });
      block = lent;
    }

-- ---- read
-- a read that takes x where it misses
pub taken_is : (b : BoxRecord) (lent : List ℕ) (s : Box (Fixed 32) (Fixed b.size)) (a : ℕ) (x : Fixed b.size)
    → leaves b lent (answer (engine b) miss (some x) 0 (step (engine b) b.rows s (asks a ((engine b).hash x) x false (seat_in (row_of a s.rows)))))
    ≡ leaves b lent (read_as (engine b) b.rows s a x none)
unfolding read_as
taken_is b lent s a x = refl

module _ (b : BoxRecord) (disk flash addrs blocks : List ℕ) (s : Box (Fixed 32) (Fixed b.size)) (h : Rep b disk flash addrs blocks s) (a : ℕ) where
  pub hit-row : (i j : ℕ) → HitAt b s a i j → row_with_block (engine b) s a ≡ some (get_or s.rows i no_row)
  unfolding if_cached
  hit-row i j q =
      let lt : index_where (λ (x : AddressRow (Fixed 32)). eqb a x.address) s.rows < length s.rows
      = omega (arith, q.row, q.is_held, h.rows_are.count) in
      let f : row_of a s.rows ≡ some (get_or s.rows i no_row) = find-yes eqb (λ (x : AddressRow (Fixed 32)). x.address) a s.rows no_row lt
      ∙ ap (λ (k : ℕ). some (get_or s.rows k no_row)) (sym q.row) in
      let c : cached (engine b) (get_or s.rows i no_row).fingerprint s.used ≡ true
      = has-yes comparing.same (λ (u : BlockRow (Fixed 32)). u.fingerprint) (get_or s.rows i no_row).fingerprint s.used
      (omega (arith, q.place, q.is-cached, h.blocks-are.count)) in
      rw (f, c) refl

  pub hit-is : (lent : List ℕ) (y : Fixed b.size) (i j : ℕ) → HitAt b s a i j
      → leaves b lent (answer (engine b) hit (some (block_of (engine b) (get_or s.rows i no_row).fingerprint s.used s.flash)) 0
      (step (engine b) b.rows s (asks a (get_or s.rows i no_row).fingerprint
      (block_of (engine b) (get_or s.rows i no_row).fingerprint s.used s.flash) (get_or s.rows i no_row).dirty (get_or s.rows i no_row).seat)))
      ≡ leaves b lent (read_as (engine b) b.rows s a y (row_with_block (engine b) s a))
  unfolding read_as
  hit-is lent y i j q = rw (hit-row i j q) refl

  pub miss-is : (lent : List ℕ) → row_with_block (engine b) s a ≡ none
      → leaves b lent (read_as (engine b) b.rows s a (get_or s.disk a (engine b).blank) none)
      ≡ leaves b lent (serve (engine b) (numbers_of b) s (Call.read a))
  unfolding serve
  miss-is lent q = rw q refl

  -- what the two searches of a read say
  pub found-hit : (i j : ℕ) → i ≡ index_where (λ x. eqb a x.address) s.rows
      → j ≡ cond (ltb i b.held) (length s.free + index_where (λ u. comparing.same (get_or s.rows i no_row).fingerprint u.fingerprint) s.used)
      b.slots → j < b.slots → HitAt b s a i j
  found-hit i j ei ej l =
      by-test (ltb i b.held)
      (λ y. record { row = ei; is_held = ltb-true i b.held y; place = rw y at ej; is-cached = l })
      (λ y. absurd (let e : j ≡ b.slots = rw y at ej in omega (arith, e, l)))

  pub found-miss : (i j : ℕ) → i ≡ index_where (λ x. eqb a x.address) s.rows
      → j ≡ cond (ltb i b.held) (length s.free + index_where (λ u. comparing.same (get_or s.rows i no_row).fingerprint u.fingerprint) s.used)
      b.slots → b.slots ≤ j → row_with_block (engine b) s a ≡ none
  unfolding if_cached
  found-miss i j ei ej l =
      by-test (ltb i b.held)
      (λ y.
      let ih = ltb-true i b.held y in
      let lt : index_where (λ (x : AddressRow (Fixed 32)). eqb a x.address) s.rows < length s.rows = omega (arith, ei, ih, h.rows_are.count) in
      let e : j ≡ length s.free + index_where (λ (u : BlockRow (Fixed 32)). comparing.same (get_or s.rows i no_row).fingerprint u.fingerprint)
      s.used = rw y at ej in
      let f : row_of a s.rows ≡ some (get_or s.rows i no_row) = find-yes eqb (λ (x : AddressRow (Fixed 32)). x.address) a s.rows no_row lt
      ∙ ap (λ (k : ℕ). some (get_or s.rows k no_row)) (sym ei) in
      let c : cached (engine b) (get_or s.rows i no_row).fingerprint s.used ≡ false
      = has_no comparing.same (λ (u : BlockRow (Fixed 32)). u.fingerprint) (get_or s.rows i no_row).fingerprint s.used
      (omega (arith, e, l, h.blocks-are.count)) in
      rw (f, c) refl)
      (λ y.
      let ih = ltb-false i b.held y in
      let f : row_of a s.rows ≡ none = find-no eqb (λ (x : AddressRow (Fixed 32)). x.address) a s.rows (omega (arith, ei, ih, h.rows_are.count)) in
      rw f refl)
