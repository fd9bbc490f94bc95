-- The parts of a D-ARC step and the plain disk, where no two different blocks of a set share a fingerprint.
use Rattle.std.specs.Prelude.{◌≡◌, refl, Bool, ◌&&◌, cond, ◌≢◌, ℕ, ◌<◌, set}
use Rattle.std.proofs.Common.{◌∙◌, true≢false}
use Rattle.std.proofs.Math.Path.{subst}
use Rattle.std.proofs.Math.Bool.{true, false}
use mathlib.Core.List.Permᴰ
use mathlib.Core.List.{List, [], ◌∷◌, ◌++◌, map, Permᴰ}
use Rattle.std.proofs.Math.Logic.{inl, inr}
use Rattle.std.proofs.Math.Option.{none, some}
use Rattle.std.proofs.Math.Dec.{eqb}
use Rattle.tables.specs.Records.{slots_from}
use Rattle.paper.specs.Cache.{Hashing, Seat, AddressRow, BlockRow, Box, newest, block_row, held, without_block, slot_of, block_of, copied, is_lost, stored}
use Rattle.paper.specs.KeyedLaws.{by-test, either, clash, or_left, or-both, or-false-left, or-false-right, and_left, and_right, eqb→≡, eqb-self, All}
use Rattle.paper.specs.KeyedLaws.{all_right, all_of_map, all_append, all_map, all_without, all_both, find-some}
use Rattle.paper.specs.Sound.{DirtyCached}
use Rattle.paper.proofs.SoundLaws.{perm-take, unknown-slot, all-cleaned}
use Rattle.paper.specs.Faithful.{any, dirty_at}
use Rattle.paper.proofs.FaithfulLaws.{at, at_set_other, dirty-without, dirty-split, copied-good, CopyTrue, all-absent, slot-taken, slot-true}
use Rattle.paper.proofs.FaithfulLaws.{row_block, RowTrue, BlockTrue, Faithful, FaithfulBut}
use Rattle.arc.specs.PlainRows.{Only}
use Rattle.arc.proofs.PlainRowsLaws.{and-false-cases, dirty-snoc, row-clean, stored-true}
use Rattle.arc.specs.Arc.{Sizes, top_rows, row_out, block_newest}
use Rattle.arc.specs.ArcMid.{OutlastsOut}
use Rattle.arc.proofs.ArcStore.{by-stored_in}
use Rattle.arc.specs.ArcStep.{OutlastsStore, OutlastsNewest}

module _ {F X : Type 0} (H : Hashing F X) where
  -- what is copied for rows that don't have a's address isn't copied there
  pub copied-absent : (c : F → Bool) (a : ℕ) (rows : List (AddressRow F)) (used : List (BlockRow F)) (flash disk : List X) → held a rows ≡ false
      → at H (copied H c rows used flash disk) a ≡ at H disk a
  copied-absent c a [] used flash disk h = refl
  copied-absent c a (r ∷ rs) used flash disk h =
      let n = or-false-left (eqb a r.address) (held a rs) h in
      let b = block_of H r.fingerprint used flash in
      copied-absent c a rs used flash (cond (r.dirty && c r.fingerprint) (set disk r.address b) disk) (or-false-right (eqb a r.address) (held a rs) h)
      ∙ by-test (r.dirty && c r.fingerprint) (λ e. rw e (at_set_other H disk r.address a b n)) (λ e. rw e refl)

-- faithful but at a, where the disk is as it was
abbrev pub Fair : {F X : Type 0} (H : Hashing F X) (In : X → Type 0) (a P : ℕ) (plain : List X) (v : X) → Box F X → Type 0
Fair H In a P plain v s = FaithfulBut H In a P plain s × (at H s.disk a ≡ v)

module _ {F X : Type 0} (H : Hashing F X) (In : X → Type 0) (only : Only H In) (Z : Sizes) (a : ℕ) (plain : List X) (v : X) where
  rows_true_lem : (rows : List (AddressRow F)) → held a rows ≡ false → All (λ r. eqb a r.address ≡ false → RowTrue H In plain r) rows
      → All (RowTrue H In plain) rows
  rows_true_lem rows n t =
      all_map (λ r. (eqb a r.address ≡ false → RowTrue H In plain r) × (eqb a r.address ≡ false)) (RowTrue H In plain) (λ r y. y.0 y.1) rows
      (all_both (λ r. eqb a r.address ≡ false → RowTrue H In plain r) (λ r. eqb a r.address ≡ false) rows t (all-absent eqb (λ r. r.address) a rows n))

  not-dirty : (x : ℕ) (r : AddressRow F) → eqb x r.address ≡ true → (eqb x r.address && (r.dirty && true)) ≡ false → r.dirty ≡ false
  not-dirty x r y n =
      either (and-false-cases (eqb x r.address) (r.dirty && true) n)
      (λ z. clash y z)
      (λ z. either (and-false-cases r.dirty true z) (λ k. k) (λ k. absurd (true≢false k)))

  pub fair-out : OutlastsOut H Z a (λ t. Fair H In a Z.P plain v t.box)
  unfolding row_out
  fair-out t x r so ab e nx h =
      let s = t.box in
      let f = h.0 in
      let rt = rows_true_lem s.rows ab f.rows_true in
      let y = find-some eqb (λ r. r.address) (λ r. (RowTrue H In plain r × (r.address < Z.P)) × DirtyCached H s.used r) x s.rows r e
      (all_both (λ r. RowTrue H In plain r × (r.address < Z.P)) (DirtyCached H s.used) s.rows
      (all_both (RowTrue H In plain) (λ r. r.address < Z.P) s.rows rt so.below) so.dirty_cached) in
      let xr : x ≡ r.address = eqb→≡ x r.address y.1 in
      let na : eqb a r.address ≡ false = rw xr at nx in (
        record {
          rows_true = all_without eqb (λ r. r.address) (λ r. eqb a r.address ≡ false → RowTrue H In plain r) x s.rows f.rows_true;
          blocks_true = f.blocks_true;
          plain_in = f.plain_in;
          plain_length = f.plain_length;
          current = λ z nz dz. copied-good H any (r ∷ []) s.used s.flash s.disk plain Z.P z so.disk_length (
            (λ d. (
              row_block H In only Z.P plain s.used s.flash r f.plain_in f.plain_length y.0.0.1 f.blocks_true y.0.0.0
                  (y.0.1 (and_left r.dirty true d)),
              y.0.0.1,
            )),
            tt,
          )
              (by-test (eqb z r.address && (r.dirty && true))
              (λ q. inr (or_left (eqb z r.address && (r.dirty && true)) false q))
              (λ q. inl (f.current z nz (by-test (eqb x z)
              (λ k. subst (λ w. dirty_at any w s.rows ≡ false) (eqb→≡ x z k)
              (row-clean H x s.rows r so.addresses e (not-dirty z r (subst (λ w. eqb w r.address ≡ true) (eqb→≡ x z k) y.1) q)))
              (λ k. dirty-without H x z s.rows k dz)))));
        },
        copied-absent H any a (r ∷ []) s.used s.flash s.disk (or-both (eqb a r.address) false na refl) ∙ h.1,
      )

  pub fair-newest : (g : F) → OutlastsNewest H Z a g (λ t. Fair H In a Z.P plain v t.box)
  unfolding block_newest
  fair-newest g t m c h =
      let s = t.stepped.box in
      let f = h.0 in
      let used = s.used in (
        record {
          rows_true = f.rows_true;
          blocks_true = all_append (BlockTrue H In s.flash) (without_block H g used) (block_row g (slot_of H g used) ∷ [])
              (all_without H.same (λ u. u.fingerprint) (BlockTrue H In s.flash) g used f.blocks_true)
              (slot-true H In g used s.flash f.blocks_true c, tt);
          plain_in = f.plain_in;
          plain_length = f.plain_length;
          current = f.current;
        },
        h.1,
      )

  pub fair-store : (g : F) (b : X) → g ≡ H.hash b → In b → OutlastsStore H Z a g b (λ t. Fair H In a Z.P plain v t.box)
  unfolding stored
  fair-store g b ge bi t m c row h =
      let s = t.stepped.box in
      let so = m.sound in
      let f = h.0 in
      let rows = s.rows in
      let used = s.used in
      let rt = rows_true_lem rows m.absent f.rows_true in
      by-stored_in H g b t (λ u. Fair H In a Z.P plain v u.stepped.box) row
      (λ k ks p.
      let st = slot-taken Z.C k (ks ++ map (λ u. u.slot) used)
      (subst (λ l. Permᴰ (l ++ map (λ u. u.slot) used) (slots_from 0 Z.C)) p so.slots) in (
        record {
          rows_true = all-cleaned H (is_lost H none) (λ r. eqb a r.address ≡ false → RowTrue H In plain r)
              (λ r. eqb a r.address ≡ false → RowTrue H In plain r) (λ r y. y) rows f.rows_true;
          blocks_true = stored-true H In Z.C k used s.flash g b f.blocks_true
              (all_of_map (λ u. u.slot) (λ j. j ≢ k) used (all_right (λ j. j ≢ k) ks (map (λ u. u.slot) used) st.0)) st.1 so.flash_length ge bi;
          plain_in = f.plain_in;
          plain_length = f.plain_length;
          current = λ x nx dy. copied-good H (is_lost H none) rows used s.flash s.disk plain Z.P x so.disk_length
              (all_map (RowTrue H In plain) (CopyTrue H (is_lost H none) Z.P used s.flash plain)
              (λ r y e. clash (and_right r.dirty false e) refl) rows rt)
              (either (dirty-split H (is_lost H none) x rows dy) (λ n. inl (f.current x nx n)) (λ n. inr n));
        },
        copied-absent H (is_lost H none) a rows used s.flash s.disk m.absent ∙ h.1,
      ))
      (λ u p e.
      let w = u.fingerprint in
      let cs = unknown-slot H (top_rows t.kept rows) used u e in
      let sl' : Permᴰ (map (λ u. u.slot) used) (slots_from 0 Z.C)
      = subst (λ l. Permᴰ (l ++ map (λ u. u.slot) used) (slots_from 0 Z.C)) p so.slots in
      let st = slot-taken Z.C u.slot (map (λ u. u.slot) (without_block H w used))
      (Permᴰ.trans (rw cs.0 at (Permᴰ.symm (perm-take H w used so.fingerprints cs.1))) sl') in (
        record {
          rows_true = all-cleaned H (is_lost H (some w)) (λ r. eqb a r.address ≡ false → RowTrue H In plain r)
              (λ r. eqb a r.address ≡ false → RowTrue H In plain r) (λ r y. y) rows f.rows_true;
          blocks_true = stored-true H In Z.C u.slot (without_block H w used) s.flash g b
              (all_without H.same (λ u. u.fingerprint) (BlockTrue H In s.flash) w used f.blocks_true)
              (all_of_map (λ u. u.slot) (λ j. j ≢ u.slot) (without_block H w used) st.0) st.1 so.flash_length ge bi;
          plain_in = f.plain_in;
          plain_length = f.plain_length;
          current = λ x nx dy. copied-good H (is_lost H (some w)) rows used s.flash s.disk plain Z.P x so.disk_length
              (all_map (λ r. RowTrue H In plain r × (r.address < Z.P)) (CopyTrue H (is_lost H (some w)) Z.P used s.flash plain)
              (λ r y e. (
                row_block H In only Z.P plain used s.flash r f.plain_in f.plain_length y.1 f.blocks_true y.0
                    (rw (H.same→≡ w r.fingerprint (and_right r.dirty (H.same w r.fingerprint) e)) at cs.1),
                y.1,
              ))
              rows (all_both (RowTrue H In plain) (λ r. r.address < Z.P) rows rt so.below))
              (either (dirty-split H (is_lost H (some w)) x rows dy) (λ n. inl (f.current x nx n)) (λ n. inr n));
        },
        copied-absent H (is_lost H (some w)) a rows used s.flash s.disk m.absent ∙ h.1,
      ))

  -- the row joins, and the box is faithful
  pub fair-joins : (s : Box F X) (g : F) (dy : Bool) (z : Seat) → held a s.rows ≡ false → g ≡ H.hash (at H plain a) → (dy ≡ false → v ≡ at H plain a)
      → Fair H In a Z.P plain v s
      → Faithful H In Z.P plain (record { rows = s.rows ++ (newest a g dy z ∷ []); free = s.free; used = s.used; flash = s.flash; disk = s.disk })
  fair-joins s g dy z ab ge cl h =
      let f = h.0 in
      record {
        rows_true = all_append (RowTrue H In plain) s.rows (newest a g dy z ∷ []) (rows_true_lem s.rows ab f.rows_true) (ge, tt);
        blocks_true = f.blocks_true;
        plain_in = f.plain_in;
        plain_length = f.plain_length;
        current = λ x d. let n = dirty-snoc H x s.rows (newest a g dy z) d in
            by-test (eqb a x)
            (λ y. let e = eqb→≡ a x y in
            subst (λ y. at H s.disk y ≡ at H plain y) e
            (h.1 ∙ cl (not-dirty x (newest a g dy z) (rw e (eqb-self x)) n.1)))
            (λ y. f.current x y n.0);
      }
