-- A step of D-ARC and what a box shows: it promises what two boxes beside each other need.
use Rattle.std.specs.Prelude.{◌≡◌, Bool, true, ◌&&◌, ℕ, ◌≤◌, ◌<◌}
use Rattle.std.proofs.Math.Path.{refl, ap, subst}
use Rattle.std.proofs.Common.{◌∙◌}
use Rattle.std.proofs.Math.Bool.{false}
use mathlib.Core.List.Permᴰ
use mathlib.Core.List.{List, [], ◌∷◌, ◌++◌, map, Permᴰ}
use Rattle.std.proofs.Math.Logic.{inl, inr}
use Rattle.std.proofs.Math.Option.{none, some}
use Rattle.std.proofs.Math.Dec.{eqb}
use Rattle.tables.specs.Records.{slots_from}
use Rattle.paper.specs.Cache.{Hashing, Seat, Box, Stepped, Request, newest, without_address, cached, without_block, slot_of}
use Rattle.paper.specs.Cache.{block_of, is_lost, stored}
use Rattle.paper.specs.KeyedLaws.{by-test, clash, or_left, or-both, and_left, eqb→≡, all_append, all_without, has-without-other, find-some}
use Rattle.paper.proofs.SoundLaws.{unknown-slot, perm-take}
use Rattle.paper.proofs.Orphans.{cached-self}
use Rattle.paper.specs.Faithful.{any, dirty_at}
use Rattle.paper.proofs.FaithfulLaws.{at, dirty-without, CopyTrue, copied-good, all-without-strict, slot-taken}
use Rattle.arc.proofs.PlainRowsLaws.{row-clean}
use Rattle.arc.specs.Arc.{Sizes, base_numbers, Lists, Was, list_of, top_rows, row_out, block_newest, parted, joined, arc_step_as, arc_step, arc}
use Rattle.arc.specs.ArcMid.{OutlastsOut}
use Rattle.arc.proofs.ArcStore.{by-stored_in}
use Rattle.arc.specs.ArcStep.{ArcSound, OutlastsStore, OutlastsNewest}
use Rattle.arc.proofs.ArcStepLaws.{up_to, ready}
use Rattle.arc.proofs.ArcFair.{copied-absent}
use Rattle.limits.specs.Sees.{Everywhere, But}
use Rattle.limits.proofs.SeesLaws.{block-moved, block-own, own_block, Sees, SeesBut, ready-rows, sees-moved, sees-free, sees_row, other-rows}
use Rattle.limits.proofs.SeesLaws.{not-dirty, joins-current}
use Rattle.limits.proofs.BesideLaws.{Parallel}
use Rattle.blind.specs.ArcBlind.{arc-blind}

module _ {F X : Type 0} (H : Hashing F X) (Z : Sizes) (a : ℕ) (shown : List X) (v : X) (g : F) (b w : X) where
  -- between the first and the last part of a step: `shown` but at a, where the disk is as it was, and so is the block that g's row will have
  abbrev Seen : Box F X → Type 0
  Seen s = Sees H (But a) Z.P shown s × (at H s.disk a ≡ v) × (own_block H g b s.used s.flash ≡ w)

  seen-out : OutlastsOut H Z a (λ t. Seen t.box)
  unfolding row_out
  seen-out t x r so ab e nx h =
      let s = t.box in
      let f = h.0 in
      let CT = CopyTrue H any Z.P s.used s.flash shown in
      let y = find-some eqb (λ r. r.address) CT x s.rows r e f.blocks in
      let na : eqb a r.address ≡ false = rw (eqb→≡ x r.address y.1) at nx in (
        record {
          blocks = all_without eqb (λ r. r.address) CT x s.rows f.blocks;
          current = λ z nz dz. copied-good H any (r ∷ []) s.used s.flash s.disk shown Z.P z so.disk_length (y.0, tt)
              (by-test (eqb z r.address && (r.dirty && true))
              (λ q. inr (or_left (eqb z r.address && (r.dirty && true)) false q))
              (λ q. inl (f.current z nz (by-test (eqb x z)
              (λ k. subst (λ w. dirty_at any w s.rows ≡ false) (eqb→≡ x z k)
              (row-clean H x s.rows r so.addresses e (not-dirty H z r (subst (λ w. eqb w r.address ≡ true) (eqb→≡ x z k) y.1) q)))
              (λ k. dirty-without H x z s.rows k dz)))));
        },
        copied-absent H any a (r ∷ []) s.used s.flash s.disk (or-both (eqb a r.address) false na refl) ∙ h.1,
        h.2,
      )

  seen-newest : OutlastsNewest H Z a g (λ t. Seen t.box)
  unfolding block_newest
  seen-newest t m c h =
      let s = t.stepped.box in
      let so = m.sound in
      let used = s.used in
      let has = cached-self H g g (slot_of H g used) (without_block H g used) refl in
      let own : block_of H g used s.flash ≡ w = rw c at h.2 in (
        sees-moved H (But a) Z.P shown s g b (ready-rows H Z.P shown used s.flash g b s.rows h.0.blocks so.dirty_cached)
            h.0.current c,
        h.1,
        rw has (block-moved H g g used s.flash c ∙ own),
      )

  seen-store : OutlastsStore H Z a g b (λ t. Seen t.box)
  unfolding stored
  seen-store t m c row h =
      let s = t.stepped.box in
      let so = m.sound in
      let rows = s.rows in
      let used = s.used in
      let flash = s.flash in
      let n = t.stepped.primary_writes in
      let rd = ready-rows H Z.P shown used flash g b rows h.0.blocks so.dirty_cached in
      let own : b ≡ w = rw c at h.2 in
      by-stored_in H g b t (λ u. Seen u.stepped.box) row
      (λ k ks p.
      let sl = subst (λ l. Permᴰ (l ++ map (λ u. u.slot) used) (slots_from 0 Z.C)) p so.slots in
      let st = slot-taken Z.C k (ks ++ map (λ u. u.slot) used) sl in (
        sees-free H (But a) Z.P shown s g b rd h.0.current Z.C so.disk_length so.flash_length c n k ks sl,
        copied-absent H (is_lost H none) a rows used flash s.disk m.absent ∙ h.1,
        rw (cached-self H g g k used refl) (block-own H Z.C g k b used flash c st.1 so.flash_length ∙ own),
      ))
      (λ u p e.
      let f = u.fingerprint in
      let cs = unknown-slot H (top_rows t.kept rows) used u e in
      let sl = subst (λ l. Permᴰ (l ++ map (λ u. u.slot) used) (slots_from 0 Z.C)) p so.slots in
      let rest = without_block H f used in
      let st = slot-taken Z.C u.slot (map (λ u. u.slot) rest)
      (Permᴰ.trans (rw cs.0 at (Permᴰ.symm (perm-take H f used so.fingerprints cs.1))) sl) in
      let c' : cached H g rest ≡ false = by-test (cached H g rest)
      (λ y. clash (has-without-other H.same (λ u. u.fingerprint) H.same (λ u. u.fingerprint) g f used y) c) (λ y. y) in (
        sees_row H (But a) Z.P shown s g b rd h.0.current Z.C so.disk_length so.flash_length c n u cs so.fingerprints sl,
        copied-absent H (is_lost H (some f)) a rows used flash s.disk m.absent ∙ h.1,
        rw (cached-self H g g u.slot rest refl) (block-own H Z.C g u.slot b rest flash c' st.1 so.flash_length ∙ own),
      ))

  -- the row joins
  seen-joins : (s : Box F X) (dy : Bool) (z : Seat) → a < Z.P → cached H g s.used ≡ true → (dy ≡ true → w ≡ at H shown a) → (dy ≡ false → v ≡ at H shown a)
      → Seen s
      → Sees H Everywhere Z.P shown
      (record { rows = s.rows ++ (newest a g dy z ∷ []); free = s.free; used = s.used; flash = s.flash; disk = s.disk })
  seen-joins s dy z ap c ow cl h =
      let own : block_of H g s.used s.flash ≡ w = rw c at h.2 in
      record {
        blocks = all_append (CopyTrue H any Z.P s.used s.flash shown) s.rows (newest a g dy z ∷ []) h.0.blocks
            ((λ e. (own ∙ ow (and_left dy true e), ap)), tt);
        current = joins-current H shown a s.rows (newest a g dy z) s.disk refl h.0.current (λ e. h.1 ∙ cl e);
      }

module _ {F X : Type 0} (H : Hashing F X) (Z : Sizes) where
  seen-parted : (shown : List X) (l : Lists) (s : Box F X) (a : ℕ) (g : F) (b : X) (n : Was) → SeesBut H a Z.P shown s
      → Seen H Z a shown (at H s.disk a) g b (own_block H g b s.used s.flash) (parted H Z.C l s a n).stepped.box
  unfolding parted
  seen-parted shown l s a g b n f = (
    record {
      blocks = other-rows H a Z.P shown s (without_address a s.rows)
          (all-without-strict eqb (λ r. r.address) (λ r. But a r.address → CopyTrue H any Z.P s.used s.flash shown r) a s.rows f.blocks);
      current = λ x n dy. f.current x n (dirty-without H a x s.rows n dy);
    },
    refl,
    refl,
  )

  arc_sees : 1 ≤ Z.C → (shown : List X) (l : Lists) (s : Box F X) (q : Request F X) → ArcSound H Z l s → SeesBut H q.address Z.P shown s
      → q.address < Z.P
      → (q.dirty ≡ true → own_block H q.fingerprint q.block s.used s.flash ≡ at H shown q.address)
      → (q.dirty ≡ false → at H s.disk q.address ≡ at H shown q.address)
      → Sees H Everywhere Z.P shown (arc_step H Z l s q).stepped.box
  unfolding arc_step arc_step_as joined
  arc_sees c1 shown l s q h f ap ow cl =
      let a = q.address in
      let g = q.fingerprint in
      let b = q.block in
      let v = at H s.disk a in
      let w = own_block H g b s.used s.flash in
      let G : Stepped F X → Type 0 = λ t. Seen H Z a shown v g b w t.box in
      let o = seen-out H Z a shown v g b w in
      let st = seen-store H Z a shown v g b w in
      let nw = seen-newest H Z a shown v g b w in
      let r = ready H Z a g b G o st nw c1 l s h (λ n. seen-parted shown l s a g b n f) in
      seen-joins H Z a shown v g b w (up_to H Z a g b G o st nw c1 l s (list_of a l)).stepped.box q.dirty q.seat ap r.has ow cl r.good

  -- D-ARC promises what two boxes beside each other need
  pub arc-parallel : 1 ≤ Z.C → Parallel H (base_numbers Z) (arc H Z) (ArcSound H Z)
  arc-parallel c1 = record { blind = arc-blind false H Z; sees = arc_sees c1 }
