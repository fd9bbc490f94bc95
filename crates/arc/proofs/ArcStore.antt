-- The insertion of a block between the first and the last part of a step.
use Rattle.std.specs.Prelude.{◌≡◌, Bool, false, not, cond, ℕ, suc, ◌<◌, eqb}
use Rattle.std.proofs.Math.Path.{refl}
use Rattle.std.proofs.Common.{sym, ap, ◌∙◌, subst}
use Rattle.std.proofs.Math.Bool.{true}
use Rattle.std.proofs.lemmas.Bool.{false≢true, not-true}
use mathlib.Core.List.Permᴰ
use mathlib.Core.List.{List, [], ◌∷◌, ◌++◌, map, Permᴰ}
use Rattle.std.proofs.Math.Option.{none, some}
use Rattle.std.proofs.Math.ListN.{length-set}
use Rattle.tables.specs.Records.{slots_from}
use Rattle.paper.specs.Cache.{Hashing, AddressRow, BlockRow, Taken, block_row, known, cached, without_block, slot_of, cleaned, is_lost, taken_used, stored}
use Rattle.paper.specs.KeyedLaws.{by-test, by-option, clash, or_left, or_right, and_left, and_right, All, all_map, all_both, has-without-other}
use Rattle.paper.specs.KeyedLaws.{has-without-self, distinct_without, distinct_snoc}
use Rattle.paper.proofs.Cases.{taken_free, taken_row}
use Rattle.paper.proofs.Orphans.{apart, cached-in, cached-add, cached-self, oldest_unknown-some}
use Rattle.paper.specs.Sound.{DirtyCached}
use Rattle.paper.proofs.SoundLaws.{perm-take, unknown-slot, slots-newest, all-cleaned, held-cleaned, distinct-cleaned, length-cleaned, length-copied}
use Rattle.arc.specs.Policy.{Ran}
use Rattle.arc.specs.Arc.{Sizes, Lists, on_top, top_rows, victim_of, has_row, taken_by, stored_in, block_newest}
use Rattle.arc.specs.Tally.{tally}
use Rattle.arc.specs.ArcMid.{TopCached, Mid}

module _ {F X : Type 0} (H : Hashing F X) where
  abbrev pub put : Ran F X Lists → F → X → Taken F → Ran F X Lists
  put t g b v =
      record {
        kept = t.kept;
        stepped = stored H t.stepped.box.rows t.stepped.box.used t.stepped.box.flash t.stepped.box.disk g b t.stepped.primary_writes v;
      }

  pub by-stored_in : (g : F) (b : X) (t : Ran F X Lists) (Q : Ran F X Lists → Type 0) → has_row H t.kept t.stepped.box ≡ true
      → ((k : ℕ) (ks : List ℕ) → t.stepped.box.free ≡ k ∷ ks → Q (put t g b (taken_free H k ks t.stepped.box.used)))
      → ((u : BlockRow F) → t.stepped.box.free ≡ [] → victim_of H t.kept t.stepped.box ≡ some u → Q (put t g b (taken_row H u t.stepped.box.used)))
      → Q (stored_in H g b t)
  unfolding stored_in taken_by taken_used has_row
  by-stored_in g b t Q row free vict = go t.stepped.box.free refl
    where
      go : (l : List ℕ) → t.stepped.box.free ≡ l → Q (put t g b (taken_by H t.kept t.stepped.box l))
      go (k ∷ ks) p = free k ks p
      go [] p =
          by-option (victim_of H t.kept t.stepped.box)
          (λ e. absurd (false≢true (rw (p, e) at row)))
          (λ u e. rw e (vict u p e))

  pub tally-cleaned : (c : F → Bool) (x : ℕ) (rows : List (AddressRow F)) → tally (λ r. r.address) x (cleaned H c rows) ≡ tally (λ r. r.address) x rows
  tally-cleaned c x [] = refl
  tally-cleaned c x (r ∷ rs) = ap (λ n. cond (eqb x r.address) (suc n) n) (tally-cleaned c x rs)

  -- the rows of T1 and T2 have their fingerprints there
  top-known : (l : Lists) (rows : List (AddressRow F)) → All (λ r. on_top l r.address ≡ true → known H r.fingerprint (top_rows l rows) ≡ true) rows
  unfolding top_rows
  top-known l [] = tt
  top-known l (r ∷ rs) =
      by-test (on_top l r.address)
      (λ e. let is : top_rows l (r ∷ rs) ≡ r ∷ top_rows l rs = rw e refl in
      subst (λ (q : List (AddressRow F)). All (λ x. on_top l x.address ≡ true → known H x.fingerprint q ≡ true) (r ∷ rs)) (sym is) (
        (λ y. or_left (H.same r.fingerprint r.fingerprint) (known H r.fingerprint (top_rows l rs)) (H.same_refl r.fingerprint)),
        all_map (λ x. on_top l x.address ≡ true → known H x.fingerprint (top_rows l rs) ≡ true)
            (λ x. on_top l x.address ≡ true → known H x.fingerprint (r ∷ top_rows l rs) ≡ true)
            (λ x y z. or_right (H.same x.fingerprint r.fingerprint) (known H x.fingerprint (top_rows l rs)) (y z)) rs (top-known l rs),
      ))
      (λ e. let is : top_rows l (r ∷ rs) ≡ top_rows l rs = rw e refl in
      subst (λ (q : List (AddressRow F)). All (λ x. on_top l x.address ≡ true → known H x.fingerprint q ≡ true) (r ∷ rs)) (sym is)
      ((λ y. absurd (false≢true (sym e ∙ y))), top-known l rs))

module _ {F X : Type 0} (H : Hashing F X) (Z : Sizes) (a : ℕ) (g : F) (b : X) where
  pub record Stored (t u : Ran F X Lists) : Type 0 where
    pub mid : Mid H Z a u
    pub has : cached H g u.stepped.box.used ≡ true
    pub same : u.kept ≡ t.kept

  pub mid-stored : (t : Ran F X Lists) → Mid H Z a t → cached H g t.stepped.box.used ≡ false → has_row H t.kept t.stepped.box ≡ true
      → Stored t (stored_in H g b t)
  unfolding stored
  mid-stored t m c row =
      let s = t.stepped.box in
      let h = m.sound in
      let rows = s.rows in
      let used = s.used in
      by-stored_in H g b t (Stored t) row
      (λ k ks p. record {
        mid = record {
          sound = record {
            addresses = distinct-cleaned H (is_lost H none) rows h.addresses;
            below = all-cleaned H (is_lost H none) (λ r. r.address < Z.P) (λ r. r.address < Z.P) (λ r y. y) rows h.below;
            few = rw (length-cleaned H (is_lost H none) rows) h.few;
            fingerprints = distinct_snoc H.same (λ u. u.fingerprint) H.same→≡ H.same_refl (block_row g k) used h.fingerprints c;
            slots = Permᴰ.trans (slots-newest H ks used g k) (subst (λ l. Permᴰ (l ++ map (λ u. u.slot) used) (slots_from 0 Z.C)) p h.slots);
            dirty_cached = all-cleaned H (is_lost H none) (DirtyCached H used) (DirtyCached H (used ++ (block_row g k ∷ [])))
                (λ r y e. cached-add H r.fingerprint g k used (y (and_left r.dirty true e))) rows h.dirty_cached;
            flash_length = length-set s.flash k b ∙ h.flash_length;
            disk_length = length-copied H (is_lost H none) rows used s.flash s.disk ∙ h.disk_length;
          };
          absent = held-cleaned H (is_lost H none) a rows ∙ m.absent;
          names = λ x. tally-cleaned H (is_lost H none) x rows ∙ m.names x;
          counted = length-cleaned H (is_lost H none) rows ∙ m.counted;
          top = all-cleaned H (is_lost H none) (TopCached H t.kept used) (TopCached H t.kept (used ++ (block_row g k ∷ [])))
              (λ r y e. cached-add H r.fingerprint g k used (y e)) rows m.top;
          p_low = m.p_low;
        };
        has = cached-self H g g k used refl;
        same = refl;
      })
      (λ u p e.
      let v = u.fingerprint in
      let cs = unknown-slot H (top_rows t.kept rows) used u e in
      let un = oldest_unknown-some H (top_rows t.kept rows) used u e in
      record {
        mid = record {
          sound = record {
            addresses = distinct-cleaned H (is_lost H (some v)) rows h.addresses;
            below = all-cleaned H (is_lost H (some v)) (λ r. r.address < Z.P) (λ r. r.address < Z.P) (λ r y. y) rows h.below;
            few = rw (length-cleaned H (is_lost H (some v)) rows) h.few;
            fingerprints = distinct_snoc H.same (λ u. u.fingerprint) H.same→≡ H.same_refl (block_row g u.slot) (without_block H v used)
                (distinct_without H.same (λ u. u.fingerprint) v used h.fingerprints)
                (by-test (cached H g (without_block H v used)) (λ t. clash (has-without-other H.same (λ u. u.fingerprint) H.same
                (λ u. u.fingerprint) g v used t) c) (λ f. f));
            slots = Permᴰ.trans (slots-newest H [] (without_block H v used) g u.slot)
                (Permᴰ.trans (rw cs.0 at (Permᴰ.symm (perm-take H v used h.fingerprints cs.1)))
                (subst (λ l. Permᴰ (l ++ map (λ u. u.slot) used) (slots_from 0 Z.C)) p h.slots));
            dirty_cached = all-cleaned H (is_lost H (some v)) (DirtyCached H used) (DirtyCached H (without_block H v used ++ (block_row g u.slot ∷ [])))
                (λ r y e. cached-in H v r.fingerprint g u.slot used (y (and_left r.dirty (not (H.same v r.fingerprint)) e))
                (not-true (H.same v r.fingerprint) (and_right r.dirty (not (H.same v r.fingerprint)) e))) rows h.dirty_cached;
            flash_length = length-set s.flash u.slot b ∙ h.flash_length;
            disk_length = length-copied H (is_lost H (some v)) rows used s.flash s.disk ∙ h.disk_length;
          };
          absent = held-cleaned H (is_lost H (some v)) a rows ∙ m.absent;
          names = λ x. tally-cleaned H (is_lost H (some v)) x rows ∙ m.names x;
          counted = length-cleaned H (is_lost H (some v)) rows ∙ m.counted;
          top = all-cleaned H (is_lost H (some v)) (λ r. TopCached H t.kept used r ×
              (on_top t.kept r.address ≡ true → known H r.fingerprint (top_rows t.kept rows) ≡ true))
              (TopCached H t.kept (without_block H v used ++ (block_row g u.slot ∷ [])))
              (λ r y e. cached-in H v r.fingerprint g u.slot used (y.0 e) (apart H v r.fingerprint (top_rows t.kept rows) (y.1 e) un)) rows
              (all_both (TopCached H t.kept used) (λ r. on_top t.kept r.address ≡ true
              → known H r.fingerprint (top_rows t.kept rows) ≡ true) rows m.top (top-known H t.kept rows));
          p_low = m.p_low;
        };
        has = cached-self H g g u.slot (without_block H v used) refl;
        same = refl;
      })

  -- what is cached stays cached where g's row becomes newest
  cached-newest : (f : F) (used : List (BlockRow F)) → cached H f used ≡ true → cached H f (without_block H g used ++ (block_row g (slot_of H g used) ∷ [])) ≡ true
  cached-newest f used y =
      by-test (H.same g f)
      (λ t. cached-self H f g (slot_of H g used) (without_block H g used) (sym (H.same→≡ g f t)))
      (λ n. cached-in H g f g (slot_of H g used) used y n)

  pub mid-newest : (t : Ran F X Lists) → Mid H Z a t → cached H g t.stepped.box.used ≡ true → Stored t (block_newest H g t)
  unfolding block_newest
  mid-newest t m c =
      let s = t.stepped.box in
      let h = m.sound in
      let used = s.used in
      record {
        mid = record {
          sound = record {
            addresses = h.addresses;
            below = h.below;
            few = h.few;
            fingerprints = distinct_snoc H.same (λ u. u.fingerprint) H.same→≡ H.same_refl (block_row g (slot_of H g used)) (without_block H g used)
                (distinct_without H.same (λ u. u.fingerprint) g used h.fingerprints) (has-without-self H.same (λ u. u.fingerprint) g used);
            slots = Permᴰ.trans (slots-newest H s.free (without_block H g used) g (slot_of H g used))
                (Permᴰ.trans (Permᴰ.symm (Permᴰ.trans (Permᴰ.append_left s.free (perm-take H g used h.fingerprints c))
                (Permᴰ.middle (slot_of H g used) s.free (map (λ u. u.slot) (without_block H g used))))) h.slots);
            dirty_cached = all_map (DirtyCached H used) (DirtyCached H (without_block H g used ++ (block_row g (slot_of H g used) ∷ [])))
                (λ r y e. cached-newest r.fingerprint used (y e)) s.rows h.dirty_cached;
            flash_length = h.flash_length;
            disk_length = h.disk_length;
          };
          absent = m.absent;
          names = m.names;
          counted = m.counted;
          top = all_map (TopCached H t.kept used) (TopCached H t.kept (without_block H g used ++ (block_row g (slot_of H g used) ∷ [])))
              (λ r y e. cached-newest r.fingerprint used (y e)) s.rows m.top;
          p_low = m.p_low;
        };
        has = cached-self H g g (slot_of H g used) (without_block H g used) refl;
        same = refl;
      }
