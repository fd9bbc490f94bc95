-- What a box shows at each address, with no premise on fingerprints: the disk's block, or where a row is dirty the cached block of its fingerprint.
-- A list of blocks `shown` is what it shows; a step of D-LRU leaves a box that shows it, where its request says so of its own address.
use Rattle.std.specs.Prelude.{◌≡◌, ◌&&◌, cond, ◌⊎◌, ◌≢◌, ℕ, ◌≤◌, ◌<◌, eqb, length, set, take}
use Rattle.std.proofs.Math.Path.{refl, ap}
use Rattle.std.proofs.Common.{sym, ◌∙◌, subst, true≢false, get_or-set_other}
use Rattle.std.proofs.Math.Bool.{true, false, not}
use Rattle.std.proofs.lemmas.Bool.{false≢true}
use mathlib.Core.List.Permᴰ
use mathlib.Core.List.{List, [], ◌∷◌, ◌++◌, map, Permᴰ}
use Rattle.std.proofs.Math.Logic.{inl, inr}
use Rattle.std.proofs.Math.Option.{Option, none, some}
use borrow.Author.Tests.{not-true}
use Rattle.tables.specs.Records.{slots_from}
use Rattle.paper.specs.Cache.{Numbers, Hashing, AddressRow, BlockRow, Box, RowOut, BlockRows, Request, newest, block_row, without_address, known, cached}
use Rattle.paper.specs.Cache.{without_block, slot_of, block_of, is_lost, clean_to, step, step1, step3, freed, stored}
use Rattle.paper.specs.KeyedLaws.{by-test, either, clash, and_left, and_right, or_left, or-both, eqb→≡, eqb-self, All, Distinct, all_append, all_map, all_both}
use Rattle.paper.specs.KeyedLaws.{all_of_map, all_right, same-sym-false, has-without, has-without-self, has-snoc-self}
use Rattle.paper.proofs.Cases.{taken_free, taken_row, by-step1, by-step3, by-step4}
use Rattle.paper.specs.Sound.{Sound, DirtyCached}
use Rattle.paper.proofs.SoundLaws.{perm-take, chosen-slot, all-cleaned, all_known, sound-step1, sound-step3, some-slot}
use Rattle.paper.proofs.Orphans.{apart}
use Rattle.paper.specs.Faithful.{any, dirty_at}
use Rattle.paper.proofs.FaithfulLaws.{at, at_set_same, at_set_other, CopyTrue, copied-good, dirty-split, dirty-without, slot-taken, all-absent}
use Rattle.paper.proofs.FaithfulLaws.{all-without-strict}
use Rattle.paper.proofs.PartlyLaws.{all-partly, all_take}
use Rattle.paper.proofs.PlainDiskLaws.{dirty-behind}
use Rattle.arc.proofs.PlainRowsLaws.{and-false-cases, dirty-snoc}
use Rattle.limits.specs.Sees.{But, Everywhere}

module _ {F X : Type 0} (H : Hashing F X) where
  -- slots of cached fingerprints where another row leaves, or one joins
  pub slot-without : (v f : F) (used : List (BlockRow F)) → H.same v f ≡ false → slot_of H f (without_block H v used) ≡ slot_of H f used
  slot-without v f [] n = refl
  slot-without v f (u ∷ us) n =
      by-test (H.same v u.fingerprint)
      (λ e.
      let m : H.same f u.fingerprint ≡ false
      = rw (H.same→≡ v u.fingerprint e) at (same-sym-false H.same (λ (x : BlockRow F). x.fingerprint) H.same→≡ H.same_refl v f n) in
      rw (e, m) (slot-without v f us n))
      (λ e. rw e (ap (λ k. cond (H.same f u.fingerprint) u.slot k) (slot-without v f us n)))

  slot_added : (f : F) (used : List (BlockRow F)) (r : BlockRow F) → cached H f used ≡ true → slot_of H f (used ++ (r ∷ [])) ≡ slot_of H f used
  slot_added f [] r = λ h. absurd (false≢true h)
  slot_added f (u ∷ us) r = by-test (H.same f u.fingerprint) (λ e. rw e (λ h. refl)) (λ e. rw e (λ h. slot_added f us r h))

  slot-own : (g : F) (k : ℕ) (used : List (BlockRow F)) → cached H g used ≡ false → slot_of H g (used ++ (block_row g k ∷ [])) ≡ k
  slot-own g k [] = λ h. rw (H.same_refl g) refl
  slot-own g k (u ∷ us) = by-test (H.same g u.fingerprint) (λ e. rw e (λ h. absurd (true≢false h))) (λ e. rw e (λ h. slot-own g k us h))

  slot_apart : (f : F) (k : ℕ) (used : List (BlockRow F)) → All (λ u. u.slot ≢ k) used → cached H f used ≡ true → slot_of H f used ≢ k
  slot_apart f k [] = λ p h. absurd (false≢true h)
  slot_apart f k (u ∷ us) = by-test (H.same f u.fingerprint) (λ e. rw e (λ p h. p.0)) (λ e. rw e (λ p h. slot_apart f k us p.1 h))

  -- the block of a cached fingerprint, where g's row becomes newest, and where b goes to slot k with g
  pub block-moved : (f g : F) (used : List (BlockRow F)) (flash : List X) → cached H f used ≡ true
      → block_of H f (without_block H g used ++ (block_row g (slot_of H g used) ∷ [])) flash ≡ block_of H f used flash
  block-moved f g used flash c =
      by-test (H.same g f)
      (λ e. rw (← H.same→≡ g f e) (ap (at H flash) (slot-own g (slot_of H g used) (without_block H g used)
      (has-without-self H.same (λ u. u.fingerprint) g used))))
      (λ e. ap (at H flash) (slot_added f (without_block H g used) (block_row g (slot_of H g used))
      (has-without H.same (λ u. u.fingerprint) H.same→≡ H.same_refl f g used e ∙ c) ∙ slot-without g f used e))

  block-stored : (f g : F) (k : ℕ) (b : X) (used : List (BlockRow F)) (flash : List X) → cached H f used ≡ true
      → All (λ u. u.slot ≢ k) used → block_of H f (used ++ (block_row g k ∷ [])) (set flash k b) ≡ block_of H f used flash
  block-stored f g k b used flash c n =
      ap (at H (set flash k b)) (slot_added f used (block_row g k) c) ∙ get_or-set_other flash k (slot_of H f used) b H.blank (slot_apart f k used n c)

  pub block-own : (d : ℕ) (g : F) (k : ℕ) (b : X) (used : List (BlockRow F)) (flash : List X) → cached H g used ≡ false → k < d → length flash ≡ d
      → block_of H g (used ++ (block_row g k ∷ [])) (set flash k b) ≡ b
  block-own d g k b used flash c l e = ap (at H (set flash k b)) (slot-own g k used c) ∙ at_set_same H flash k b (subst (λ x. k < x) (sym e) l)

  -- step 3 keeps the block of a row's fingerprint
  step3-keeps : (gone : Option F) (others rows : List (AddressRow F)) (b : BlockRows F) (flash : List X) (f : F) → known H f rows ≡ true
      → let t = step3 H gone others rows b in (cached H f t.used ≡ cached H f b.used) × (block_of H f t.used flash ≡ block_of H f b.used flash)
  unfolding freed
  step3-keeps gone others rows b flash f k =
      by-step3 H gone others rows b (λ t. (cached H f t.used ≡ cached H f b.used) × (block_of H f t.used flash ≡ block_of H f b.used flash))
      (λ q p c n u. let y = apart H q f rows k n in
      (has-without H.same (λ u. u.fingerprint) H.same→≡ H.same_refl f q b.used y, ap (at H flash) (slot-without q f b.used y)))
      (λ q p w. (refl, refl)) (λ p. (refl, refl))

  -- the block of g after a step with block b
  abbrev pub own_block : F → X → List (BlockRow F) → List X → X
  own_block g b used flash = cond (cached H g used) (block_of H g used flash) b

  -- a box shows the blocks `shown`, of the disk at the addresses of `Q`
  pub record Sees (Q : ℕ → Type 0) (P : ℕ) (shown : List X) (s : Box F X) : Type 0 where
    pub blocks : All (CopyTrue H any P s.used s.flash shown) s.rows
    pub current : (x : ℕ) → Q x → dirty_at any x s.rows ≡ false → at H s.disk x ≡ at H shown x

  -- nothing is said of address a, nor of its row
  pub record SeesBut (a P : ℕ) (shown : List X) (s : Box F X) : Type 0 where
    pub blocks : All (λ r. But a r.address → CopyTrue H any P s.used s.flash shown r) s.rows
    pub current : (x : ℕ) → But a x → dirty_at any x s.rows ≡ false → at H s.disk x ≡ at H shown x

  -- a row before its block is stored: clean, or its block cached, or it is to have the block of g
  abbrev pub Ready : ℕ → List X → List (BlockRow F) → List X → F → X → AddressRow F → Type 0
  Ready P shown used flash g b r =
      r.dirty ≡ true → (r.address < P)
      × (((cached H r.fingerprint used ≡ true) × (block_of H r.fingerprint used flash ≡ at H shown r.address))
      ⊎ ((r.fingerprint ≡ g) × (own_block g b used flash ≡ at H shown r.address)))

  -- rows whose blocks are shown are ready, dirty ones being cached
  pub ready-rows : (P : ℕ) (shown : List X) (used : List (BlockRow F)) (flash : List X) (g : F) (b : X) (rows : List (AddressRow F))
      → All (CopyTrue H any P used flash shown) rows → All (DirtyCached H used) rows → All (Ready P shown used flash g b) rows
  ready-rows P shown used flash g b rows t c =
      all_map (λ r. CopyTrue H any P used flash shown r × DirtyCached H used r) (Ready P shown used flash g b)
      (λ r y e. let k = y.0 (rw e refl) in (k.1, inl (y.1 e, k.0))) rows
      (all_both (CopyTrue H any P used flash shown) (DirtyCached H used) rows t c)

  -- g's row becomes newest, or b is stored with g: in a free slot, or in that of a row which is lost
  module _ (Q : ℕ → Type 0) (P : ℕ) (shown : List X) (s : Box F X) (g : F) (b : X) (rd : All (Ready P shown s.used s.flash g b) s.rows)
      (cu : (x : ℕ) → Q x → dirty_at any x s.rows ≡ false → at H s.disk x ≡ at H shown x) where
    pub sees-moved : cached H g s.used ≡ true
        → Sees Q P shown (record {
          rows = s.rows;
          free = s.free;
          used = without_block H g s.used ++ (block_row g (slot_of H g s.used) ∷ []);
          flash = s.flash;
          disk = s.disk;
        })
    sees-moved c =
        let used = s.used in
        let flash = s.flash in
        record {
          blocks = all_map (Ready P shown used flash g b) (CopyTrue H any P (without_block H g used ++ (block_row g (slot_of H g used) ∷ [])) flash shown)
              (λ r y e. let z = y (and_left r.dirty true e) in (
                either z.1
                    (λ k. block-moved r.fingerprint g used flash k.0 ∙ k.1)
                    (λ k. let cf : cached H r.fingerprint used ≡ true = rw k.0 c in
                    block-moved r.fingerprint g used flash cf ∙ ap (λ f. block_of H f used flash) k.0 ∙ rw c at k.1),
                z.0,
              ))
              s.rows rd;
          current = cu;
        }

    module _ (d : ℕ) (dl : length s.disk ≡ P) (fl : length s.flash ≡ d) (c : cached H g s.used ≡ false) where
      pub sees-free : (w k : ℕ) (ks : List ℕ) → Permᴰ (k ∷ (ks ++ map (λ u. u.slot) s.used)) (slots_from 0 d)
          → Sees Q P shown (stored H s.rows s.used s.flash s.disk g b w (taken_free H k ks s.used)).box
      unfolding stored
      sees-free w k ks p =
          let rows = s.rows in
          let used = s.used in
          let flash = s.flash in
          let st = slot-taken d k (ks ++ map (λ u. u.slot) used) p in
          let n = all_of_map (λ u. u.slot) (λ j. j ≢ k) used (all_right (λ j. j ≢ k) ks (map (λ u. u.slot) used) st.0) in
          record {
            blocks = all-cleaned H (is_lost H none) (Ready P shown used flash g b) (CopyTrue H any P (used ++ (block_row g k ∷ [])) (set flash k b) shown)
                (λ r y e. let z = y (and_left r.dirty true (and_left (r.dirty && true) true e)) in (
                  either z.1
                      (λ j. block-stored r.fingerprint g k b used flash j.0 n ∙ j.1)
                      (λ j. ap (λ f. block_of H f (used ++ (block_row g k ∷ [])) (set flash k b)) j.0
                      ∙ block-own d g k b used flash c st.1 fl ∙ rw c at j.1),
                  z.0,
                ))
                rows rd;
            current = λ x q dy. copied-good H (is_lost H none) rows used flash s.disk shown P x dl
                (all_map (Ready P shown used flash g b) (CopyTrue H (is_lost H none) P used flash shown)
                (λ r y e. clash (and_right r.dirty false e) refl) rows rd)
                (either (dirty-split H (is_lost H none) x rows dy) (λ n. inl (cu x q n)) (λ n. inr n));
          }

      pub sees_row : (w : ℕ) (u : BlockRow F) → (slot_of H u.fingerprint s.used ≡ u.slot) × (cached H u.fingerprint s.used ≡ true)
          → Distinct H.same (λ u. u.fingerprint) s.used → Permᴰ (map (λ u. u.slot) s.used) (slots_from 0 d)
          → Sees Q P shown (stored H s.rows s.used s.flash s.disk g b w (taken_row H u s.used)).box
      unfolding stored
      sees_row w u cs df sl =
          let rows = s.rows in
          let used = s.used in
          let flash = s.flash in
          let v = u.fingerprint in
          let rest = without_block H v used in
          let st = slot-taken d u.slot (map (λ u. u.slot) rest) (Permᴰ.trans (rw cs.0 at (Permᴰ.symm (perm-take H v used df cs.1))) sl) in
          let n = all_of_map (λ u. u.slot) (λ j. j ≢ u.slot) rest st.0 in
          let not_g : H.same v g ≡ false = by-test (H.same v g) (λ e. clash (rw (H.same→≡ v g e) at cs.1) c) (λ e. e) in
          let others : (f : F) → H.same v f ≡ false → cached H f rest ≡ cached H f used
          = λ f e. has-without H.same (λ u. u.fingerprint) H.same→≡ H.same_refl f v used e in
          record {
            blocks = all-cleaned H (is_lost H (some v)) (Ready P shown used flash g b)
                (CopyTrue H any P (rest ++ (block_row g u.slot ∷ [])) (set flash u.slot b) shown)
                (λ r y e.
                let e' = and_left (r.dirty && not (H.same v r.fingerprint)) true e in
                let z = y (and_left r.dirty (not (H.same v r.fingerprint)) e') in
                let nv : H.same v r.fingerprint ≡ false
                = not-true (H.same v r.fingerprint) (and_right r.dirty (not (H.same v r.fingerprint)) e') in (
                  either z.1
                      (λ j. block-stored r.fingerprint g u.slot b rest flash (others r.fingerprint nv ∙ j.0) n
                      ∙ ap (at H flash) (slot-without v r.fingerprint used nv) ∙ j.1)
                      (λ j. ap (λ f. block_of H f (rest ++ (block_row g u.slot ∷ [])) (set flash u.slot b)) j.0
                      ∙ block-own d g u.slot b rest flash (others g not_g ∙ c) st.1 fl ∙ rw c at j.1),
                  z.0,
                ))
                rows rd;
            current = λ x q dy. copied-good H (is_lost H (some v)) rows used flash s.disk shown P x dl
                (all_map (Ready P shown used flash g b) (CopyTrue H (is_lost H (some v)) P used flash shown)
                (λ r y e. let z = y (and_left r.dirty (H.same v r.fingerprint) e) in (
                  either z.1 (λ j. j.1) (λ j. clash (rw j.0 at (and_right r.dirty (H.same v r.fingerprint) e)) not_g),
                  z.0,
                ))
                rows rd)
                (either (dirty-split H (is_lost H (some v)) x rows dy) (λ n. inl (cu x q n)) (λ n. inr n));
          }

  -- ---- D-LRU's step

  record SeesOut (a P : ℕ) (shown : List X) (s : Box F X) (o : RowOut F X) : Type 0 where
    pub blocks : All (CopyTrue H any P s.used s.flash shown) o.rows
    pub current : (x : ℕ) → But a x → dirty_at any x o.rows ≡ false → at H o.disk x ≡ at H shown x
    pub here : at H o.disk a ≡ at H s.disk a

  -- rows of other addresses than a
  pub other-rows : (a P : ℕ) (shown : List X) (s : Box F X) (rows : List (AddressRow F))
      → All (λ r. (But a r.address → CopyTrue H any P s.used s.flash shown r) × But a r.address) rows
      → All (CopyTrue H any P s.used s.flash shown) rows
  other-rows a P shown s rows h =
      all_map (λ r. (But a r.address → CopyTrue H any P s.used s.flash shown r) × But a r.address) (CopyTrue H any P s.used s.flash shown)
      (λ r y. y.0 y.1) rows h

  sees-step1 : (N : Numbers) (shown : List X) (s : Box F X) (a : ℕ) → Sound H N s → SeesBut a N.P shown s
      → SeesOut a N.P shown s (step1 H N.m s a)
  sees-step1 N shown s a h f =
      let RowBut : AddressRow F → Type 0 = λ r. But a r.address → CopyTrue H any N.P s.used s.flash shown r in
      by-step1 H N.m s a (SeesOut a N.P shown s)
      (λ e. record {
        blocks = other-rows a N.P shown s (without_address a s.rows) (all-without-strict eqb (λ r. r.address) RowBut a s.rows f.blocks);
        current = λ x n dy. f.current x n (dirty-without H a x s.rows n dy);
        here = refl;
      })
      (λ e r rs p n.
      let absent : All (λ r. But a r.address) (r ∷ rs) = all-absent eqb (λ r. r.address) a (r ∷ rs) (rw p at e) in
      let rt : All RowBut (r ∷ rs) = rw p at f.blocks in
      record {
        blocks = other-rows a N.P shown s rs (all_both RowBut (λ r. But a r.address) rs rt.1 absent.1);
        current = λ x nx dy. copied-good H any (r ∷ []) s.used s.flash s.disk shown N.P x h.disk_length (rt.0 absent.0, tt)
            (by-test (eqb x r.address && (r.dirty && true))
            (λ y. inr (or_left (eqb x r.address && (r.dirty && true)) false y))
            (λ y. inl (f.current x nx (rw p (or-both (eqb x r.address && (r.dirty && true)) (dirty_at any x rs) y dy)))));
        here = by-test (r.dirty && true)
            (λ y. rw y (at_set_other H s.disk r.address a (block_of H r.fingerprint s.used s.flash) absent.0))
            (λ y. rw y refl);
      })
      (λ e p. record {
        blocks = other-rows a N.P shown s s.rows
            (all_both RowBut (λ r. But a r.address) s.rows f.blocks (all-absent eqb (λ r. r.address) a s.rows e));
        current = f.current;
        here = refl;
      })

  -- a row of x that isn't dirty there is clean
  pub not-dirty : (x : ℕ) (r : AddressRow F) → eqb x r.address ≡ true → (eqb x r.address && (r.dirty && true)) ≡ false → r.dirty ≡ false
  not-dirty x r y n =
      either (and-false-cases (eqb x r.address) (r.dirty && true) n)
      (λ z. clash y z)
      (λ z. either (and-false-cases r.dirty true z) (λ k. k) (λ k. absurd (true≢false k)))

  -- the row of a request joins: where it is clean the disk has what is shown
  pub joins-current : (shown : List X) (a : ℕ) (rows : List (AddressRow F)) (new : AddressRow F) (disk : List X) → new.address ≡ a
      → ((x : ℕ) → But a x → dirty_at any x rows ≡ false → at H disk x ≡ at H shown x) → (new.dirty ≡ false → at H disk a ≡ at H shown a)
      → (x : ℕ) → Unit {0} → dirty_at any x (rows ++ (new ∷ [])) ≡ false → at H disk x ≡ at H shown x
  joins-current shown a rows new disk own cu cl x q dy =
      let n = dirty-snoc H x rows new dy in
      by-test (eqb a x)
      (λ y. let e = eqb→≡ a x y in
      subst (λ z. at H disk z ≡ at H shown z) e
      (cl (not-dirty x new (rw (own, e) (eqb-self x)) n.1)))
      (λ y. cu x y n.0)

  pub sees-step : (N : Numbers) (shown : List X) (s : Box F X) (q : Request F X) → Sound H N s → SeesBut q.address N.P shown s → 1 ≤ N.m → 1 ≤ N.d
      → q.address < N.P
      → (q.dirty ≡ true → own_block q.fingerprint q.block s.used s.flash ≡ at H shown q.address)
      → (q.dirty ≡ false → at H s.disk q.address ≡ at H shown q.address)
      → Sees Everywhere N.P shown (step H N.m s q).box
  unfolding step
  sees-step N shown s q h f m1 d1 ap' ow cl =
      let P = N.P in
      let a = q.address in
      let g = q.fingerprint in
      let b = q.block in
      let flash = s.flash in
      let o = step1 H N.m s a in
      let new = newest a g q.dirty q.seat in
      let rows = o.rows ++ (new ∷ []) in
      let out = sound-step1 H N s a h m1 in
      let ot = sees-step1 N shown s a h f in
      let b₀ : BlockRows F = record { free = s.free; used = s.used } in
      let t = step3 H o.gone o.rows rows b₀ in
      let dirty : All (λ r. r.dirty ≡ true → (cached H r.fingerprint s.used ≡ true) ⊎ (r.fingerprint ≡ g)) rows
      = all_append (λ r. r.dirty ≡ true → (cached H r.fingerprint s.used ≡ true) ⊎ (r.fingerprint ≡ g)) o.rows (new ∷ [])
      (all_map (DirtyCached H s.used) (λ r. r.dirty ≡ true → (cached H r.fingerprint s.used ≡ true) ⊎ (r.fingerprint ≡ g)) (λ r y e. inl (y e))
      o.rows out.dirty_cached)
      ((λ e. inr refl), tt) in
      let bs = sound-step3 H N.d o.gone o.rows rows b₀ g (record { fingerprints = h.fingerprints; slots = h.slots; dirty_cached = dirty }) in
      let gk = step3-keeps o.gone o.rows rows b₀ flash g (has-snoc-self H.same (λ r. r.fingerprint) H.same→≡ H.same_refl o.rows new) in
      let own : own_block g b t.used flash ≡ own_block g b s.used flash = rw (gk.0, gk.1) refl in
      let was : All (Ready P shown s.used flash g b) rows = all_append (Ready P shown s.used flash g b) o.rows (new ∷ [])
      (ready-rows P shown s.used flash g b o.rows ot.blocks out.dirty_cached)
      ((λ e. (ap', inr (refl, ow e))), tt) in
      let rd : All (Ready P shown t.used flash g b) rows
      = all_map (λ r. Ready P shown s.used flash g b r × (known H r.fingerprint rows ≡ true)) (Ready P shown t.used flash g b)
      (λ r y e. let k = y.0 e in let kp = step3-keeps o.gone o.rows rows b₀ flash r.fingerprint y.1 in
      (k.0, either k.1 (λ j. inl (kp.0 ∙ j.0, kp.1 ∙ j.1)) (λ j. inr (j.0, own ∙ j.1))))
      rows (all_both (Ready P shown s.used flash g b) (λ r. known H r.fingerprint rows ≡ true) rows was (all_known H rows)) in
      let cu = joins-current shown a o.rows new o.disk refl ot.current (λ y. ot.here ∙ cl y) in
      let mid : Box F X = record { rows = rows; free = t.free; used = t.used; flash = flash; disk = o.disk } in
      by-step4 H rows t.free t.used flash o.disk g b o.primary (λ t. Sees Everywhere P shown t.box)
      (λ c. sees-moved Everywhere P shown mid g b rd cu c)
      (λ c k ks p. sees-free Everywhere P shown mid g b rd cu N.d out.disk_length h.flash_length c o.primary k ks
      (subst (λ l. Permᴰ (l ++ map (λ u. u.slot) t.used) (slots_from 0 N.d)) p bs.slots))
      (λ c p u ch. sees_row Everywhere P shown mid g b rd cu N.d out.disk_length h.flash_length c o.primary u (chosen-slot H rows t.used u ch)
      bs.fingerprints (subst (λ l. Permᴰ (l ++ map (λ u. u.slot) t.used) (slots_from 0 N.d)) p bs.slots))
      (λ p q. absurd (some-slot H N.d t.free t.used d1 bs.slots p q))

  -- the first rows made clean
  pub sees-clean_to : (N : Numbers) (i : ℕ) (shown : List X) (s : Box F X) → Sound H N s → Sees Everywhere N.P shown s
      → Sees Everywhere N.P shown (clean_to H i s)
  sees-clean_to N i shown s h f =
      let CT = CopyTrue H any N.P s.used s.flash shown in
      record {
        blocks = all-partly H CT CT (λ r y e. clash (and_right r.dirty false (and_left (r.dirty && false) true e)) refl) (λ r y. y) i s.rows f.blocks;
        current = λ x q y. copied-good H any (take i s.rows) s.used s.flash s.disk shown N.P x h.disk_length
            (all_take H CT i s.rows f.blocks)
            (by-test (dirty_at any x (take i s.rows)) (λ z. inr z) (λ z. inl (f.current x q (dirty-behind H x i s.rows z y))));
      }
