-- The structural invariant of every state reached.
use Rattle.std.specs.Prelude.{◌≡◌, Bool, not, ◌&&◌, ◌||◌, cond, ◌⊎◌, ℕ, suc, zero, ◌≤◌, ◌<◌, length, set, get_or, take}
use Rattle.std.proofs.Math.Path.{refl, ap, subst}
use Rattle.std.proofs.Common.{sym, ◌∙◌, subst₂, arith}
use Rattle.std.proofs.Math.Bool.{true, false}
use Rattle.std.proofs.lemmas.Bool.{false≢true, not-true, eqb-false}
use mathlib.Core.List.Permᴰ
use mathlib.Core.List.{List, [], ◌∷◌, ◌++◌, map, map-append, Permᴰ}
use Rattle.std.proofs.Math.Logic.{inl, inr}
use Rattle.std.proofs.Math.Option.{Option, none, some, none-ne-some, some-injective}
use Rattle.std.proofs.Math.Dec.{eqb}
use Rattle.std.proofs.Math.ListN.{length-set, length-append}
use Rattle.tables.specs.Records.{slots_from}
use Rattle.paper.specs.Keyed.{has, without}
use Rattle.paper.specs.Cache.{Numbers, Hashing, AddressRow, BlockRow, Box, RowOut, BlockRows, Request, newest, block_row, held, row_of, without_address}
use Rattle.paper.specs.Cache.{known, cached, without_block, slot_of, block_of, cleaned, copied, is_lost, step, step1, step3, step4, freed, oldest_unknown}
use Rattle.paper.specs.Cache.{stored, Call, read, through, back, invalidate, look, flush, Within, on_disk, row_with_block, answer, read_as, write_through}
use Rattle.paper.specs.Cache.{seat_in, back_request, write_back, dropped, write_invalidate, look_as, flushed, excess, reach, clean_to, serve, fresh}
use Rattle.paper.specs.KeyedLaws.{by-test, either, clash, or_left, or_right, or-false-right, and_left, and_right, eqb→≡, eqb-self, All}
use Rattle.paper.specs.KeyedLaws.{Distinct, all_append, all_map, all_without, all_both, has-without-other, has-without, has-without-self}
use Rattle.paper.specs.KeyedLaws.{without-absent, distinct_without, distinct_snoc}
use Rattle.paper.proofs.PartlyLaws.{distinct-partly, length-partly, all-partly}
use Rattle.paper.proofs.Cases.{by-step1, by-step3, by-step4, Chosen}
use Rattle.paper.proofs.Orphans.{apart, cached-in, cached-add, cached-self, oldest_unknown-some}
use Rattle.paper.specs.Sound.{DirtyCached, Sound}

-- lists
module _ {A : Type 0} where
  pub perm-snoc : (a : A) (l : List A) → Permᴰ (a ∷ l) (l ++ (a ∷ []))
  perm-snoc a l = Permᴰ.symm (Permᴰ.trans (Permᴰ.middle a l []) (Permᴰ.cons refl (Permᴰ.append-nil l)))

  pub length-perm : {l l' : List A} → Permᴰ l l' → length l ≡ length l'
  length-perm Permᴰ.nil = refl
  length-perm (Permᴰ.cons e h) = ap suc (length-perm h)
  length-perm (Permᴰ.swap e f) = refl
  length-perm (Permᴰ.trans h k) = length-perm h ∙ length-perm k

pub length-slots_from : (k d : ℕ) → length (slots_from k d) ≡ d
length-slots_from k zero = refl
length-slots_from k (suc d) = ap suc (length-slots_from (suc k) d)

module _ {K R : Type 0} (same : K → K → Bool) (key : R → K) where
  pub length-without-le : (k : K) (l : List R) → length (without same key k l) ≤ length l
  length-without-le k [] = omega arith
  length-without-le k (x ∷ xs) = by-test (same k (key x)) (λ e. rw e (omega (arith, length-without-le k xs)))
      (λ e. rw e (omega (arith, length-without-le k xs)))

  pub length-without-lt : (k : K) (l : List R) → has same key k l ≡ true → length (without same key k l) < length l
  length-without-lt k [] = λ h. absurd (false≢true h)
  length-without-lt k (x ∷ xs) =
      by-test (same k (key x)) (λ e. rw e (λ h. omega (arith, length-without-le k xs))) (λ e. rw e (λ h. omega (arith, length-without-lt k xs h)))

module _ {F X : Type 0} (H : Hashing F X) where
  -- taking a cached row out of the used ones
  pub perm-take : (q : F) (used : List (BlockRow F)) → Distinct H.same (λ u. u.fingerprint) used → cached H q used ≡ true
      → Permᴰ (map (λ u. u.slot) used) (slot_of H q used ∷ map (λ u. u.slot) (without_block H q used))
  perm-take q [] d = λ h. absurd (false≢true h)
  perm-take q (u ∷ us) d =
      by-test (H.same q u.fingerprint)
      (λ e. rw e (λ h. rw (without-absent H.same (λ u. u.fingerprint) q us (rw (← H.same→≡ q u.fingerprint e) at d.0))
      (Permᴰ.refl (u.slot ∷ map (λ u. u.slot) us))))
      (λ e. rw e (λ h. Permᴰ.trans (Permᴰ.cons refl (perm-take q us d.1 h)) (Permᴰ.swap refl refl)))

  -- the row chosen to be taken
  pub unknown-slot : (rows : List (AddressRow F)) (used : List (BlockRow F)) (u : BlockRow F) → oldest_unknown H rows used ≡ some u
      → (slot_of H u.fingerprint used ≡ u.slot) × (cached H u.fingerprint used ≡ true)
  unfolding oldest_unknown
  unknown-slot rows [] u = λ e. absurd (none-ne-some u e)
  unknown-slot rows (x ∷ xs) u =
      by-test (known H x.fingerprint rows)
      (λ k. rw k (λ e.
      let n : H.same u.fingerprint x.fingerprint ≡ false = apart H u.fingerprint x.fingerprint rows k (oldest_unknown-some H rows xs u e) in
      rw n (unknown-slot rows xs u e)))
      (λ k. rw k (λ e. subst (λ v. (slot_of H v.fingerprint (x ∷ xs) ≡ v.slot) × (cached H v.fingerprint (x ∷ xs) ≡ true)) (some-injective x u e)
      (rw (H.same_refl x.fingerprint) refl, rw (H.same_refl x.fingerprint) refl)))

  pub chosen-slot : (rows : List (AddressRow F)) (used : List (BlockRow F)) (u : BlockRow F) → Chosen H rows used u
      → (slot_of H u.fingerprint used ≡ u.slot) × (cached H u.fingerprint used ≡ true)
  chosen-slot rows used u (inl e) = unknown-slot rows used u e
  chosen-slot rows used u (inr p) = rw p.1.1 (rw (H.same_refl u.fingerprint) refl, rw (H.same_refl u.fingerprint) refl)

  -- cleaned rows differ only in what is dirty
  pub all-cleaned : (c : F → Bool) (P Q : AddressRow F → Type 0)
      → ((r : AddressRow F) → P r → Q (newest r.address r.fingerprint (r.dirty && not (c r.fingerprint)) r.seat))
      → (rows : List (AddressRow F)) → All P rows → All Q (cleaned H c rows)
  all-cleaned c P Q f [] p = tt
  all-cleaned c P Q f (r ∷ rs) p = (f r p.0, all-cleaned c P Q f rs p.1)

  pub held-cleaned : (c : F → Bool) (a : ℕ) (rows : List (AddressRow F)) → held a (cleaned H c rows) ≡ held a rows
  held-cleaned c a [] = refl
  held-cleaned c a (r ∷ rs) = ap (λ b. eqb a r.address || b) (held-cleaned c a rs)

  pub distinct-cleaned : (c : F → Bool) (rows : List (AddressRow F)) → Distinct eqb (λ r. r.address) rows → Distinct eqb (λ r. r.address) (cleaned H c rows)
  distinct-cleaned c [] d = tt
  distinct-cleaned c (r ∷ rs) d = (held-cleaned c r.address rs ∙ d.0, distinct-cleaned c rs d.1)

  pub length-cleaned : (c : F → Bool) (rows : List (AddressRow F)) → length (cleaned H c rows) ≡ length rows
  length-cleaned c [] = refl
  length-cleaned c (r ∷ rs) = ap suc (length-cleaned c rs)

  pub length-copied : (c : F → Bool) (rows : List (AddressRow F)) (used : List (BlockRow F)) (flash disk : List X)
      → length (copied H c rows used flash disk) ≡ length disk
  length-copied c [] used flash disk = refl
  length-copied c (r ∷ rs) used flash disk =
      length-copied c rs used flash (cond (r.dirty && c r.fingerprint) (set disk r.address (block_of H r.fingerprint used flash)) disk)
      ∙ by-test (r.dirty && c r.fingerprint) (λ e. rw e (length-set disk r.address (block_of H r.fingerprint used flash))) (λ e. rw e refl)

  pub all_known : (rows : List (AddressRow F)) → All (λ r. known H r.fingerprint rows ≡ true) rows
  all_known [] = tt
  all_known (r ∷ rs) = (
    or_left (H.same r.fingerprint r.fingerprint) (known H r.fingerprint rs) (H.same_refl r.fingerprint),
    all_map (λ x. known H x.fingerprint rs ≡ true) (λ x. known H x.fingerprint (r ∷ rs) ≡ true)
        (λ x h. or_right (H.same x.fingerprint r.fingerprint) (known H x.fingerprint rs) h) rs (all_known rs),
  )

module _ {F X : Type 0} (H : Hashing F X) where
  -- after step 1
  pub record Out (N : Numbers) (a : ℕ) (s : Box F X) (o : RowOut F X) : Type 0 where
    pub addresses : Distinct eqb (λ r. r.address) o.rows
    pub absent : held a o.rows ≡ false
    pub below : All (λ r. r.address < N.P) o.rows
    pub few : length o.rows < N.m
    pub dirty_cached : All (DirtyCached H s.used) o.rows
    pub disk_length : length o.disk ≡ N.P

  pub sound-step1 : (N : Numbers) (s : Box F X) (a : ℕ) → Sound H N s → 1 ≤ N.m → Out N a s (step1 H N.m s a)
  sound-step1 N s a h m1 =
      let few = h.few in
      by-step1 H N.m s a (Out N a s)
      (λ e. record {
        addresses = distinct_without eqb (λ r. r.address) a s.rows h.addresses;
        absent = has-without-self eqb (λ r. r.address) a s.rows;
        below = all_without eqb (λ r. r.address) (λ r. r.address < N.P) a s.rows h.below;
        few = omega (arith, length-without-lt eqb (λ r. r.address) a s.rows e);
        dirty_cached = all_without eqb (λ r. r.address) (DirtyCached H s.used) a s.rows h.dirty_cached;
        disk_length = h.disk_length;
      })
      (λ e r rs p n. record {
        addresses = (subst (Distinct eqb (λ r. r.address)) p h.addresses).1;
        absent = or-false-right (eqb a r.address) (held a rs) (rw p at e);
        below = (subst (All (λ r. r.address < N.P)) p h.below).1;
        few = omega (arith, eqb→≡ (length s.rows) N.m n, ap length p);
        dirty_cached = (subst (All (DirtyCached H s.used)) p h.dirty_cached).1;
        disk_length = length-copied H (λ f. true) (r ∷ []) s.used s.flash s.disk ∙ h.disk_length;
      })
      (λ e p. record {
        addresses = h.addresses;
        absent = e;
        below = h.below;
        few = either p (λ n. omega (arith, eqb-false (length s.rows) N.m n)) (λ q. omega (arith, ap length q));
        dirty_cached = h.dirty_cached;
        disk_length = h.disk_length;
      })

  -- after step 3
  pub record Blocks (d : ℕ) (g : F) (rows : List (AddressRow F)) (t : BlockRows F) : Type 0 where
    pub fingerprints : Distinct H.same (λ u. u.fingerprint) t.used
    pub slots : Permᴰ (t.free ++ map (λ u. u.slot) t.used) (slots_from 0 d)
    pub dirty_cached : All (λ r. r.dirty ≡ true → (cached H r.fingerprint t.used ≡ true) ⊎ (r.fingerprint ≡ g)) rows

  pub sound-step3 : (d : ℕ) (gone : Option F) (others rows : List (AddressRow F)) (b : BlockRows F) (g : F) → Blocks d g rows b
      → Blocks d g rows (step3 H gone others rows b)
  unfolding freed
  sound-step3 d gone others rows b g h =
      by-step3 H gone others rows b (Blocks d g rows)
      (λ q p c n u. record {
        fingerprints = distinct_without H.same (λ u. u.fingerprint) q b.used h.fingerprints;
        slots = Permᴰ.trans
            (Permᴰ.symm (Permᴰ.trans (Permᴰ.append_left b.free (perm-take H q b.used h.fingerprints c))
            (Permᴰ.middle (slot_of H q b.used) b.free (map (λ u. u.slot) (without_block H q b.used)))))
            h.slots;
        dirty_cached = all_map
            (λ r. (r.dirty ≡ true → (cached H r.fingerprint b.used ≡ true) ⊎ (r.fingerprint ≡ g)) × (known H r.fingerprint rows ≡ true))
            (λ r. r.dirty ≡ true → (cached H r.fingerprint (without_block H q b.used) ≡ true) ⊎ (r.fingerprint ≡ g))
            (λ r y e. either (y.0 e) (λ t. inl (has-without H.same (λ u. u.fingerprint) H.same→≡ H.same_refl r.fingerprint q b.used
            (apart H q r.fingerprint rows y.1 n) ∙ t)) (λ t. inr t))
            rows (all_both (λ r. r.dirty ≡ true → (cached H r.fingerprint b.used ≡ true) ⊎ (r.fingerprint ≡ g))
            (λ r. known H r.fingerprint rows ≡ true) rows h.dirty_cached (all_known H rows));
      })
      (λ q p why. h)
      (λ p. h)

  pub some-slot : (d : ℕ) (free : List ℕ) (used : List (BlockRow F)) → 1 ≤ d → Permᴰ (free ++ map (λ u. u.slot) used) (slots_from 0 d) → free ≡ []
      → used ≡ [] → ⊥
  some-slot d free used d1 h p q =
      let e = length-perm (subst₂ (λ x y. Permᴰ (x ++ map (λ u. u.slot) y) (slots_from 0 d)) p q h) in omega (arith, e, length-slots_from 0 d)

  -- the slots after a row becomes newest
  pub slots-newest : (free : List ℕ) (used : List (BlockRow F)) (g : F) (k : ℕ)
      → Permᴰ (free ++ map (λ u. u.slot) (used ++ (block_row g k ∷ []))) (k ∷ (free ++ map (λ u. u.slot) used))
  slots-newest free used g k =
      rw (map-append (λ (u : BlockRow F). u.slot) used (block_row g k ∷ []))
      (Permᴰ.trans (Permᴰ.append_left free (Permᴰ.symm (perm-snoc k (map (λ u. u.slot) used)))) (Permᴰ.middle k free (map (λ u. u.slot) used)))

  pub sound-step4 : (N : Numbers) (rows : List (AddressRow F)) (free : List ℕ) (used : List (BlockRow F)) (flash disk : List X) (g : F) (b : X) (w : ℕ)
      → Distinct eqb (λ r. r.address) rows → All (λ r. r.address < N.P) rows → length rows ≤ N.m
      → Blocks N.d g rows (record { free = free; used = used })
      → length flash ≡ N.d → length disk ≡ N.P → 1 ≤ N.d
      → Sound H N (step4 H rows (record { free = free; used = used }) flash disk g b w).box
  unfolding stored
  sound-step4 N rows free used flash disk g b w da bl fw h fl dl d1 =
      by-step4 H rows free used flash disk g b w (λ t. Sound H N t.box)
      (λ c. record {
        addresses = da;
        below = bl;
        few = fw;
        fingerprints = distinct_snoc H.same (λ u. u.fingerprint) H.same→≡ H.same_refl (block_row g (slot_of H g used)) (without_block H g used)
            (distinct_without H.same (λ u. u.fingerprint) g used h.fingerprints) (has-without-self H.same (λ u. u.fingerprint) g used);
        slots = Permᴰ.trans (slots-newest free (without_block H g used) g (slot_of H g used))
            (Permᴰ.trans (Permᴰ.symm (Permᴰ.trans (Permᴰ.append_left free (perm-take H g used h.fingerprints c))
            (Permᴰ.middle (slot_of H g used) free (map (λ u. u.slot) (without_block H g used))))) h.slots);
        dirty_cached = all_map (λ r. r.dirty ≡ true → (cached H r.fingerprint used ≡ true) ⊎ (r.fingerprint ≡ g))
            (DirtyCached H (without_block H g used ++ (block_row g (slot_of H g used) ∷ [])))
            (λ r y e. by-test (H.same g r.fingerprint)
            (λ t. cached-self H r.fingerprint g (slot_of H g used) (without_block H g used) (sym (H.same→≡ g r.fingerprint t)))
            (λ n. either (y e) (λ t. cached-in H g r.fingerprint g (slot_of H g used) used t n)
            (λ t. cached-self H r.fingerprint g (slot_of H g used) (without_block H g used) t)))
            rows h.dirty_cached;
        flash_length = fl;
        disk_length = dl;
      })
      (λ c k ks p. record {
        addresses = distinct-cleaned H (is_lost H none) rows da;
        below = all-cleaned H (is_lost H none) (λ r. r.address < N.P) (λ r. r.address < N.P) (λ r y. y) rows bl;
        few = rw (length-cleaned H (is_lost H none) rows) fw;
        fingerprints = distinct_snoc H.same (λ u. u.fingerprint) H.same→≡ H.same_refl (block_row g k) used h.fingerprints c;
        slots = Permᴰ.trans (slots-newest ks used g k) (subst (λ l. Permᴰ (l ++ map (λ u. u.slot) used) (slots_from 0 N.d)) p h.slots);
        dirty_cached = all-cleaned H (is_lost H none) (λ r. r.dirty ≡ true → (cached H r.fingerprint used ≡ true) ⊎ (r.fingerprint ≡ g))
            (DirtyCached H (used ++ (block_row g k ∷ [])))
            (λ r y e. either (y (and_left r.dirty true e)) (λ t. cached-add H r.fingerprint g k used t) (λ t. cached-self H r.fingerprint g k used t))
            rows h.dirty_cached;
        flash_length = length-set flash k b ∙ fl;
        disk_length = length-copied H (is_lost H none) rows used flash disk ∙ dl;
      })
      (λ c p u ch.
      let v = u.fingerprint in
      let cs = chosen-slot H rows used u ch in
      record {
        addresses = distinct-cleaned H (is_lost H (some v)) rows da;
        below = all-cleaned H (is_lost H (some v)) (λ r. r.address < N.P) (λ r. r.address < N.P) (λ r y. y) rows bl;
        few = rw (length-cleaned H (is_lost H (some v)) rows) fw;
        fingerprints = distinct_snoc H.same (λ u. u.fingerprint) H.same→≡ H.same_refl (block_row g u.slot) (without_block H v used)
            (distinct_without H.same (λ u. u.fingerprint) v used h.fingerprints)
            (by-test (cached H g (without_block H v used)) (λ t. clash (has-without-other H.same (λ u. u.fingerprint) H.same
            (λ u. u.fingerprint) g v used t) c) (λ f. f));
        slots = Permᴰ.trans (slots-newest [] (without_block H v used) g u.slot)
            (Permᴰ.trans (rw cs.0 at (Permᴰ.symm (perm-take H v used h.fingerprints cs.1)))
            (subst (λ l. Permᴰ (l ++ map (λ u. u.slot) used) (slots_from 0 N.d)) p h.slots));
        dirty_cached = all-cleaned H (is_lost H (some v)) (λ r. r.dirty ≡ true → (cached H r.fingerprint used ≡ true) ⊎ (r.fingerprint ≡ g))
            (DirtyCached H (without_block H v used ++ (block_row g u.slot ∷ [])))
            (λ r y e. either (y (and_left r.dirty (not (H.same v r.fingerprint)) e))
            (λ t. cached-in H v r.fingerprint g u.slot used t
            (not-true (H.same v r.fingerprint) (and_right r.dirty (not (H.same v r.fingerprint)) e)))
            (λ t. cached-self H r.fingerprint g u.slot (without_block H v used) t))
            rows h.dirty_cached;
        flash_length = length-set flash u.slot b ∙ fl;
        disk_length = length-copied H (is_lost H (some v)) rows used flash disk ∙ dl;
      })
      (λ p q. absurd (some-slot N.d free used d1 h.slots p q))

  pub sound-step : (N : Numbers) (s : Box F X) (q : Request F X) → Sound H N s → 1 ≤ N.m → 1 ≤ N.d → q.address < N.P → Sound H N (step H N.m s q).box
  unfolding step
  sound-step N s q h m1 d1 ap =
      let a = q.address in
      let g = q.fingerprint in
      let o = step1 H N.m s a in
      let new = newest a g q.dirty q.seat in
      let rows = o.rows ++ (new ∷ []) in
      let out = sound-step1 N s a h m1 in
      let t = step3 H o.gone o.rows rows (record { free = s.free; used = s.used }) in
      let dirty : All (λ r. r.dirty ≡ true → (cached H r.fingerprint s.used ≡ true) ⊎ (r.fingerprint ≡ g)) rows
      = all_append (λ r. r.dirty ≡ true → (cached H r.fingerprint s.used ≡ true) ⊎ (r.fingerprint ≡ g)) o.rows (new ∷ [])
      (all_map (DirtyCached H s.used) (λ r. r.dirty ≡ true → (cached H r.fingerprint s.used ≡ true) ⊎ (r.fingerprint ≡ g)) (λ r y e. inl (y e))
      o.rows out.dirty_cached)
      ((λ e. inr refl), tt) in
      sound-step4 N rows t.free t.used s.flash o.disk g q.block o.primary
      (distinct_snoc eqb (λ r. r.address) eqb→≡ eqb-self new o.rows out.addresses out.absent)
      (all_append (λ r. r.address < N.P) o.rows (new ∷ []) out.below (ap, tt))
      (let e = length-append o.rows (new ∷ []) in let f = out.few in omega arith)
      (sound-step3 N.d o.gone o.rows rows (record { free = s.free; used = s.used }) g
      (record { fingerprints = h.fingerprints; slots = h.slots; dirty_cached = dirty }))
      h.flash_length out.disk_length d1

  -- the calls
  pub sound-on_disk : (N : Numbers) (s : Box F X) (a : ℕ) (b : X) → Sound H N s → Sound H N (on_disk H s a b)
  sound-on_disk N s a b h =
      record {
        addresses = h.addresses;
        below = h.below;
        few = h.few;
        fingerprints = h.fingerprints;
        slots = h.slots;
        dirty_cached = h.dirty_cached;
        flash_length = h.flash_length;
        disk_length = length-set s.disk a b ∙ h.disk_length;
      }

  pub sound-read_as : (N : Numbers) (s : Box F X) (a : ℕ) (x : X) (o : Option (AddressRow F)) → Sound H N s → 1 ≤ N.m → 1 ≤ N.d → a < N.P
      → Sound H N (read_as H N.m s a x o).box
  unfolding read_as answer
  sound-read_as N s a x (some r) h m1 d1 ap
      = sound-step N s
      (record { address = a; fingerprint = r.fingerprint; block = block_of H r.fingerprint s.used s.flash; dirty = r.dirty; seat = r.seat })
      h m1 d1 ap
  sound-read_as N s a x none h m1 d1 ap =
      sound-step N s (record { address = a; fingerprint = H.hash x; block = x; dirty = false; seat = seat_in (row_of a s.rows) }) h m1 d1 ap

  sound-look_as : (N : Numbers) (s : Box F X) (a : ℕ) (o : Option (AddressRow F)) → Sound H N s → Sound H N (look_as H s a o).box
  unfolding look_as
  sound-look_as N s a (some r) h = h
  sound-look_as N s a none h = h

  pub sound-dropped : (d : ℕ) (rows : List (AddressRow F)) (free : List ℕ) (used : List (BlockRow F)) (o : Option (AddressRow F))
      → Distinct H.same (λ u. u.fingerprint) used → Permᴰ (free ++ map (λ u. u.slot) used) (slots_from 0 d) → All (DirtyCached H used) rows
      → let t = dropped H rows (record { free = free; used = used }) o in
      Distinct H.same (λ u. u.fingerprint) t.used × Permᴰ (t.free ++ map (λ u. u.slot) t.used) (slots_from 0 d) × All
      (DirtyCached H t.used) rows
  unfolding dropped freed
  sound-dropped d rows free used none df sl dc = (df, sl, dc)
  sound-dropped d rows free used (some r) df sl dc =
      let q = r.fingerprint in
      by-test (known H q rows)
      (λ k. rw k (df, sl, dc))
      (λ k. rw k (by-test (cached H q used)
      (λ c. rw c (
        distinct_without H.same (λ u. u.fingerprint) q used df,
        Permᴰ.trans (Permᴰ.symm (Permᴰ.trans (Permᴰ.append_left free (perm-take H q used df c))
            (Permᴰ.middle (slot_of H q used) free (map (λ u. u.slot) (without_block H q used))))) sl,
        all_map (λ x. DirtyCached H used x × (known H x.fingerprint rows ≡ true)) (DirtyCached H (without_block H q used))
            (λ x y e. has-without H.same (λ u. u.fingerprint) H.same→≡ H.same_refl x.fingerprint q used
            (apart H q x.fingerprint rows y.1 k) ∙ y.0 e)
            rows (all_both (DirtyCached H used) (λ x. known H x.fingerprint rows ≡ true) rows dc (all_known H rows)),
      ))
      (λ c. rw c (df, sl, dc))))

  sound-invalidate : (N : Numbers) (s : Box F X) (a : ℕ) (b : X) → Sound H N s → Sound H N (write_invalidate H s a b).box
  unfolding write_invalidate
  sound-invalidate N s a b h =
      let rows = without_address a s.rows in
      let t = sound-dropped N.d rows s.free s.used (row_of a s.rows) h.fingerprints h.slots
      (all_without eqb (λ r. r.address) (DirtyCached H s.used) a s.rows h.dirty_cached) in
      let few = h.few in
      record {
        addresses = distinct_without eqb (λ r. r.address) a s.rows h.addresses;
        below = all_without eqb (λ r. r.address) (λ r. r.address < N.P) a s.rows h.below;
        few = omega (arith, length-without-le eqb (λ (r : AddressRow F). r.address) a s.rows);
        fingerprints = t.0;
        slots = t.1;
        dirty_cached = t.2;
        flash_length = h.flash_length;
        disk_length = length-set s.disk a b ∙ h.disk_length;
      }

  -- the first rows made clean
  pub sound-clean_to : (N : Numbers) (i : ℕ) (s : Box F X) → Sound H N s → Sound H N (clean_to H i s)
  sound-clean_to N i s h =
      record {
        addresses = distinct-partly H i s.rows h.addresses;
        below = all-partly H (λ r. r.address < N.P) (λ r. r.address < N.P) (λ r y. y) (λ r y. y) i s.rows h.below;
        few = rw (length-partly H i s.rows) h.few;
        fingerprints = h.fingerprints;
        slots = h.slots;
        dirty_cached = all-partly H (DirtyCached H s.used) (DirtyCached H s.used) (λ r y e. y (and_left r.dirty false e)) (λ r y. y)
            i s.rows h.dirty_cached;
        flash_length = h.flash_length;
        disk_length = length-copied H (λ f. true) (take i s.rows) s.used s.flash s.disk ∙ h.disk_length;
      }

  pub sound-serve : (N : Numbers) (s : Box F X) (c : Call X) → Sound H N s → 1 ≤ N.m → 1 ≤ N.d → Within N.P c → Sound H N (serve H N s c).box
  unfolding serve write_through write_back answer flushed
  sound-serve N s (read a) h m1 d1 w = sound-read_as N s a (get_or s.disk a H.blank) (row_with_block H s a) h m1 d1 w
  sound-serve N s (through a b z) h m1 d1 w
      = sound-step N (on_disk H s a b) (record { address = a; fingerprint = H.hash b; block = b; dirty = false; seat = z }) (sound-on_disk N s a b h) m1 d1 w
  sound-serve N s (back a b z) h m1 d1 w =
      let t = step H N.m s (back_request H s a b z) in
      sound-clean_to N (reach H (excess H N.t t.box.rows) t.box.rows) t.box (sound-step N s (back_request H s a b z) h m1 d1 w)
  sound-serve N s (invalidate a b z) h m1 d1 w = sound-invalidate N s a b h
  sound-serve N s (look a) h m1 d1 w = sound-look_as N s a (row_with_block H s a) h
  sound-serve N s (flush k) h m1 d1 w = sound-clean_to N (reach H k s.rows) s h

  pub sound-fresh : (N : Numbers) (flash disk : List X) → length flash ≡ N.d → length disk ≡ N.P → Sound H N (fresh N.d flash disk)
  sound-fresh N flash disk fl dl =
      record {
        addresses = tt;
        below = tt;
        few = omega arith;
        fingerprints = tt;
        slots = Permᴰ.append-nil (slots_from 0 N.d);
        dirty_cached = tt;
        flash_length = fl;
        disk_length = dl;
      }
