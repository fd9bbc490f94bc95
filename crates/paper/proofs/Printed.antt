-- Lists of reads: the cache does what printed D-LRU does.
use Rattle.std.specs.Prelude.{◌≡◌, Bool, not, ◌&&◌, ◌||◌, ◌⊎◌, ℕ, ◌≤◌, ◌<◌, ◌+◌}
use Rattle.std.proofs.Math.Path.{refl, sym, ap, ap₂, subst}
use Rattle.std.proofs.Common.{◌∙◌, inl, inr, arith, length-append}
use Rattle.std.proofs.Math.Bool.{true, false, cond, true≢false, and-false}
use mathlib.Core.List.{List, [], ◌∷◌, ◌++◌, map, map-append, Permᴰ}
use Rattle.std.proofs.Math.Option.{Option, none, some, none-ne-some, some-injective}
use Rattle.std.proofs.Math.Dec.{eqb}
use Rattle.std.proofs.Math.ListN.{length, length-map}
use Rattle.std.proofs.lemmas.Bool.{eqb-false}
use Rattle.tables.specs.Records.{slots_from}
use Rattle.paper.specs.Keyed.{has, without}
use Rattle.paper.specs.Cache.{Numbers, Hashing, AddressRow, BlockRow, Box, RowOut, BlockRows, Stepped, Outcome, newest, block_row, held, row_of}
use Rattle.paper.specs.Cache.{without_address, known, cached, without_block, slot_of, block_of, cleaned, copied, is_lost, some_uncached, read, row_with_block}
use Rattle.paper.specs.Cache.{Seat, seat_in, answer, read_as, serve, fresh, step, step1, step3, step4, oldest_unknown, stored, hit, miss}
use Rattle.paper.specs.KeyedLaws.{by-test, either, by-option, clash, or_left, or_right, or-false-right, eqb→≡, same-sym-false, All, Distinct}
use Rattle.paper.specs.KeyedLaws.{all_append, all_map, all_without, all_both, has-without-other, has-without, without-absent, has-snoc-cases}
use Rattle.paper.specs.KeyedLaws.{has-snoc-left, has-snoc-self, find-some, find_none, has-append, find-has}
use Rattle.paper.specs.Machines.{content_of, put, Printed, printed_next, printed_hit, Read, Compared, printed_in, printed_trace}
use Rattle.paper.specs.Events.{cache_trace}
use Rattle.paper.proofs.Cases.{by-step1, by-step3, by-step4, eldest_out, taken_row}
use Rattle.paper.proofs.Orphans.{oldest_unknown-some}
use Rattle.paper.specs.Sound.{Sound}
use Rattle.paper.proofs.SoundLaws.{length-perm, some-slot, sound-serve, sound-fresh, length-slots_from, unknown-slot}
use Rattle.paper.specs.Faithful.{any}
use Rattle.paper.proofs.FaithfulLaws.{at}
use Rattle.paper.proofs.PlainDiskLaws.{if_cached-some, if_cached-none}
use Rattle.paper.proofs.OrphanList.{uncached-not}
use Rattle.paper.specs.Order.{Nested}
use Rattle.paper.proofs.OrderLaws.{tail-≡, or-absorb, has-map, without-map, nested-swap, nested-tail, nested-newest, order, has-order}
use Rattle.paper.proofs.OrderLaws.{order-snoc, order-skip}

module _ {F X : Type 0} (H : Hashing F X) where
  abbrev keys : List (AddressRow F) → List F
  keys rows = map (λ r. r.fingerprint) rows

  abbrev Of : ℕ → F → AddressRow F → Type 0
  Of a g r = eqb a r.address ≡ true → r.fingerprint ≡ g

  -- the row of a goes, and has the fingerprint g: nothing else changes
  known_out : (a : ℕ) (f g : F) (rows : List (AddressRow F)) → All (Of a g) rows → H.same f g ≡ false
      → has H.same (λ x. x) f (keys (without_address a rows)) ≡ has H.same (λ x. x) f (keys rows)
  known_out a f g [] t n = refl
  known_out a f g (r ∷ rs) t n =
      by-test (eqb a r.address)
      (λ e. rw e (known_out a f g rs t.1 n ∙ or-absorb (H.same f r.fingerprint) (has H.same (λ x. x) f (keys rs))
      (λ y. clash y (subst (λ x. H.same f x ≡ false) (sym (t.0 e)) n))))
      (λ e. rw e (ap (λ b. H.same f r.fingerprint || b) (known_out a f g rs t.1 n)))

  order-out : (a : ℕ) (g : F) (rows : List (AddressRow F)) → All (Of a g) rows
      → without H.same (λ x. x) g (order H.same (keys (without_address a rows))) ≡ without H.same (λ x. x) g (order H.same (keys rows))
  order-out a g [] t = refl
  order-out a g (r ∷ rs) t =
      let skip = order-skip H.same H.same→≡ H.same_refl g r.fingerprint in
      by-test (eqb a r.address)
      (λ e. rw e (order-out a g rs t.1 ∙ sym (skip (keys rs) (rw (t.0 e) (H.same_refl g)))))
      (λ e. rw e (by-test (H.same g r.fingerprint)
      (λ y. skip (keys (without_address a rs)) y ∙ order-out a g rs t.1 ∙ sym (skip (keys rs) y))
      (λ y. let k = known_out a r.fingerprint g rs t.1 (same-sym-false H.same (λ x. x) H.same→≡ H.same_refl g r.fingerprint y) in
      by-test (has H.same (λ x. x) r.fingerprint (keys rs))
      (λ h. rw (k ∙ h, h) (order-out a g rs t.1))
      (λ h. rw (k ∙ h, h, y) (ap {B = List F} (λ l. r.fingerprint ∷ l) (order-out a g rs t.1))))))

  abbrev prints : List (BlockRow F) → List F
  prints used = map (λ u. u.fingerprint) used

  known-order : (f : F) (rows : List (AddressRow F)) → known H f rows ≡ has H.same (λ x. x) f (order H.same (keys rows))
  known-order f rows = sym (has-order H.same H.same→≡ H.same_refl f (keys rows) ∙ has-map H.same (λ r. r.fingerprint) f rows)

  cached-prints : (f : F) (used : List (BlockRow F)) → cached H f used ≡ has H.same (λ x. x) f (prints used)
  cached-prints f used = sym (has-map H.same (λ u. u.fingerprint) f used)

  pub record ReadInv (content : ℕ → F) (disk : List X) (s : Box F X) : Type 0 where
    pub clean : All (λ r. r.dirty ≡ false) s.rows
    pub contents : All (λ r. r.fingerprint ≡ content r.address) s.rows
    pub same_disk : s.disk ≡ disk
    pub nested : Nested (prints s.used) (order H.same (keys s.rows))

  record ReadOut (content : ℕ → F) (m a : ℕ) (z : Seat) (s : Box F X) (o : RowOut F X) : Type 0 where
    addresses : map (λ r. r.address) (o.rows ++ (newest a (content a) false z ∷ [])) ≡ put eqb m a (map (λ r. r.address) s.rows)
    clean : All (λ r. r.dirty ≡ false) o.rows
    contents : All (λ r. r.fingerprint ≡ content r.address) o.rows
    same_disk : o.disk ≡ s.disk
    star : List F
    nested : Nested (prints s.used) star
    order_is : order H.same (keys (o.rows ++ (newest a (content a) false z ∷ []))) ≡ without H.same (λ x. x) (content a) star ++ (content a ∷ [])
    keeps : (q : F) → o.gone ≡ some q → cached H q s.used ≡ true → known H q (o.rows ++ (newest a (content a) false z ∷ [])) ≡ false
        → some_uncached H o.rows s.used ≡ true → ⊥

  pub cleaned-clean : (c : F → Bool) (rows : List (AddressRow F)) → All (λ r. r.dirty ≡ false) rows → cleaned H c rows ≡ rows
  cleaned-clean c [] p = refl
  cleaned-clean c (r ∷ rs) p =
      ap₂ {C = List (AddressRow F)} (λ (b : Bool) l. record { address = r.address; fingerprint = r.fingerprint; dirty = b; seat = r.seat } ∷ l)
      (ap (λ b. b && not (c r.fingerprint)) p.0 ∙ sym p.0) (cleaned-clean c rs p.1)

  pub copied-clean : (c : F → Bool) (rows : List (AddressRow F)) (used : List (BlockRow F)) (flash disk : List X) → All (λ r. r.dirty ≡ false) rows
      → copied H c rows used flash disk ≡ disk
  copied-clean c [] used flash disk p = refl
  copied-clean c (r ∷ rs) used flash disk p = rw p.0 (copied-clean c rs used flash disk p.1)

  order-newest : (a : ℕ) (g : F) (z : Seat) (rows : List (AddressRow F))
      → order H.same (keys (rows ++ (newest a g false z ∷ []))) ≡ without H.same (λ x. x) g (order H.same (keys rows)) ++ (g ∷ [])
  order-newest a g z rows = ap (order H.same) (map-append (λ (r : AddressRow F). r.fingerprint) rows (newest a g false z ∷ []))
      ∙ order-snoc H.same H.same→≡ H.same_refl g (keys rows)

  -- where the blocks hold all the rows' fingerprints, no row is uncached
  none-uncached : (rows rs : List (AddressRow F)) (used : List (BlockRow F)) (O : List F) → prints used ≡ O ++ order H.same (keys rows)
      → ((f : F) → known H f rs ≡ true → known H f rows ≡ true) → some_uncached H rs used ≡ false
  none-uncached rows rs used O e sub =
      uncached-not H rs used (λ r h. cached-prints r.fingerprint used ∙ ap (has H.same (λ x. x) r.fingerprint) e
      ∙ has-append H.same (λ x. x) r.fingerprint O (order H.same (keys rows))
      ∙ or_right (has H.same (λ x. x) r.fingerprint O) (has H.same (λ x. x) r.fingerprint (order H.same (keys rows)))
      (sym (known-order r.fingerprint rows) ∙ sub r.fingerprint h))

  -- the oldest row goes: its block is not freed
  eldest-keeps : (rows rs : List (AddressRow F)) (r : AddressRow F) (used : List (BlockRow F)) → rows ≡ r ∷ rs → known H r.fingerprint rs ≡ false
      → cached H r.fingerprint used ≡ true
      → Nested (prints used) (order H.same (keys rows)) → some_uncached H rs used ≡ false
  eldest-keeps rows rs r used p n c v =
      let q = r.fingerprint in
      let sub : (f : F) → known H f rs ≡ true → known H f rows ≡ true = λ f h. rw p (or_right (H.same f q) (known H f rs) h) in
      let hk : has H.same (λ x. x) q (keys rs) ≡ false = has-map H.same (λ r. r.fingerprint) q rs ∙ n in
      let re : order H.same (keys rows) ≡ q ∷ order H.same (keys rs) = rw p (rw hk refl) in
      either v
      (λ y. none-uncached rows rs used y.0 y.1 sub)
      (λ y. go rows rs used q c n sub re y.0 y.1)
    where
      go : (rows rs : List (AddressRow F)) (used : List (BlockRow F)) (q : F) → cached H q used ≡ true → known H q rs ≡ false
          → ((f : F) → known H f rs ≡ true → known H f rows ≡ true)
          → order H.same (keys rows) ≡ q ∷ order H.same (keys rs) → (O : List F) → order H.same (keys rows) ≡ O ++ prints used
          → some_uncached H rs used ≡ false
      go rows rs used q c n sub re [] e = none-uncached rows rs used [] (sym e) sub
      go rows rs used q c n sub re (o ∷ O) e =
          let t : order H.same (keys rs) ≡ O ++ prints used = tail-≡ q o (order H.same (keys rs)) (O ++ prints used) (sym re ∙ e) in
          clash (known-order q rs ∙ ap (has H.same (λ x. x) q) t ∙ has-append H.same (λ x. x) q O (prints used)
          ∙ or_right (has H.same (λ x. x) q O) (has H.same (λ x. x) q (prints used)) (sym (cached-prints q used) ∙ c)) n

  read-eldest : (content : ℕ → F) (disk : List X) (m a : ℕ) (z : Seat) (s : Box F X) → ReadInv content disk s → held a s.rows ≡ false
      → (r : AddressRow F) (rs : List (AddressRow F)) → s.rows ≡ r ∷ rs
      → eqb (length s.rows) m ≡ true → ReadOut content m a z s (eldest_out H s r rs)
  unfolding put
  read-eldest content disk m a z s v e r rs p n =
      let new = newest a (content a) false z in
      let q = r.fingerprint in
      let cl : All (λ r. r.dirty ≡ false) (r ∷ rs) = rw p at v.clean in
      let co : All (λ r. r.fingerprint ≡ content r.address) (r ∷ rs) = rw p at v.contents in
      let ne : Nested (prints s.used) (order H.same (keys (r ∷ rs))) = subst (λ l. Nested (prints s.used) (order H.same (keys l))) p v.nested in
      record {
        addresses = map-append (λ (r : AddressRow F). r.address) rs (new ∷ [])
            ∙ rw (has-map eqb (λ (r : AddressRow F). r.address) a s.rows ∙ e, put)
            (rw (ap (λ k. eqb k m) (length-map s.rows (λ r. r.address)) ∙ n) (rw p refl));
        clean = cl.1;
        contents = co.1;
        same_disk = copied-clean any (r ∷ []) s.used s.flash s.disk (cl.0, tt);
        star = order H.same (keys rs);
        nested = star-nested q (keys rs) (prints s.used) ne;
        order_is = order-newest a (content a) z rs;
        keeps = λ q' y c k u.
            let qe = some-injective q q' y in
            let c' : cached H q s.used ≡ true = rw (← qe) at c in
            let k' : known H q (rs ++ (new ∷ [])) ≡ false = rw (← qe) at k in
            true≢false (sym u ∙ eldest-keeps s.rows rs r s.used p
            (by-test (known H q rs) (λ z. clash (has-snoc-left H.same (λ r. r.fingerprint) H.same→≡ H.same_refl q rs new z) k') (λ z. z)) c'
            v.nested);
      }
    where
      star-nested : (q : F) (l D : List F) → Nested D (order H.same (q ∷ l)) → Nested D (order H.same l)
      star-nested q l D = by-test (has H.same (λ x. x) q l) (λ z. rw z (λ y. y))
          (λ z. rw z (λ y. nested-swap (order H.same l) D (nested-tail q (order H.same l) D (nested-swap D (q ∷ order H.same l) y))))

  read-step1 : (content : ℕ → F) (disk : List X) (N : Numbers) (s : Box F X) (a : ℕ) (z : Seat) → Sound H N s → ReadInv content disk s → 1 ≤ N.m
      → ReadOut content N.m a z s (step1 H N.m s a)
  unfolding put
  read-step1 content disk N s a z h v m1 =
      let new = newest a (content a) false z in
      by-step1 H N.m s a (ReadOut content N.m a z s)
      (λ e. record {
        addresses = map-append (λ (r : AddressRow F). r.address) (without_address a s.rows) (new ∷ [])
            ∙ rw (has-map eqb (λ (r : AddressRow F). r.address) a s.rows ∙ e, put)
            (ap (λ l. l ++ (a ∷ [])) (without-map eqb (λ (r : AddressRow F). r.address) a s.rows));
        clean = all_without eqb (λ r. r.address) (λ r. r.dirty ≡ false) a s.rows v.clean;
        contents = all_without eqb (λ r. r.address) (λ r. r.fingerprint ≡ content r.address) a s.rows v.contents;
        same_disk = refl;
        star = order H.same (keys s.rows);
        nested = v.nested;
        order_is = order-newest a (content a) z (without_address a s.rows)
            ∙ ap (λ l. l ++ (content a ∷ [])) (order-out a (content a) s.rows (all_map (λ r. r.fingerprint ≡ content r.address) (Of a (content a))
            (λ r y z. y ∙ ap content (sym (eqb→≡ a r.address z))) s.rows v.contents));
        keeps = λ q p c n u. by-option (row_of a s.rows)
            (λ z. none-ne-some q (rw z at p))
            (λ r i. let y = find-some eqb (λ r. r.address) (λ r. r.fingerprint ≡ content r.address) a s.rows r i v.contents in
            let qe : content a ≡ q = ap content (eqb→≡ a r.address y.1) ∙ sym y.0 ∙ some-injective r.fingerprint q (rw i at p) in
            clash {b = known H (content a) (without_address a s.rows ++ (newest a (content a) false z ∷ []))}
            (has-snoc-self H.same (λ r. r.fingerprint) H.same→≡ H.same_refl (without_address a s.rows) new) (rw (← qe) at n));
      })
      (λ e r rs p n. read-eldest content disk N.m a z s v e r rs p n)
      (λ e p. record {
        addresses = map-append (λ (r : AddressRow F). r.address) s.rows (new ∷ [])
            ∙ rw (has-map eqb (λ (r : AddressRow F). r.address) a s.rows ∙ e, put)
            (rw (ap (λ k. eqb k N.m) (length-map s.rows (λ r. r.address))
            ∙ either p (λ y. y) (λ y. by-test (eqb (length s.rows) N.m) (λ z. absurd (omega (arith, eqb→≡ (length s.rows) N.m z, ap length y)))
            (λ z. z))) refl);
        clean = v.clean;
        contents = v.contents;
        same_disk = refl;
        star = order H.same (keys s.rows);
        nested = v.nested;
        order_is = order-newest a (content a) z s.rows;
        keeps = λ q y c n u. none-ne-some q y;
      })

  -- what step 4 is given, and leaves, where only reads were served
  record ReadEnd (d : ℕ) (g : F) (rows : List (AddressRow F)) (used : List (BlockRow F)) (disk : List X) (star : List F) (t : Stepped F X) : Type 0 where
    same_rows : t.box.rows ≡ rows
    same_disk : t.box.disk ≡ disk
    blocks : prints t.box.used ≡ put H.same d g (prints used)
    nested : Nested (prints t.box.used) (without H.same (λ x. x) g star ++ (g ∷ []))

  star-known : (g f : F) (rows : List (AddressRow F)) (star : List F) → order H.same (keys rows) ≡ without H.same (λ x. x) g star ++ (g ∷ [])
      → has H.same (λ x. x) f star ≡ true → known H f rows ≡ true
  star-known g f rows star o h =
      known-order f rows ∙ ap (has H.same (λ x. x) f) o
      ∙ by-test (H.same g f)
      (λ e. rw (← H.same→≡ g f e) (has-snoc-self H.same (λ x. x) H.same→≡ H.same_refl (without H.same (λ x. x) g star) g))
      (λ e. has-snoc-left H.same (λ x. x) H.same→≡ H.same_refl f (without H.same (λ x. x) g star) g
      (has-without H.same (λ x. x) H.same→≡ H.same_refl f g star e ∙ h))

  known-star : (g f : F) (rows : List (AddressRow F)) (star : List F) → order H.same (keys rows) ≡ without H.same (λ x. x) g star ++ (g ∷ [])
      → known H f rows ≡ true → (has H.same (λ x. x) f star ≡ true) ⊎ (f ≡ g)
  known-star g f rows star o h =
      either (has-snoc-cases H.same (λ x. x) H.same→≡ H.same_refl f (without H.same (λ x. x) g star) g
      (sym (ap (has H.same (λ x. x) f) o) ∙ sym (known-order f rows) ∙ h))
      (λ t. inl (has-without-other H.same (λ x. x) H.same (λ x. x) f g star t))
      (λ t. inr t)

  -- the oldest block whose fingerprint no row has is the oldest block
  oldest-first : (g : F) (rows : List (AddressRow F)) (used : List (BlockRow F)) (star : List F) (u : BlockRow F)
      → order H.same (keys rows) ≡ without H.same (λ x. x) g star ++ (g ∷ []) → Nested (prints used) star → cached H g used ≡ false
      → Distinct H.same (λ u. u.fingerprint) used
      → oldest_unknown H rows used ≡ some u → (us : List (BlockRow F)) × (used ≡ u ∷ us)
  unfolding oldest_unknown
  oldest-first g rows [] star u o v c df e = absurd (none-ne-some u e)
  oldest-first g rows (x ∷ xs) star u o v c df e =
      by-test (known H x.fingerprint rows)
      (λ k. absurd (
      let uc : has H.same (λ x. x) u.fingerprint (prints (x ∷ xs)) ≡ true = sym (cached-prints u.fingerprint (x ∷ xs))
      ∙ (unknown-slot H rows (x ∷ xs) u e).1 in
      let un : known H u.fingerprint rows ≡ false = oldest_unknown-some H rows (x ∷ xs) u e in
      let xs-star : has H.same (λ x. x) x.fingerprint star ≡ true
      = either (known-star g x.fingerprint rows star o k) (λ t. t)
      (λ t. clash (subst (λ (y : F). cached H y (x ∷ xs) ≡ true) t
      (or_left (H.same x.fingerprint x.fingerprint) (cached H x.fingerprint xs) (H.same_refl x.fingerprint))) c) in
      let bad : has H.same (λ x. x) u.fingerprint star ≡ true → ⊥ = λ t. true≢false (sym (star-known g u.fingerprint rows star o t) ∙ un) in
      either v
      (λ y. newer x.fingerprint (prints xs) star u.fingerprint y.0 y.1 uc bad xs-star
      (has-map H.same (λ u. u.fingerprint) x.fingerprint xs ∙ df.0))
      (λ y. bad (ap (has H.same (λ x. x) u.fingerprint) y.1 ∙ has-append H.same (λ x. x) u.fingerprint y.0 (prints (x ∷ xs))
      ∙ or_right (has H.same (λ x. x) u.fingerprint y.0) (has H.same (λ x. x) u.fingerprint (prints (x ∷ xs))) uc))))
      (λ k. (xs, ap (λ z. z ∷ xs) (some-injective x u (sym (first k) ∙ e))))
    where
      first : known H x.fingerprint rows ≡ false → oldest_unknown H rows (x ∷ xs) ≡ some x
      first k = rw k refl

      newer : (f : F) (fs star : List F) (w : F) (O : List F) → ◌≡◌ {A = List F} (f ∷ fs) (O ++ star) → has H.same (λ x. x) w (f ∷ fs) ≡ true
          → (has H.same (λ x. x) w star ≡ true → ⊥)
          → has H.same (λ x. x) f star ≡ true → has H.same (λ x. x) f fs ≡ false → ⊥
      newer f fs star w [] p uc bad fstar n = bad (subst (λ l. has H.same (λ x. x) w l ≡ true) p uc)
      newer f fs star w (o ∷ O) p uc bad fstar n =
          true≢false (sym (ap (has H.same (λ x. x) f) (tail-≡ f o fs (O ++ star) p) ∙ has-append H.same (λ x. x) f O star
          ∙ or_right (has H.same (λ x. x) f O) (has H.same (λ x. x) f star) fstar) ∙ n)

  read-step4 : (d : ℕ) (rows : List (AddressRow F)) (free : List ℕ) (used : List (BlockRow F)) (flash disk : List X) (g : F) (b : X) (w : ℕ) (star : List F)
      → All (λ r. r.dirty ≡ false) rows → order H.same (keys rows) ≡ without H.same (λ x. x) g star ++ (g ∷ []) → Nested (prints used) star
      → Distinct H.same (λ u. u.fingerprint) used → Permᴰ (free ++ map (λ u. u.slot) used) (slots_from 0 d) → 1 ≤ d
      → ReadEnd d g rows used disk star (step4 H rows (record { free = free; used = used }) flash disk g b w)
  unfolding stored put
  read-step4 d rows free used flash disk g b w star cl o v df sl d1 =
      let len : length free + length used ≡ d
      = sym (length-append free (map (λ u. u.slot) used) ∙ ap (λ n. length free + n) (length-map used (λ u. u.slot))) ∙ length-perm sl
      ∙ length-slots_from 0 d in
      by-step4 H rows free used flash disk g b w (ReadEnd d g rows used disk star)
      (λ c.
      let pe : prints (without_block H g used ++ (block_row g (slot_of H g used) ∷ [])) ≡ without H.same (λ x. x) g (prints used) ++ (g ∷ [])
      = map-append (λ (u : BlockRow F). u.fingerprint) (without_block H g used) (block_row g (slot_of H g used) ∷ [])
      ∙ ap (λ l. l ++ (g ∷ [])) (without-map H.same (λ (u : BlockRow F). u.fingerprint) g used) in
      record {
        same_rows = refl;
        same_disk = refl;
        blocks = pe ∙ rw (has-map H.same (λ (u : BlockRow F). u.fingerprint) g used ∙ c, put) refl;
        nested = rw pe (nested-newest H.same g (prints used) star v);
      })
      (λ c k ks p.
      let pe : prints (used ++ (block_row g k ∷ [])) ≡ prints used ++ (g ∷ []) = map-append (λ (u : BlockRow F). u.fingerprint) used (block_row g k ∷ []) in
      let ga : has H.same (λ x. x) g (prints used) ≡ false = has-map H.same (λ (u : BlockRow F). u.fingerprint) g used ∙ c in
      record {
        same_rows = cleaned-clean (is_lost H none) rows cl;
        same_disk = copied-clean (is_lost H none) rows used flash disk cl;
        blocks = pe ∙ rw (ga, put) (rw (by-test (eqb (length (prints used)) d)
            (λ z. absurd (omega (arith, eqb→≡ (length (prints used)) d z, length-map used (λ (u : BlockRow F). u.fingerprint), len, ap length p)))
            (λ z. z)) refl);
        nested = rw pe (subst (λ l. Nested (l ++ (g ∷ [])) (without H.same (λ x. x) g star ++ (g ∷ [])))
            (without-absent H.same (λ x. x) g (prints used) ga) (nested-newest H.same g (prints used) star v));
      })
      (λ c p u ch.
      let first : (us : List (BlockRow F)) × (used ≡ u ∷ us) = either ch (λ e. oldest-first g rows used star u o v c df e) (λ e. e.1) in
      read_taken d rows used flash disk g b w star cl v df c u first.0 first.1 (omega (arith, len, ap length p)))
      (λ p q. absurd (some-slot H d free used d1 sl p q))
    where
      read_taken : (d : ℕ) (rows : List (AddressRow F)) (used : List (BlockRow F)) (flash disk : List X) (g : F) (b : X) (w : ℕ) (star : List F)
          → All (λ r. r.dirty ≡ false) rows → Nested (prints used) star
          → Distinct H.same (λ u. u.fingerprint) used → cached H g used ≡ false → (u : BlockRow F) (us : List (BlockRow F)) → used ≡ u ∷ us
          → length used ≡ d
          → ReadEnd d g rows used disk star (stored H rows used flash disk g b w (taken_row H u used))
      read_taken d rows used flash disk g b w star cl v df c u us p l =
          let k = u.slot in
          let df' : Distinct H.same (λ u. u.fingerprint) (u ∷ us) = rw p at df in
          let we : without_block H u.fingerprint used ≡ us
          = rw p (rw (H.same_refl u.fingerprint) (without-absent H.same (λ u. u.fingerprint) u.fingerprint us df'.0)) in
          let pe : prints (without_block H u.fingerprint used ++ (block_row g k ∷ [])) ≡ prints us ++ (g ∷ [])
          = ap (λ x. prints (x ++ (block_row g k ∷ []))) we ∙ map-append (λ (u : BlockRow F). u.fingerprint) us (block_row g k ∷ []) in
          let ga : has H.same (λ x. x) g (prints used) ≡ false = has-map H.same (λ (u : BlockRow F). u.fingerprint) g used ∙ c in
          let gu : has H.same (λ x. x) g (prints us) ≡ false
          = or-false-right (H.same g u.fingerprint) (has H.same (λ x. x) g (prints us)) (rw p at ga) in
          record {
            same_rows = cleaned-clean (is_lost H (some u.fingerprint)) rows cl;
            same_disk = copied-clean (is_lost H (some u.fingerprint)) rows used flash disk cl;
            blocks = pe ∙ rw (ga, put) (rw (by-test (eqb (length (prints used)) d) (λ z. z)
                (λ z. absurd (eqb-false (length (prints used)) d z (length-map used (λ (u : BlockRow F). u.fingerprint) ∙ l)))) (rw p refl));
            nested = rw pe (subst (λ l. Nested (l ++ (g ∷ [])) (without H.same (λ x. x) g star ++ (g ∷ [])))
                (without-absent H.same (λ x. x) g (prints us) gu)
                (nested-newest H.same g (prints us) star (nested-tail u.fingerprint (prints us) star (rw p at v))));
          }

  -- the step of a read
  read_step : (content : ℕ → F) (disk : List X) (N : Numbers) (s : Box F X) (a : ℕ) (b : X) (z : Seat) → Sound H N s → ReadInv content disk s
      → 1 ≤ N.m → 1 ≤ N.d
      → let t = step H N.m s (record { address = a; fingerprint = content a; block = b; dirty = false; seat = z }) in
      (map (λ r. r.address) t.box.rows ≡ put eqb N.m a (map (λ r. r.address) s.rows))
      × (prints t.box.used ≡ put H.same N.d (content a) (prints s.used)) × ReadInv content disk t.box
  unfolding step
  read_step content disk N s a b z h v m1 d1 =
      let o = step1 H N.m s a in
      let g = content a in
      let new = newest a g false z in
      let rows = o.rows ++ (new ∷ []) in
      let out = read-step1 content disk N s a z h v m1 in
      let bs : BlockRows F = record { free = s.free; used = s.used } in
      let keep : step3 H o.gone o.rows rows bs ≡ bs
      = by-step3 H o.gone o.rows rows bs (λ t. t ≡ bs) (λ q p c n u. absurd (out.keeps q p c n u)) (λ q p w. refl) (λ p. refl) in
      let cl : All (λ r. r.dirty ≡ false) rows = all_append (λ r. r.dirty ≡ false) o.rows (new ∷ []) out.clean (refl, tt) in
      let co : All (λ r. r.fingerprint ≡ content r.address) rows
      = all_append (λ r. r.fingerprint ≡ content r.address) o.rows (new ∷ []) out.contents (refl, tt) in
      let e = read-step4 N.d rows s.free s.used s.flash o.disk g b o.primary out.star cl out.order_is out.nested h.fingerprints
      h.slots d1 in
      subst (λ t. let u = step4 H rows t s.flash o.disk g b o.primary in
      (map (λ r. r.address) u.box.rows ≡ put eqb N.m a (map (λ r. r.address) s.rows))
      × (prints u.box.used ≡ put H.same N.d g (prints s.used)) × ReadInv content disk u.box)
      (sym keep) (
        ap (map (λ r. r.address)) e.same_rows ∙ out.addresses,
        e.blocks,
        record {
          clean = subst (All (λ r. r.dirty ≡ false)) (sym e.same_rows) cl;
          contents = subst (All (λ r. r.fingerprint ≡ content r.address)) (sym e.same_rows) co;
          same_disk = e.same_disk ∙ out.same_disk ∙ v.same_disk;
          nested = subst (λ l. Nested (prints (step4 H rows bs s.flash o.disk g b o.primary).box.used) (order H.same (keys l)))
              (sym e.same_rows) (rw out.order_is e.nested);
        },
      )

  abbrev pub viewed : Box F X → Printed F
  viewed s = record { addresses = map (λ r. r.address) s.rows; fingerprints = prints s.used }

  -- a read does what printed D-LRU does
  ReadSame : (disk : List X) (m d : ℕ) (s : Box F X) (a : ℕ) (o : Outcome F X) → Type 0
  ReadSame disk m d s a o =
      (viewed o.box ≡ printed_next H.same m d (content_of H disk) (viewed s) a) ×
      (o.word ≡ cond (printed_hit H.same (content_of H disk) (viewed s) a) hit miss) × ReadInv (content_of H disk) disk o.box

  read_same : (disk : List X) (N : Numbers) (s : Box F X) (a : ℕ) (o : Option (AddressRow F)) → row_with_block H s a ≡ o → Sound H N s
      → ReadInv (content_of H disk) disk s → 1 ≤ N.m → 1 ≤ N.d
      → ReadSame disk N.m N.d s a (read_as H N.m s a (at H s.disk a) o)
  unfolding read_as answer ReadSame printed_next printed_hit
  read_same disk N s a (some r) e h v m1 d1 =
      let b = block_of H r.fingerprint s.used s.flash in
      let c = if_cached-some H s.used (row_of a s.rows) r e in
      let y = find-some eqb (λ r. r.address) (λ r. (r.fingerprint ≡ content_of H disk r.address) × (r.dirty ≡ false)) a s.rows r c.0
      (all_both (λ r. r.fingerprint ≡ content_of H disk r.address) (λ r. r.dirty ≡ false) s.rows v.contents v.clean) in
      let ge : r.fingerprint ≡ content_of H disk a = y.0.0 ∙ ap (content_of H disk) (sym (eqb→≡ a r.address y.1)) in
      let ha : has eqb (λ x. x) a (map (λ r. r.address) s.rows) ≡ true = has-map eqb (λ (r : AddressRow F). r.address) a s.rows
      ∙ find-has eqb (λ (r : AddressRow F). r.address) a s.rows r c.0 in
      let hc : has H.same (λ x. x) (content_of H disk a) (prints s.used) ≡ true
      = has-map H.same (λ (u : BlockRow F). u.fingerprint) (content_of H disk a) s.used ∙ (rw ge at c.1) in
      let t = read_step (content_of H disk) disk N s a b r.seat h v m1 d1 in
      let re : step H N.m s (record { address = a; fingerprint = content_of H disk a; block = b; dirty = false; seat = r.seat })
      ≡ step H N.m s (record { address = a; fingerprint = r.fingerprint; block = b; dirty = r.dirty; seat = r.seat })
      = ap₂ (λ f w. step H N.m s (record { address = a; fingerprint = f; block = b; dirty = w; seat = r.seat })) (sym ge) (sym y.0.1) in
      subst (λ u. (viewed u.box ≡ printed_next H.same N.m N.d (content_of H disk) (viewed s) a)
      × (hit ≡ cond (printed_hit H.same (content_of H disk) (viewed s) a) hit miss) × ReadInv (content_of H disk) disk u.box) re
      (ap₂ {C = Printed F} (λ x z. record { addresses = x; fingerprints = z }) t.0 t.1, rw (ha, hc) refl, t.2)
  read_same disk N s a none e h v m1 d1 =
      let b = at H s.disk a in
      let z = seat_in (row_of a s.rows) in
      let ge : content_of H disk a ≡ H.hash b = ap (λ l. H.hash (at H l a)) (sym v.same_disk) in
      let t = read_step (content_of H disk) disk N s a b z h v m1 d1 in
      let re : step H N.m s (record { address = a; fingerprint = content_of H disk a; block = b; dirty = false; seat = z })
      ≡ step H N.m s (record { address = a; fingerprint = H.hash b; block = b; dirty = false; seat = z })
      = ap (λ f. step H N.m s (record { address = a; fingerprint = f; block = b; dirty = false; seat = z })) ge in
      let nh : printed_hit H.same (content_of H disk) (viewed s) a ≡ false
      = either (if_cached-none H s.used (row_of a s.rows) e)
      (λ n. rw (has-map eqb (λ (r : AddressRow F). r.address) a s.rows ∙ find_none eqb (λ (r : AddressRow F). r.address) a s.rows n) refl)
      (λ z. let y = find-some eqb (λ r. r.address) (λ r. r.fingerprint ≡ content_of H disk r.address) a s.rows z.0 z.1 v.contents in
      let ce : z.0.fingerprint ≡ content_of H disk a = y.0 ∙ ap (content_of H disk) (sym (eqb→≡ a z.0.address y.1)) in
      rw (has-map H.same (λ (u : BlockRow F). u.fingerprint) (content_of H disk a) s.used ∙ (rw ce at z.2))
      (and-false (has eqb (λ x. x) a (map (λ r. r.address) s.rows)))) in
      subst (λ u. (viewed u.box ≡ printed_next H.same N.m N.d (content_of H disk) (viewed s) a)
      × (miss ≡ cond (printed_hit H.same (content_of H disk) (viewed s) a) hit miss) × ReadInv (content_of H disk) disk u.box) re
      (ap₂ {C = Printed F} (λ x z. record { addresses = x; fingerprints = z }) t.0 t.1, ap (λ z. cond z hit miss) (sym nh), t.2)

  pub read-printed : (disk : List X) (N : Numbers) (s : Box F X) (a : ℕ) → Sound H N s → ReadInv (content_of H disk) disk s → 1 ≤ N.m → 1 ≤ N.d
      → let o = serve H N s (read a) in
      (viewed o.box ≡ printed_next H.same N.m N.d (content_of H disk) (viewed s) a)
      × (o.word ≡ cond (printed_hit H.same (content_of H disk) (viewed s) a) hit miss) × ReadInv (content_of H disk) disk o.box
  unfolding serve ReadSame
  read-printed disk N s a h v m1 d1 = read_same disk N s a (row_with_block H s a) refl h v m1 d1

  -- the whole list
  reads-printed : (disk : List X) (N : Numbers) (s : Box F X) (p : Printed F) (es : List Read) → viewed s ≡ p → Sound H N s → ReadInv (content_of H disk) disk s
      → 1 ≤ N.m → 1 ≤ N.d
      → All (λ e. e.refused ≡ false → e.address < N.P) es → cache_trace H N s es ≡ printed_trace H.same N.m N.d (content_of H disk) p es
  unfolding cache_trace printed_trace
  reads-printed disk N s p [] q h v m1 d1 w = refl
  reads-printed disk N s p (e ∷ es) q h v m1 d1 w =
      by-test e.refused
      (λ r. rw r (ap₂ {C = List (Compared F)} (λ x l. x ∷ l) (ap (λ z. printed_in z none) q) (reads-printed disk N s p es q h v m1 d1 w.1)))
      (λ r. rw r (
      let o = serve H N s (read e.address) in
      let t = read-printed disk N s e.address h v m1 d1 in
      let next : viewed o.box ≡ printed_next H.same N.m N.d (content_of H disk) p e.address = t.0
      ∙ ap (λ z. printed_next H.same N.m N.d (content_of H disk) z e.address) q in
      let word : o.word ≡ cond (printed_hit H.same (content_of H disk) p e.address) hit miss = t.1
      ∙ ap (λ z. cond (printed_hit H.same (content_of H disk) z e.address) hit miss) q in
      ap₂ {C = List (Compared F)} (λ x l. x ∷ l)
      (ap₂ (λ z k. printed_in z (some k)) next word)
      (reads-printed disk N o.box (printed_next H.same N.m N.d (content_of H disk) p e.address) es next
      (sound-serve H N s (read e.address) h m1 d1 (w.0 r)) t.2 m1 d1 w.1)))

  -- for every list of reads, from a fresh box over any disk and flash
  pub printed-law : (N : Numbers) (flash disk : List X) (es : List Read) → 1 ≤ N.m → 1 ≤ N.d → length flash ≡ N.d → length disk ≡ N.P
      → All (λ e. e.refused ≡ false → e.address < N.P) es
      → cache_trace H N (fresh N.d flash disk) es ≡ printed_trace H.same N.m N.d (content_of H disk) (record { addresses = []; fingerprints = [] }) es
  printed-law N flash disk es m1 d1 fl dl w =
      reads-printed disk N (fresh N.d flash disk) (record { addresses = []; fingerprints = [] }) es refl (sound-fresh H N flash disk fl dl)
      (record { clean = tt; contents = tt; same_disk = refl; nested = inl ([], refl) }) m1 d1 w
