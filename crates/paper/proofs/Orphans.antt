-- The orphan law: no state reached holds both an address without its block and a block without an address.
use Rattle.std.specs.Prelude.{◌≡◌, refl, Bool, false, not, ◌||◌, ◌⊎◌, ℕ, eqb}
use Rattle.std.proofs.Math.Path.{sym, subst}
use Rattle.std.proofs.Common.{ap, ◌∙◌}
use Rattle.std.proofs.Math.Bool.{true}
use Rattle.std.proofs.lemmas.Bool.{false≢true, not-false}
use mathlib.Core.List.{List, [], ◌∷◌, ◌++◌}
use Rattle.std.proofs.Math.Logic.{inl, inr}
use Rattle.std.proofs.Math.Option.{Option, none, some, none-ne-some, some-ne-none, some-injective}
use Rattle.paper.specs.Cache.{Hashing, AddressRow, BlockRow, Box, Request, newest, block_row, known, cached, without_block, slot_of, cleaned}
use Rattle.paper.specs.Cache.{Seat, is_lost, some_uncached, step, step1, step3, step4, freed, oldest_unknown, stored}
use Rattle.paper.specs.KeyedLaws.{by-test, either, clash, or_cases, or_right, or-false-left, or-false-right, eqb→≡, eqb-self, Distinct}
use Rattle.paper.specs.KeyedLaws.{has-without-other, has-without, has-without-self, has-snoc-cases, has-snoc-left, has-snoc-self, lost-with}
use Rattle.paper.proofs.Cases.{by-step1, by-step3, by-step4}

module _ {F X : Type 0} (H : Hashing F X) where
  -- every fingerprint of an address row is cached, but that of g
  abbrev AllCachedBut : F → List (AddressRow F) → List (BlockRow F) → Type 0
  AllCachedBut g rows used = (f : F) → known H f rows ≡ true → (cached H f used ≡ true) ⊎ (f ≡ g)

  abbrev pub AllCached : List (AddressRow F) → List (BlockRow F) → Type 0
  AllCached rows used = (f : F) → known H f rows ≡ true → cached H f used ≡ true

  -- every cached fingerprint is that of an address row
  abbrev pub AllKnown : List (AddressRow F) → List (BlockRow F) → Type 0
  AllKnown rows used = (f : F) → cached H f used ≡ true → known H f rows ≡ true

  abbrev pub NoWaste : List (AddressRow F) → List (BlockRow F) → Type 0
  NoWaste rows used = AllCached rows used ⊎ AllKnown rows used

  -- the two tests, read
  pub all_cached : (rows : List (AddressRow F)) (used : List (BlockRow F)) → some_uncached H rows used ≡ false → AllCached rows used
  all_cached [] used e f h = absurd (false≢true h)
  all_cached (r ∷ rs) used e f h =
      either (or_cases (H.same f r.fingerprint) (known H f rs) h)
      (λ t. rw (H.same→≡ f r.fingerprint t) (not-false (cached H r.fingerprint used)
      (or-false-left (not (cached H r.fingerprint used)) (some_uncached H rs used) e)))
      (λ t. all_cached rs used (or-false-right (not (cached H r.fingerprint used)) (some_uncached H rs used) e) f t)

  pub oldest_unknown-none : (rows : List (AddressRow F)) (used : List (BlockRow F)) → oldest_unknown H rows used ≡ none → AllKnown rows used
  unfolding oldest_unknown
  oldest_unknown-none rows [] = λ e f h. absurd (false≢true h)
  oldest_unknown-none rows (u ∷ us) =
      by-test (known H u.fingerprint rows)
      (λ k. rw k (λ e f h. either (or_cases (H.same f u.fingerprint) (cached H f us) h)
      (λ t. rw (H.same→≡ f u.fingerprint t) k)
      (λ t. oldest_unknown-none rows us e f t)))
      (λ k. rw k (λ e. absurd (some-ne-none u e)))

  pub oldest_unknown-some : (rows : List (AddressRow F)) (used : List (BlockRow F)) (v : BlockRow F) → oldest_unknown H rows used ≡ some v
      → known H v.fingerprint rows ≡ false
  unfolding oldest_unknown
  oldest_unknown-some rows [] v = λ e. absurd (none-ne-some v e)
  oldest_unknown-some rows (u ∷ us) v =
      by-test (known H u.fingerprint rows)
      (λ k. rw k (λ e. oldest_unknown-some rows us v e))
      (λ k. rw k (λ e. subst (λ x. known H x.fingerprint rows ≡ false) (some-injective u v e) k))

  pub known-cleaned : (c : F → Bool) (f : F) (rows : List (AddressRow F)) → known H f (cleaned H c rows) ≡ known H f rows
  known-cleaned c f [] = refl
  known-cleaned c f (r ∷ rs) = ap (λ b. H.same f r.fingerprint || b) (known-cleaned c f rs)

  -- cached after a row is taken out and the row of g becomes newest
  pub cached-out : (v f g : F) (k : ℕ) (used : List (BlockRow F)) → cached H f (without_block H v used ++ (block_row g k ∷ [])) ≡ true
      → (cached H f used ≡ true) ⊎ (f ≡ g)
  cached-out v f g k used h =
      either (has-snoc-cases H.same (λ u. u.fingerprint) H.same→≡ H.same_refl f (without_block H v used) (block_row g k) h)
      (λ t. inl (has-without-other H.same (λ u. u.fingerprint) H.same (λ u. u.fingerprint) f v used t))
      (λ t. inr t)

  pub cached-in : (v f g : F) (k : ℕ) (used : List (BlockRow F)) → cached H f used ≡ true → H.same v f ≡ false
      → cached H f (without_block H v used ++ (block_row g k ∷ [])) ≡ true
  cached-in v f g k used h n =
      has-snoc-left H.same (λ u. u.fingerprint) H.same→≡ H.same_refl f (without_block H v used) (block_row g k)
      (has-without H.same (λ u. u.fingerprint) H.same→≡ H.same_refl f v used n ∙ h)

  pub cached-self : (f g : F) (k : ℕ) (used : List (BlockRow F)) → f ≡ g → cached H f (used ++ (block_row g k ∷ [])) ≡ true
  cached-self f g k used e = rw e (has-snoc-self H.same (λ u. u.fingerprint) H.same→≡ H.same_refl used (block_row g k))

  pub cached-add : (f g : F) (k : ℕ) (used : List (BlockRow F)) → cached H f used ≡ true → cached H f (used ++ (block_row g k ∷ [])) ≡ true
  cached-add f g k used h = has-snoc-left H.same (λ u. u.fingerprint) H.same→≡ H.same_refl f used (block_row g k) h

  pub cached-added : (f g : F) (k : ℕ) (used : List (BlockRow F)) → cached H f (used ++ (block_row g k ∷ [])) ≡ true → (cached H f used ≡ true) ⊎ (f ≡ g)
  cached-added f g k used h = has-snoc-cases H.same (λ u. u.fingerprint) H.same→≡ H.same_refl f used (block_row g k) h

  -- a known fingerprint is not an unknown one
  pub apart : (v f : F) (rows : List (AddressRow F)) → known H f rows ≡ true → known H v rows ≡ false → H.same v f ≡ false
  apart v f rows k n = by-test (H.same v f) (λ t. clash k (rw (H.same→≡ v f t) at n)) (λ e. e)

  -- Step 4 keeps the law
  no_waste-step4 : (rows : List (AddressRow F)) (free : List ℕ) (used : List (BlockRow F)) (flash disk : List X) (g : F) (b : X) (w : ℕ)
      → known H g rows ≡ true → AllCachedBut g rows used ⊎ AllKnown rows used
      → let t = step4 H rows (record { free = free; used = used }) flash disk g b w in NoWaste t.box.rows t.box.used
  unfolding stored
  no_waste-step4 rows free used flash disk g b w kg law =
      by-step4 H rows free used flash disk g b w (λ t. NoWaste t.box.rows t.box.used)
      (λ c. either law
      (λ l. inl (λ f h. by-test (H.same g f)
      (λ t. cached-self f g (slot_of H g used) (without_block H g used) (sym (H.same→≡ g f t)))
      (λ n. either (l f h) (λ t. cached-in g f g (slot_of H g used) used t n) (λ t. cached-self f g (slot_of H g used) (without_block H g used) t))))
      (λ l. inr (λ f h. either (cached-out g f g (slot_of H g used) used h) (λ t. l f t) (λ t. rw t kg))))
      (λ c k ks p. either law
      (λ l. inl (λ f h. either (l f (sym (known-cleaned (is_lost H none) f rows) ∙ h)) (λ t. cached-add f g k used t) (λ t. cached-self f g k used t)))
      (λ l. inr (λ f h. known-cleaned (is_lost H none) f rows ∙ either (cached-added f g k used h) (λ t. l f t) (λ t. rw t kg))))
      (λ c p u ch. let lost = is_lost H (some u.fingerprint) in
      let known_out : AllKnown rows used → AllKnown (cleaned H lost rows) (without_block H u.fingerprint used ++ (block_row g u.slot ∷ []))
      = λ l f h. known-cleaned lost f rows ∙ either (cached-out u.fingerprint f g u.slot used h) (λ t. l f t) (λ t. rw t kg) in
      either ch
      (λ o. either law
      (λ l. inl (λ f h. let kf = sym (known-cleaned lost f rows) ∙ h in
      either (l f kf)
      (λ t. cached-in u.fingerprint f g u.slot used t (apart u.fingerprint f rows kf (oldest_unknown-some rows used u o)))
      (λ t. cached-self f g u.slot (without_block H u.fingerprint used) t)))
      (λ l. inr (known_out l)))
      (λ o. inr (known_out (oldest_unknown-none rows used o.0))))
      (λ p q. inr (λ f h. known-cleaned (is_lost H none) f rows ∙ either (cached-added f g 0 used h) (λ t. absurd (false≢true (rw q at t))) (λ t. rw t kg)))

  -- Step 1 loses no fingerprint of a row but that of the row taken out
  known-step1 : (m : ℕ) (s : Box F X) (a : ℕ) → Distinct eqb (λ r. r.address) s.rows
      → let o = step1 H m s a in
      ((f : F) → known H f o.rows ≡ true → known H f s.rows ≡ true) ×
      ((f : F) → known H f s.rows ≡ true → (known H f o.rows ≡ true) ⊎ (o.gone ≡ some f))
  known-step1 m s a d =
      by-step1 H m s a (λ o. ((f : F) → known H f o.rows ≡ true → known H f s.rows ≡ true) ×
      ((f : F) → known H f s.rows ≡ true → (known H f o.rows ≡ true) ⊎ (o.gone ≡ some f)))
      (λ e. (
        λ f h. has-without-other eqb (λ r. r.address) H.same (λ r. r.fingerprint) f a s.rows h,
        λ f h. lost-with eqb (λ r. r.address) eqb→≡ eqb-self H.same (λ r. r.fingerprint) H.same→≡ f a s.rows d h,
      ))
      (λ e r rs p n. (
        λ f h. rw p (or_right (H.same f r.fingerprint) (known H f rs) h),
        λ f h. either (or_cases (H.same f r.fingerprint) (known H f rs) (rw p at h))
            (λ t. inr (ap {B = Option F} some (sym (H.same→≡ f r.fingerprint t)))) (λ t. inl t),
      ))
      (λ e p. (λ f h. h, λ f h. inl h))

  -- Steps 1 to 3 leave every row but the newest with its block, or every block with an address
  no_waste-step3 : (m : ℕ) (s : Box F X) (a : ℕ) (g : F) (w : Bool) (z : Seat) → Distinct eqb (λ r. r.address) s.rows → NoWaste s.rows s.used
      → let o = step1 H m s a in let rows = o.rows ++ (newest a g w z ∷ []) in
      let t = step3 H o.gone o.rows rows (record { free = s.free; used = s.used }) in AllCachedBut g rows t.used ⊎ AllKnown rows t.used
  unfolding freed
  no_waste-step3 m s a g w z d law =
      let o = step1 H m s a in
      let rows = o.rows ++ (newest a g w z ∷ []) in
      let into : (f : F) → known H f rows ≡ true → (known H f o.rows ≡ true) ⊎ (f ≡ g)
      = λ f. has-snoc-cases H.same (λ r. r.fingerprint) H.same→≡ H.same_refl f o.rows (newest a g w z) in
      let up : (f : F) → known H f o.rows ≡ true → known H f rows ≡ true
      = λ f. has-snoc-left H.same (λ r. r.fingerprint) H.same→≡ H.same_refl f o.rows (newest a g w z) in
      let sub = (known-step1 m s a d).0 in
      let lost = (known-step1 m s a d).1 in
      by-step3 H o.gone o.rows rows (record { free = s.free; used = s.used }) (λ t. AllCachedBut g rows t.used ⊎ AllKnown rows t.used)
      (λ q p c n u. either law
      (λ l. inl (λ f h. either (into f h)
      (λ t. inl (has-without H.same (λ u. u.fingerprint) H.same→≡ H.same_refl f q s.used (apart q f rows h n) ∙ l f (sub f t)))
      (λ t. inr t)))
      (λ l. inr (λ f h.
      let cf = has-without-other H.same (λ u. u.fingerprint) H.same (λ u. u.fingerprint) f q s.used h in
      either (lost f (l f cf))
      (λ t. up f t)
      (λ t. clash (rw (← some-injective q f (sym p ∙ t)) at h) (has-without-self H.same (λ u. u.fingerprint) q s.used)))))
      (λ q p why. either law
      (λ l. inl (λ f h. either (into f h) (λ t. inl (l f (sub f t))) (λ t. inr t)))
      (λ l. either why
      (λ c. inr (λ f h. either (lost f (l f h)) (λ t. up f t) (λ t. clash h (rw (some-injective q f (sym p ∙ t)) at c))))
      (λ why'. either why'
      (λ k. inr (λ f h. either (lost f (l f h)) (λ t. up f t) (λ t. rw (some-injective q f (sym p ∙ t)) at k)))
      (λ u. inl (λ f h. either (into f h) (λ t. inl (all_cached o.rows s.used u f t)) (λ t. inr t))))))
      (λ p. either law
      (λ l. inl (λ f h. either (into f h) (λ t. inl (l f (sub f t))) (λ t. inr t)))
      (λ l. inr (λ f h. either (lost f (l f h)) (λ t. up f t) (λ t. absurd (none-ne-some f (sym p ∙ t))))))

  pub no_waste-step : (m : ℕ) (s : Box F X) (q : Request F X) → Distinct eqb (λ r. r.address) s.rows → NoWaste s.rows s.used
      → let t = step H m s q in NoWaste t.box.rows t.box.used
  unfolding step
  no_waste-step m s q d law =
      let o = step1 H m s q.address in
      let rows = o.rows ++ (newest q.address q.fingerprint q.dirty q.seat ∷ []) in
      let t = step3 H o.gone o.rows rows (record { free = s.free; used = s.used }) in
      no_waste-step4 rows t.free t.used s.flash o.disk q.fingerprint q.block o.primary
      (has-snoc-self H.same (λ r. r.fingerprint) H.same→≡ H.same_refl o.rows (newest q.address q.fingerprint q.dirty q.seat))
      (no_waste-step3 m s q.address q.fingerprint q.dirty q.seat d law)
