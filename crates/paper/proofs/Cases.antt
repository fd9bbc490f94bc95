-- The cases of each step: to prove a thing of what a step leaves, prove it in each of the document's cases.
use Rattle.std.specs.Prelude.{◌≡◌, ◌⊎◌, ℕ, length}
use Rattle.std.proofs.Math.Path.{refl, subst}
use Rattle.std.proofs.Math.Bool.{true, false}
use mathlib.Core.List.{List, [], ◌∷◌, ◌++◌}
use Rattle.std.proofs.Common.{inl, inr}
use Rattle.std.proofs.Math.Option.{Option, none, some, map}
use Rattle.std.proofs.Math.Dec.{eqb}
use Rattle.paper.specs.Cache.{Hashing, AddressRow, BlockRow, Box, RowOut, BlockRows, Taken, Stepped, block_row, held, row_of, without_address}
use Rattle.paper.specs.Cache.{known, cached, without_block, slot_of, copied, copies, some_uncached, step1, step3, step4, oldest_out, freed}
use Rattle.paper.specs.Cache.{oldest_unknown, victim, taken_used, taken, stored}
use Rattle.paper.specs.KeyedLaws.{by-test}

module _ {F X : Type 0} (H : Hashing F X) where
  abbrev pub own_out : Box F X → ℕ → RowOut F X
  own_out s a = record { rows = without_address a s.rows; gone = map (λ r. r.fingerprint) (row_of a s.rows); disk = s.disk; primary = 0 }

  abbrev pub eldest_out : Box F X → AddressRow F → List (AddressRow F) → RowOut F X
  eldest_out s r rs =
      record {
        rows = rs;
        gone = some r.fingerprint;
        disk = copied H (λ f. true) (r ∷ []) s.used s.flash s.disk;
        primary = copies H (λ f. true) (r ∷ []);
      }

  abbrev pub none_out : Box F X → RowOut F X
  none_out s = record { rows = s.rows; gone = none; disk = s.disk; primary = 0 }

  pub by-step1 : (m : ℕ) (s : Box F X) (a : ℕ) (G : RowOut F X → Type 0)
      → (held a s.rows ≡ true → G (own_out s a))
      → (held a s.rows ≡ false → (r : AddressRow F) (rs : List (AddressRow F)) → s.rows ≡ r ∷ rs → eqb (length s.rows) m ≡ true → G (eldest_out s r rs))
      → (held a s.rows ≡ false → (eqb (length s.rows) m ≡ false) ⊎ (s.rows ≡ []) → G (none_out s))
      → G (step1 H m s a)
  unfolding step1 oldest_out
  by-step1 m s a G own eldest room =
      by-test (held a s.rows)
      (λ e. rw (e, step1) (own e))
      (λ e. rw (e, step1) (by-test (eqb (length s.rows) m)
      (λ f. rw f (go s.rows refl e f))
      (λ f. rw f (room e (inl f)))))
    where
      go : (l : List (AddressRow F)) → s.rows ≡ l → held a s.rows ≡ false → eqb (length s.rows) m ≡ true → G (oldest_out H s l)
      go [] p e f = subst (λ l. G (record { rows = l; gone = none; disk = s.disk; primary = 0 })) p (room e (inr p))
      go (r ∷ rs) p e f = eldest e r rs p f

  pub by-step3 : (gone : Option F) (others rows : List (AddressRow F)) (b : BlockRows F) (G : BlockRows F → Type 0)
      → ((q : F) → gone ≡ some q → cached H q b.used ≡ true → known H q rows ≡ false → some_uncached H others b.used ≡ true → G (freed H q b))
      → ((q : F) → gone ≡ some q → (cached H q b.used ≡ false) ⊎ ((known H q rows ≡ true) ⊎ (some_uncached H others b.used ≡ false)) → G b)
      → (gone ≡ none → G b)
      → G (step3 H gone others rows b)
  unfolding step3
  by-step3 none others rows b G frees keeps nothing = nothing refl
  by-step3 (some q) others rows b G frees keeps nothing =
      by-test (cached H q b.used)
      (λ c. rw c (by-test (known H q rows)
      (λ k. rw k (keeps q refl (inr (inl k))))
      (λ k. rw k (by-test (some_uncached H others b.used)
      (λ u. rw u (frees q refl c k u))
      (λ u. rw u (keeps q refl (inr (inr u))))))))
      (λ c. rw c (keeps q refl (inl c)))

  abbrev pub moved : List (AddressRow F) → List ℕ → List (BlockRow F) → List X → List X → F → ℕ → Stepped F X
  moved rows free used flash disk g w =
      record {
        box = record { rows = rows; free = free; used = without_block H g used ++ (block_row g (slot_of H g used) ∷ []); flash = flash; disk = disk };
        flash_writes = 0;
        primary_writes = w;
      }

  abbrev pub taken_free : ℕ → List ℕ → List (BlockRow F) → Taken F
  taken_free k free used = record { slot = k; lost = none; free = free; used = used }

  abbrev pub taken_row : BlockRow F → List (BlockRow F) → Taken F
  taken_row u used = record { slot = u.slot; lost = some u.fingerprint; free = []; used = without_block H u.fingerprint used }

  -- how the row to take is chosen among used ones
  abbrev pub Chosen : List (AddressRow F) → List (BlockRow F) → BlockRow F → Type 0
  Chosen rows used u = (oldest_unknown H rows used ≡ some u) ⊎ ((oldest_unknown H rows used ≡ none) × ((us : List (BlockRow F)) × (used ≡ u ∷ us)))

  pub by-step4 : (rows : List (AddressRow F)) (free : List ℕ) (used : List (BlockRow F)) (flash disk : List X) (g : F) (b : X) (w : ℕ)
      (G : Stepped F X → Type 0)
      → (cached H g used ≡ true → G (moved rows free used flash disk g w))
      → (cached H g used ≡ false → (k : ℕ) (ks : List ℕ) → free ≡ k ∷ ks → G (stored H rows used flash disk g b w (taken_free k ks used)))
      → (cached H g used ≡ false → free ≡ [] → (u : BlockRow F) → Chosen rows used u → G (stored H rows used flash disk g b w (taken_row u used)))
      → (free ≡ [] → used ≡ [] → G (stored H rows used flash disk g b w (record { slot = 0; lost = none; free = []; used = used })))
      → G (step4 H rows (record { free = free; used = used }) flash disk g b w)
  unfolding step4 taken taken_used victim
  by-step4 rows free used flash disk g b w G move takes_free takes_row empty =
      by-test (cached H g used)
      (λ c. rw (c, step4) (move c))
      (λ c. rw (c, step4) (go free refl c))
    where
      chosen : (o : Option (BlockRow F)) → oldest_unknown H rows used ≡ o → (l : List (BlockRow F)) → used ≡ l → free ≡ [] → cached H g used ≡ false
          → G (stored H rows used flash disk g b w (taken_used H (victim H o l) used))
      chosen (some u) p l q f c = takes_row c f u (inl p)
      chosen none p (u ∷ us) q f c = takes_row c f u (inr (p, (us, q)))
      chosen none p [] q f c = empty f q

      go : (l : List ℕ) → free ≡ l → cached H g used ≡ false → G (stored H rows used flash disk g b w (taken H rows l used))
      go (k ∷ ks) p c = takes_free c k ks p
      go [] p c = chosen (oldest_unknown H rows used) refl used refl p c
