-- The orphan law: each call keeps what it follows from.
use Rattle.std.specs.Prelude.{◌≡◌, refl, Bool, true, false, not, ◌&&◌, cond, List, [], ◌∷◌, ◌⊎◌, ℕ, ◌≤◌, length, get_or}
use Rattle.std.proofs.Common.{sym, ap, ◌∙◌}
use Rattle.std.proofs.lemmas.Bool.{false≢true}
use Rattle.std.proofs.Math.Logic.{inl, inr}
use Rattle.std.proofs.Math.Option.{Option, none, some, map, none-ne-some, some-injective}
use Rattle.std.proofs.Math.Dec.{eqb}
use Rattle.paper.specs.Cache.{Numbers, Hashing, AddressRow, BlockRow, Box, BlockRows, row_of, without_address, known, cached, block_of}
use Rattle.paper.specs.Cache.{some_uncached, Call, read, through, back, invalidate, look, flush, on_disk, row_with_block, answer, read_as, write_through}
use Rattle.paper.specs.Cache.{seat_in, back_request, write_back, dropped, write_invalidate, look_as, flushed, excess}
use Rattle.paper.specs.Cache.{step, reach, partly, serve, fresh, freed}
use Rattle.paper.specs.KeyedLaws.{by-test, either, clash, or_left, or_right, or-both, eqb→≡, eqb-self, All, Distinct, has-without-other}
use Rattle.paper.specs.KeyedLaws.{has-without, has-without-self, lost-with}
use Rattle.paper.specs.Machines.{some_unknown, OrphanLaw, plain_next}
use Rattle.paper.proofs.Orphans.{NoWaste, no_waste-step, apart}
use Rattle.paper.proofs.PartlyLaws.{known-partly}

module _ {F X : Type 0} (H : Hashing F X) where
  pub no_waste-read_as : (m : ℕ) (s : Box F X) (a : ℕ) (x : X) (o : Option (AddressRow F)) → Distinct eqb (λ r. r.address) s.rows
      → NoWaste H s.rows s.used
      → NoWaste H (read_as H m s a x o).box.rows (read_as H m s a x o).box.used
  unfolding read_as answer
  no_waste-read_as m s a x (some r) d l =
      let b = block_of H r.fingerprint s.used s.flash in
      no_waste-step H m s (record { address = a; fingerprint = r.fingerprint; block = b; dirty = r.dirty; seat = r.seat }) d l
  no_waste-read_as m s a x none d l =
      no_waste-step H m s (record { address = a; fingerprint = H.hash x; block = x; dirty = false; seat = seat_in (row_of a s.rows) }) d l

  no_waste-look_as : (s : Box F X) (a : ℕ) (o : Option (AddressRow F)) → NoWaste H s.rows s.used
      → NoWaste H (look_as H s a o).box.rows (look_as H s a o).box.used
  unfolding look_as
  no_waste-look_as s a (some r) l = l
  no_waste-look_as s a none l = l

  -- the row of a is taken out, and its block is freed if no row has it now
  no_waste-dropped : (rows rows' : List (AddressRow F)) (b : BlockRows F) (o : Option (AddressRow F)) → NoWaste H rows b.used
      → ((f : F) → known H f rows' ≡ true → known H f rows ≡ true)
      → ((f : F) → known H f rows ≡ true → (known H f rows' ≡ true) ⊎ (map (λ r. r.fingerprint) o ≡ some f))
      → NoWaste H rows' (dropped H rows' b o).used
  unfolding dropped freed
  no_waste-dropped rows rows' b none (inl l) sub lost = inl (λ f h. l f (sub f h))
  no_waste-dropped rows rows' b none (inr l) sub lost = inr (λ f h. either (lost f (l f h)) (λ t. t) (λ t. absurd (none-ne-some f t)))
  no_waste-dropped rows rows' b (some r) law sub lost =
      let q = r.fingerprint in
      by-test (known H q rows')
      (λ k. rw k (either law
      (λ l. inl (λ f h. l f (sub f h)))
      (λ l. inr (λ f h. either (lost f (l f h)) (λ t. t) (λ t. rw (some-injective q f t) at k)))))
      (λ k. rw k (by-test (cached H q b.used)
      (λ c. rw c (either law
      (λ l. inl (λ f h. has-without H.same (λ u. u.fingerprint) H.same→≡ H.same_refl f q b.used (apart H q f rows' h k) ∙ l f (sub f h)))
      (λ l. inr (λ f h. either (lost f (l f (has-without-other H.same (λ u. u.fingerprint) H.same (λ u. u.fingerprint) f q b.used h))) (λ t. t)
      (λ t. clash (rw (← some-injective q f t) at h) (has-without-self H.same (λ u. u.fingerprint) q b.used))))))
      (λ c. rw c (either law
      (λ l. inl (λ f h. l f (sub f h)))
      (λ l. inr (λ f h. either (lost f (l f h)) (λ t. t) (λ t. clash h (rw (some-injective q f t) at c))))))))

  no_waste-invalidate : (s : Box F X) (a : ℕ) (b : X) → Distinct eqb (λ r. r.address) s.rows → NoWaste H s.rows s.used
      → NoWaste H (write_invalidate H s a b).box.rows (write_invalidate H s a b).box.used
  unfolding write_invalidate
  no_waste-invalidate s a b d l =
      no_waste-dropped s.rows (without_address a s.rows) (record { free = s.free; used = s.used }) (row_of a s.rows) l
      (λ f h. has-without-other eqb (λ r. r.address) H.same (λ r. r.fingerprint) f a s.rows h)
      (λ f h. lost-with eqb (λ r. r.address) eqb→≡ eqb-self H.same (λ r. r.fingerprint) H.same→≡ f a s.rows d h)

  no_waste-partly : (i : ℕ) (rows : List (AddressRow F)) (used : List (BlockRow F)) → NoWaste H rows used → NoWaste H (partly H i rows) used
  no_waste-partly i rows used (inl l) = inl (λ f h. l f (sym (known-partly H i f rows) ∙ h))
  no_waste-partly i rows used (inr l) = inr (λ f h. known-partly H i f rows ∙ l f h)

  pub no_waste-serve : (N : Numbers) (s : Box F X) (c : Call X) → Distinct eqb (λ r. r.address) s.rows → NoWaste H s.rows s.used
      → NoWaste H (serve H N s c).box.rows (serve H N s c).box.used
  unfolding serve write_through write_back answer flushed
  no_waste-serve N s (read a) d l = no_waste-read_as N.m s a (get_or s.disk a H.blank) (row_with_block H s a) d l
  no_waste-serve N s (look a) d l = no_waste-look_as s a (row_with_block H s a) l
  no_waste-serve N s (through a b z) d l =
      no_waste-step H N.m (on_disk H s a b) (record { address = a; fingerprint = H.hash b; block = b; dirty = false; seat = z }) d l
  no_waste-serve N s (back a b z) d l =
      let t = step H N.m s (back_request H s a b z) in
      no_waste-partly (reach H (excess H N.t t.box.rows) t.box.rows) t.box.rows t.box.used
      (no_waste-step H N.m s (back_request H s a b z) d l)
  no_waste-serve N s (invalidate a b z) d l = no_waste-invalidate s a b d l
  no_waste-serve N s (flush k) d l = no_waste-partly (reach H k s.rows) s.rows s.used l

  -- the law as the document states it: never both
  pub uncached-not : (rows : List (AddressRow F)) (used : List (BlockRow F))
      → ((r : AddressRow F) → known H r.fingerprint rows ≡ true → cached H r.fingerprint used ≡ true) → some_uncached H rows used ≡ false
  uncached-not [] used l = refl
  uncached-not (r ∷ rs) used l =
      or-both (not (cached H r.fingerprint used)) (some_uncached H rs used)
      (ap not (l r (or_left (H.same r.fingerprint r.fingerprint) (known H r.fingerprint rs) (H.same_refl r.fingerprint))))
      (uncached-not rs used (λ x h. l x (or_right (H.same x.fingerprint r.fingerprint) (known H x.fingerprint rs) h)))

  pub unknown-not : (rows : List (AddressRow F)) (used : List (BlockRow F))
      → ((u : BlockRow F) → cached H u.fingerprint used ≡ true → known H u.fingerprint rows ≡ true) → some_unknown H rows used ≡ false
  unknown-not rows [] l = refl
  unknown-not rows (u ∷ us) l =
      or-both (not (known H u.fingerprint rows)) (some_unknown H rows us)
      (ap not (l u (or_left (H.same u.fingerprint u.fingerprint) (cached H u.fingerprint us) (H.same_refl u.fingerprint))))
      (unknown-not rows us (λ x h. l x (or_right (H.same x.fingerprint u.fingerprint) (cached H x.fingerprint us) h)))

  pub never_both : (rows : List (AddressRow F)) (used : List (BlockRow F)) → NoWaste H rows used → (some_uncached H rows used && some_unknown H rows used) ≡ false
  never_both rows used (inl l) = rw (uncached-not rows used (λ r h. l r.fingerprint h)) refl
  never_both rows used (inr l) = by-test (some_uncached H rows used) (λ e. rw e (unknown-not rows used (λ u h. l u.fingerprint h))) (λ e. rw e refl)
