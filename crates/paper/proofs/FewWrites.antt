-- A call stores at most one block, copies at most m + 1 blocks to disk, and leaves at most t rows dirty: each block that is copied for a row was a dirty
-- row's, which is then clean or gone.
use Rattle.std.specs.Prelude.{◌≡◌, Bool, true, false, ◌&&◌, List, [], ◌∷◌, ◌++◌, ℕ, ◌≤◌, ◌<◌, ◌+◌, eqb, ltb, length, get_or}
use Rattle.std.proofs.Math.Path.{refl}
use Rattle.std.proofs.Common.{subst, arith}
use Rattle.std.proofs.Math.Option.{Option, none, some, none-ne-some, some-injective}
use borrow.Author.Tests.{ltb-false}
use Rattle.paper.specs.Cache.{Numbers, Hashing, AddressRow, Box, BlockRows, Stepped, Request, Outcome, Word, newest, copies, cleaned, is_lost, step, step1}
use Rattle.paper.specs.Cache.{step3, step4, stored, without_address, dirty_rows, limited, Call, read, through, back, invalidate, look, flush, on_disk}
use Rattle.paper.specs.Cache.{row_with_block, answer, read_as, write_through, Seat, seat_in, row_of, back_request, write_back, write_invalidate, look_as, flushed}
use Rattle.paper.specs.Cache.{reach, serve, one_if, is_hit, same_or_new, block_of, hit, miss}
use Rattle.paper.specs.KeyedLaws.{by-test, without-absent}
use Rattle.paper.proofs.PartlyLaws.{parts-sum, left-dirty, dirty-few}
use Rattle.paper.proofs.Cases.{by-step1, by-step4}
use Rattle.paper.specs.Sound.{Sound}
use Rattle.paper.proofs.PlainDiskLaws.{if_cached-some}

pub one-if-le : (b : Bool) → one_if b ≤ 1
one-if-le true = omega arith
one-if-le false = omega arith

module _ {F X : Type 0} (H : Hashing F X) where
  -- how many rows are dirty: where an address's row leaves, where one joins, and where some become clean
  pub fewer-without : (x : ℕ) (rows : List (AddressRow F)) → dirty_rows H (without_address x rows) ≤ dirty_rows H rows
  fewer-without x [] = omega arith
  fewer-without x (r ∷ rs) =
      let ih = fewer-without x rs in
      by-test (eqb x r.address) (λ e. rw e (omega (arith, ih))) (λ e. rw e (omega (arith, ih)))

  pub dirty-out : (x : ℕ) (rows : List (AddressRow F)) (r : AddressRow F) → row_of x rows ≡ some r
      → dirty_rows H (r ∷ []) + dirty_rows H (without_address x rows) ≤ dirty_rows H rows
  dirty-out x [] r = λ h. absurd (none-ne-some r h)
  dirty-out x (y ∷ ys) r =
      by-test (eqb x y.address)
      (λ e. rw e (λ h. subst (λ z. dirty_rows H (z ∷ []) + dirty_rows H (without_address x ys) ≤ dirty_rows H (y ∷ ys)) (some-injective y r h)
      (let w = fewer-without x ys in omega (arith, w))))
      (λ e. rw e (λ h. let ih = dirty-out x ys r h in omega (arith, ih)))

  pub dirty-one : (r : AddressRow F) → dirty_rows H (r ∷ []) ≡ one_if r.dirty
  dirty-one r = by-test r.dirty (λ e. rw e refl) (λ e. rw e refl)

  pub dirty-added : (r : AddressRow F) (rows : List (AddressRow F)) → dirty_rows H (rows ++ (r ∷ [])) ≡ dirty_rows H rows + one_if r.dirty
  dirty-added r [] = omega (arith, dirty-one r)
  dirty-added r (x ∷ xs) = let ih = dirty-added r xs in omega (arith, ih)

  pub dirty-cleaned : (c : F → Bool) (rows : List (AddressRow F)) → copies H c rows + dirty_rows H (cleaned H c rows) ≤ dirty_rows H rows
  dirty-cleaned c [] = omega arith
  dirty-cleaned c (r ∷ rs) =
      let ih = dirty-cleaned c rs in
      by-test r.dirty
      (λ e. rw e (by-test (c r.fingerprint) (λ f. rw f (omega (arith, ih))) (λ f. rw f (omega (arith, ih)))))
      (λ e. rw e (omega (arith, ih)))

  -- the writes so far and the dirty rows are at most n, and at most one block is stored
  abbrev pub Spent : ℕ → Stepped F X → Type 0
  Spent n t = (t.primary_writes + dirty_rows H t.box.rows ≤ n) × (t.flash_writes ≤ 1)

  -- the dirty rows that a step may copy: those of other addresses, and its own
  abbrev pub may_copy : List (AddressRow F) → ℕ → Bool → ℕ
  may_copy rows a w = dirty_rows H (without_address a rows) + one_if w

  spent-step1 : (m : ℕ) (s : Box F X) (a : ℕ)
      → (step1 H m s a).primary + dirty_rows H (step1 H m s a).rows ≤ dirty_rows H (without_address a s.rows)
  spent-step1 m s a =
      by-step1 H m s a (λ o. o.primary + dirty_rows H o.rows ≤ dirty_rows H (without_address a s.rows))
      (λ e. omega arith)
      (λ e r rs p n. rw (without-absent eqb (λ r. r.address) a s.rows e, p) (omega arith))
      (λ e p. rw (without-absent eqb (λ r. r.address) a s.rows e) (omega arith))

  spent-step4 : (rows : List (AddressRow F)) (t : BlockRows F) (flash disk : List X) (g : F) (b : X) (w n : ℕ) → w + dirty_rows H rows ≤ n
      → Spent n (step4 H rows t flash disk g b w)
  unfolding stored
  spent-step4 rows t flash disk g b w n h =
      let lost : (c : F → Bool) → (w + copies H c rows) + dirty_rows H (cleaned H c rows) ≤ n = λ c. (let k = dirty-cleaned c rows in omega (arith, h, k)) in
      by-step4 H rows t.free t.used flash disk g b w (Spent n)
      (λ c. (h, omega arith))
      (λ c k ks p. (lost (is_lost H none), omega arith))
      (λ c p u ch. (lost (is_lost H (some u.fingerprint)), omega arith))
      (λ p q. (lost (is_lost H none), omega arith))

  pub spent-step : (m : ℕ) (s : Box F X) (q : Request F X) → Spent (may_copy s.rows q.address q.dirty) (step H m s q)
  unfolding step
  spent-step m s q =
      let o = step1 H m s q.address in
      let new = newest q.address q.fingerprint q.dirty q.seat in
      let rows = o.rows ++ (new ∷ []) in
      let bs = step3 H o.gone o.rows rows (record { free = s.free; used = s.used }) in
      let h = spent-step1 m s q.address in
      let a = dirty-added new o.rows in
      spent-step4 rows bs s.flash o.disk q.fingerprint q.block o.primary (may_copy s.rows q.address q.dirty) (omega (arith, h, a))

  -- What a call does to a box with rows `rows` under a limit t
  pub record Tally (t : ℕ) (rows : List (AddressRow F)) (o : Outcome F X) : Type 0 where
    pub writes : o.primary_writes ≤ dirty_rows H rows + 1
    pub stored : o.flash_writes ≤ 1
    -- "Every reachable state has at most t dirty rows."
    pub few : dirty_rows H rows ≤ t → dirty_rows H o.box.rows ≤ t

  module _ (t : ℕ) (rows : List (AddressRow F)) (a : ℕ) (x : Stepped F X) where
    -- of a step that makes its row dirty only where it was, after so many writes of the call itself
    tally-clean : (w : Word) (b : Option X) (more : ℕ) (v : Bool) → more ≤ 1 → may_copy rows a v ≤ dirty_rows H rows → Spent (may_copy rows a v) x
        → Tally t rows (answer H w b more x)
    unfolding answer
    tally-clean w b more v l k h = let h₀ = h.0 in record { writes = omega (arith, l, k, h₀); stored = h.1; few = λ f. omega (arith, k, h₀, f) }

    -- a read that hits, and one that misses
    pub tally-hit : (b : Option X) (r : AddressRow F) → row_of a rows ≡ some r → Spent (may_copy rows a r.dirty) x → Tally t rows (answer H hit b 0 x)
    tally-hit b r e h = tally-clean hit b 0 r.dirty (omega arith) (let k = dirty-out a rows r e in let o = dirty-one r in omega (arith, k, o)) h

    pub tally-miss : (b : Option X) → Spent (may_copy rows a false) x → Tally t rows (answer H miss b 0 x)
    tally-miss b h = tally-clean miss b 0 false (omega arith) (let k = fewer-without a rows in omega (arith, k)) h

    pub tally-through : (w : Word) → Spent (may_copy rows a false) x → Tally t rows (answer H w none 1 x)
    tally-through w h = tally-clean w none 1 false (omega arith) (let k = fewer-without a rows in omega (arith, k)) h

    pub tally-back : (w : Word) (v : Bool) → Spent (may_copy rows a v) x → Tally t rows (limited H t (answer H w none 0 x))
    unfolding answer flushed
    tally-back w v h =
        let h₀ = h.0 in
        let k = fewer-without a rows in
        let l = one-if-le v in
        let after = x.box.rows in
        by-test (ltb t (dirty_rows H after))
        (λ y. rw y (
        let s = parts-sum H (reach H 1 after) after in
        let d = left-dirty H 1 x.box in
        record { writes = omega (arith, h₀, k, l, s); stored = h.1; few = λ f. omega (arith, h₀, k, l, d, f) }))
        (λ y. rw y (
        let s = parts-sum H (reach H 0 after) after in
        let d = left-dirty H 0 x.box in
        let u = ltb-false t (dirty_rows H after) y in
        record { writes = omega (arith, h₀, k, l, s); stored = h.1; few = λ f. omega (arith, d, u) }))

  pub tally-invalidate : (t : ℕ) (s : Box F X) (a : ℕ) (b : X) → Tally t s.rows (write_invalidate H s a b)
  unfolding write_invalidate
  tally-invalidate t s a b =
      let k = fewer-without a s.rows in
      record { writes = omega arith; stored = omega arith; few = λ f. omega (arith, k, f) }

  pub tally-look : (t : ℕ) (s : Box F X) (a : ℕ) (o : Option (AddressRow F)) → Tally t s.rows (look_as H s a o)
  unfolding look_as
  tally-look t s a (some r) = record { writes = omega arith; stored = omega arith; few = λ f. f }
  tally-look t s a none = record { writes = omega arith; stored = omega arith; few = λ f. f }

  pub tally-flush : (t k : ℕ) (s : Box F X) → Tally t s.rows (flushed H k s)
  unfolding flushed
  tally-flush t k s =
      let c = parts-sum H (reach H k s.rows) s.rows in
      record { writes = omega (arith, c); stored = omega arith; few = λ f. omega (arith, c, f) }

  -- the calls of a D-LRU box
  pub tally-read_as : (t m : ℕ) (s : Box F X) (a : ℕ) (x : X) (o : Option (AddressRow F)) → row_with_block H s a ≡ o → Tally t s.rows (read_as H m s a x o)
  unfolding read_as
  tally-read_as t m s a x (some r) e =
      let b = block_of H r.fingerprint s.used s.flash in
      let q : Request F X = record { address = a; fingerprint = r.fingerprint; block = b; dirty = r.dirty; seat = r.seat } in
      tally-hit t s.rows a (step H m s q) (some b) r (if_cached-some H s.used (row_of a s.rows) r e).0 (spent-step m s q)
  tally-read_as t m s a x none e =
      let q : Request F X = record { address = a; fingerprint = H.hash x; block = x; dirty = false; seat = seat_in (row_of a s.rows) } in
      tally-miss t s.rows a (step H m s q) (some x) (spent-step m s q)

  pub tally-serve : (N : Numbers) (s : Box F X) (c : Call X) → Tally N.t s.rows (serve H N s c)
  unfolding serve write_through write_back
  tally-serve N s (read a) = tally-read_as N.t N.m s a (get_or s.disk a H.blank) (row_with_block H s a) refl
  tally-serve N s (through a b z) =
      let q : Request F X = record { address = a; fingerprint = H.hash b; block = b; dirty = false; seat = z } in
      tally-through N.t s.rows a (step H N.m (on_disk H s a b) q) (same_or_new H s b) (spent-step N.m (on_disk H s a b) q)
  tally-serve N s (back a b z) =
      let q : Request F X = back_request H s a b z in
      tally-back N.t s.rows a (step H N.m s q) (same_or_new H s b) q.dirty (spent-step N.m s q)
  tally-serve N s (invalidate a b z) = tally-invalidate N.t s a b
  tally-serve N s (look a) = tally-look N.t s a (row_with_block H s a)
  tally-serve N s (flush k) = tally-flush N.t k s

  -- what a served call adds: at most one block stored and m + 1 copied
  abbrev pub FewBy : ℕ → Outcome F X → Type 0
  FewBy n o = (o.flash_writes ≤ 1) × (o.primary_writes ≤ n)

  pub few-by : (N : Numbers) (t : ℕ) (s : Box F X) (o : Outcome F X) → Sound H N s → Tally t s.rows o → FewBy (N.m + 1) o
  few-by N t s o h y =
      let f = h.few in
      let w = y.writes in
      (y.stored, omega (arith, f, w, dirty-few H s.rows))

  pub serve-few : (N : Numbers) (s : Box F X) (c : Call X) → Sound H N s → FewBy (N.m + 1) (serve H N s c)
  serve-few N s c h = few-by N N.t s (serve H N s c) h (tally-serve N s c)

  -- a look adds nothing
  pub look-nothing : (N : Numbers) (s : Box F X) (a : ℕ)
      → let o = serve H N s (look a) in (is_hit o.word ≡ false) × (o.flash_writes ≡ 0) × (o.primary_writes ≡ 0)
  unfolding serve look_as
  look-nothing N s a = go (row_with_block H s a)
    where
      go : (o : Option (AddressRow F)) → let y = look_as H s a o in (is_hit y.word ≡ false) × (y.flash_writes ≡ 0) × (y.primary_writes ≡ 0)
      go (some r) = (refl, refl, refl)
      go none = (refl, refl, refl)
