-- Boxes, requests and steps made bare: every seat is 0, and where `keep` is false every row is clean, the disk is empty and no primary write is counted. What a
-- policy must promise to be blind to what is dropped, and that D-LRU is.
-- Assumes nothing.
use Rattle.std.specs.Prelude.{◌≡◌, Bool, true, false, ◌&&◌, ◌||◌, eqb, length}
use Rattle.std.proofs.Math.Path.{refl, ap, ap₂}
use Rattle.std.proofs.Common.{◌∙◌}
use Rattle.std.proofs.Math.Bool.{not, cond}
use mathlib.Core.List.{List, [], ◌∷◌, ◌++◌, map}
use Rattle.std.proofs.Math.Option
use Rattle.std.proofs.Math.Option.{Option, none, some}
use Prim.Native.Nat.{ℕ, ◌+◌}
use Rattle.std.proofs.Math.ListN.{set}
use Rattle.std.proofs.lemmas.List.{length-map}
use Rattle.paper.specs.KeyedLaws.{by-test}
use Rattle.paper.specs.Cache.{Numbers, Seat, Hashing, AddressRow, BlockRow, Box, Request, RowOut, BlockRows, Taken, Stepped, newest, block_row, held, row_of}
use Rattle.paper.specs.Cache.{without_address, known, cached, block_of, copied, copies, cleaned, oldest_out, step1, some_uncached, freed, step3, oldest_unknown}
use Rattle.paper.specs.Cache.{victim, taken_used, taken, is_lost, stored, step4, step, Outcome, if_cached, row_with_block, dropped, same_or_new}
use Rattle.paper.specs.Cache.{write_invalidate, no_counts}
use Rattle.paper.specs.Batch.{Batched}
use Rattle.arc.specs.Policy.{Ran, Policy, Served, lru}
use Rattle.arc.specs.Folder.{FolderBy}

abbrev pub no_seat : Seat
no_seat = (0, 0)

-- a choice of what commutes
pub through-cond : {A B : Type 0} (f : A → B) (b : Bool) {x y : A} {x' y' : B} → x' ≡ f x → y' ≡ f y → cond b x' y' ≡ f (cond b x y)
through-cond f true p q = p
through-cond f false p q = q

module _ (keep : Bool) where
  -- Rows, boxes, requests, and what steps, calls and folder reads leave. Counters are dropped with the primary writes, which they have.
  abbrev pub kept_writes : ℕ → ℕ
  kept_writes n = cond keep n 0

  abbrev pub kept_disk : {X : Type 0} → List X → List X
  kept_disk disk = cond keep disk []

  module _ {F : Type 0} where
    abbrev pub bare : AddressRow F → AddressRow F
    bare r = newest r.address r.fingerprint (keep && r.dirty) no_seat

    abbrev pub bares : List (AddressRow F) → List (AddressRow F)
    bares rows = map bare rows

  module _ {F X : Type 0} where
    abbrev pub bare_box : Box F X → Box F X
    bare_box s = record { rows = bares s.rows; free = s.free; used = s.used; flash = s.flash; disk = kept_disk s.disk }

    abbrev pub bare_request : Request F X → Request F X
    bare_request q = record { address = q.address; fingerprint = q.fingerprint; block = q.block; dirty = keep && q.dirty; seat = no_seat }

    abbrev bare_out : RowOut F X → RowOut F X
    bare_out o = record { rows = bares o.rows; gone = o.gone; disk = kept_disk o.disk; primary = kept_writes o.primary }

    abbrev pub bare_stepped : Stepped F X → Stepped F X
    bare_stepped t = record { box = bare_box t.box; flash_writes = t.flash_writes; primary_writes = kept_writes t.primary_writes }

    -- what a call leaves, over a box
    abbrev kept_in : Box F X → Outcome F X → Outcome F X
    kept_in s o = record { box = s; word = o.word; block = o.block; flash_writes = o.flash_writes; primary_writes = kept_writes o.primary_writes }

    abbrev pub bare_outcome : Outcome F X → Outcome F X
    bare_outcome o = kept_in (bare_box o.box) o

    -- the same, but each row as it is
    abbrev pub kept_outcome : Outcome F X → Outcome F X
    kept_outcome o =
        let s = o.box in
        kept_in (record { rows = s.rows; free = s.free; used = s.used; flash = s.flash; disk = kept_disk s.disk }) o

    abbrev pub bare_batched : Batched F X → Batched F X
    bare_batched t =
        record {
          box = bare_box t.box;
          filled = t.filled;
          counters = cond keep t.counters no_counts;
          hits = t.hits;
          misses = t.misses;
          flash_writes = t.flash_writes;
          primary_writes = kept_writes t.primary_writes;
          fetches = t.fetches;
        }

  module _ {F X S : Type 0} where
    abbrev pub bare_ran : Ran F X S → Ran F X S
    bare_ran t = record { kept = t.kept; stepped = bare_stepped t.stepped }

    abbrev pub bare_served : Served F X S → Served F X S
    bare_served o = record { kept = o.kept; outcome = bare_outcome o.outcome }

    abbrev pub bare_folder : FolderBy F X S → FolderBy F X S
    bare_folder t = record { kept = t.kept; batched = bare_batched t.batched }

  -- A policy is blind: its step, from a box and for a request made bare, is its step made bare. It leaves the same state of its own, and makes the same
  -- flash writes.
  pub record Blind {F X S : Type 0} (pol : Policy F X S) : Type 0 where
    pub runs : (k : S) (s : Box F X) (q : Request F X) → pol.run k (bare_box s) (bare_request q) ≡ bare_ran (pol.run k s q)

  -- ---- what is kept

  pub no_writes : 0 ≡ kept_writes 0
  no_writes = by-test keep (λ e. rw e refl) (λ e. rw e refl)

  writes_kept : (m n : ℕ) → kept_writes m + kept_writes n ≡ kept_writes (m + n)
  writes_kept m n = by-test keep (λ e. rw e refl) (λ e. rw e refl)

  write_kept : (d c : Bool) → cond ((keep && d) && c) 1 0 ≡ kept_writes (cond (d && c) 1 0)
  write_kept d c = by-test keep (λ e. rw e refl) (λ e. rw e refl)

  dirty-kept : (d c : Bool) → ((keep && d) && c) ≡ (keep && (d && c))
  dirty-kept d c = by-test keep (λ e. rw e refl) (λ e. rw e refl)

  set-kept : {X : Type 0} (d c : Bool) (disk : List X) (a : ℕ) (b : X)
      → cond ((keep && d) && c) (set (kept_disk disk) a b) (kept_disk disk) ≡ kept_disk (cond (d && c) (set disk a b) disk)
  set-kept d c disk a b = by-test keep (λ e. rw e refl) (λ e. rw e refl)

  set-on-kept : {X : Type 0} (disk : List X) (a : ℕ) (b : X) → kept_disk (set (kept_disk disk) a b) ≡ kept_disk (set disk a b)
  set-on-kept disk a b = by-test keep (λ e. rw e refl) (λ e. rw e refl)

  -- ---- the parts of the base

  module _ {F : Type 0} where
    held-bare : (a : ℕ) (rows : List (AddressRow F)) → held a (bares rows) ≡ held a rows
    held-bare a [] = refl
    held-bare a (r ∷ rs) = ap (λ b. eqb a r.address || b) (held-bare a rs)

    pub row-bare : (a : ℕ) (rows : List (AddressRow F)) → row_of a (bares rows) ≡ Option.map bare (row_of a rows)
    row-bare a [] = refl
    row-bare a (r ∷ rs) = by-test (eqb a r.address) (λ e. rw e refl) (λ e. rw e (row-bare a rs))

    pub without-bare : (a : ℕ) (rows : List (AddressRow F)) → without_address a (bares rows) ≡ bares (without_address a rows)
    without-bare a [] = refl
    without-bare a (r ∷ rs) =
        by-test (eqb a r.address) (λ e. rw e (without-bare a rs)) (λ e. rw e (ap {B = List (AddressRow F)} (λ l. bare r ∷ l) (without-bare a rs)))

    pub append-bare : (rows more : List (AddressRow F)) → bares rows ++ bares more ≡ bares (rows ++ more)
    append-bare [] more = refl
    append-bare (r ∷ rs) more = ap {B = List (AddressRow F)} (λ l. bare r ∷ l) (append-bare rs more)

    gone-bare : (o : Option (AddressRow F)) → Option.map (λ r. r.fingerprint) (Option.map bare o) ≡ Option.map (λ r. r.fingerprint) o
    gone-bare none = refl
    gone-bare (some r) = refl

  module _ {F X : Type 0} (H : Hashing F X) where
    known-bare : (g : F) (rows : List (AddressRow F)) → known H g (bares rows) ≡ known H g rows
    known-bare g [] = refl
    known-bare g (r ∷ rs) = ap (λ b. H.same g r.fingerprint || b) (known-bare g rs)

    pub copied-bare : (c : F → Bool) (rows : List (AddressRow F)) (used : List (BlockRow F)) (flash disk : List X)
        → copied H c (bares rows) used flash (kept_disk disk) ≡ kept_disk (copied H c rows used flash disk)
    copied-bare c [] used flash disk = refl
    copied-bare c (r ∷ rs) used flash disk =
        let f = r.fingerprint in
        let b = block_of H f used flash in
        ap (copied H c (bares rs) used flash) (set-kept r.dirty (c f) disk r.address b)
        ∙ copied-bare c rs used flash (cond (r.dirty && c f) (set disk r.address b) disk)

    pub copies-bare : (c : F → Bool) (rows : List (AddressRow F)) → copies H c (bares rows) ≡ kept_writes (copies H c rows)
    copies-bare c [] = no_writes
    copies-bare c (r ∷ rs) =
        ap₂ ◌+◌ (write_kept r.dirty (c r.fingerprint)) (copies-bare c rs) ∙ writes_kept (cond (r.dirty && c r.fingerprint) 1 0) (copies H c rs)

    pub more-bare : (w : ℕ) (c : F → Bool) (rows : List (AddressRow F)) → kept_writes w + copies H c (bares rows) ≡ kept_writes (w + copies H c rows)
    more-bare w c rows = ap (λ n. kept_writes w + n) (copies-bare c rows) ∙ writes_kept w (copies H c rows)

    cleaned-bare : (c : F → Bool) (rows : List (AddressRow F)) → cleaned H c (bares rows) ≡ bares (cleaned H c rows)
    cleaned-bare c [] = refl
    cleaned-bare c (r ∷ rs) =
        ap₂ {C = List (AddressRow F)} (λ d l. newest r.address r.fingerprint d no_seat ∷ l) (dirty-kept r.dirty (not (c r.fingerprint)))
        (cleaned-bare c rs)

    uncached-bare : (rows : List (AddressRow F)) (used : List (BlockRow F)) → some_uncached H (bares rows) used ≡ some_uncached H rows used
    uncached-bare [] used = refl
    uncached-bare (r ∷ rs) used = ap (λ b. not (cached H r.fingerprint used) || b) (uncached-bare rs used)

    pub unknown-bare : (rows : List (AddressRow F)) (used : List (BlockRow F)) → oldest_unknown H (bares rows) used ≡ oldest_unknown H rows used
    unfolding oldest_unknown
    unknown-bare rows [] = refl
    unknown-bare rows (u ∷ us) = ap₂ {C = Option (BlockRow F)} (λ b o. cond b o (some u)) (known-bare u.fingerprint rows) (unknown-bare rows us)

    pub stored-bare : (rows : List (AddressRow F)) (used : List (BlockRow F)) (flash disk : List X) (g : F) (b : X) (w : ℕ) (t : Taken F)
        → stored H (bares rows) used flash (kept_disk disk) g b (kept_writes w) t ≡ bare_stepped (stored H rows used flash disk g b w t)
    unfolding stored
    stored-bare rows used flash disk g b w t =
        let c = cleaned-bare (is_lost H t.lost) rows in
        let d = copied-bare (is_lost H t.lost) rows used flash disk in
        let n = more-bare w (is_lost H t.lost) rows in
        λ i. record {
          box = record { rows = c i; free = t.free; used = t.used ++ (block_row g t.slot ∷ []); flash = set flash t.slot b; disk = d i };
          flash_writes = 1;
          primary_writes = n i;
        }

    -- ---- D-LRU's step

    oldest-bare : (s : Box F X) (rows : List (AddressRow F)) → oldest_out H (bare_box s) (bares rows) ≡ bare_out (oldest_out H s rows)
    unfolding oldest_out
    oldest-bare s [] = λ i. record { rows = []; gone = none; disk = kept_disk s.disk; primary = no_writes i }
    oldest-bare s (r ∷ rs) =
        let d = copied-bare (λ f. true) (r ∷ []) s.used s.flash s.disk in
        let n = copies-bare (λ f. true) (r ∷ []) in
        λ i. record { rows = bares rs; gone = some r.fingerprint; disk = d i; primary = n i }

    step1-bare : (m : ℕ) (s : Box F X) (a : ℕ) → step1 H m (bare_box s) a ≡ bare_out (step1 H m s a)
    unfolding step1
    step1-bare m s a =
        let w = without-bare a s.rows in
        let g = ap (Option.map (λ (r : AddressRow F). r.fingerprint)) (row-bare a s.rows) ∙ gone-bare (row_of a s.rows) in
        let out : List (AddressRow F) → Option F → ℕ → RowOut F X = λ l g n. record { rows = l; gone = g; disk = kept_disk s.disk; primary = n } in
        ap₂ (λ b n. cond b
        (out (without_address a (bares s.rows)) (Option.map (λ r. r.fingerprint) (row_of a (bares s.rows))) 0)
        (cond (eqb n m) (oldest_out H (bare_box s) (bares s.rows)) (out (bares s.rows) none 0)))
        (held-bare a s.rows) (length-map s.rows bare)
        ∙ through-cond bare_out (held a s.rows)
        (λ i. out (w i) (g i) (no_writes i))
        (through-cond bare_out (eqb (length s.rows) m) (oldest-bare s s.rows) (λ i. out (bares s.rows) none (no_writes i)))

    step3-bare : (gone : Option F) (others rows : List (AddressRow F)) (b : BlockRows F)
        → step3 H gone (bares others) (bares rows) b ≡ step3 H gone others rows b
    unfolding step3
    step3-bare none others rows b = refl
    step3-bare (some q) others rows b =
        ap₂ (λ k u. cond (cached H q b.used && not k && u) (freed H q b) b) (known-bare q rows) (uncached-bare others b.used)

    taken-bare : (rows : List (AddressRow F)) (free : List ℕ) (used : List (BlockRow F)) → taken H (bares rows) free used ≡ taken H rows free used
    unfolding taken
    taken-bare rows (k ∷ free) used = refl
    taken-bare rows [] used = ap (λ o. taken_used H (victim H o used) used) (unknown-bare rows used)

    step4-bare : (rows : List (AddressRow F)) (t : BlockRows F) (flash disk : List X) (g : F) (b : X) (w : ℕ)
        → step4 H (bares rows) t flash (kept_disk disk) g b (kept_writes w) ≡ bare_stepped (step4 H rows t flash disk g b w)
    unfolding step4
    step4-bare rows t flash disk g b w =
        through-cond bare_stepped (cached H g t.used) refl
        (ap (stored H (bares rows) t.used flash (kept_disk disk) g b (kept_writes w)) (taken-bare rows t.free t.used)
        ∙ stored-bare rows t.used flash disk g b w (taken H rows t.free t.used))

    step-bare : (m : ℕ) (s : Box F X) (q : Request F X) → step H m (bare_box s) (bare_request q) ≡ bare_stepped (step H m s q)
    unfolding step
    step-bare m s q =
        let o = step1 H m s q.address in
        let new = newest q.address q.fingerprint q.dirty q.seat in
        let rows = o.rows ++ (new ∷ []) in
        let bs : BlockRows F = record { free = s.free; used = s.used } in
        let fourth : List (AddressRow F) → BlockRows F → List X → ℕ → Stepped F X = λ r t d w. step4 H r t s.flash d q.fingerprint q.block w in
        let d = kept_disk o.disk in
        let w = kept_writes o.primary in
        ap (λ (x : RowOut F X). let r = x.rows ++ (bare new ∷ []) in fourth r (step3 H x.gone x.rows r bs) x.disk x.primary)
        (step1-bare m s q.address)
        ∙ ap (λ r. fourth r (step3 H o.gone (bares o.rows) r bs) d w) (append-bare o.rows (new ∷ []))
        ∙ ap (λ t. fourth (bares rows) t d w) (step3-bare o.gone o.rows rows bs)
        ∙ step4-bare rows (step3 H o.gone o.rows rows bs) s.flash o.disk q.fingerprint q.block o.primary

    -- ---- rows that a call finds, and a write invalidate, which no policy changes

    if-cached-bare : (used : List (BlockRow F)) (o : Option (AddressRow F)) → if_cached H used (Option.map bare o) ≡ Option.map bare (if_cached H used o)
    unfolding if_cached
    if-cached-bare used none = refl
    if-cached-bare used (some r) = by-test (cached H r.fingerprint used) (λ e. rw e refl) (λ e. rw e refl)

    pub row-with-block-bare : (s : Box F X) (a : ℕ) → row_with_block H (bare_box s) a ≡ Option.map bare (row_with_block H s a)
    row-with-block-bare s a = ap (if_cached H s.used) (row-bare a s.rows) ∙ if-cached-bare s.used (row_of a s.rows)

    dropped-bare : (rows : List (AddressRow F)) (b : BlockRows F) (o : Option (AddressRow F))
        → dropped H (bares rows) b (Option.map bare o) ≡ dropped H rows b o
    unfolding dropped
    dropped-bare rows b none = refl
    dropped-bare rows b (some r) =
        ap (λ k. cond (not k && cached H r.fingerprint b.used) (freed H r.fingerprint b) b) (known-bare r.fingerprint rows)

    pub invalidate-bare : (s : Box F X) (a : ℕ) (b : X) → kept_outcome (write_invalidate H (bare_box s) a b) ≡ bare_outcome (write_invalidate H s a b)
    unfolding write_invalidate
    invalidate-bare s a b =
        let rows = without_address a s.rows in
        let bs : BlockRows F = record { free = s.free; used = s.used } in
        let w = without-bare a s.rows in
        let d = ap₂ (λ x o. dropped H x bs o) w (row-bare a s.rows) ∙ dropped-bare rows bs (row_of a s.rows) in
        let disk = set-on-kept s.disk a b in
        λ i. record {
          box = record { rows = w i; free = (d i).free; used = (d i).used; flash = s.flash; disk = disk i };
          word = same_or_new H s b;
          block = none;
          flash_writes = 0;
          primary_writes = kept_writes 1;
        }

  -- D-LRU is blind
  pub lru-blind : {F X : Type 0} (H : Hashing F X) (N : Numbers) → Blind (lru H N)
  lru-blind {F} {X} H N =
      record { runs = λ k s q. ap {B = Ran F X (Unit {0})} (λ (t : Stepped F X). record { kept = k; stepped = t }) (step-bare H N.m s q) }
