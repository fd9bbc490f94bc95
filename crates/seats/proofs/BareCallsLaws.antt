-- The calls and the folder read over a policy that is blind to seats alone (`true`: the rest is kept): from a box with every seat 0, carrying 0, each is itself
-- but for the seats.
-- Assumes nothing.
use Rattle.std.specs.Prelude.{◌≡◌, false, not, ◌&&◌, cond, ℕ, zero, suc, ◌+◌, ltb, get_or, take}
use Rattle.std.proofs.Math.Path.{refl, ap}
use Rattle.std.proofs.Common.{ap₂, ◌∙◌}
use Rattle.std.proofs.Math.Bool.{true}
use mathlib.Core.List.{List, [], ◌∷◌}
use Rattle.std.proofs.Math.Option.{Option, none, some, map}
use Rattle.paper.specs.Cache.{Hashing, AddressRow, Box, Request, newest, row_of, seat_in, block_of, copied, copies, dirty_rows}
use Rattle.paper.specs.Cache.{reach, partly, clean_to, Call, read, through, back, invalidate, look, flush, Word, hit, miss, done, Outcome, row_with_block, answer}
use Rattle.paper.specs.Cache.{same_or_new, on_disk, dirtied, back_request, look_as, flushed, excess, limited, Counters, counted}
use Rattle.paper.specs.Batch.{seen, first_read, source, added}
use Rattle.arc.specs.Policy.{Ran, Policy, Served, answered_by, read_by, through_by, back_by, serve_by}
use Rattle.arc.specs.Folder.{FolderBy, next_read, folder_read, folder}
use Rattle.blind.specs.Blind.{no_seat, bare, bares, bare_box, bare_request, bare_outcome, bare_batched, bare_served, bare_folder, Blind, row-bare}
use Rattle.blind.specs.Blind.{copied-bare, copies-bare, row-with-block-bare, invalidate-bare}
use Rattle.seats.specs.BareCalls.{bare_call}

-- ---- the calls that no policy changes
module _ {F : Type 0} where
  take_bare : (i : ℕ) (rows : List (AddressRow F)) → take i (bares true rows) ≡ bares true (take i rows)
  take_bare zero rows = refl
  take_bare (suc i) [] = refl
  take_bare (suc i) (r ∷ rs) = ap {B = List (AddressRow F)} (λ l. bare true r ∷ l) (take_bare i rs)

  seat-bare : (o : Option (AddressRow F)) → seat_in (map (bare true) o) ≡ no_seat
  seat-bare none = refl
  seat-bare (some r) = refl

module _ {F X : Type 0} (H : Hashing F X) where
  dirtied-bare : (g : F) (o : Option (AddressRow F)) → dirtied H g (map (bare true) o) ≡ dirtied H g o
  dirtied-bare g none = refl
  dirtied-bare g (some r) = refl

  look-bare : (s : Box F X) (a : ℕ) (o : Option (AddressRow F)) → look_as H (bare_box true s) a (map (bare true) o) ≡ bare_outcome true (look_as H s a o)
  unfolding look_as
  look-bare s a none = refl
  look-bare s a (some r) = refl

  reach-bare : (k : ℕ) (rows : List (AddressRow F)) → reach H k (bares true rows) ≡ reach H k rows
  reach-bare k [] = refl
  reach-bare zero (r ∷ rs) = refl
  reach-bare (suc k) (r ∷ rs) = ap₂ {C = ℕ} (λ x y. suc (cond r.dirty x y)) (reach-bare k rs) (reach-bare (suc k) rs)

  partly-bare : (i : ℕ) (rows : List (AddressRow F)) → partly H i (bares true rows) ≡ bares true (partly H i rows)
  partly-bare zero rows = refl
  partly-bare (suc i) [] = refl
  partly-bare (suc i) (r ∷ rs) =
      ap {B = List (AddressRow F)} (λ l. newest r.address r.fingerprint (r.dirty && not true) no_seat ∷ l) (partly-bare i rs)

  flushed-bare : (k : ℕ) (s : Box F X) → flushed H k (bare_box true s) ≡ bare_outcome true (flushed H k s)
  unfolding flushed
  flushed-bare k s =
      let i = reach H k s.rows in
      let p = partly-bare i s.rows in
      let t = take_bare i s.rows in
      let d = ap (λ l. copied H (λ f. true) l s.used s.flash s.disk) t
      ∙ copied-bare true H (λ f. true) (take i s.rows) s.used s.flash s.disk in
      let n = ap (copies H (λ f. true)) t ∙ copies-bare true H (λ f. true) (take i s.rows) in
      ap {B = Outcome F X} (λ n. record {
        box = clean_to H n (bare_box true s);
        word = done;
        block = none;
        flash_writes = 0;
        primary_writes = dirty_rows H (take n (bares true s.rows));
      }) (reach-bare k s.rows)
      ∙ (λ j. record {
        box = record { rows = p j; free = s.free; used = s.used; flash = s.flash; disk = d j };
        word = done;
        block = none;
        flash_writes = 0;
        primary_writes = n j;
      })

  limited-bare : (t : ℕ) (o : Outcome F X) → limited H t (bare_outcome true o) ≡ bare_outcome true (limited H t o)
  limited-bare t o =
      let and-flushed : Outcome F X → Outcome F X = λ f. record {
        box = f.box;
        word = o.word;
        block = o.block;
        flash_writes = o.flash_writes;
        primary_writes = o.primary_writes + f.primary_writes;
      } in
      ap (λ n. and-flushed (flushed H (cond (ltb t n) 1 0) (bare_box true o.box))) (copies-bare true H (λ f. true) o.box.rows)
      ∙ ap and-flushed (flushed-bare (excess H t o.box.rows) o.box)

  -- what a call counts
  pub counted-bare : (k : Counters) (c : Call X) (o : Outcome F X) → counted k (bare_call c) (bare_outcome true o) ≡ counted k c o
  unfolding counted
  counted-bare k (read a) o = refl
  counted-bare k (through a b z) o = refl
  counted-bare k (back a b z) o = refl
  counted-bare k (invalidate a b z) o = refl
  counted-bare k (look a) o = refl
  counted-bare k (flush n) o = refl

-- ---- every call over a blind policy
module _ {F X S : Type 0} (H : Hashing F X) (pol : Policy F X S) (bl : Blind true pol) where
  answered-bare : (w : Word) (b : Option X) (more : ℕ) (k : S) (s : Box F X) (q : Request F X)
      → answered_by H pol w b more (pol.run k (bare_box true s) (bare_request true q)) ≡ bare_served true (answered_by H pol w b more (pol.run k s q))
  unfolding answered_by answer
  answered-bare w b more k s q =
      ap {B = Served F X S} (λ (t : Ran F X S). record {
        kept = t.kept;
        outcome = record {
          box = t.stepped.box;
          word = w;
          block = b;
          flash_writes = t.stepped.flash_writes;
          primary_writes = more + t.stepped.primary_writes;
        };
      }) (bl.runs k s q)

  read-bare : (k : S) (s : Box F X) (a : ℕ) (x : X) (o : Option (AddressRow F))
      → read_by H pol k (bare_box true s) a x (map (bare true) o) ≡ bare_served true (read_by H pol k s a x o)
  unfolding read_by
  read-bare k s a x (some r) =
      let b = block_of H r.fingerprint s.used s.flash in
      answered-bare hit (some b) 0 k s (record { address = a; fingerprint = r.fingerprint; block = b; dirty = r.dirty; seat = r.seat })
  read-bare k s a x none =
      ap (λ z. answered_by H pol miss (some x) 0
      (pol.run k (bare_box true s) (record { address = a; fingerprint = H.hash x; block = x; dirty = false; seat = z })))
      (ap seat_in (row-bare true a s.rows) ∙ seat-bare (row_of a s.rows))
      ∙ answered-bare miss (some x) 0 k s
      (record { address = a; fingerprint = H.hash x; block = x; dirty = false; seat = seat_in (row_of a s.rows) })

  read_at : (k : S) (s : Box F X) (a : ℕ) (x : X)
      → read_by H pol k (bare_box true s) a x (row_with_block H (bare_box true s) a) ≡ bare_served true (read_by H pol k s a x (row_with_block H s a))
  read_at k s a x = ap (read_by H pol k (bare_box true s) a x) (row-with-block-bare true H s a) ∙ read-bare k s a x (row_with_block H s a)

  -- a call from a box with every seat 0, carrying 0, is the call but for the seats
  pub serve-bare : (k : S) (s : Box F X) (c : Call X) → serve_by H pol k (bare_box true s) (bare_call c) ≡ bare_served true (serve_by H pol k s c)
  unfolding serve_by through_by back_by
  serve-bare k s (read a) = read_at k s a (get_or s.disk a H.blank)
  serve-bare k s (through a b z) =
      answered-bare (same_or_new H s b) none 1 k (on_disk H s a b) (record { address = a; fingerprint = H.hash b; block = b; dirty = false; seat = z })
  serve-bare k s (back a b z) =
      let o = answered_by H pol (same_or_new H s b) none 0 (pol.run k s (back_request H s a b z)) in
      ap {B = Served F X S} (λ (x : Served F X S). record { kept = x.kept; outcome = limited H pol.limit x.outcome })
      (ap (λ y. answered_by H pol (same_or_new H s b) none 0
      (pol.run k (bare_box true s) (record { address = a; fingerprint = H.hash b; block = b; dirty = y; seat = no_seat })))
      (ap (dirtied H (H.hash b)) (row-bare true a s.rows) ∙ dirtied-bare H (H.hash b) (row_of a s.rows))
      ∙ answered-bare (same_or_new H s b) none 0 k s (back_request H s a b z))
      ∙ ap {B = Served F X S} (λ x. record { kept = o.kept; outcome = x }) (limited-bare H pol.limit o.outcome)
  serve-bare k s (invalidate a b z) =
      ap {B = Served F X S} (λ o. record { kept = pol.leave a k; outcome = o }) (invalidate-bare true H s a b)
  serve-bare k s (look a) =
      ap {B = Served F X S} (λ o. record { kept = k; outcome = o })
      (ap (look_as H (bare_box true s) a) (row-with-block-bare true H s a) ∙ look-bare H s a (row_with_block H s a))
  serve-bare k s (flush n) = ap {B = Served F X S} (λ o. record { kept = k; outcome = o }) (flushed-bare H n s)

  source-bare : (s : Box F X) (a : ℕ) (o : Option X) → source H (bare_box true s) a o ≡ source H s a o
  source-bare s a none = refl
  source-bare s a (some b) = refl

  next-bare : (t : FolderBy F X S) (a : ℕ) → next_read H pol (bare_folder true t) a ≡ bare_served true (next_read H pol t a)
  next-bare t a =
      let s = t.batched.box in
      let o = first_read a t.batched.filled in
      ap (λ x. read_by H pol t.kept (bare_box true s) a x (row_with_block H (bare_box true s) a)) (source-bare s a o) ∙ read_at t.kept s a (source H s a o)

  folder-read-bare : (t : FolderBy F X S) (a : ℕ) → folder_read H pol (bare_folder true t) a ≡ bare_folder true (folder_read H pol t a)
  unfolding folder_read counted
  folder-read-bare t a =
      ap {B = FolderBy F X S} (λ (o : Served F X S). record {
        kept = o.kept;
        batched = added H (bare_batched true t.batched) a (not (seen a t.batched.filled)) o.outcome;
      }) (next-bare t a)

  -- a folder read
  pub folder-bare : (t : FolderBy F X S) (l : List ℕ) → folder H pol (bare_folder true t) l ≡ bare_folder true (folder H pol t l)
  unfolding folder
  folder-bare t [] = refl
  folder-bare t (a ∷ l) = ap (λ u. folder H pol u l) (folder-read-bare t a) ∙ folder-bare (folder_read H pol t a) l
