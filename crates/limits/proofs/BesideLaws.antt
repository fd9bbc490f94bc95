-- A box under a limit beside one under another: what a policy must promise, and that then every call of the two answers the same and they stay beside each
-- other. The two show the same blocks, with no premise on fingerprints, and are the same but for dirty rows, the disk and seats (bare with `false`).
use Rattle.std.specs.Prelude.{◌≡◌, Bool, true, not, ◌||◌, cond, ℕ, zero, suc, ◌<◌, length, set}
use Rattle.std.proofs.Math.Path.{refl, sym, ap, subst}
use Rattle.std.proofs.Common.{◌∙◌, true≢false, length-set}
use Rattle.std.proofs.Math.Bool.{false}
use mathlib.Core.List.{List, [], ◌∷◌}
use Rattle.std.proofs.Math.Option.{Option, none, some, map, none-ne-some, some-ne-none, some-injective}
use Rattle.std.proofs.Math.Dec.{eqb}
use Rattle.paper.specs.Cache.{Numbers, Seat, Hashing, AddressRow, BlockRow, Box, BlockRows, Request, Word, hit, miss, from_cache, from_disk, done, Outcome, row_of}
use Rattle.paper.specs.Cache.{seat_in, without_address, known, cached, block_of, reach, clean_to, freed, Call, read, through, back, invalidate, look, flush, Within}
use Rattle.paper.specs.Cache.{row_with_block, answer, same_or_new, on_disk, dirtied, back_request, dropped, write_invalidate, look_as, flushed, excess, limited}
use Rattle.paper.specs.Cache.{partly, no_counts}
use Rattle.paper.specs.KeyedLaws.{by-test, clash, or-false-left, or-false-right, eqb→≡, eqb_swap, All, all_map, all_both, find-some}
use Rattle.paper.specs.Sound.{DirtyCached}
use Rattle.paper.proofs.SoundLaws.{all_known}
use Rattle.paper.proofs.Orphans.{apart}
use Rattle.paper.specs.Faithful.{any}
use Rattle.paper.proofs.FaithfulLaws.{at, at_set_same, at_set_other, dirty-without, CopyTrue, all-without-strict}
use Rattle.paper.proofs.PlainDiskLaws.{if_cached-some}
use Rattle.paper.specs.Batch.{seen, first_read, source, added}
use Rattle.arc.proofs.PlainRowsLaws.{row-clean, miss-clean}
use Rattle.arc.specs.Policy.{Policy, Served, answered_by, read_by, through_by, back_by, serve_by}
use Rattle.arc.proofs.PromiseLaws.{Promise, inv-on_disk, inv-read, inv-serve}
use Rattle.arc.specs.Folder.{FolderBy, folder_read, folder}
use Rattle.blind.specs.Blind.{no_seat, bare, bares, bare_box, bare_request, kept_outcome, bare_outcome, bare_ran, bare_served, bare_folder, Blind}
use Rattle.blind.specs.Blind.{row-bare, row-with-block-bare, invalidate-bare}
use Rattle.limits.specs.Sees.{Everywhere, But}
use Rattle.limits.proofs.SeesLaws.{slot-without, own_block, Sees, SeesBut, sees-clean_to}
use Rattle.limits.specs.Beside.{capped}

-- What a policy must promise: it is blind to what the limit changes; and from a box that shows `shown` but at the request's address, its step leaves a box that
-- shows it, where the request's own block is shown if it is dirty, and the disk's if it is clean.
pub record Parallel {F X S : Type 0} (H : Hashing F X) (N : Numbers) (pol : Policy F X S) (Inv : S → Box F X → Type 0) : Type 0 where
  pub blind : Blind false pol
  pub sees : (shown : List X) (k : S) (s : Box F X) (q : Request F X) → Inv k s → SeesBut H q.address N.P shown s → q.address < N.P
      → (q.dirty ≡ true → own_block H q.fingerprint q.block s.used s.flash ≡ at H shown q.address)
      → (q.dirty ≡ false → at H s.disk q.address ≡ at H shown q.address)
      → Sees H Everywhere N.P shown (pol.run k s q).stepped.box

pub capped-promise : {F X S : Type 0} (H : Hashing F X) (N : Numbers) (pol : Policy F X S) (Inv : S → Box F X → Type 0) (n : ℕ) → Promise H N pol Inv
    → Promise H N (capped n pol) Inv
capped-promise H N pol Inv n pr =
    record {
      sound = pr.sound;
      shape = pr.shape;
      invalidates = pr.invalidates;
      steps = pr.steps;
      spends = pr.spends;
      faithful = pr.faithful;
    }

pub capped-parallel : {F X S : Type 0} (H : Hashing F X) (N : Numbers) (pol : Policy F X S) (Inv : S → Box F X → Type 0) (n : ℕ) → Parallel H N pol Inv
    → Parallel H N (capped n pol) Inv
capped-parallel H N pol Inv n pa = record { blind = record { runs = pa.blind.runs }; sees = pa.sees }

-- ---- what is shown after a call
module _ {F X : Type 0} (H : Hashing F X) where
  -- a write back of the fingerprint that the row has already changes nothing that is shown
  abbrev pub has_it : F → Option (AddressRow F) → Bool
  has_it g none = false
  has_it g (some r) = H.same g r.fingerprint

  abbrev pub shown_next : List X → Box F X → Call X → List X
  shown_next shown s (read a) = shown
  shown_next shown s (through a b z) = set shown a b
  shown_next shown s (back a b z) = cond (has_it (H.hash b) (row_of a s.rows)) shown (set shown a (own_block H (H.hash b) b s.used s.flash))
  shown_next shown s (invalidate a b z) = set shown a b
  shown_next shown s (look a) = shown
  shown_next shown s (flush k) = shown

  -- the list keeps its length
  next-size : (P : ℕ) (shown : List X) (s : Box F X) (c : Call X) → length shown ≡ P → length (shown_next shown s c) ≡ P
  next-size P shown s (read a) e = e
  next-size P shown s (through a b z) e = length-set shown a b ∙ e
  next-size P shown s (back a b z) e =
      by-test (has_it (H.hash b) (row_of a s.rows)) (λ y. rw y e) (λ y. rw y (length-set shown a (own_block H (H.hash b) b s.used s.flash) ∙ e))
  next-size P shown s (invalidate a b z) e = length-set shown a b ∙ e
  next-size P shown s (look a) e = e
  next-size P shown s (flush k) e = e

  -- it is the same of two boxes that are the same but for what the limit changes
  has-bare : (g : F) (o : Option (AddressRow F)) → has_it g (map (bare false) o) ≡ has_it g o
  has-bare g none = refl
  has-bare g (some r) = refl

  shown-bare : (shown : List X) (s : Box F X) (c : Call X) → shown_next shown (bare_box false s) c ≡ shown_next shown s c
  shown-bare shown s (read a) = refl
  shown-bare shown s (through a b z) = refl
  shown-bare shown s (back a b z) =
      ap (λ y. cond y shown (set shown a (own_block H (H.hash b) b s.used s.flash)))
      (ap (has_it (H.hash b)) (row-bare false a s.rows) ∙ has-bare (H.hash b) (row_of a s.rows))
  shown-bare shown s (invalidate a b z) = refl
  shown-bare shown s (look a) = refl
  shown-bare shown s (flush k) = refl

  shown-same : (shown : List X) (s u : Box F X) (c : Call X) → bare_box false s ≡ bare_box false u → shown_next shown s c ≡ shown_next shown u c
  shown-same shown s u c e = sym (shown-bare shown s c) ∙ ap (λ x. shown_next shown x c) e ∙ shown-bare shown u c

  -- nothing said of a; a's block replaced
  but : (a P : ℕ) (shown : List X) (s : Box F X) → Sees H Everywhere P shown s → SeesBut H a P shown s
  but a P shown s f =
      let CT = CopyTrue H any P s.used s.flash shown in
      record { blocks = all_map CT (λ r. But a r.address → CT r) (λ r y e. y) s.rows f.blocks; current = λ x n dy. f.current x tt dy }

  copy-set : (a P : ℕ) (b : X) (shown : List X) (used : List (BlockRow F)) (flash : List X) (r : AddressRow F) → But a r.address
      → CopyTrue H any P used flash shown r → CopyTrue H any P used flash (set shown a b) r
  copy-set a P b shown used flash r n y e = let k = y e in (k.0 ∙ sym (at_set_other H shown a r.address b (eqb_swap a r.address n)), k.1)

  but-set : (a P : ℕ) (b : X) (shown : List X) (s : Box F X) → Sees H Everywhere P shown s → SeesBut H a P (set shown a b) s
  but-set a P b shown s f =
      record {
        blocks = all_map (CopyTrue H any P s.used s.flash shown) (λ r. But a r.address → CopyTrue H any P s.used s.flash (set shown a b) r)
            (λ r y n. copy-set a P b shown s.used s.flash r n y) s.rows f.blocks;
        current = λ x n dy. f.current x tt dy ∙ sym (at_set_other H shown a x b (eqb_swap a x n));
      }

  -- a block that no row has any more is freed: the others keep theirs
  dropped_keeps : (rows : List (AddressRow F)) (t : BlockRows F) (o : Option (AddressRow F)) (flash : List X) (f : F) → known H f rows ≡ true
      → block_of H f (dropped H rows t o).used flash ≡ block_of H f t.used flash
  unfolding dropped freed
  dropped_keeps rows t none flash f k = refl
  dropped_keeps rows t (some r) flash f k =
      by-test (known H r.fingerprint rows)
      (λ y. rw y refl)
      (λ y. rw y (by-test (cached H r.fingerprint t.used)
      (λ c. rw c (ap (at H flash) (slot-without H r.fingerprint f t.used (apart H r.fingerprint f rows k y))))
      (λ c. rw c refl)))

module _ {F X S : Type 0} (H : Hashing F X) (N : Numbers) (pol : Policy F X S) (Inv : S → Box F X → Type 0) (pr : Promise H N pol Inv)
    (pa : Parallel H N pol Inv) where
  abbrev Shows : List X → Box F X → Type 0
  Shows shown s = Sees H Everywhere N.P shown s

  module _ (shown : List X) (size : length shown ≡ N.P) (k : S) (s : Box F X) (i : Inv k s) (f : Shows shown s) where
    -- a dirty row of a shows its fingerprint's block
    dirty-shown : (a : ℕ) (r : AddressRow F) (b : X) → row_of a s.rows ≡ some r → r.dirty ≡ true
        → own_block H r.fingerprint b s.used s.flash ≡ at H shown a
    dirty-shown a r b e y =
        let h = pr.sound k s i in
        let t = find-some eqb (λ r. r.address) (CopyTrue H any N.P s.used s.flash shown) a s.rows r e f.blocks in
        let c = (find-some eqb (λ r. r.address) (DirtyCached H s.used) a s.rows r e h.dirty_cached).0 y in
        rw c ((t.0 (rw y refl)).0 ∙ ap (at H shown) (sym (eqb→≡ a r.address t.1)))

    -- a read, whatever block a miss takes
    sees-read : (a : ℕ) (x : X) (o : Option (AddressRow F)) → row_with_block H s a ≡ o → a < N.P → Shows shown (read_by H pol k s a x o).outcome.box
    unfolding read_by answered_by answer
    sees-read a x (some r) e w =
        let h = pr.sound k s i in
        let c = if_cached-some H s.used (row_of a s.rows) r e in
        let b = block_of H r.fingerprint s.used s.flash in
        pa.sees shown k s (record { address = a; fingerprint = r.fingerprint; block = b; dirty = r.dirty; seat = r.seat }) i
        (but H a N.P shown s f) w (λ y. dirty-shown a r b c.0 y) (λ y. f.current a tt (row-clean H a s.rows r h.addresses c.0 y))
    sees-read a x none e w =
        pa.sees shown k s (record { address = a; fingerprint = H.hash x; block = x; dirty = false; seat = seat_in (row_of a s.rows) }) i
        (but H a N.P shown s f) w (λ y. absurd (true≢false (sym y))) (λ y. f.current a tt (miss-clean H N s a (pr.sound k s i) e))

    sees-look : (a : ℕ) (o : Option (AddressRow F)) → Shows shown (look_as H s a o).box
    unfolding look_as
    sees-look a none = f
    sees-look a (some r) = f

    sees_back : (a : ℕ) (b : X) (z : Seat) (o : Option (AddressRow F)) → row_of a s.rows ≡ o → a < N.P
        → Shows (cond (has_it H (H.hash b) o) shown (set shown a (own_block H (H.hash b) b s.used s.flash)))
        (pol.run k s (record { address = a; fingerprint = H.hash b; block = b; dirty = dirtied H (H.hash b) o; seat = z })).stepped.box
    sees_back a b z none e w =
        let own = own_block H (H.hash b) b s.used s.flash in
        pa.sees (set shown a own) k s (record { address = a; fingerprint = H.hash b; block = b; dirty = true; seat = z }) i
        (but-set H a N.P own shown s f) w
        (λ y. sym (at_set_same H shown a own (subst (λ n. a < n) (sym size) w))) (λ y. absurd (true≢false y))
    sees_back a b z (some r) e w =
        let h = pr.sound k s i in
        let own = own_block H (H.hash b) b s.used s.flash in
        by-test (H.same (H.hash b) r.fingerprint)
        (λ y. rw y (let g : H.hash b ≡ r.fingerprint = H.same→≡ (H.hash b) r.fingerprint y in
        pa.sees shown k s (record { address = a; fingerprint = H.hash b; block = b; dirty = r.dirty || false; seat = z }) i
        (but H a N.P shown s f) w
        (λ v. ap (λ x. own_block H x b s.used s.flash) g ∙ dirty-shown a r b e (by-test r.dirty (λ t. t) (λ t. clash v (rw t refl))))
        (λ v. f.current a tt (row-clean H a s.rows r h.addresses e (or-false-left r.dirty false v)))))
        (λ y. rw y (pa.sees (set shown a own) k s (record { address = a; fingerprint = H.hash b; block = b; dirty = r.dirty || true; seat = z }) i
        (but-set H a N.P own shown s f) w
        (λ v. sym (at_set_same H shown a own (subst (λ n. a < n) (sym size) w))) (λ v. absurd (true≢false (or-false-right r.dirty true v)))))

    -- after every call the box shows what is shown then
    sees-serve : (c : Call X) → Within N.P c → Shows (shown_next H shown s c) (serve_by H pol k s c).outcome.box
    unfolding serve_by through_by back_by answered_by write_invalidate flushed answer
    sees-serve (read a) w = sees-read a (at H s.disk a) (row_with_block H s a) refl w
    sees-serve (look a) w = sees-look a (row_with_block H s a)
    sees-serve (flush n) w = sees-clean_to H N (reach H n s.rows) shown s (pr.sound k s i) f
    sees-serve (through a b z) w =
        let h = pr.sound k s i in
        let bs = but-set H a N.P b shown s f in
        pa.sees (set shown a b) k (on_disk H s a b) (record { address = a; fingerprint = H.hash b; block = b; dirty = false; seat = z })
        (inv-on_disk H N pol Inv pr k s a b i)
        (record { blocks = bs.blocks; current = λ x n dy. at_set_other H s.disk a x b (eqb_swap a x n) ∙ bs.current x n dy })
        w (λ y. absurd (true≢false (sym y)))
        (λ y. at_set_same H s.disk a b (subst (λ n. a < n) (sym h.disk_length) w) ∙ sym (at_set_same H shown a b (subst (λ n. a < n) (sym size) w)))
    sees-serve (back a b z) w =
        let r = pol.run k s (back_request H s a b z) in
        let rows = r.stepped.box.rows in
        sees-clean_to H N (reach H (excess H pol.limit rows) rows) (shown_next H shown s (back a b z)) r.stepped.box
        (pr.sound r.kept r.stepped.box (pr.steps k s (back_request H s a b z) i w)) (sees_back a b z (row_of a s.rows) refl w)
    sees-serve (invalidate a b z) w =
        let h = pr.sound k s i in
        let rows = without_address a s.rows in
        let t : BlockRows F = record { free = s.free; used = s.used } in
        let o = row_of a s.rows in
        let CT : AddressRow F → Type 0 = λ r. CopyTrue H any N.P s.used s.flash shown r × But a r.address in
        record {
          blocks = all_map (λ r. CT r × (known H r.fingerprint rows ≡ true))
              (CopyTrue H any N.P (dropped H rows t o).used s.flash (set shown a b))
              (λ r y e. let v = copy-set H a N.P b shown s.used s.flash r y.0.1 y.0.0 e in
              (dropped_keeps H rows t o s.flash r.fingerprint y.1 ∙ v.0, v.1))
              rows (all_both CT (λ r. known H r.fingerprint rows ≡ true) rows
              (all-without-strict eqb (λ r. r.address) (CopyTrue H any N.P s.used s.flash shown) a s.rows f.blocks) (all_known H rows));
          current = λ x q dy. by-test (eqb a x)
              (λ y. subst (λ z. at H (set s.disk a b) z ≡ at H (set shown a b) z) (eqb→≡ a x y)
              (at_set_same H s.disk a b (subst (λ n. a < n) (sym h.disk_length) w)
              ∙ sym (at_set_same H shown a b (subst (λ n. a < n) (sym size) w))))
              (λ n. let n' = eqb_swap a x n in
              at_set_other H s.disk a x b n' ∙ f.current x tt (dirty-without H a x s.rows n dy) ∙ sym (at_set_other H shown a x b n'));
        }

-- ---- two boxes that are the same but for what the limit changes
module _ {F X : Type 0} (H : Hashing F X) where
  -- what only cleans rows
  partly-bare : (i : ℕ) (rows : List (AddressRow F)) → bares false (partly H i rows) ≡ bares false rows
  partly-bare zero rows = refl
  partly-bare (suc i) [] = refl
  partly-bare (suc i) (r ∷ rs) = ap {B = List (AddressRow F)} (λ l. bare false r ∷ l) (partly-bare i rs)

  clean-bare : (i : ℕ) (s : Box F X) → bare_box false (clean_to H i s) ≡ bare_box false s
  clean-bare i s = let r = partly-bare i s.rows in λ j. record { rows = r j; free = s.free; used = s.used; flash = s.flash; disk = [] }

  limited-bare : (n : ℕ) (o : Outcome F X) → bare_outcome false (limited H n o) ≡ bare_outcome false o
  unfolding flushed
  limited-bare n o =
      let e = clean-bare (reach H (excess H n o.box.rows) o.box.rows) o.box in
      λ j. record { box = e j; word = o.word; block = o.block; flash_writes = o.flash_writes; primary_writes = 0 }

  flushed-bare : (n : ℕ) (s : Box F X) → bare_outcome false (flushed H n s)
      ≡ record { box = bare_box false s; word = done; block = none; flash_writes = 0; primary_writes = 0 }
  unfolding flushed
  flushed-bare n s =
      let e = clean-bare (reach H n s.rows) s in
      λ j. record { box = e j; word = done; block = none; flash_writes = 0; primary_writes = 0 }

module _ {F X S : Type 0} (H : Hashing F X) (pol : Policy F X S) (bl : Blind false pol) (n : ℕ) where
  -- steps for requests that are the same but for dirty value and seat
  runs_same : (k l : S) (s u : Box F X) (q r : Request F X) → k ≡ l → bare_box false s ≡ bare_box false u → bare_request false q ≡ bare_request false r
      → bare_ran false (pol.run k s q) ≡ bare_ran false (pol.run l u r)
  runs_same k l s u q r e b f = sym (bl.runs k s q) ∙ (λ j. pol.run (e j) (b j) (f j)) ∙ bl.runs l u r

  answered-same : (w v : Word) (x y : Option X) (more : ℕ) (k l : S) (s u : Box F X) (q r : Request F X) → w ≡ v → x ≡ y → k ≡ l
      → bare_box false s ≡ bare_box false u → bare_request false q ≡ bare_request false r
      → bare_served false (answered_by H pol w x more (pol.run k s q)) ≡ bare_served false (answered_by H (capped n pol) v y more (pol.run l u r))
  unfolding answered_by answer
  answered-same w v x y more k l s u q r ew ex e b f =
      let t = runs_same k l s u q r e b f in
      λ j. record {
        kept = (t j).kept;
        outcome = record { box = (t j).stepped.box; word = ew j; block = ex j; flash_writes = (t j).stepped.flash_writes; primary_writes = 0 };
      }

  module _ (k l : S) (s u : Box F X) (e : k ≡ l) (b : bare_box false s ≡ bare_box false u) where
    row-found : (a : ℕ) → map (bare false) (row_with_block H s a) ≡ map (bare false) (row_with_block H u a)
    row-found a = sym (row-with-block-bare false H s a) ∙ ap (λ x. row_with_block H x a) b ∙ row-with-block-bare false H u a

    -- the cached blocks of fingerprints that are the same
    same_block_lem : (q r : AddressRow F) → ◌≡◌ {A = Option (AddressRow F)} (some (bare false q)) (some (bare false r))
        → (q.fingerprint ≡ r.fingerprint) × (block_of H q.fingerprint s.used s.flash ≡ block_of H r.fingerprint u.used u.flash)
    same_block_lem q r f =
        let g : q.fingerprint ≡ r.fingerprint = ap (λ (x : AddressRow F). x.fingerprint) (some-injective (bare false q) (bare false r) f) in
        (g, λ j. block_of H (g j) (b j).used (b j).flash)

    -- a read where a miss of both takes the same block
    read_same : (a : ℕ) (x y : X) (o p : Option (AddressRow F)) → map (bare false) o ≡ map (bare false) p → (o ≡ none → p ≡ none → x ≡ y)
        → bare_served false (read_by H pol k s a x o) ≡ bare_served false (read_by H (capped n pol) l u a y p)
    unfolding read_by
    read_same a x y none none f d =
        let v = d refl refl in
        answered-same miss miss (some x) (some y) 0 k l s u
        (record { address = a; fingerprint = H.hash x; block = x; dirty = false; seat = seat_in (row_of a s.rows) })
        (record { address = a; fingerprint = H.hash y; block = y; dirty = false; seat = seat_in (row_of a u.rows) })
        refl (ap {B = Option X} some v) e b (λ j. record { address = a; fingerprint = H.hash (v j); block = v j; dirty = false; seat = no_seat })
    read_same a x y none (some r) f d = absurd (none-ne-some (bare false r) f)
    read_same a x y (some q) none f d = absurd (some-ne-none (bare false q) f)
    read_same a x y (some q) (some r) f d =
        let z = same_block_lem q r f in
        let g = z.0 in
        let v = z.1 in
        answered-same hit hit (some (block_of H q.fingerprint s.used s.flash)) (some (block_of H r.fingerprint u.used u.flash)) 0 k l s u
        (record {
          address = a;
          fingerprint = q.fingerprint;
          block = block_of H q.fingerprint s.used s.flash;
          dirty = q.dirty;
          seat = q.seat;
        })
        (record {
          address = a;
          fingerprint = r.fingerprint;
          block = block_of H r.fingerprint u.used u.flash;
          dirty = r.dirty;
          seat = r.seat;
        })
        refl (ap {B = Option X} some v) e b (λ j. record { address = a; fingerprint = g j; block = v j; dirty = false; seat = no_seat })

    look-same : (a : ℕ) (o p : Option (AddressRow F)) → map (bare false) o ≡ map (bare false) p
        → (o ≡ none → p ≡ none → at H s.disk a ≡ at H u.disk a)
        → bare_outcome false (look_as H s a o) ≡ bare_outcome false (look_as H u a p)
    unfolding look_as
    look-same a none none f d =
        let v = d refl refl in
        λ j. record { box = b j; word = from_disk; block = some (v j); flash_writes = 0; primary_writes = 0 }
    look-same a none (some r) f d = absurd (none-ne-some (bare false r) f)
    look-same a (some q) none f d = absurd (some-ne-none (bare false q) f)
    look-same a (some q) (some r) f d =
        let v = (same_block_lem q r f).1 in
        λ j. record { box = b j; word = from_cache; block = some (v j); flash_writes = 0; primary_writes = 0 }

    word_same : (x : X) → same_or_new H s x ≡ same_or_new H u x
    word_same x = ap (λ t. same_or_new H t x) b

    -- every call, where the disks are the same at what both miss
    serve-same : (c : Call X) → ((a : ℕ) → row_with_block H s a ≡ none → row_with_block H u a ≡ none → at H s.disk a ≡ at H u.disk a)
        → bare_served false (serve_by H pol k s c) ≡ bare_served false (serve_by H (capped n pol) l u c)
    unfolding serve_by through_by back_by
    serve-same (read a) d = read_same a (at H s.disk a) (at H u.disk a) (row_with_block H s a) (row_with_block H u a) (row-found a) (d a)
    serve-same (through a x z) d =
        let q : Request F X = record { address = a; fingerprint = H.hash x; block = x; dirty = false; seat = z } in
        answered-same (same_or_new H s x) (same_or_new H u x) none none 1 k l (on_disk H s a x) (on_disk H u a x) q q (word_same x) refl e b refl
    serve-same (back a x z) d =
        let q = back_request H s a x z in
        let r = back_request H u a x z in
        let o = answered_by H pol (same_or_new H s x) none 0 (pol.run k s q) in
        let p = answered_by H (capped n pol) (same_or_new H u x) none 0 (pol.run l u r) in
        let v = limited-bare H pol.limit o.outcome in
        let w = limited-bare H n p.outcome in
        (λ j. record { kept = o.kept; outcome = v j })
        ∙ answered-same (same_or_new H s x) (same_or_new H u x) none none 0 k l s u q r (word_same x) refl e b refl
        ∙ sym (λ j. record { kept = p.kept; outcome = w j })
    serve-same (invalidate a x z) d =
        let v = sym (invalidate-bare false H s a x) ∙ ap (λ t. kept_outcome false (write_invalidate H t a x)) b ∙ invalidate-bare false H u a x in
        λ j. record { kept = pol.leave a (e j); outcome = v j }
    serve-same (look a) d =
        let v = look-same a (row_with_block H s a) (row_with_block H u a) (row-found a) (d a) in
        λ j. record { kept = e j; outcome = v j }
    serve-same (flush i) d =
        let v : bare_outcome false (flushed H i s) ≡ bare_outcome false (flushed H i u) = flushed-bare H i s
        ∙ ap {B = Outcome F X} (λ t. record { box = t; word = done; block = none; flash_writes = 0; primary_writes = 0 }) b
        ∙ sym (flushed-bare H i u) in
        λ j. record { kept = e j; outcome = v j }

-- ---- a box and its policy's state beside another's
module _ {F X S : Type 0} (H : Hashing F X) (N : Numbers) (pol : Policy F X S) (Inv : S → Box F X → Type 0) (pr : Promise H N pol Inv)
    (pa : Parallel H N pol Inv) (n : ℕ) where
  -- the same but for what the limit changes, and both show the same blocks
  pub record Beside (k l : S) (s u : Box F X) : Type 0 where
    pub kept : k ≡ l
    pub boxes : bare_box false s ≡ bare_box false u
    pub inv : Inv k s
    pub inv' : Inv l u
    pub shown : List X
    pub size : length shown ≡ N.P
    pub sees : Sees H Everywhere N.P shown s
    pub sees' : Sees H Everywhere N.P shown u

  -- a box without rows beside itself
  pub beside-itself : (k : S) (s : Box F X) → Inv k s → s.rows ≡ [] → Beside k k s s
  beside-itself k s i e =
      let f : Sees H Everywhere N.P s.disk s
      = record { blocks = subst (All (CopyTrue H any N.P s.used s.flash s.disk)) (sym e) tt; current = λ x q y. refl } in
      record { kept = refl; boxes = refl; inv = i; inv' = i; shown = s.disk; size = (pr.sound k s i).disk_length; sees = f; sees' = f }

  abbrev other : Policy F X S
  other = capped n pol

  promised : Promise H N other Inv
  promised = capped-promise H N pol Inv n pr

  paralleled : Parallel H N other Inv
  paralleled = capped-parallel H N pol Inv n pa

  -- what two calls answer is the same, and they leave boxes beside each other
  pub record AsOne (o p : Served F X S) : Type 0 where
    pub same : bare_served false o ≡ bare_served false p
    pub beside : Beside o.kept p.kept o.outcome.box p.outcome.box

  module _ (k l : S) (s u : Box F X) (y : Beside k l s u) where
    -- at what both miss, the disks have what is shown
    disk-same : (a : ℕ) → row_with_block H s a ≡ none → row_with_block H u a ≡ none → at H s.disk a ≡ at H u.disk a
    disk-same a e f =
        y.sees.current a tt (miss-clean H N s a (pr.sound k s y.inv) e)
        ∙ sym (y.sees'.current a tt (miss-clean H N u a (pr.sound l u y.inv') f))

    read-beside : (a : ℕ) (v w : X) → a < N.P → (row_with_block H s a ≡ none → row_with_block H u a ≡ none → v ≡ w)
        → AsOne (read_by H pol k s a v (row_with_block H s a)) (read_by H other l u a w (row_with_block H u a))
    read-beside a v w p d =
        let t = read_same H pol pa.blind n k l s u y.kept y.boxes a v w (row_with_block H s a) (row_with_block H u a)
        (row-found H pol pa.blind n k l s u y.kept y.boxes a) d in
        record {
          same = t;
          beside = record {
            kept = ap (λ (x : Served F X S). x.kept) t;
            boxes = ap (λ (x : Served F X S). x.outcome.box) t;
            inv = inv-read H N pol Inv pr k s a v (row_with_block H s a) y.inv p;
            inv' = inv-read H N other Inv promised l u a w (row_with_block H u a) y.inv' p;
            shown = y.shown;
            size = y.size;
            sees = sees-read H N pol Inv pr pa y.shown y.size k s y.inv y.sees a v (row_with_block H s a) refl p;
            sees' = sees-read H N other Inv promised paralleled y.shown y.size l u y.inv' y.sees' a w (row_with_block H u a) refl p;
          };
        }

    -- every call
    pub serve-beside : (c : Call X) → Within N.P c → AsOne (serve_by H pol k s c) (serve_by H other l u c)
    serve-beside c w =
        let t = serve-same H pol pa.blind n k l s u y.kept y.boxes c disk-same in
        record {
          same = t;
          beside = record {
            kept = ap (λ (x : Served F X S). x.kept) t;
            boxes = ap (λ (x : Served F X S). x.outcome.box) t;
            inv = inv-serve H N pol Inv pr k s c y.inv w;
            inv' = inv-serve H N other Inv promised l u c y.inv' w;
            shown = shown_next H y.shown s c;
            size = next-size H N.P y.shown s c y.size;
            sees = sees-serve H N pol Inv pr pa y.shown y.size k s y.inv y.sees c w;
            sees' = subst (λ x. Sees H Everywhere N.P x (serve_by H other l u c).outcome.box) (sym (shown-same H y.shown s u c y.boxes))
                (sees-serve H N other Inv promised paralleled y.shown y.size l u y.inv' y.sees' c w);
          };
        }

  -- ---- folder reads

  pub record FolderBeside (t v : FolderBy F X S) : Type 0 where
    pub same : bare_folder false t ≡ bare_folder false v
    pub beside : Beside t.kept v.kept t.batched.box v.batched.box

  source-same : (s u : Box F X) (a : ℕ) (o : Option X) → at H s.disk a ≡ at H u.disk a → source H s a o ≡ source H u a o
  source-same s u a none e = e
  source-same s u a (some b) e = refl

  next-beside : (t v : FolderBy F X S) (a : ℕ) → FolderBeside t v → a < N.P → FolderBeside (folder_read H pol t a) (folder_read H other v a)
  unfolding folder_read
  next-beside t v a y w =
      let s = t.batched.box in
      let u = v.batched.box in
      let d = disk-same t.kept v.kept s u y.beside a in
      let f = ap (λ (x : FolderBy F X S). first_read a x.batched.filled) y.same in
      let o = read-beside t.kept v.kept s u y.beside a (source H s a (first_read a t.batched.filled))
      (source H u a (first_read a v.batched.filled)) w
      (λ e g. source-same s u a (first_read a t.batched.filled) (d e g) ∙ ap (source H u a) f) in
      let x = y.same in
      let z = o.same in
      record {
        same = λ j. let r = added H (x j).batched a (not (seen a (x j).batched.filled)) (z j).outcome in
            record {
              kept = (z j).kept;
              batched = record {
                box = (z j).outcome.box;
                filled = r.filled;
                counters = no_counts;
                hits = r.hits;
                misses = r.misses;
                flash_writes = r.flash_writes;
                primary_writes = 0;
                fetches = r.fetches;
              };
            };
        beside = o.beside;
      }

  pub folder-beside : (t v : FolderBy F X S) (l : List ℕ) → FolderBeside t v → All (λ a. a < N.P) l → FolderBeside (folder H pol t l) (folder H other v l)
  unfolding folder
  folder-beside t v [] y w = y
  folder-beside t v (a ∷ l) y w = folder-beside (folder_read H pol t a) (folder_read H other v a) l (next-beside t v a y w.0) w.1
