-- After every call the tables have the fingerprints of the plain disk's blocks, and what it returns is the plain disk's.
use Rattle.std.specs.Prelude.{◌≡◌, true, false, not, ◌&&◌, cond, List, [], ◌∷◌, ◌⊎◌, ℕ, zero, suc, ◌≤◌, ◌<◌, ◌-◌, length, set, take}
use Rattle.std.proofs.Math.Path.{refl, sym, ap, subst}
use Rattle.std.proofs.Common.{ap₂, ◌∙◌, true≢false, arith, ext_get_or}
use Rattle.std.proofs.Math.Bool.{and-false}
use Rattle.std.proofs.Math.Logic.{inl, inr}
use Rattle.std.proofs.Math.Option.{Option, none, some, none-ne-some, some-ne-none, some-injective}
use Rattle.std.proofs.Math.Dec.{eqb}
use Rattle.std.proofs.Math.ListN.{length-set}
use Rattle.std.proofs.lemmas.Bool.{not-false}
use Rattle.paper.specs.Cache.{Numbers, Hashing, AddressRow, BlockRow, Box, BlockRows, held, row_of, without_address, known, cached, block_of, copied, Call}
use Rattle.paper.specs.Cache.{read, through, back, invalidate, look, flush, Within, on_disk, row_with_block, if_cached, answer, read_as, write_through}
use Rattle.paper.specs.Cache.{seat_in, dirtied, back_request, write_back, dropped, write_invalidate, look_as, flushed, excess}
use Rattle.paper.specs.Cache.{step, reach, partly, clean_to, serve, fresh, freed}
use Rattle.paper.specs.KeyedLaws.{by-test, either, clash, or-both, or-false-left, or-false-right, and_left, eqb→≡, eqb_swap, All, Distinct}
use Rattle.paper.specs.KeyedLaws.{all_left, all_right, all_map, all_without, all_both, find-some, find_none}
use Rattle.paper.specs.Machines.{plain_next, plain_block, written_by}
use Rattle.paper.specs.Events.{Event}
use Rattle.paper.specs.Sound.{Sound, DirtyCached}
use Rattle.paper.proofs.SoundLaws.{sound-step, sound-on_disk, sound-clean_to, sound-fresh}
use Rattle.paper.proofs.PartlyLaws.{all-partly, all_take, left-dirty, dirty-few, none-dirty}
use Rattle.paper.specs.Faithful.{any, dirty_at}
use Rattle.paper.proofs.FaithfulLaws.{at, at_set_same, at_set_other, dirty-without, copied-good, CopyTrue, all-at, all_set}
use Rattle.paper.proofs.FaithfulLaws.{all-without-strict, RowTrue, BlockTrue, Faithful, FaithfulBut, row_block, faithful-step}

module _ {F X : Type 0} (H : Hashing F X) where
  -- an address that is not held is not dirty; one whose row is clean is not
  absent-clean : (a : ℕ) (rows : List (AddressRow F)) → held a rows ≡ false → dirty_at any a rows ≡ false
  absent-clean a [] h = refl
  absent-clean a (r ∷ rs) h =
      or-both (eqb a r.address && (r.dirty && true)) (dirty_at any a rs) (rw (or-false-left (eqb a r.address) (held a rs) h) refl)
      (absent-clean a rs (or-false-right (eqb a r.address) (held a rs) h))

  row-clean : (a : ℕ) (rows : List (AddressRow F)) (r : AddressRow F) → Distinct eqb (λ r. r.address) rows → row_of a rows ≡ some r → r.dirty ≡ false
      → dirty_at any a rows ≡ false
  row-clean a [] r d = λ e c. refl
  row-clean a (x ∷ xs) r d =
      by-test (eqb a x.address)
      (λ y. rw y (λ e c. or-both (x.dirty && true) (dirty_at any a xs)
      (rw (subst (λ z. z.dirty ≡ false) (sym (some-injective x r e)) c) refl)
      (absent-clean a xs (rw (← eqb→≡ a x.address y) at d.0))))
      (λ y. rw y (λ e c. row-clean a xs r d.1 e c))

  pub if_cached-some : (used : List (BlockRow F)) (o : Option (AddressRow F)) (r : AddressRow F) → if_cached H used o ≡ some r
      → (o ≡ some r) × (cached H r.fingerprint used ≡ true)
  unfolding if_cached
  if_cached-some used none r = λ e. absurd (none-ne-some r e)
  if_cached-some used (some x) r =
      by-test (cached H x.fingerprint used)
      (λ c. rw c (λ e. (e, subst (λ z. cached H z.fingerprint used ≡ true) (some-injective x r e) c)))
      (λ c. rw c (λ e. absurd (none-ne-some r e)))

  pub if_cached-none : (used : List (BlockRow F)) (o : Option (AddressRow F)) → if_cached H used o ≡ none
      → (o ≡ none) ⊎ ((r : AddressRow F) × (o ≡ some r) × (cached H r.fingerprint used ≡ false))
  unfolding if_cached
  if_cached-none used none = λ e. inl refl
  if_cached-none used (some x) =
      by-test (cached H x.fingerprint used)
      (λ c. rw c (λ e. absurd (some-ne-none x e)))
      (λ c. rw c (λ e. inr (x, refl, c)))

  -- an address that is not dirty in the first i rows, and not when these are clean
  pub dirty-behind : (x i : ℕ) (rows : List (AddressRow F)) → dirty_at any x (take i rows) ≡ false → dirty_at any x (partly H i rows) ≡ false
      → dirty_at any x rows ≡ false
  dirty-behind x zero rows y z = z
  dirty-behind x (suc i) [] y z = refl
  dirty-behind x (suc i) (r ∷ rs) y z =
      let one = eqb x r.address && (r.dirty && true) in
      or-both one (dirty_at any x rs) (or-false-left one (dirty_at any x (take i rs)) y)
      (dirty-behind x i rs (or-false-right one (dirty_at any x (take i rs)) y)
      (or-false-right (eqb x r.address && ((r.dirty && false) && true)) (dirty_at any x (partly H i rs)) z))

  all-clean-at : (x : ℕ) (rows : List (AddressRow F)) → All (λ r. r.dirty ≡ false) rows → dirty_at any x rows ≡ false
  all-clean-at x [] c = refl
  all-clean-at x (r ∷ rs) c =
      or-both (eqb x r.address && (r.dirty && true)) (dirty_at any x rs) (rw c.0 (and-false (eqb x r.address))) (all-clean-at x rs c.1)

  -- on a miss the disk is up to date at the address
  miss-clean : (N : Numbers) (s : Box F X) (a : ℕ) → Sound H N s → row_with_block H s a ≡ none → dirty_at any a s.rows ≡ false
  miss-clean N s a h e =
      either (if_cached-none s.used (row_of a s.rows) e)
      (λ n. absent-clean a s.rows (find_none eqb (λ r. r.address) a s.rows n))
      (λ y. row-clean a s.rows y.0 h.addresses y.1
      (by-test y.0.dirty
      (λ t. clash ((find-some eqb (λ r. r.address) (DirtyCached H s.used) a s.rows y.0 y.1 h.dirty_cached).0 t) y.2)
      (λ t. t)))

  -- the blocks that a call writes are in the set
  abbrev pub WritesIn : (X → Type 0) → Call X → Type 0
  WritesIn In c = All In (written_by c)

module _ {F X : Type 0} (H : Hashing F X) (In : X → Type 0) where
  but : (a P : ℕ) (plain : List X) (s : Box F X) → Faithful H In P plain s → FaithfulBut H In a P plain s
  but a P plain s f =
      record {
        rows_true = all_map (RowTrue H In plain) (λ r. eqb a r.address ≡ false → RowTrue H In plain r) (λ r y e. y) s.rows f.rows_true;
        blocks_true = f.blocks_true;
        plain_in = f.plain_in;
        plain_length = f.plain_length;
        current = λ x n dy. f.current x dy;
      }

  -- "the disk is the plain disk's whenever a call leaves no row dirty"
  pub clean-is-plain : (N : Numbers) (plain : List X) (s : Box F X) → Sound H N s → Faithful H In N.P plain s
      → All (λ r. r.dirty ≡ false) s.rows → s.disk ≡ plain
  clean-is-plain N plain s h f c =
      ext_get_or H.blank s.disk plain (h.disk_length ∙ sym f.plain_length) (λ i k. f.current i (all-clean-at H i s.rows c))

  -- the plain disk's block a is replaced
  row-set : (a : ℕ) (b : X) (plain : List X) (r : AddressRow F) → eqb a r.address ≡ false → RowTrue H In plain r → RowTrue H In (set plain a b) r
  row-set a b plain r n t = t ∙ ap H.hash (sym (at_set_other H plain a r.address b (eqb_swap a r.address n)))

  but-set : (a P : ℕ) (b : X) (plain : List X) (s : Box F X) → Faithful H In P plain s → In b → FaithfulBut H In a P (set plain a b) s
  but-set a P b plain s f bi =
      record {
        rows_true = all_map (RowTrue H In plain) (λ r. eqb a r.address ≡ false → RowTrue H In (set plain a b) r) (λ r y e. row-set a b plain r e y)
            s.rows f.rows_true;
        blocks_true = f.blocks_true;
        plain_in = all_set In plain a b f.plain_in bi;
        plain_length = length-set plain a b ∙ f.plain_length;
        current = λ x n dy. f.current x dy ∙ sym (at_set_other H plain a x b (eqb_swap a x n));
      }

module _ {F X : Type 0} (H : Hashing F X) (In : X → Type 0) (only : (b c : X) → In b → In c → H.hash b ≡ H.hash c → b ≡ c) where
  -- what a hit returns is the plain disk's block
  hit-block : (N : Numbers) (plain : List X) (s : Box F X) (a : ℕ) (r : AddressRow F) → Sound H N s → Faithful H In N.P plain s → row_with_block H s a ≡ some r
      → block_of H r.fingerprint s.used s.flash ≡ at H plain a
  hit-block N plain s a r h f e =
      let c = if_cached-some H s.used (row_of a s.rows) r e in
      let y = find-some eqb (λ r. r.address) (λ r. RowTrue H In plain r × (r.address < N.P)) a s.rows r c.0
      (all_both (RowTrue H In plain) (λ r. r.address < N.P) s.rows f.rows_true h.below) in
      row_block H In only N.P plain s.used s.flash r f.plain_in f.plain_length y.0.1 f.blocks_true y.0.0 c.1
      ∙ ap (at H plain) (sym (eqb→≡ a r.address y.1))

  faithful-read_as : (N : Numbers) (plain : List X) (s : Box F X) (a : ℕ) (o : Option (AddressRow F)) → row_with_block H s a ≡ o → Sound H N s
      → Faithful H In N.P plain s → 1 ≤ N.m → 1 ≤ N.d → a < N.P
      → Faithful H In N.P plain (read_as H N.m s a (at H s.disk a) o).box
      × ((read_as H N.m s a (at H s.disk a) o).block ≡ some (at H plain a))
  unfolding read_as answer
  faithful-read_as N plain s a (some r) e h f m1 d1 w =
      let b = block_of H r.fingerprint s.used s.flash in
      let be : b ≡ at H plain a = hit-block N plain s a r h f e in
      let c = if_cached-some H s.used (row_of a s.rows) r e in
      let y = find-some eqb (λ r. r.address) (RowTrue H In plain) a s.rows r c.0 f.rows_true in
      let pin : In (at H plain a) = all-at In plain a H.blank f.plain_in (subst (λ n. a < n) (sym f.plain_length) w) in (
        faithful-step H In only N plain s (record { address = a; fingerprint = r.fingerprint; block = b; dirty = r.dirty; seat = r.seat }) h
            (but H In a N.P plain s f) m1 d1 w
            (y.0 ∙ ap H.hash (ap (at H plain) (sym (eqb→≡ a r.address y.1)) ∙ sym be)) (subst In (sym be) pin) be
            (λ k. f.current a (row-clean H a s.rows r h.addresses c.0 k)),
        ap {B = Option X} some be,
      )
  faithful-read_as N plain s a none e h f m1 d1 w =
      let b = at H s.disk a in
      let be : b ≡ at H plain a = f.current a (miss-clean H N s a h e) in
      let pin : In (at H plain a) = all-at In plain a H.blank f.plain_in (subst (λ n. a < n) (sym f.plain_length) w) in (
        faithful-step H In only N plain s (record { address = a; fingerprint = H.hash b; block = b; dirty = false; seat = seat_in (row_of a s.rows) }) h
            (but H In a N.P plain s f) m1 d1 w refl (subst In (sym be) pin) be (λ k. be),
        ap {B = Option X} some be,
      )

  faithful-look_as : (N : Numbers) (plain : List X) (s : Box F X) (a : ℕ) (o : Option (AddressRow F)) → row_with_block H s a ≡ o → Sound H N s
      → Faithful H In N.P plain s
      → Faithful H In N.P plain (look_as H s a o).box × ((look_as H s a o).block ≡ some (at H plain a))
  unfolding look_as
  faithful-look_as N plain s a (some r) e h f = (f, ap {B = Option X} some (hit-block N plain s a r h f e))
  faithful-look_as N plain s a none e h f = (f, ap {B = Option X} some (f.current a (miss-clean H N s a h e)))

  dropped-true : (rows : List (AddressRow F)) (b : BlockRows F) (o : Option (AddressRow F)) (flash : List X) → All (BlockTrue H In flash) b.used
      → All (BlockTrue H In flash) (dropped H rows b o).used
  unfolding dropped freed
  dropped-true rows b none flash h = h
  dropped-true rows b (some r) flash h =
      by-test (not (known H r.fingerprint rows) && cached H r.fingerprint b.used)
      (λ e. rw e (all_without H.same (λ u. u.fingerprint) (BlockTrue H In flash) r.fingerprint b.used h))
      (λ e. rw e h)

  faithful-invalidate : (N : Numbers) (plain : List X) (s : Box F X) (a : ℕ) (b : X) → Sound H N s → Faithful H In N.P plain s → In b → a < N.P
      → Faithful H In N.P (set plain a b) (write_invalidate H s a b).box
  unfolding write_invalidate
  faithful-invalidate N plain s a b h f bi w =
      record {
        rows_true = all_map (λ r. RowTrue H In plain r × (eqb a r.address ≡ false)) (RowTrue H In (set plain a b))
            (λ r y. row-set H In a b plain r y.1 y.0) (without_address a s.rows)
            (all-without-strict eqb (λ r. r.address) (RowTrue H In plain) a s.rows f.rows_true);
        blocks_true = dropped-true (without_address a s.rows) (record { free = s.free; used = s.used }) (row_of a s.rows) s.flash f.blocks_true;
        plain_in = all_set In plain a b f.plain_in bi;
        plain_length = length-set plain a b ∙ f.plain_length;
        current = λ x dy. by-test (eqb a x)
            (λ y. subst (λ z. at H (set s.disk a b) z ≡ at H (set plain a b) z) (eqb→≡ a x y)
            (at_set_same H s.disk a b (subst (λ n. a < n) (sym h.disk_length) w)
            ∙ sym (at_set_same H plain a b (subst (λ n. a < n) (sym f.plain_length) w))))
            (λ n. let n' = eqb_swap a x n in
            at_set_other H s.disk a x b n' ∙ f.current x (dirty-without H a x s.rows n dy) ∙ sym (at_set_other H plain a x b n'));
      }

  -- the disk after the dirty ones among the first i rows are copied
  copied_at : (N : Numbers) (plain : List X) (s : Box F X) → Sound H N s → Faithful H In N.P plain s → (i x : ℕ)
      → dirty_at any x (partly H i s.rows) ≡ false → at H (copied H any (take i s.rows) s.used s.flash s.disk) x ≡ at H plain x
  copied_at N plain s h f i x y =
      copied-good H any (take i s.rows) s.used s.flash s.disk plain N.P x h.disk_length
      (all_map (λ r. (RowTrue H In plain r × (r.address < N.P)) × DirtyCached H s.used r) (CopyTrue H any N.P s.used s.flash plain)
      (λ r y e. (
        row_block H In only N.P plain s.used s.flash r f.plain_in f.plain_length y.0.1 f.blocks_true y.0.0
            (y.1 (and_left r.dirty true e)),
        y.0.1,
      ))
      (take i s.rows) (all_take H (λ r. (RowTrue H In plain r × (r.address < N.P)) × DirtyCached H s.used r) i s.rows
      (all_both (λ r. RowTrue H In plain r × (r.address < N.P)) (DirtyCached H s.used) s.rows
      (all_both (RowTrue H In plain) (λ r. r.address < N.P) s.rows f.rows_true h.below) h.dirty_cached)))
      (by-test (dirty_at any x (take i s.rows)) (λ z. inr z) (λ z. inl (f.current x (dirty-behind H x i s.rows z y))))

  pub faithful-clean_to : (N : Numbers) (plain : List X) (s : Box F X) (i : ℕ) → Sound H N s → Faithful H In N.P plain s
      → Faithful H In N.P plain (clean_to H i s)
  faithful-clean_to N plain s i h f =
      record {
        rows_true = all-partly H (RowTrue H In plain) (RowTrue H In plain) (λ r y. y) (λ r y. y) i s.rows f.rows_true;
        blocks_true = f.blocks_true;
        plain_in = f.plain_in;
        plain_length = f.plain_length;
        current = λ x y. copied_at N plain s h f i x y;
      }

  -- after a full flush the disk is the plain disk
  pub flush-whole : (N : Numbers) (plain : List X) (s : Box F X) → Sound H N s → Faithful H In N.P plain s
      → (serve H N s (flush N.m)).box.disk ≡ plain
  unfolding serve flushed
  flush-whole N plain s h f =
      let i = reach H N.m s.rows in
      let few = h.few in
      clean-is-plain H In N plain (clean_to H i s) (sound-clean_to H N i s h) (faithful-clean_to N plain s i h f)
      (none-dirty H (partly H i s.rows) (left-dirty H N.m s ∙ omega (arith, dirty-few H s.rows, few)))

  -- where a write back leaves the row clean, the disk has its block already
  still-clean : (N : Numbers) (plain : List X) (s : Box F X) (a : ℕ) (b : X) (o : Option (AddressRow F)) → row_of a s.rows ≡ o → Sound H N s
      → Faithful H In N.P plain s → In b → a < N.P → dirtied H (H.hash b) o ≡ false → at H s.disk a ≡ b
  still-clean N plain s a b none e h f bi w k = absurd (true≢false k)
  still-clean N plain s a b (some r) e h f bi w k =
      let other = not (H.same (H.hash b) r.fingerprint) in
      let c : r.dirty ≡ false = or-false-left r.dirty other k in
      let n : other ≡ false = or-false-right r.dirty other k in
      let g : H.hash b ≡ r.fingerprint = H.same→≡ (H.hash b) r.fingerprint (not-false (H.same (H.hash b) r.fingerprint) n) in
      let y = find-some eqb (λ r. r.address) (RowTrue H In plain) a s.rows r e f.rows_true in
      let pin : In (at H plain a) = all-at In plain a H.blank f.plain_in (subst (λ n. a < n) (sym f.plain_length) w) in
      f.current a (row-clean H a s.rows r h.addresses e c)
      ∙ only (at H plain a) b pin bi (ap H.hash (ap (at H plain) (eqb→≡ a r.address y.1)) ∙ sym y.0 ∙ sym g)

  pub faithful-serve : (N : Numbers) (plain : List X) (s : Box F X) (c : Call X) → Sound H N s → Faithful H In N.P plain s → 1 ≤ N.m → 1 ≤ N.d
      → Within N.P c → WritesIn H In c
      → Faithful H In N.P (plain_next plain c) (serve H N s c).box × ((serve H N s c).block ≡ plain_block H.blank plain c)
  unfolding serve write_through write_back answer flushed write_invalidate
  faithful-serve N plain s (read a) h f m1 d1 w i = faithful-read_as N plain s a (row_with_block H s a) refl h f m1 d1 w
  faithful-serve N plain s (look a) h f m1 d1 w i = faithful-look_as N plain s a (row_with_block H s a) refl h f
  faithful-serve N plain s (through a b z) h f m1 d1 w i =
      let dl = subst (λ n. a < n) (sym h.disk_length) w in
      let pl = subst (λ n. a < n) (sym f.plain_length) w in
      let bs = but-set H In a N.P b plain s f i.0 in (
        faithful-step H In only N (set plain a b) (on_disk H s a b) (record { address = a; fingerprint = H.hash b; block = b; dirty = false; seat = z })
            (sound-on_disk H N s a b h)
            (record {
              rows_true = bs.rows_true;
              blocks_true = bs.blocks_true;
              plain_in = bs.plain_in;
              plain_length = bs.plain_length;
              current = λ x n dy. at_set_other H s.disk a x b (eqb_swap a x n) ∙ bs.current x n dy;
            })
            m1 d1 w refl i.0 (sym (at_set_same H plain a b pl)) (λ k. at_set_same H s.disk a b dl ∙ sym (at_set_same H plain a b pl)),
        refl,
      )
  faithful-serve N plain s (back a b z) h f m1 d1 w i =
      let pl = subst (λ n. a < n) (sym f.plain_length) w in
      let q = back_request H s a b z in
      let t = step H N.m s q in (
        faithful-clean_to N (set plain a b) t.box (reach H (excess H N.t t.box.rows) t.box.rows) (sound-step H N s q h m1 d1 w)
            (faithful-step H In only N (set plain a b) s q h (but-set H In a N.P b plain s f i.0)
            m1 d1 w refl i.0 (sym (at_set_same H plain a b pl))
            (λ k. still-clean N plain s a b (row_of a s.rows) refl h f i.0 w k ∙ sym (at_set_same H plain a b pl))),
        refl,
      )
  faithful-serve N plain s (invalidate a b z) h f m1 d1 w i = (faithful-invalidate N plain s a b h f i.0 w, refl)
  faithful-serve N plain s (flush k) h f m1 d1 w i = (faithful-clean_to N plain s (reach H k s.rows) h f, refl)

module _ {F X : Type 0} (H : Hashing F X) (In : X → Type 0) where
  abbrev pub Good : Numbers → Box F X → List X → Type 0
  Good N s plain = Sound H N s × Faithful H In N.P plain s

  pub fresh-good : (N : Numbers) (flash disk : List X) → length flash ≡ N.d → length disk ≡ N.P → All In disk → Good N (fresh N.d flash disk) disk
  fresh-good N flash disk fl dl i = (
    sound-fresh H N flash disk fl dl,
    record { rows_true = tt; blocks_true = tt; plain_in = i; plain_length = dl; current = λ x h. refl },
  )
