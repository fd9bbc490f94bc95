-- One step of the cache and the plain disk, where no two different blocks of a set share a fingerprint.
use mathlib.Core.Path.{◌≡◌, refl, sym, ap, ◌∙◌, subst}
use Rattle.std.specs.Prelude.{Bool, not, ◌&&◌, ◌||◌, ◌⊎◌, ◌≢◌, ℕ, suc, zero, ◌≤◌, ◌<◌, ◌+◌, eqb, length, set, get_or}
use Rattle.std.proofs.Math.Bool.{true, false}
use Rattle.std.proofs.Common.{true≢false, arith, length-set, get_or-set_same, get_or-set_other}
use Rattle.std.proofs.lemmas.Bool.{false≢true, eqb-false}
use mathlib.Core.List.{List, [], ◌∷◌, ◌++◌, map, Permᴰ}
use Rattle.std.proofs.Math.Logic.{inl, inr}
use Rattle.std.proofs.Math.Option.{Option, none, some}
use Rattle.tables.specs.Records.{slots_from}
use Rattle.paper.specs.Keyed.{has, without}
use Rattle.paper.specs.Cache.{Numbers, Hashing, AddressRow, BlockRow, Box, RowOut, BlockRows, Request, newest, block_row, without_address, cached}
use Rattle.paper.specs.Cache.{without_block, slot_of, block_of, cleaned, copied, is_lost, step, step1, step3, step4, freed, stored}
use Rattle.paper.specs.KeyedLaws.{by-test, either, clash, or_cases, or_left, or_right, or-both, or-false-left, or-false-right, and_left}
use Rattle.paper.specs.KeyedLaws.{and_right, eqb→≡, eqb-self, All, Distinct, all_right, all_of_map, all_append, all_map, all_without, all_both}
use Rattle.paper.specs.KeyedLaws.{all-perm}
use Rattle.paper.proofs.Cases.{by-step1, by-step3, by-step4}
use Rattle.paper.specs.Sound.{Sound, DirtyCached}
use Rattle.paper.proofs.SoundLaws.{perm-take, chosen-slot, all-cleaned, sound-step1, sound-step3, some-slot}
use Rattle.paper.specs.Faithful.{Apart, any, dirty_at}

pub perm-apart : {l l' : List ℕ} → Permᴰ l l' → Apart l → Apart l'
perm-apart mathlib.Core.List.Permᴰ.nil p = tt
perm-apart (mathlib.Core.List.Permᴰ.cons {a = a} {b = b} {l₁ = l₁} e h) p
    = (all-perm (λ j. j ≢ b) h (all_map (λ j. j ≢ a) (λ j. j ≢ b) (λ j n q. n (q ∙ sym e)) l₁ p.0), perm-apart h p.1)
perm-apart (mathlib.Core.List.Permᴰ.swap {a = a} {b = b} {a' = a'} {b' = b'} {l = l} e f) p = (
  (λ q. p.0.0 (f ∙ sym q ∙ sym e), all_map (λ j. j ≢ b) (λ j. j ≢ a') (λ j n q. n (q ∙ sym f)) l p.1.0),
  (all_map (λ j. j ≢ a) (λ j. j ≢ b') (λ j n q. n (q ∙ sym e)) l p.0.1, p.1.1),
)
perm-apart (mathlib.Core.List.Permᴰ.trans h k) p = perm-apart k (perm-apart h p)

slots-from : (k d : ℕ) → All (λ j. k ≤ j) (slots_from k d)
slots-from k zero = tt
slots-from k (suc d) = (omega arith, all_map (λ j. suc k ≤ j) (λ j. k ≤ j) (λ j h. omega arith) (slots_from (suc k) d) (slots-from (suc k) d))

slots-below : (k d : ℕ) → All (λ j. j < k + d) (slots_from k d)
slots-below k zero = tt
slots-below k (suc d) = (omega arith, all_map (λ j. j < suc k + d) (λ j. j < k + suc d) (λ j h. omega arith) (slots_from (suc k) d) (slots-below (suc k) d))

pub slots-below-0 : (d : ℕ) → All (λ j. j < d) (slots_from 0 d)
slots-below-0 d = all_map (λ j. j < 0 + d) (λ j. j < d) (λ j h. omega arith) (slots_from 0 d) (slots-below 0 d)

pub slots_apart : (k d : ℕ) → Apart (slots_from k d)
slots_apart k zero = tt
slots_apart k (suc d) = (all_map (λ j. suc k ≤ j) (λ j. j ≢ k) (λ j h. omega arith) (slots_from (suc k) d) (slots-from (suc k) d), slots_apart (suc k) d)

pub slot-taken : (d k : ℕ) (l : List ℕ) → Permᴰ (k ∷ l) (slots_from 0 d) → All (λ j. j ≢ k) l × (k < d)
slot-taken d k l p = (
  (perm-apart (mathlib.Core.List.Permᴰ.symm p) (slots_apart 0 d)).0,
  (let h = (all-perm (λ j. j < 0 + d) (mathlib.Core.List.Permᴰ.symm p) (slots-below 0 d)).0 in omega arith),
)

pub all-at : {X : Type 0} (P : X → Type 0) (l : List X) (k : ℕ) (blank : X) → All P l → k < length l → P (get_or l k blank)
all-at P [] k blank p h = absurd (omega arith)
all-at P (x ∷ xs) zero blank p h = p.0
all-at P (x ∷ xs) (suc k) blank p h = all-at P xs k blank p.1 (omega arith)

pub all_set : {X : Type 0} (P : X → Type 0) (l : List X) (k : ℕ) (b : X) → All P l → P b → All P (set l k b)
all_set P [] k b p q = tt
all_set P (x ∷ xs) zero b p q = (q, p.1)
all_set P (x ∷ xs) (suc k) b p q = (p.0, all_set P xs k b p.1 q)

pub all-without-strict : {K R : Type 0} (same : K → K → Bool) (key : R → K) (P : R → Type 0) (k : K) (l : List R) → All P l
    → All (λ r. P r × (same k (key r) ≡ false)) (without same key k l)
all-without-strict same key P k [] p = tt
all-without-strict same key P k (x ∷ xs) p =
    by-test (same k (key x)) (λ e. rw e (all-without-strict same key P k xs p.1)) (λ e. rw e ((p.0, e), all-without-strict same key P k xs p.1))

pub all-absent : {K R : Type 0} (same : K → K → Bool) (key : R → K) (k : K) (l : List R) → has same key k l ≡ false → All (λ r. same k (key r) ≡ false) l
all-absent same key k [] h = tt
all-absent same key k (x ∷ xs) h = (
  or-false-left (same k (key x)) (has same key k xs) h,
  all-absent same key k xs
      (or-false-right (same k (key x)) (has same key k xs) h),
)

and_intro : (a b : Bool) → a ≡ true → b ≡ true → (a && b) ≡ true
and_intro true b p q = q
and_intro false b p q = absurd (false≢true p)

and-false-cases : (a b : Bool) → (a && b) ≡ false → (a ≡ false) ⊎ (b ≡ false)
and-false-cases true b e = inr e
and-false-cases false b e = inl refl

module _ {F X : Type 0} (H : Hashing F X) where
  abbrev pub at : List X → ℕ → X
  at l k = get_or l k H.blank

  pub at_set_same : (l : List X) (k : ℕ) (b : X) → k < length l → at (set l k b) k ≡ b
  at_set_same l k b h = get_or-set_same l k b H.blank h

  pub at_set_other : (l : List X) (k j : ℕ) (b : X) → eqb j k ≡ false → at (set l k b) j ≡ at l j
  at_set_other l k j b n = get_or-set_other l k j b H.blank (eqb-false j k n)

  -- after the blocks of dirty rows are copied the disk is the plain one there
  abbrev pub CopyTrue : (F → Bool) → ℕ → List (BlockRow F) → List X → List X → AddressRow F → Type 0
  CopyTrue c P used flash plain r = (r.dirty && c r.fingerprint) ≡ true → (block_of H r.fingerprint used flash ≡ at plain r.address) × (r.address < P)

  pub copied-good : (c : F → Bool) (rows : List (AddressRow F)) (used : List (BlockRow F)) (flash disk plain : List X) (P x : ℕ) → length disk ≡ P
      → All (CopyTrue c P used flash plain) rows → (at disk x ≡ at plain x) ⊎ (dirty_at c x rows ≡ true) → at (copied H c rows used flash disk) x ≡ at plain x
  copied-good c [] used flash disk plain P x l t (inl e) = e
  copied-good c [] used flash disk plain P x l t (inr e) = absurd (false≢true e)
  copied-good c (r ∷ rs) used flash disk plain P x l t g =
      by-test (r.dirty && c r.fingerprint)
      (λ e. rw e
      (let b = block_of H r.fingerprint used flash in
      let tr = t.0 e in
      let here : x ≡ r.address → at (set disk r.address b) x ≡ at plain x
      = λ p. rw p (at_set_same disk r.address b (subst (λ n. r.address < n) (sym l) tr.1) ∙ tr.0) in
      copied-good c rs used flash (set disk r.address b) plain P x (length-set disk r.address b ∙ l) t.1
      (either g
      (λ p. inl (by-test (eqb x r.address) (λ y. here (eqb→≡ x r.address y)) (λ n. at_set_other disk r.address x b n ∙ p)))
      (λ p. either (or_cases (eqb x r.address && (r.dirty && c r.fingerprint)) (dirty_at c x rs) p)
      (λ y. inl (here (eqb→≡ x r.address (and_left (eqb x r.address) (r.dirty && c r.fingerprint) y))))
      (λ y. inr y)))))
      (λ e. rw e
      (copied-good c rs used flash disk plain P x l t.1
      (either g (λ p. inl p)
      (λ p. either (or_cases (eqb x r.address && (r.dirty && c r.fingerprint)) (dirty_at c x rs) p)
      (λ y. clash (and_right (eqb x r.address) (r.dirty && c r.fingerprint) y) e)
      (λ y. inr y)))))

  pub dirty-split : (c : F → Bool) (x : ℕ) (rows : List (AddressRow F)) → dirty_at any x (cleaned H c rows) ≡ false
      → (dirty_at any x rows ≡ false) ⊎ (dirty_at c x rows ≡ true)
  dirty-split c x [] h = inl refl
  dirty-split c x (r ∷ rs) h =
      let y = eqb x r.address in
      let h₀ = or-false-left (y && ((r.dirty && not (c r.fingerprint)) && true)) (dirty_at any x (cleaned H c rs)) h in
      let ih = dirty-split c x rs (or-false-right (y && ((r.dirty && not (c r.fingerprint)) && true)) (dirty_at any x (cleaned H c rs)) h) in
      either ih
      (λ p. by-test (y && (r.dirty && true))
      (λ e. inr (or_left (y && (r.dirty && c r.fingerprint)) (dirty_at c x rs)
      (let ye = and_left y (r.dirty && true) e in
      let de = and_left r.dirty true (and_right y (r.dirty && true) e) in
      and_intro y (r.dirty && c r.fingerprint) ye (and_intro r.dirty (c r.fingerprint) de
      (by-test (c r.fingerprint) (λ z. z)
      (λ z. clash (and_intro y ((r.dirty && not (c r.fingerprint)) && true) ye
      (and_intro (r.dirty && not (c r.fingerprint)) true (and_intro r.dirty (not (c r.fingerprint)) de (ap not z)) refl)) h₀))))))
      (λ e. inl (or-both (y && (r.dirty && true)) (dirty_at any x rs) e p)))
      (λ p. inr (or_right (y && (r.dirty && c r.fingerprint)) (dirty_at c x rs) p))

  dirty-snoc : (x : ℕ) (rows : List (AddressRow F)) (r : AddressRow F) → dirty_at any x (rows ++ (r ∷ [])) ≡ false
      → (dirty_at any x rows ≡ false) × ((eqb x r.address && (r.dirty && true)) ≡ false)
  dirty-snoc x [] r h = (refl, or-false-left (eqb x r.address && (r.dirty && true)) false h)
  dirty-snoc x (y ∷ ys) r h =
      let ih = dirty-snoc x ys r (or-false-right (eqb x y.address && (y.dirty && true)) (dirty_at any x (ys ++ (r ∷ []))) h) in (
        or-both (eqb x y.address && (y.dirty && true)) (dirty_at any x ys)
            (or-false-left (eqb x y.address && (y.dirty && true)) (dirty_at any x (ys ++ (r ∷ []))) h) ih.0,
        ih.1,
      )

  -- taking out the row of a changes nothing elsewhere
  pub dirty-without : (a x : ℕ) (rows : List (AddressRow F)) → eqb a x ≡ false → dirty_at any x (without_address a rows) ≡ false → dirty_at any x rows ≡ false
  dirty-without a x [] n = λ h. h
  dirty-without a x (r ∷ rs) n =
      by-test (eqb a r.address)
      (λ e. rw e (λ h. or-both (eqb x r.address && (r.dirty && true)) (dirty_at any x rs)
      (by-test (eqb x r.address) (λ y. clash (rw (← eqb→≡ x r.address y) at e) n) (λ y. rw y refl)) (dirty-without a x rs n h)))
      (λ e. rw e (λ h. or-both (eqb x r.address && (r.dirty && true)) (dirty_at any x rs)
      (or-false-left (eqb x r.address && (r.dirty && true)) (dirty_at any x (without_address a rs)) h)
      (dirty-without a x rs n (or-false-right (eqb x r.address && (r.dirty && true)) (dirty_at any x (without_address a rs)) h))))

module _ {F X : Type 0} (H : Hashing F X) (In : X → Type 0) where
  -- a row has the fingerprint of the plain disk's block at its address, a used block row that of the block in its slot
  abbrev pub RowTrue : List X → AddressRow F → Type 0
  RowTrue plain r = r.fingerprint ≡ H.hash (at H plain r.address)

  abbrev pub BlockTrue : List X → BlockRow F → Type 0
  BlockTrue flash u = (u.fingerprint ≡ H.hash (at H flash u.slot)) × In (at H flash u.slot)

  pub record Faithful (P : ℕ) (plain : List X) (s : Box F X) : Type 0 where
    pub rows_true : All (RowTrue plain) s.rows
    pub blocks_true : All (BlockTrue s.flash) s.used
    pub plain_in : All In plain
    pub plain_length : length plain ≡ P
    -- the disk is up to date but where a row is dirty
    pub current : (x : ℕ) → dirty_at any x s.rows ≡ false → at H s.disk x ≡ at H plain x

  -- the same, but nothing is said of address a
  pub record FaithfulBut (a P : ℕ) (plain : List X) (s : Box F X) : Type 0 where
    pub rows_true : All (λ r. eqb a r.address ≡ false → RowTrue plain r) s.rows
    pub blocks_true : All (BlockTrue s.flash) s.used
    pub plain_in : All In plain
    pub plain_length : length plain ≡ P
    pub current : (x : ℕ) → eqb a x ≡ false → dirty_at any x s.rows ≡ false → at H s.disk x ≡ at H plain x

  pub record OutTrue (a : ℕ) (plain : List X) (s : Box F X) (o : RowOut F X) : Type 0 where
    pub rows_true : All (RowTrue plain) o.rows
    pub current : (x : ℕ) → eqb a x ≡ false → dirty_at any x o.rows ≡ false → at H o.disk x ≡ at H plain x
    pub here : at H o.disk a ≡ at H s.disk a

  pub slot-true : (g : F) (used : List (BlockRow F)) (flash : List X) → All (BlockTrue flash) used → cached H g used ≡ true
      → BlockTrue flash (block_row g (slot_of H g used))
  slot-true g [] flash = λ p h. absurd (false≢true h)
  slot-true g (u ∷ us) flash =
      by-test (H.same g u.fingerprint)
      (λ e. rw e (λ p h. (H.same→≡ g u.fingerprint e ∙ p.0.0, p.0.1)))
      (λ e. rw e (λ p h. slot-true g us flash p.1 h))

module _ {F X : Type 0} (H : Hashing F X) (In : X → Type 0) (only : (b c : X) → In b → In c → H.hash b ≡ H.hash c → b ≡ c) where
  -- a cached block with the fingerprint of p is p
  cached-block : (f : F) (p : X) (used : List (BlockRow F)) (flash : List X) → All (BlockTrue H In flash) used → cached H f used ≡ true → f ≡ H.hash p
      → In p → block_of H f used flash ≡ p
  cached-block f p used flash t c e i =
      let b = slot-true H In f used flash t c in only (at H flash (slot_of H f used)) p b.1 i (sym b.0 ∙ e)

  pub row_block : (P : ℕ) (plain : List X) (used : List (BlockRow F)) (flash : List X) (r : AddressRow F) → All In plain → length plain ≡ P → r.address < P
      → All (BlockTrue H In flash) used → RowTrue H In plain r → cached H r.fingerprint used ≡ true
      → block_of H r.fingerprint used flash ≡ at H plain r.address
  row_block P plain used flash r pi pl b t rt c =
      cached-block r.fingerprint (at H plain r.address) used flash t c rt
      (all-at In plain r.address H.blank pi (subst (λ n. r.address < n) (sym pl) b))

  faithful-step1 : (N : Numbers) (plain : List X) (s : Box F X) (a : ℕ) → Sound H N s → FaithfulBut H In a N.P plain s
      → OutTrue H In a plain s (step1 H N.m s a)
  faithful-step1 N plain s a h f =
      by-step1 H N.m s a (OutTrue H In a plain s)
      (λ e. record {
        rows_true = all_map (λ r. (eqb a r.address ≡ false → RowTrue H In plain r) × (eqb a r.address ≡ false)) (RowTrue H In plain)
            (λ r y. y.0 y.1) (without_address a s.rows)
            (all-without-strict eqb (λ r. r.address) (λ r. eqb a r.address ≡ false → RowTrue H In plain r) a s.rows f.rows_true);
        current = λ x n dy. f.current x n (dirty-without H a x s.rows n dy);
        here = refl;
      })
      (λ e r rs p n.
      let no : All (λ r. eqb a r.address ≡ false) (r ∷ rs) = all-absent eqb (λ r. r.address) a (r ∷ rs) (rw p at e) in
      let rt : All (λ r. eqb a r.address ≡ false → RowTrue H In plain r) (r ∷ rs) = rw p at f.rows_true in
      let bl : All (λ r. r.address < N.P) (r ∷ rs) = rw p at h.below in
      let dc : All (DirtyCached H s.used) (r ∷ rs) = rw p at h.dirty_cached in
      record {
        rows_true = all_map (λ r. (eqb a r.address ≡ false → RowTrue H In plain r) × (eqb a r.address ≡ false)) (RowTrue H In plain)
            (λ r y. y.0 y.1) rs
            (all_both (λ r. eqb a r.address ≡ false → RowTrue H In plain r) (λ r. eqb a r.address ≡ false) rs rt.1 no.1);
        current = λ x nx dy. copied-good H any (r ∷ []) s.used s.flash s.disk plain N.P x h.disk_length (
          (λ y. (
            row_block N.P plain s.used s.flash r f.plain_in f.plain_length bl.0 f.blocks_true (rt.0 no.0)
                (dc.0 (and_left r.dirty true y)),
            bl.0,
          )),
          tt,
        )
            (by-test (eqb x r.address && (r.dirty && true))
            (λ y. inr (or_left (eqb x r.address && (r.dirty && true)) false y))
            (λ y. inl (f.current x nx (rw p (or-both (eqb x r.address && (r.dirty && true)) (dirty_at any x rs) y dy)))));
        here = by-test (r.dirty && true)
            (λ y. rw y (at_set_other H s.disk r.address a (block_of H r.fingerprint s.used s.flash) no.0))
            (λ y. rw y refl);
      })
      (λ e p. record {
        rows_true = all_map (λ r. (eqb a r.address ≡ false → RowTrue H In plain r) × (eqb a r.address ≡ false)) (RowTrue H In plain)
            (λ r y. y.0 y.1) s.rows
            (all_both (λ r. eqb a r.address ≡ false → RowTrue H In plain r) (λ r. eqb a r.address ≡ false) s.rows f.rows_true
            (all-absent eqb (λ r. r.address) a s.rows e));
        current = λ x n dy. f.current x n dy;
        here = refl;
      })

  faithful-step3 : (gone : Option F) (others rows : List (AddressRow F)) (b : BlockRows F) (flash : List X) → All (BlockTrue H In flash) b.used
      → All (BlockTrue H In flash) (step3 H gone others rows b).used
  unfolding freed
  faithful-step3 gone others rows b flash h =
      by-step3 H gone others rows b (λ t. All (BlockTrue H In flash) t.used)
      (λ q p c n u. all_without H.same (λ u. u.fingerprint) (BlockTrue H In flash) q b.used h)
      (λ q p w. h) (λ p. h)

  -- the blocks after b goes to slot k, of rows with other slots
  stored-true : (d k : ℕ) (used : List (BlockRow F)) (flash : List X) (g : F) (b : X) → All (BlockTrue H In flash) used → All (λ u. u.slot ≢ k) used → k < d
      → length flash ≡ d
      → g ≡ H.hash b → In b → All (BlockTrue H In (set flash k b)) (used ++ (block_row g k ∷ []))
  stored-true d k used flash g b t n kd fl e i =
      let same-b : at H (set flash k b) k ≡ b = at_set_same H flash k b (subst (λ x. k < x) (sym fl) kd) in
      all_append (BlockTrue H In (set flash k b)) used (block_row g k ∷ [])
      (all_map (λ u. BlockTrue H In flash u × (u.slot ≢ k)) (BlockTrue H In (set flash k b))
      (λ u y. subst (λ x. (u.fingerprint ≡ H.hash x) × In x) (sym (get_or-set_other flash k u.slot b H.blank y.1)) y.0)
      used (all_both (BlockTrue H In flash) (λ u. u.slot ≢ k) used t n))
      (subst (λ x. (g ≡ H.hash x) × In x) (sym same-b) (e, i), tt)

  faithful-step4 : (d P : ℕ) (plain : List X) (rows : List (AddressRow F)) (free : List ℕ) (used : List (BlockRow F)) (flash disk : List X) (g : F) (b : X)
      (w : ℕ)
      → All (RowTrue H In plain) rows → All (BlockTrue H In flash) used → All In plain → length plain ≡ P
      → ((x : ℕ) → dirty_at any x rows ≡ false → at H disk x ≡ at H plain x)
      → g ≡ H.hash b → In b → All (λ r. r.address < P) rows → length disk ≡ P → length flash ≡ d → 1 ≤ d
      → Permᴰ (free ++ map (λ u. u.slot) used) (slots_from 0 d) → Distinct H.same (λ u. u.fingerprint) used
      → Faithful H In P plain (step4 H rows (record { free = free; used = used }) flash disk g b w).box
  unfolding stored
  faithful-step4 d P plain rows free used flash disk g b w rt bt pi pl cu ge bi bl dl fl d1 sl df =
      by-step4 H rows free used flash disk g b w (λ t. Faithful H In P plain t.box)
      (λ c. record {
        rows_true = rt;
        blocks_true = all_append (BlockTrue H In flash) (without_block H g used) (block_row g (slot_of H g used) ∷ [])
            (all_without H.same (λ u. u.fingerprint) (BlockTrue H In flash) g used bt) (slot-true H In g used flash bt c, tt);
        plain_in = pi;
        plain_length = pl;
        current = cu;
      })
      (λ c k ks p.
      let st = slot-taken d k (ks ++ map (λ u. u.slot) used) (subst (λ l. Permᴰ (l ++ map (λ u. u.slot) used) (slots_from 0 d)) p sl) in
      record {
        rows_true = all-cleaned H (is_lost H none) (RowTrue H In plain) (RowTrue H In plain) (λ r y. y) rows rt;
        blocks_true = stored-true d k used flash g b bt (all_of_map (λ u. u.slot) (λ j. j ≢ k) used
            (all_right (λ j. j ≢ k) ks (map (λ u. u.slot) used) st.0)) st.1 fl ge bi;
        plain_in = pi;
        plain_length = pl;
        current = λ x dy. copied-good H (is_lost H none) rows used flash disk plain P x dl
            (all_map (RowTrue H In plain) (CopyTrue H (is_lost H none) P used flash plain) (λ r y e. clash (and_right r.dirty false e) refl) rows rt)
            (either (dirty-split H (is_lost H none) x rows dy) (λ n. inl (cu x n)) (λ n. inr n));
      })
      (λ c p u ch.
      let v = u.fingerprint in
      let cs = chosen-slot H rows used u ch in
      let sl' : Permᴰ (map (λ u. u.slot) used) (slots_from 0 d) = subst (λ l. Permᴰ (l ++ map (λ u. u.slot) used) (slots_from 0 d)) p sl in
      let st = slot-taken d u.slot (map (λ u. u.slot) (without_block H v used))
      (mathlib.Core.List.Permᴰ.trans (rw cs.0 at (mathlib.Core.List.Permᴰ.symm (perm-take H v used df cs.1))) sl') in
      record {
        rows_true = all-cleaned H (is_lost H (some v)) (RowTrue H In plain) (RowTrue H In plain) (λ r y. y) rows rt;
        blocks_true = stored-true d u.slot (without_block H v used) flash g b (all_without H.same (λ u. u.fingerprint) (BlockTrue H In flash) v used bt)
            (all_of_map (λ u. u.slot) (λ j. j ≢ u.slot) (without_block H v used) st.0) st.1 fl ge bi;
        plain_in = pi;
        plain_length = pl;
        current = λ x dy. copied-good H (is_lost H (some v)) rows used flash disk plain P x dl
            (all_map (λ r. RowTrue H In plain r × (r.address < P)) (CopyTrue H (is_lost H (some v)) P used flash plain)
            (λ r y e. (
              row_block P plain used flash r pi pl y.1 bt y.0
                  (rw (H.same→≡ v r.fingerprint (and_right r.dirty (H.same v r.fingerprint) e)) at cs.1),
              y.1,
            ))
            rows (all_both (RowTrue H In plain) (λ r. r.address < P) rows rt bl))
            (either (dirty-split H (is_lost H (some v)) x rows dy) (λ n. inl (cu x n)) (λ n. inr n));
      })
      (λ p q. absurd (some-slot H d free used d1 sl p q))

  pub faithful-step : (N : Numbers) (plain : List X) (s : Box F X) (q : Request F X) → Sound H N s → FaithfulBut H In q.address N.P plain s → 1 ≤ N.m
      → 1 ≤ N.d → q.address < N.P
      → q.fingerprint ≡ H.hash q.block → In q.block → q.block ≡ at H plain q.address
      → (q.dirty ≡ false → at H s.disk q.address ≡ at H plain q.address)
      → Faithful H In N.P plain (step H N.m s q).box
  unfolding step
  faithful-step N plain s q h f m1 d1 ap ge bi be cl =
      let a = q.address in
      let g = q.fingerprint in
      let o = step1 H N.m s a in
      let new = newest a g q.dirty q.seat in
      let rows = o.rows ++ (new ∷ []) in
      let out = sound-step1 H N s a h m1 in
      let ot = faithful-step1 N plain s a h f in
      let t = step3 H o.gone o.rows rows (record { free = s.free; used = s.used }) in
      let dirty : All (λ r. r.dirty ≡ true → (cached H r.fingerprint s.used ≡ true) ⊎ (r.fingerprint ≡ g)) rows
      = all_append (λ r. r.dirty ≡ true → (cached H r.fingerprint s.used ≡ true) ⊎ (r.fingerprint ≡ g)) o.rows (new ∷ [])
      (all_map (DirtyCached H s.used) (λ r. r.dirty ≡ true → (cached H r.fingerprint s.used ≡ true) ⊎ (r.fingerprint ≡ g)) (λ r y e. inl (y e))
      o.rows out.dirty_cached)
      ((λ e. inr refl), tt) in
      let bs = sound-step3 H N.d o.gone o.rows rows (record { free = s.free; used = s.used }) g
      (record { fingerprints = h.fingerprints; slots = h.slots; dirty_cached = dirty }) in
      faithful-step4 N.d N.P plain rows t.free t.used s.flash o.disk g q.block o.primary
      (all_append (RowTrue H In plain) o.rows (new ∷ []) ot.rows_true (ge ∙ ap' be, tt))
      (faithful-step3 o.gone o.rows rows (record { free = s.free; used = s.used }) s.flash f.blocks_true)
      f.plain_in f.plain_length
      (λ x dy. let n = dirty-snoc H x o.rows new dy in
      by-test (eqb a x)
      (λ y. let e = eqb→≡ a x y in
      subst (λ z. at H o.disk z ≡ at H plain z) e
      (ot.here ∙ cl (either (and-false-cases (eqb x a) (q.dirty && true) n.1)
      (λ z. clash (rw e (eqb-self x)) z)
      (λ z. either (and-false-cases q.dirty true z) (λ k. k) (λ k. absurd (true≢false k))))))
      (λ y. ot.current x y n.0))
      ge bi
      (all_append (λ r. r.address < N.P) o.rows (new ∷ []) out.below (ap, tt))
      out.disk_length h.flash_length d1 bs.slots bs.fingerprints
    where
      ap' : {b c : X} → b ≡ c → H.hash b ≡ H.hash c
      ap' e = mathlib.Core.Path.ap H.hash e
