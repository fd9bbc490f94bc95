-- Rows, blocks and the plain disk, for any policy's step: what the paper's own proofs of them use.
use Rattle.std.specs.Prelude.{◌≡◌, refl, Bool, true, false, not, ◌&&◌, List, [], ◌∷◌, ◌++◌, ◌⊎◌, ◌≢◌, ℕ, ◌<◌, eqb, length, set}
use Rattle.std.proofs.Common.{sym, ap, ◌∙◌, subst, true≢false, inl, inr, length-set, get_or-set_other}
use Rattle.std.proofs.Math.Option.{Option, none, some, some-injective}
use Rattle.std.proofs.lemmas.Bool.{not-false}
use Rattle.paper.specs.Cache.{Numbers, Hashing, AddressRow, BlockRow, Box, block_row, held, row_of, block_of, row_with_block, dirtied}
use Rattle.paper.specs.KeyedLaws.{by-test, either, clash, or-both, or-false-left, or-false-right, eqb→≡, eqb_swap, All, Distinct, all_append, all_map}
use Rattle.paper.specs.KeyedLaws.{all_both, find-some, find_none}
use Rattle.paper.specs.Sound.{Sound, DirtyCached}
use Rattle.paper.specs.Faithful.{any, dirty_at}
use Rattle.paper.proofs.FaithfulLaws.{at, at_set_same, at_set_other, all-at, all_set, RowTrue, BlockTrue, Faithful, FaithfulBut, row_block}
use Rattle.paper.proofs.PlainDiskLaws.{if_cached-some, if_cached-none}
use Rattle.arc.specs.PlainRows.{Only}

pub and-false-cases : (a b : Bool) → (a && b) ≡ false → (a ≡ false) ⊎ (b ≡ false)
and-false-cases true b e = inr e
and-false-cases false b e = inl refl

module _ {F X : Type 0} (H : Hashing F X) where
  pub dirty-snoc : (x : ℕ) (rows : List (AddressRow F)) (r : AddressRow F) → dirty_at any x (rows ++ (r ∷ [])) ≡ false
      → (dirty_at any x rows ≡ false) × ((eqb x r.address && (r.dirty && true)) ≡ false)
  dirty-snoc x [] r h = (refl, or-false-left (eqb x r.address && (r.dirty && true)) false h)
  dirty-snoc x (y ∷ ys) r h =
      let one = eqb x y.address && (y.dirty && true) in
      let ih = dirty-snoc x ys r (or-false-right one (dirty_at any x (ys ++ (r ∷ []))) h) in
      (or-both one (dirty_at any x ys) (or-false-left one (dirty_at any x (ys ++ (r ∷ []))) h) ih.0, ih.1)

  -- an address that is not held is not dirty; one whose row is clean is not
  absent-clean : (a : ℕ) (rows : List (AddressRow F)) → held a rows ≡ false → dirty_at any a rows ≡ false
  absent-clean a [] h = refl
  absent-clean a (r ∷ rs) h =
      or-both (eqb a r.address && (r.dirty && true)) (dirty_at any a rs) (rw (or-false-left (eqb a r.address) (held a rs) h) refl)
      (absent-clean a rs (or-false-right (eqb a r.address) (held a rs) h))

  pub row-clean : (a : ℕ) (rows : List (AddressRow F)) (r : AddressRow F) → Distinct eqb (λ r. r.address) rows → row_of a rows ≡ some r → r.dirty ≡ false
      → dirty_at any a rows ≡ false
  row-clean a [] r d = λ e c. refl
  row-clean a (x ∷ xs) r d =
      by-test (eqb a x.address)
      (λ y. rw y (λ e c. or-both (x.dirty && true) (dirty_at any a xs)
      (rw (subst (λ z. z.dirty ≡ false) (sym (some-injective x r e)) c) refl)
      (absent-clean a xs (rw (← eqb→≡ a x.address y) at d.0))))
      (λ y. rw y (λ e c. row-clean a xs r d.1 e c))

  -- on a miss the disk is up to date at the address
  pub miss-clean : (N : Numbers) (s : Box F X) (a : ℕ) → Sound H N s → row_with_block H s a ≡ none → dirty_at any a s.rows ≡ false
  miss-clean N s a h e =
      either (if_cached-none H s.used (row_of a s.rows) e)
      (λ n. absent-clean a s.rows (find_none eqb (λ r. r.address) a s.rows n))
      (λ y. row-clean a s.rows y.0 h.addresses y.1
      (by-test y.0.dirty
      (λ t. clash ((find-some eqb (λ r. r.address) (DirtyCached H s.used) a s.rows y.0 y.1 h.dirty_cached).0 t) y.2)
      (λ t. t)))

module _ {F X : Type 0} (H : Hashing F X) (In : X → Type 0) where
  pub but : (a P : ℕ) (plain : List X) (s : Box F X) → Faithful H In P plain s → FaithfulBut H In a P plain s
  but a P plain s f =
      record {
        rows_true = all_map (RowTrue H In plain) (λ r. eqb a r.address ≡ false → RowTrue H In plain r) (λ r y e. y) s.rows f.rows_true;
        blocks_true = f.blocks_true;
        plain_in = f.plain_in;
        plain_length = f.plain_length;
        current = λ x n dy. f.current x dy;
      }

  -- the plain disk's block a is replaced
  row-set : (a : ℕ) (b : X) (plain : List X) (r : AddressRow F) → eqb a r.address ≡ false → RowTrue H In plain r → RowTrue H In (set plain a b) r
  row-set a b plain r n t = t ∙ ap H.hash (sym (at_set_other H plain a r.address b (eqb_swap a r.address n)))

  pub but-set : (a P : ℕ) (b : X) (plain : List X) (s : Box F X) → Faithful H In P plain s → In b → FaithfulBut H In a P (set plain a b) s
  but-set a P b plain s f bi =
      record {
        rows_true = all_map (RowTrue H In plain) (λ r. eqb a r.address ≡ false → RowTrue H In (set plain a b) r) (λ r y e. row-set a b plain r e y)
            s.rows f.rows_true;
        blocks_true = f.blocks_true;
        plain_in = all_set In plain a b f.plain_in bi;
        plain_length = length-set plain a b ∙ f.plain_length;
        current = λ x n dy. f.current x dy ∙ sym (at_set_other H plain a x b (eqb_swap a x n));
      }

  -- the blocks after b goes to slot k, of rows with other slots
  pub stored-true : (d k : ℕ) (used : List (BlockRow F)) (flash : List X) (g : F) (b : X) → All (BlockTrue H In flash) used → All (λ u. u.slot ≢ k) used
      → k < d → length flash ≡ d
      → g ≡ H.hash b → In b → All (BlockTrue H In (set flash k b)) (used ++ (block_row g k ∷ []))
  stored-true d k used flash g b t n kd fl e i =
      let same-b : at H (set flash k b) k ≡ b = at_set_same H flash k b (subst (λ x. k < x) (sym fl) kd) in
      all_append (BlockTrue H In (set flash k b)) used (block_row g k ∷ [])
      (all_map (λ u. BlockTrue H In flash u × (u.slot ≢ k)) (BlockTrue H In (set flash k b))
      (λ u y. subst (λ x. (u.fingerprint ≡ H.hash x) × In x) (sym (get_or-set_other flash k u.slot b H.blank y.1)) y.0)
      used (all_both (BlockTrue H In flash) (λ u. u.slot ≢ k) used t n))
      (subst (λ x. (g ≡ H.hash x) × In x) (sym same-b) (e, i), tt)

module _ {F X : Type 0} (H : Hashing F X) (In : X → Type 0) (only : Only H In) where
  -- what a hit returns is the plain disk's block
  pub hit-block : (N : Numbers) (plain : List X) (s : Box F X) (a : ℕ) (r : AddressRow F) → Sound H N s → Faithful H In N.P plain s
      → row_with_block H s a ≡ some r
      → block_of H r.fingerprint s.used s.flash ≡ at H plain a
  hit-block N plain s a r h f e =
      let c = if_cached-some H s.used (row_of a s.rows) r e in
      let y = find-some eqb (λ r. r.address) (λ r. RowTrue H In plain r × (r.address < N.P)) a s.rows r c.0
      (all_both (RowTrue H In plain) (λ r. r.address < N.P) s.rows f.rows_true h.below) in
      row_block H In only N.P plain s.used s.flash r f.plain_in f.plain_length y.0.1 f.blocks_true y.0.0 c.1
      ∙ ap (at H plain) (sym (eqb→≡ a r.address y.1))

  -- where a write back leaves the row clean, the disk has its block already
  pub still-clean : (N : Numbers) (plain : List X) (s : Box F X) (a : ℕ) (b : X) (o : Option (AddressRow F)) → row_of a s.rows ≡ o → Sound H N s
      → Faithful H In N.P plain s → In b → a < N.P → dirtied H (H.hash b) o ≡ false → at H s.disk a ≡ b
  still-clean N plain s a b none e h f bi w k = absurd (true≢false k)
  still-clean N plain s a b (some r) e h f bi w k =
      let other = not (H.same (H.hash b) r.fingerprint) in
      let c : r.dirty ≡ false = or-false-left r.dirty other k in
      let n : other ≡ false = or-false-right r.dirty other k in
      let g : H.hash b ≡ r.fingerprint = H.same→≡ (H.hash b) r.fingerprint (not-false (H.same (H.hash b) r.fingerprint) n) in
      let y = find-some eqb (λ r. r.address) (RowTrue H In plain) a s.rows r e f.rows_true in
      let pin : In (at H plain a) = all-at In plain a H.blank f.plain_in (subst (λ n. a < n) (sym f.plain_length) w) in
      f.current a (row-clean H a s.rows r h.addresses e c)
      ∙ only (at H plain a) b pin bi (ap H.hash (ap (at H plain) (eqb→≡ a r.address y.1)) ∙ sym y.0 ∙ sym g)
