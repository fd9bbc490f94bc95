-- Laws of folder reads over a policy: without a premise, and as the reads done in turn where the box is good.
use Rattle.std.specs.Prelude.{◌≡◌, Bool, false, not, ◌&&◌, ℕ, ◌≤◌, ◌<◌, eqb}
use Rattle.std.proofs.Math.Path.{refl, sym, ap, subst}
use Rattle.std.proofs.Common.{ap₂, ◌∙◌, arith}
use Rattle.std.proofs.Math.Bool.{true}
use mathlib.Core.List.{List, [], ◌∷◌, ◌++◌, map, append_assoc, append-nil}
use Rattle.std.proofs.Math.Option.{Option, none, some, some-injective, none-ne-some}
use Rattle.paper.specs.Cache.{Numbers, Hashing, AddressRow, Box, Word, read, one_if, dirty_rows, row_with_block}
use Rattle.paper.specs.KeyedLaws.{by-test, All, all_append, eqb→≡}
use Rattle.paper.proofs.FaithfulLaws.{at}
use Rattle.paper.specs.Batch.{Filled, Batched, addresses_in, blocks_in, is_miss, seen, first_read, source, block_in, added, batch_read, batch}
use Rattle.paper.specs.BatchLaws.{but_fetches}
use Rattle.paper.proofs.BatchLaws.{map_last}
use Rattle.arc.specs.Policy.{Policy, Served, read_by, serve_by, lru}
use Rattle.arc.proofs.LruServes.{lru-reads}
use Rattle.arc.specs.PlainRows.{Only}
use Rattle.arc.proofs.PlainRowsLaws.{miss-clean}
use Rattle.arc.proofs.PromiseLaws.{Promise, inv-read, inv-serve, tally-reads, faithful-serves, GoodBy}
use Rattle.arc.specs.Folder.{FolderBy, next_read, folder_read, folder, own_read, folder_in_turn}

-- for D-LRU it is the paper's folder read
pub lru-folder : {F X : Type 0} (H : Hashing F X) (N : Numbers) (t : Batched F X) (l : List ℕ)
    → (folder H (lru H N) (record { kept = tt; batched = t }) l).batched ≡ batch H N t l
unfolding folder folder_read batch batch_read
lru-folder H N t [] = refl
lru-folder {F} {X} H N t (a ∷ l) =
    ap (λ (b : Batched F X). (folder H (lru H N) (record { kept = tt; batched = b }) l).batched)
    (ap (added H t a (not (seen a t.filled))) (lru-reads H N t.box a (source H t.box a (first_read a t.filled)) (row_with_block H t.box a)))
    ∙ lru-folder H N (batch_read H N t a) l

module _ {F X S : Type 0} (H : Hashing F X) (pol : Policy F X S) where
  -- "which never exceeds the call's misses": on any box
  fetched-once : (f : Bool) (w : Word) → one_if (f && is_miss w) ≤ one_if (is_miss w)
  fetched-once true w = omega arith
  fetched-once false w = by-test (is_miss w) (λ e. rw e (omega arith)) (λ e. rw e (omega arith))

  pub folder-fetches : (t : FolderBy F X S) (l : List ℕ) → t.batched.fetches ≤ t.batched.misses
      → (folder H pol t l).batched.fetches ≤ (folder H pol t l).batched.misses
  unfolding folder folder_read
  folder-fetches t [] h = h
  folder-fetches t (a ∷ l) h =
      let f = fetched-once (not (seen a t.batched.filled)) (next_read H pol t a).outcome.word in
      folder-fetches (folder_read H pol t a) l (omega (arith, f, h))

  -- it fills one block for each address, in their order
  pub folder-fills : (t : FolderBy F X S) (l : List ℕ) → addresses_in (folder H pol t l).batched.filled ≡ addresses_in t.batched.filled ++ l
  unfolding folder folder_read
  folder-fills t [] = sym (append-nil (addresses_in t.batched.filled))
  folder-fills t (a ∷ l) =
      folder-fills (folder_read H pol t a) l
      ∙ ap (λ x. x ++ l) (map_last (λ (f : Filled X). f.address) t.batched.filled
      (record { address = a; block = block_in H (next_read H pol t a).outcome.block }))
      ∙ append_assoc (addresses_in t.batched.filled) (a ∷ []) l

  -- all but the number of fetches
  abbrev pub but_by : FolderBy F X S → FolderBy F X S
  but_by t = record { kept = t.kept; batched = but_fetches t.batched }

module _ {F X S : Type 0} (H : Hashing F X) (N : Numbers) (pol : Policy F X S) (Inv : S → Box F X → Type 0) (pr : Promise H N pol Inv) where
  -- with no premise, the invariant
  pub folder-inv : (t : FolderBy F X S) (l : List ℕ) → Inv t.kept t.batched.box → All (λ a. a < N.P) l
      → Inv (folder H pol t l).kept (folder H pol t l).batched.box
  unfolding folder folder_read
  folder-inv t [] i w = i
  folder-inv t (a ∷ l) i w =
      let b = t.batched in
      folder-inv (folder_read H pol t a) l
      (inv-read H N pol Inv pr t.kept b.box a (source H b.box a (first_read a b.filled)) (row_with_block H b.box a) i w.0) w.1

  -- and no more rows are dirty than its limit
  pub folder-few-dirty : (t : FolderBy F X S) (l : List ℕ) → Inv t.kept t.batched.box → All (λ a. a < N.P) l
      → dirty_rows H t.batched.box.rows ≤ pol.limit → dirty_rows H (folder H pol t l).batched.box.rows ≤ pol.limit
  unfolding folder folder_read
  folder-few-dirty t [] i w f = f
  folder-few-dirty t (a ∷ l) i w f =
      let s = t.batched.box in
      let x = source H s a (first_read a t.batched.filled) in
      folder-few-dirty (folder_read H pol t a) l (inv-read H N pol Inv pr t.kept s a x (row_with_block H s a) i w.0) w.1
      ((tally-reads H N pol Inv pr t.kept s a x (row_with_block H s a) refl i).few f)

module _ {F X S : Type 0} (H : Hashing F X) (N : Numbers) (pol : Policy F X S) (Inv : S → Box F X → Type 0) (pr : Promise H N pol Inv) (m1 : 1 ≤ N.m)
    (d1 : 1 ≤ N.d)
    (In : X → Type 0) (only : Only H In) where
  abbrev Good : S → Box F X → List X → Type 0
  Good k s plain = GoodBy H N pol Inv pr m1 d1 In only k s plain

  -- in a good box, to take the plain disk's block is to read
  taking-plain : (k : S) (s : Box F X) (plain : List X) (a : ℕ) (b : X) → Good k s plain → b ≡ at H plain a
      → read_by H pol k s a b (row_with_block H s a) ≡ serve_by H pol k s (read a)
  unfolding serve_by read_by
  taking-plain k s plain a b g e = go (row_with_block H s a) refl
    where
      go : (o : Option (AddressRow F)) → row_with_block H s a ≡ o → read_by H pol k s a b o ≡ read_by H pol k s a (at H s.disk a) o
      go (some r) n = refl
      go none n = ap (λ x. read_by H pol k s a x none) (e ∙ sym (g.1.current a (miss-clean H N s a (pr.sound k s g.0) n)))

  -- the buffer holds the plain disk's blocks
  abbrev pub FilledTrue : List X → List (Filled X) → Type 0
  FilledTrue plain fs = All (λ f. f.block ≡ at H plain f.address) fs

  first_plain_lem : (plain : List X) (a : ℕ) (fs : List (Filled X)) (b : X) → FilledTrue plain fs → first_read a fs ≡ some b → b ≡ at H plain a
  first_plain_lem plain a [] b = λ h e. absurd (none-ne-some b e)
  first_plain_lem plain a (f ∷ fs) b =
      by-test (eqb a f.address)
      (λ y. rw y (λ h e. sym (some-injective f.block b e) ∙ h.0 ∙ ap (at H plain) (sym (eqb→≡ a f.address y))))
      (λ y. rw y (λ h e. first_plain_lem plain a fs b h.1 e))

  -- the next read of the call is a read of its own
  turn-read : (t : FolderBy F X S) (plain : List X) (a : ℕ) → Good t.kept t.batched.box plain → FilledTrue plain t.batched.filled
      → next_read H pol t a ≡ serve_by H pol t.kept t.batched.box (read a)
  unfolding serve_by
  turn-read t plain a g h = go (first_read a t.batched.filled) refl
    where
      go : (o : Option X) → first_read a t.batched.filled ≡ o
          → read_by H pol t.kept t.batched.box a (source H t.batched.box a o) (row_with_block H t.batched.box a)
          ≡ serve_by H pol t.kept t.batched.box (read a)
      go none e = refl
      go (some b) e = taking-plain t.kept t.batched.box plain a b g (first_plain_lem plain a t.batched.filled b h e)

  record OneRead (t : FolderBy F X S) (plain : List X) (a : ℕ) : Type 0 where
    same : but_by H pol (folder_read H pol t a) ≡ but_by H pol (own_read H pol t a)
    good : Good (folder_read H pol t a).kept (folder_read H pol t a).batched.box plain
    true-blocks : FilledTrue plain (folder_read H pol t a).batched.filled

  one-read : (t : FolderBy F X S) (plain : List X) (a : ℕ) → Good t.kept t.batched.box plain → FilledTrue plain t.batched.filled → a < N.P
      → OneRead t plain a
  unfolding folder_read
  one-read t plain a g h w =
      let e = turn-read t plain a g h in
      let k = t.kept in
      let s = t.batched.box in
      let f = faithful-serves H N pol Inv pr m1 d1 In only plain k s (read a) g.0 g.1 w tt in
      record {
        same = ap (λ (o : Served F X S). but_by H pol (record { kept = o.kept; batched = added H t.batched a true o.outcome })) e;
        good = subst (λ o. Good o.kept o.outcome.box plain) (sym e) (inv-serve H N pol Inv pr k s (read a) g.0 w, f.0);
        true-blocks = all_append (λ f. f.block ≡ at H plain f.address) t.batched.filled
            (record { address = a; block = block_in H (next_read H pol t a).outcome.block } ∷ []) h
            (ap (λ o. block_in H o.outcome.block) e ∙ ap (block_in H) f.1, tt);
      }

  -- From a good box the call is the reads done in turn, but for the number of fetches; its box is good, its blocks the plain disk's.
  pub folder-in-turn : (t u : FolderBy F X S) (plain : List X) (l : List ℕ) → but_by H pol t ≡ but_by H pol u → Good t.kept t.batched.box plain
      → FilledTrue plain t.batched.filled → All (λ a. a < N.P) l → but_by H pol (folder H pol t l) ≡ but_by H pol (folder_in_turn H pol u l)
  unfolding folder folder_in_turn
  folder-in-turn t u plain [] e g h w = e
  folder-in-turn t u plain (a ∷ l) e g h w =
      let r = one-read t plain a g h w.0 in
      folder-in-turn (folder_read H pol t a) (own_read H pol u a) plain l
      (r.same ∙ ap (λ (v : FolderBy F X S). but_by H pol (own_read H pol v a)) e) r.good r.true-blocks w.1

  pub folder-good : (t : FolderBy F X S) (plain : List X) (l : List ℕ) → Good t.kept t.batched.box plain → FilledTrue plain t.batched.filled
      → All (λ a. a < N.P) l → Good (folder H pol t l).kept (folder H pol t l).batched.box plain × FilledTrue plain
      (folder H pol t l).batched.filled
  unfolding folder
  folder-good t plain [] g h w = (g, h)
  folder-good t plain (a ∷ l) g h w =
      let r = one-read t plain a g h w.0 in
      folder-good (folder_read H pol t a) plain l r.good r.true-blocks w.1

  -- the blocks that it returns are those of the plain disk at its addresses
  pub folder-blocks : (t : FolderBy F X S) (plain : List X) (l : List ℕ) → t.batched.filled ≡ [] → Good t.kept t.batched.box plain
      → All (λ a. a < N.P) l
      → blocks_in (folder H pol t l).batched.filled ≡ map (at H plain) l
  folder-blocks t plain l n g w =
      go (folder H pol t l).batched.filled (folder-good t plain l g (subst (FilledTrue plain) (sym n) tt) w).1
      ∙ ap (map (at H plain)) (folder-fills H pol t l ∙ ap (λ fs. addresses_in fs ++ l) n)
    where
      go : (fs : List (Filled X)) → FilledTrue plain fs → blocks_in fs ≡ map (at H plain) (addresses_in fs)
      go [] h = refl
      go (f ∷ fs) h = ap₂ {C = List X} (λ x y. x ∷ y) h.0 (go fs h.1)
