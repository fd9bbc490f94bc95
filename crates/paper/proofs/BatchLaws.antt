-- Laws of U2's call on paper: without a premise, and as the reads done in turn where the box is good.
use Rattle.std.specs.Prelude.{◌≡◌, Bool, false, not, ◌&&◌, ℕ, ◌≤◌, ◌<◌, ◌+◌, ◌*◌, eqb, length}
use Rattle.std.proofs.Math.Path.{refl, sym, ap, subst}
use Rattle.std.proofs.Common.{ap₂, ◌∙◌}
use Rattle.std.proofs.Math.Bool.{true}
use mathlib.Core.List.{List, [], ◌∷◌, ◌++◌, map, append_assoc, append-nil}
use Rattle.std.proofs.Math.Option.{Option, none, some, some-injective, none-ne-some}
use native.Mathlib.Omega.{arith}
use Rattle.paper.specs.KeyedLaws.{by-test, All, all_append, eqb→≡}
use Rattle.paper.specs.Cache.{Numbers, Hashing, AddressRow, Box, Outcome, Word, hit, miss, Call, read, Counters, counted, one_if, is_hit}
use Rattle.paper.specs.Cache.{row_with_block, answer, read_as, dirty_rows, serve}
use Rattle.paper.specs.Sound.{Sound}
use Rattle.paper.proofs.SoundLaws.{sound-read_as, sound-serve}
use Rattle.paper.proofs.Orphans.{NoWaste}
use Rattle.paper.proofs.OrphanList.{no_waste-read_as}
use Rattle.paper.proofs.FaithfulLaws.{at}
use Rattle.paper.proofs.PlainDiskLaws.{Good, faithful-serve}
use Rattle.paper.proofs.FewWrites.{one-if-le, few-by, tally-read_as}
use Rattle.paper.specs.Batch.{Filled, Batched, addresses_in, blocks_in, is_miss, seen, first_read, start, source, block_in, added, batch_read, batch, in_turn}
use Rattle.paper.specs.BatchLaws.{GrownBy, but_fetches, missed}

pub map_last : {X Y : Type 0} (f : X → Y) (xs : List X) (y : X) → map f (xs ++ (y ∷ [])) ≡ map f xs ++ (f y ∷ [])
map_last f [] y = refl
map_last {Y = Y} f (x ∷ xs) y = ap {B = List Y} (λ l. f x ∷ l) (map_last f xs y)

module _ {F X : Type 0} (H : Hashing F X) (N : Numbers) where
  -- the outcome of the next read
  abbrev pub turn_of : Batched F X → ℕ → Outcome F X
  turn_of t a = read_as H N.m t.box a (source H t.box a (first_read a t.filled)) (row_with_block H t.box a)

  -- "A disk fetch is made for the first read of each distinct address .. exactly where that read is a miss, and for no other read."
  pub fetches-exactly : (t : Batched F X) (a : ℕ) → (batch_read H N t a).fetches ≡ t.fetches + one_if
      (not (seen a t.filled) && missed (row_with_block H t.box a))
  unfolding batch_read read_as answer
  fetches-exactly t a =
      ap (λ (w : Bool). t.fetches + one_if (not (seen a t.filled) && w))
      (word-missed (source H t.box a (first_read a t.filled)) (row_with_block H t.box a))
    where
      word-missed : (x : X) (o : Option (AddressRow F)) → is_miss (read_as H N.m t.box a x o).word ≡ missed o
      word-missed x (some r) = refl
      word-missed x none = refl

  -- "which never exceeds the call's misses": on any box
  fetched-once : (f : Bool) (w : Word) → one_if (f && is_miss w) ≤ one_if (is_miss w)
  fetched-once true w = omega arith
  fetched-once false w = by-test (is_miss w) (λ e. rw e (omega arith)) (λ e. rw e (omega arith))

  pub fetches-misses : (t : Batched F X) (l : List ℕ) → t.fetches ≤ t.misses → (batch H N t l).fetches ≤ (batch H N t l).misses
  unfolding batch batch_read
  fetches-misses t [] h = h
  fetches-misses t (a ∷ l) h =
      let f = fetched-once (not (seen a t.filled)) (turn_of t a).word in
      fetches-misses (batch_read H N t a) l (omega arith)

  -- it fills one block for each address, in their order
  pub fills : (t : Batched F X) (l : List ℕ) → addresses_in (batch H N t l).filled ≡ addresses_in t.filled ++ l
  unfolding batch batch_read
  fills t [] = sym (append-nil (addresses_in t.filled))
  fills t (a ∷ l) =
      fills (batch_read H N t a) l
      ∙ ap (λ x. x ++ l) (map_last (λ (f : Filled X). f.address) t.filled (record { address = a; block = block_in H (turn_of t a).block }))
      ∙ append_assoc (addresses_in t.filled) (a ∷ []) l

  -- what needs no premise: the box stays sound, and where nothing was wasted nothing is
  pub batch-sound : 1 ≤ N.m → 1 ≤ N.d → (t : Batched F X) (l : List ℕ) → All (λ a. a < N.P) l → Sound H N t.box
      → Sound H N (batch H N t l).box
      × (NoWaste H t.box.rows t.box.used → NoWaste H (batch H N t l).box.rows (batch H N t l).box.used)
  unfolding batch batch_read
  batch-sound m1 d1 t [] w h = (h, λ n. n)
  batch-sound m1 d1 t (a ∷ l) w h =
      let b = source H t.box a (first_read a t.filled) in
      let o = row_with_block H t.box a in
      let r = batch-sound m1 d1 (batch_read H N t a) l w.1 (sound-read_as H N t.box a b o h m1 d1 w.0) in
      (r.0, λ n. r.1 (no_waste-read_as H N.m t.box a b o h.addresses n))

  -- nor do its reads make more rows dirty
  pub batch-few : (t : Batched F X) (l : List ℕ) → dirty_rows H t.box.rows ≤ N.t → dirty_rows H (batch H N t l).box.rows ≤ N.t
  unfolding batch batch_read
  batch-few t [] f = f
  batch-few t (a ∷ l) f =
      batch-few (batch_read H N t a) l
      ((tally-read_as H N.t N.m t.box a (source H t.box a (first_read a t.filled)) (row_with_block H t.box a) refl).few f)

  pub batch-grows : 1 ≤ N.m → 1 ≤ N.d → N.m ≤ 1024 → (t : Batched F X) (l : List ℕ) → Sound H N t.box → All (λ a. a < N.P) l
      → GrownBy (length l) t.counters (batch H N t l).counters
  unfolding batch batch_read counted
  batch-grows m1 d1 mm t [] h w = record { reads = omega arith; hits = omega arith; flash_writes = omega arith; primary_writes = omega arith }
  batch-grows m1 d1 mm t (a ∷ l) h w =
      let b = source H t.box a (first_read a t.filled) in
      let r = row_with_block H t.box a in
      let few = few-by H N N.t t.box (turn_of t a) h (tally-read_as H N.t N.m t.box a b r refl) in
      let f₀ = few.0 in
      let f₁ = few.1 in
      let hit = one-if-le (is_hit (turn_of t a).word) in
      let g = batch-grows m1 d1 mm (batch_read H N t a) l (sound-read_as H N t.box a b r h m1 d1 w.0) w.1 in
      let g₀ = g.reads in
      let g₁ = g.hits in
      let g₂ = g.flash_writes in
      let g₃ = g.primary_writes in
      record { reads = omega arith; hits = omega arith; flash_writes = omega arith; primary_writes = omega arith }

module _ {F X : Type 0} (H : Hashing F X) (In : X → Type 0) (only : (b c : X) → In b → In c → H.hash b ≡ H.hash c → b ≡ c) (N : Numbers) (m1 : 1 ≤ N.m)
    (d1 : 1 ≤ N.d) where
  -- a read leaves a good box, and returns the plain disk's block
  read-good : (s : Box F X) (plain : List X) (a : ℕ) → Good H In N s plain → a < N.P
      → Good H In N (serve H N s (read a)).box plain × ((serve H N s (read a)).block ≡ some (at H plain a))
  read-good s plain a g w =
      let f = faithful-serve H In only N plain s (read a) g.0 g.1 m1 d1 w tt in
      ((sound-serve H N s (read a) g.0 m1 d1 w, f.0), f.1)

  -- on a miss of a good box the plain disk's block is the disk's
  miss-plain : (s : Box F X) (plain : List X) (a : ℕ) → Good H In N s plain → a < N.P → row_with_block H s a ≡ none → at H s.disk a ≡ at H plain a
  unfolding serve read_as answer
  miss-plain s plain a g w n =
      let r = (read-good s plain a g w).1 in
      some-injective (at H s.disk a) (at H plain a) (subst (λ o. (read_as H N.m s a (at H s.disk a) o).block ≡ some (at H plain a)) n r)

  -- The lemma behind the request: in a good box, to take the plain disk's block is to read.
  taking-plain : (s : Box F X) (plain : List X) (a : ℕ) (b : X) → Good H In N s plain → a < N.P → b ≡ at H plain a
      → read_as H N.m s a b (row_with_block H s a) ≡ serve H N s (read a)
  unfolding serve read_as
  taking-plain s plain a b g w e = go (row_with_block H s a) refl
    where
      go : (o : Option (AddressRow F)) → row_with_block H s a ≡ o → read_as H N.m s a b o ≡ read_as H N.m s a (at H s.disk a) o
      go (some r) n = refl
      go none n = ap (λ x. read_as H N.m s a x none) (e ∙ sym (miss-plain s plain a g w n))

  -- the buffer holds the plain disk's blocks
  abbrev FilledTrue : List X → List (Filled X) → Type 0
  FilledTrue plain fs = All (λ f. f.block ≡ at H plain f.address) fs

  first_plain_lem : (plain : List X) (a : ℕ) (fs : List (Filled X)) (b : X) → FilledTrue plain fs → first_read a fs ≡ some b → b ≡ at H plain a
  first_plain_lem plain a [] b = λ h e. absurd (none-ne-some b e)
  first_plain_lem plain a (f ∷ fs) b =
      by-test (eqb a f.address)
      (λ y. rw y (λ h e. sym (some-injective f.block b e) ∙ h.0 ∙ ap (at H plain) (sym (eqb→≡ a f.address y))))
      (λ y. rw y (λ h e. first_plain_lem plain a fs b h.1 e))

  -- the next read of the call is document 01's
  turn-read : (t : Batched F X) (plain : List X) (a : ℕ) → Good H In N t.box plain → FilledTrue plain t.filled → a < N.P
      → turn_of H N t a ≡ serve H N t.box (read a)
  unfolding serve
  turn-read t plain a g h w = go (first_read a t.filled) refl
    where
      go : (o : Option X) → first_read a t.filled ≡ o
          → read_as H N.m t.box a (source H t.box a o) (row_with_block H t.box a) ≡ serve H N t.box (read a)
      go none e = refl
      go (some b) e = taking-plain t.box plain a b g w (first_plain_lem plain a t.filled b h e)

  -- it leaves a good box, and the plain disk's block in the buffer
  record OneRead (t : Batched F X) (plain : List X) (a : ℕ) : Type 0 where
    same : but_fetches (batch_read H N t a) ≡ but_fetches (added H t a true (serve H N t.box (read a)))
    good : Good H In N (batch_read H N t a).box plain
    true-blocks : FilledTrue plain (batch_read H N t a).filled

  one-read : (t : Batched F X) (plain : List X) (a : ℕ) → Good H In N t.box plain → FilledTrue plain t.filled → a < N.P → OneRead t plain a
  unfolding batch_read
  one-read t plain a g h w =
      let e = turn-read t plain a g h w in
      let r = read-good t.box plain a g w in
      record {
        same = ap (λ o. but_fetches (added H t a true o)) e;
        good = subst (λ o. Good H In N o.box plain) (sym e) r.0;
        true-blocks = all_append (λ f. f.block ≡ at H plain f.address) t.filled
            (record { address = a; block = block_in H (turn_of H N t a).block } ∷ []) h (ap (λ o. block_in H o.block) e ∙ ap (block_in H) r.1, tt);
      }

  -- From a good box the call is the reads done in turn, but for the number of fetches; its box is good, its blocks the plain disk's.
  pub batch-in-turn : (t u : Batched F X) (plain : List X) (l : List ℕ) → but_fetches t ≡ but_fetches u → Good H In N t.box plain
      → FilledTrue plain t.filled → All (λ a. a < N.P) l → but_fetches (batch H N t l) ≡ but_fetches (in_turn H N u l)
  unfolding batch in_turn
  batch-in-turn t u plain [] e g h w = e
  batch-in-turn t u plain (a ∷ l) e g h w =
      let r = one-read t plain a g h w.0 in
      batch-in-turn (batch_read H N t a) (added H u a true (serve H N u.box (read a))) plain l
      (r.same ∙ ap (λ (v : Batched F X). but_fetches (added H v a true (serve H N v.box (read a)))) e) r.good r.true-blocks w.1

  pub batch-good : (t : Batched F X) (plain : List X) (l : List ℕ) → Good H In N t.box plain → FilledTrue plain t.filled → All (λ a. a < N.P) l
      → Good H In N (batch H N t l).box plain × FilledTrue plain (batch H N t l).filled
  unfolding batch
  batch-good t plain [] g h w = (g, h)
  batch-good t plain (a ∷ l) g h w =
      let r = one-read t plain a g h w.0 in
      batch-good (batch_read H N t a) plain l r.good r.true-blocks w.1

  -- the blocks that it returns are those of the plain disk at its addresses
  pub batch-blocks : (s : Box F X) (k : Counters) (plain : List X) (l : List ℕ) → Good H In N s plain → All (λ a. a < N.P) l
      → blocks_in (batch H N (start s k) l).filled ≡ map (at H plain) l
  batch-blocks s k plain l g w =
      go (batch H N (start s k) l).filled (batch-good (start s k) plain l g tt w).1 ∙ ap (map (at H plain)) (fills H N (start s k) l)
    where
      go : (fs : List (Filled X)) → FilledTrue plain fs → blocks_in fs ≡ map (at H plain) (addresses_in fs)
      go [] h = refl
      go (f ∷ fs) h = ap₂ {C = List X} (λ x y. x ∷ y) h.0 (go fs h.1)
