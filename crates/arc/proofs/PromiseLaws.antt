-- What a policy must promise of its step, and the laws of the calls and of every list of calls that follow for every policy.
use Rattle.std.specs.Prelude.{◌≡◌, false, ℕ, zero, suc, ◌≤◌, ◌<◌, length, set, get_or}
use Rattle.std.proofs.Math.Path.{refl, sym, ap, subst}
use Rattle.std.proofs.Common.{◌∙◌}
use mathlib.Core.List.{List, [], ◌∷◌, ◌++◌, Memᴰ}
use Rattle.std.proofs.Math.Option.{Option, none, some}
use Rattle.std.proofs.Math.Dec.{eqb}
use Rattle.paper.specs.Cache.{Numbers, Hashing, AddressRow, Box, Request, block_of, partly, reach, clean_to, row_of, seat_in, Call, read, through, back}
use Rattle.paper.specs.Cache.{invalidate, look, flush, Within, on_disk, row_with_block, answer, same_or_new, back_request, write_invalidate, look_as, flushed}
use Rattle.paper.specs.Cache.{excess, serve, fresh}
use Rattle.paper.specs.KeyedLaws.{eqb→≡, eqb_swap, All, all_left, all_right, all_map, find-some}
use Rattle.paper.specs.Machines.{plain_next, plain_block, written_by, TrueFingerprints, NoTwoShare}
use Rattle.paper.specs.Sound.{Sound}
use Rattle.paper.proofs.SoundLaws.{sound-on_disk, sound-clean_to, sound-step, sound-serve}
use Rattle.paper.proofs.FaithfulLaws.{at, at_set_same, at_set_other, all-at, RowTrue, BlockTrue, Faithful, FaithfulBut, faithful-step}
use Rattle.paper.proofs.PlainDiskLaws.{if_cached-some, clean-is-plain, flush-whole, faithful-clean_to, faithful-serve}
use Rattle.paper.proofs.FewWrites.{Spent, may_copy, spent-step, Tally, tally-hit, tally-miss, tally-through, tally-back, tally-invalidate, tally-look}
use Rattle.paper.proofs.FewWrites.{tally-flush}
use Rattle.arc.specs.PlainRows.{Only}
use Rattle.arc.proofs.PlainRowsLaws.{row-clean, miss-clean, but, but-set, hit-block, still-clean}
use Rattle.arc.specs.Policy.{Policy, serve_by, read_by, through_by, back_by, answered_by, ThroughoutBy, EachBy, ReturnsPlain}
use Rattle.arc.specs.Policy.{FlushesPlain, written_in, lru}
use Rattle.arc.specs.Promise.{Alike, OnCalls}

-- A request that tells the truth: its fingerprint is its block's, its block is the plain disk's, and it is clean only where the disk is up to date
pub record True {F X : Type 0} (H : Hashing F X) (In : X → Type 0) (plain : List X) (s : Box F X) (q : Request F X) : Type 0 where
  pub print : q.fingerprint ≡ H.hash q.block
  pub in_set : In q.block
  pub plainly : q.block ≡ at H plain q.address
  pub clean : q.dirty ≡ false → at H s.disk q.address ≡ at H plain q.address

pub alike_self : {F : Type 0} (rows : List (AddressRow F)) → Alike rows rows
alike_self [] = tt
alike_self (x ∷ xs) = (refl, refl, alike_self xs)

pub alike-partly : {F X : Type 0} (H : Hashing F X) (i : ℕ) (rows : List (AddressRow F)) → Alike rows (partly H i rows)
alike-partly H zero rows = alike_self rows
alike-partly H (suc i) [] = tt
alike-partly H (suc i) (x ∷ xs) = (refl, refl, alike-partly H i xs)

-- What a policy must promise, for an invariant `Inv` of its own state and the box
pub record Promise {F X S : Type 0} (H : Hashing F X) (N : Numbers) (pol : Policy F X S) (Inv : S → Box F X → Type 0) : Type 1 where
  -- 1. The invariant says no less than the structure that every box has.
  pub sound : (k : S) (s : Box F X) → Inv k s → Sound H N s
  -- 2. It doesn't depend on the blocks of flash and disk, nor on which rows are dirty, nor on seats. (A write through's block, flush, a partial flush.)
  pub shape : (k : S) (s s' : Box F X) → Alike s.rows s'.rows → s'.free ≡ s.free → s'.used ≡ s.used → Sound H N s'
      → Inv k s → Inv k s'
  -- 3. It outlasts a row that a write invalidate takes out, its address leaving the policy's state,
  pub invalidates : (k : S) (s : Box F X) (a : ℕ) (b : X) → Inv k s → a < N.P → Inv (pol.leave a k) (write_invalidate H s a b).box
  -- 4. and the step of any request within the disk.
  pub steps : (k : S) (s : Box F X) (q : Request F X) → Inv k s → q.address < N.P
      → Inv (pol.run k s q).kept (pol.run k s q).stepped.box
  -- 5. What the step copies and leaves dirty were dirty rows of other addresses, and its own.
  pub spends : (k : S) (s : Box F X) (q : Request F X) → Inv k s
      → Spent H (may_copy H s.rows q.address q.dirty) (pol.run k s q).stepped
  -- 6. The step of a true request, from a box that is faithful but at its address, leaves a faithful box.
  pub faithful : (In : X → Type 0) → Only H In → (plain : List X) (k : S) (s : Box F X) (q : Request F X) → Inv k s
      → FaithfulBut H In q.address N.P plain s → q.address < N.P → True H In plain s q
      → Faithful H In N.P plain (pol.run k s q).stepped.box

module _ {F X S : Type 0} (H : Hashing F X) (N : Numbers) (pol : Policy F X S) (Inv : S → Box F X → Type 0) (pr : Promise H N pol Inv) where
  pub inv-on_disk : (k : S) (s : Box F X) (a : ℕ) (b : X) → Inv k s → Inv k (on_disk H s a b)
  inv-on_disk k s a b i = pr.shape k s (on_disk H s a b) (alike_self s.rows) refl refl (sound-on_disk H N s a b (pr.sound k s i)) i

  inv-clean_to : (k : S) (s : Box F X) (n : ℕ) → Inv k s → Inv k (clean_to H n s)
  inv-clean_to k s n i = pr.shape k s (clean_to H n s) (alike-partly H n s.rows) refl refl (sound-clean_to H N n s (pr.sound k s i)) i

  pub inv-read : (k : S) (s : Box F X) (a : ℕ) (x : X) (o : Option (AddressRow F)) → Inv k s → a < N.P
      → Inv (read_by H pol k s a x o).kept (read_by H pol k s a x o).outcome.box
  unfolding read_by answered_by answer
  inv-read k s a x (some r) i w =
      let b = block_of H r.fingerprint s.used s.flash in
      pr.steps k s (record { address = a; fingerprint = r.fingerprint; block = b; dirty = r.dirty; seat = r.seat }) i w
  inv-read k s a x none i w =
      pr.steps k s (record { address = a; fingerprint = H.hash x; block = x; dirty = false; seat = seat_in (row_of a s.rows) }) i w

  inv-look : (k : S) (s : Box F X) (a : ℕ) (o : Option (AddressRow F)) → Inv k s → Inv k (look_as H s a o).box
  unfolding look_as
  inv-look k s a (some r) i = i
  inv-look k s a none i = i

  -- every call keeps the invariant
  pub inv-serve : (k : S) (s : Box F X) (c : Call X) → Inv k s → Within N.P c → Inv (serve_by H pol k s c).kept (serve_by H pol k s c).outcome.box
  unfolding serve_by through_by back_by answered_by answer flushed
  inv-serve k s (read a) i w = inv-read k s a (get_or s.disk a H.blank) (row_with_block H s a) i w
  inv-serve k s (through a b z) i w =
      pr.steps k (on_disk H s a b) (record { address = a; fingerprint = H.hash b; block = b; dirty = false; seat = z }) (inv-on_disk k s a b i) w
  inv-serve k s (back a b z) i w =
      let r = pol.run k s (back_request H s a b z) in
      let rows = r.stepped.box.rows in
      inv-clean_to r.kept r.stepped.box (reach H (excess H pol.limit rows) rows) (pr.steps k s (back_request H s a b z) i w)
  inv-serve k s (invalidate a b z) i w = pr.invalidates k s a b i w
  inv-serve k s (look a) i w = inv-look k s a (row_with_block H s a) i
  inv-serve k s (flush n) i w = inv-clean_to k s (reach H n s.rows) i

  -- what each call copies, and how many rows it leaves dirty
  pub tally-reads : (k : S) (s : Box F X) (a : ℕ) (x : X) (o : Option (AddressRow F)) → row_with_block H s a ≡ o → Inv k s
      → Tally H pol.limit s.rows (read_by H pol k s a x o).outcome
  unfolding read_by answered_by
  tally-reads k s a x (some r) e i =
      let b = block_of H r.fingerprint s.used s.flash in
      let q : Request F X = record { address = a; fingerprint = r.fingerprint; block = b; dirty = r.dirty; seat = r.seat } in
      tally-hit H pol.limit s.rows a (pol.run k s q).stepped (some b) r (if_cached-some H s.used (row_of a s.rows) r e).0 (pr.spends k s q i)
  tally-reads k s a x none e i =
      let q : Request F X = record { address = a; fingerprint = H.hash x; block = x; dirty = false; seat = seat_in (row_of a s.rows) } in
      tally-miss H pol.limit s.rows a (pol.run k s q).stepped (some x) (pr.spends k s q i)

  pub tally-serves : (k : S) (s : Box F X) (c : Call X) → Inv k s → Tally H pol.limit s.rows (serve_by H pol k s c).outcome
  unfolding serve_by through_by back_by answered_by
  tally-serves k s (read a) i = tally-reads k s a (get_or s.disk a H.blank) (row_with_block H s a) refl i
  tally-serves k s (through a b z) i =
      let q : Request F X = record { address = a; fingerprint = H.hash b; block = b; dirty = false; seat = z } in
      tally-through H pol.limit s.rows a (pol.run k (on_disk H s a b) q).stepped (same_or_new H s b)
      (pr.spends k (on_disk H s a b) q (inv-on_disk k s a b i))
  tally-serves k s (back a b z) i =
      let q : Request F X = back_request H s a b z in
      tally-back H pol.limit s.rows a (pol.run k s q).stepped (same_or_new H s b) q.dirty (pr.spends k s q i)
  tally-serves k s (invalidate a b z) i = tally-invalidate H pol.limit s a b
  tally-serves k s (look a) i = tally-look H pol.limit s a (row_with_block H s a)
  tally-serves k s (flush n) i = tally-flush H pol.limit n s

  -- the invariant in every state that a list of calls reaches, with no premise
  pub inv-throughout : (k : S) (s : Box F X) (plain : List X) (cs : List (Call X)) → Inv k s → All (Within N.P) cs
      → ThroughoutBy H pol (λ k s plain. Inv k s) k s plain cs
  unfolding ThroughoutBy
  inv-throughout k s plain [] i w = i
  inv-throughout k s plain (c ∷ cs) i w =
      (i, inv-throughout (serve_by H pol k s c).kept (serve_by H pol k s c).outcome.box (plain_next plain c) cs (inv-serve k s c i w.0) w.1)

module _ {F X S : Type 0} (H : Hashing F X) (N : Numbers) (pol : Policy F X S) (Inv : S → Box F X → Type 0) (pr : Promise H N pol Inv) (m1 : 1 ≤ N.m)
    (d1 : 1 ≤ N.d)
    (In : X → Type 0) (only : Only H In) where
  faithful-read : (plain : List X) (k : S) (s : Box F X) (a : ℕ) (o : Option (AddressRow F)) → row_with_block H s a ≡ o → Inv k s
      → Faithful H In N.P plain s → a < N.P
      → Faithful H In N.P plain (read_by H pol k s a (at H s.disk a) o).outcome.box ×
      ((read_by H pol k s a (at H s.disk a) o).outcome.block ≡ some (at H plain a))
  unfolding read_by answered_by answer
  faithful-read plain k s a (some r) e i f w =
      let h = pr.sound k s i in
      let b = block_of H r.fingerprint s.used s.flash in
      let be : b ≡ at H plain a = hit-block H In only N plain s a r h f e in
      let c = if_cached-some H s.used (row_of a s.rows) r e in
      let y = find-some eqb (λ r. r.address) (RowTrue H In plain) a s.rows r c.0 f.rows_true in
      let pin : In (at H plain a) = all-at In plain a H.blank f.plain_in (subst (λ n. a < n) (sym f.plain_length) w) in (
        pr.faithful In only plain k s (record { address = a; fingerprint = r.fingerprint; block = b; dirty = r.dirty; seat = r.seat }) i
            (but H In a N.P plain s f) w
            (record {
              print = y.0 ∙ ap H.hash (ap (at H plain) (sym (eqb→≡ a r.address y.1)) ∙ sym be);
              in_set = subst In (sym be) pin;
              plainly = be;
              clean = λ z. f.current a (row-clean H a s.rows r h.addresses c.0 z);
            }),
        ap {B = Option X} some be,
      )
  faithful-read plain k s a none e i f w =
      let b = at H s.disk a in
      let be : b ≡ at H plain a = f.current a (miss-clean H N s a (pr.sound k s i) e) in
      let pin : In (at H plain a) = all-at In plain a H.blank f.plain_in (subst (λ n. a < n) (sym f.plain_length) w) in (
        pr.faithful In only plain k s (record { address = a; fingerprint = H.hash b; block = b; dirty = false; seat = seat_in (row_of a s.rows) }) i
            (but H In a N.P plain s f) w
            (record { print = refl; in_set = subst In (sym be) pin; plainly = be; clean = λ z. be }),
        ap {B = Option X} some be,
      )

  -- every call keeps the plain disk, and returns its blocks
  pub faithful-serves : (plain : List X) (k : S) (s : Box F X) (c : Call X) → Inv k s → Faithful H In N.P plain s → Within N.P c → All In (written_by c)
      → Faithful H In N.P (plain_next plain c) (serve_by H pol k s c).outcome.box × ((serve_by H pol k s c).outcome.block ≡ plain_block H.blank plain c)
  unfolding serve_by serve through_by back_by answered_by answer flushed
  faithful-serves plain k s (read a) i f w j = faithful-read plain k s a (row_with_block H s a) refl i f w
  faithful-serves plain k s (through a b x) i f w j =
      let h = pr.sound k s i in
      let dl = subst (λ n. a < n) (sym h.disk_length) w in
      let pl = subst (λ n. a < n) (sym f.plain_length) w in
      let bs = but-set H In a N.P b plain s f j.0 in (
        pr.faithful In only (set plain a b) k (on_disk H s a b) (record { address = a; fingerprint = H.hash b; block = b; dirty = false; seat = x })
            (inv-on_disk H N pol Inv pr k s a b i)
            (record {
              rows_true = bs.rows_true;
              blocks_true = bs.blocks_true;
              plain_in = bs.plain_in;
              plain_length = bs.plain_length;
              current = λ y n dy. at_set_other H s.disk a y b (eqb_swap a y n) ∙ bs.current y n dy;
            })
            w
            (record {
              print = refl;
              in_set = j.0;
              plainly = sym (at_set_same H plain a b pl);
              clean = λ z. at_set_same H s.disk a b dl ∙ sym (at_set_same H plain a b pl);
            }),
        refl,
      )
  faithful-serves plain k s (back a b x) i f w j =
      let pl = subst (λ n. a < n) (sym f.plain_length) w in
      let q = back_request H s a b x in
      let r = pol.run k s q in
      let rows = r.stepped.box.rows in (
        faithful-clean_to H In only N (set plain a b) r.stepped.box (reach H (excess H pol.limit rows) rows)
            (pr.sound r.kept r.stepped.box (pr.steps k s q i w))
            (pr.faithful In only (set plain a b) k s q i (but-set H In a N.P b plain s f j.0) w
            (record {
              print = refl;
              in_set = j.0;
              plainly = sym (at_set_same H plain a b pl);
              clean = λ z. still-clean H In only N plain s a b (row_of a s.rows) refl (pr.sound k s i) f j.0 w z ∙ sym (at_set_same H plain a b pl);
            })),
        refl,
      )
  faithful-serves plain k s (invalidate a b x) i f w j = faithful-serve H In only N plain s (invalidate a b x) (pr.sound k s i) f m1 d1 w j
  faithful-serves plain k s (look a) i f w j = faithful-serve H In only N plain s (look a) (pr.sound k s i) f m1 d1 w j
  faithful-serves plain k s (flush n) i f w j = faithful-serve H In only N plain s (flush n) (pr.sound k s i) f m1 d1 w j

  flushes-here : (plain : List X) (k : S) (s : Box F X) → Inv k s → Faithful H In N.P plain s
      → (serve_by H pol k s (flush N.m)).outcome.box.disk ≡ plain
  unfolding serve_by serve
  flushes-here plain k s i f = flush-whole H In only N plain s (pr.sound k s i) f

  abbrev pub GoodBy : S → Box F X → List X → Type 0
  GoodBy k s plain = Inv k s × Faithful H In N.P plain s

  good-next : (k : S) (s : Box F X) (plain : List X) (c : Call X) → GoodBy k s plain → Within N.P c → All In (written_by c)
      → GoodBy (serve_by H pol k s c).kept (serve_by H pol k s c).outcome.box (plain_next plain c)
  good-next k s plain c g w i = (inv-serve H N pol Inv pr k s c g.0 w, (faithful-serves plain k s c g.0 g.1 w i).0)

  -- what follows from it holds in every state that a list of calls reaches, and of each call
  pub throughout-good : (Q : S → Box F X → List X → Type 0) → ((k : S) (s : Box F X) (plain : List X) → GoodBy k s plain → Q k s plain)
      → (k : S) (s : Box F X) (plain : List X) (cs : List (Call X)) → GoodBy k s plain → All (Within N.P) cs → All In (written_in cs)
      → ThroughoutBy H pol Q k s plain cs
  unfolding ThroughoutBy written_in
  throughout-good Q q k s plain [] g w i = q k s plain g
  throughout-good Q q k s plain (c ∷ cs) g w i = (
    q k s plain g,
    throughout-good Q q (serve_by H pol k s c).kept (serve_by H pol k s c).outcome.box (plain_next plain c) cs
        (good-next k s plain c g w.0 (all_left In (written_by c) (written_in cs) i)) w.1 (all_right In (written_by c) (written_in cs) i),
  )

  pub each-good : (Q : S → Box F X → List X → Call X → Type 0)
      → ((k : S) (s : Box F X) (plain : List X) (c : Call X) → GoodBy k s plain → Within N.P c → All In (written_by c) → Q k s plain c)
      → (k : S) (s : Box F X) (plain : List X) (cs : List (Call X)) → GoodBy k s plain → All (Within N.P) cs → All In (written_in cs)
      → EachBy H pol Q k s plain cs
  unfolding EachBy written_in
  each-good Q q k s plain [] g w i = tt
  each-good Q q k s plain (c ∷ cs) g w i =
      let i₀ = all_left In (written_by c) (written_in cs) i in (
        q k s plain c g w.0 i₀,
        each-good Q q (serve_by H pol k s c).kept (serve_by H pol k s c).outcome.box (plain_next plain c) cs
            (good-next k s plain c g w.0 i₀) w.1 (all_right In (written_by c) (written_in cs) i),
      )

  pub flushes-one : (k : S) (s : Box F X) (plain : List X) (c : Call X) → GoodBy k s plain → FlushesPlain H pol N.m k s plain c
  flushes-one k s plain c g = λ e. rw e (flushes-here plain k s g.0 g.1)

pub all-mem : {X : Type 0} (l : List X) → All (λ b. Memᴰ b l) l
all-mem [] = tt
all-mem (x ∷ xs) = (Memᴰ.head refl, all_map (λ b. Memᴰ b xs) (λ b. Memᴰ b (x ∷ xs)) (λ b h. Memᴰ.tail h) xs (all-mem xs))

module _ {F X S : Type 0} (H : Hashing F X) (N : Numbers) (pol : Policy F X S) (Inv : S → Box F X → Type 0) (pr : Promise H N pol Inv) (m1 : 1 ≤ N.m)
    (d1 : 1 ≤ N.d) where
  pub on-calls : (k : S) (flash disk : List X) (cs : List (Call X)) → Inv k (fresh N.d flash disk) → length disk ≡ N.P → All (Within N.P) cs
      → OnCalls H N pol Inv k flash disk cs
  on-calls k flash disk cs i dl w =
      let s = fresh N.d flash disk in
      let blocks = disk ++ written_in cs in
      let In : X → Type 0 = λ b. Memᴰ b blocks in
      let all = all-mem blocks in
      let f : Faithful H In N.P disk s
      = record { rows_true = tt; blocks_true = tt; plain_in = all_left In disk (written_in cs) all; plain_length = dl; current = λ x h. refl } in
      let j = all_right In disk (written_in cs) all in
      record {
        inv = inv-throughout H N pol Inv pr k s disk cs i w;
        fingerprints = λ only. throughout-good H N pol Inv pr m1 d1 In only (λ k s plain. TrueFingerprints H s plain)
            (λ k s plain y. (
              y.1.rows_true,
              all_map (BlockTrue H In s.flash) (λ u. u.fingerprint ≡ H.hash (at H s.flash u.slot)) (λ u z. z.0) s.used y.1.blocks_true,
            ))
            k s disk cs (i, f) w j;
        blocks = λ only. each-good H N pol Inv pr m1 d1 In only (ReturnsPlain H pol)
            (λ k s plain c y v z. (faithful-serves H N pol Inv pr m1 d1 In only plain k s c y.0 y.1 v z).1) k s disk cs (i, f) w j;
        flushes = λ only. each-good H N pol Inv pr m1 d1 In only (FlushesPlain H pol N.m)
            (λ k s plain c y v z. flushes-one H N pol Inv pr m1 d1 In only k s plain c y) k s disk cs (i, f) w j;
        clean = λ only. throughout-good H N pol Inv pr m1 d1 In only (λ k s plain. All (λ r. r.dirty ≡ false) s.rows → s.disk ≡ plain)
            (λ k s plain y. clean-is-plain H In N plain s (pr.sound k s y.0) y.1) k s disk cs (i, f) w j;
      }

-- D-LRU promises it: its invariant is the structure alone, and each part is a law of the paper.
pub lru-promises : {F X : Type 0} (H : Hashing F X) (N : Numbers) → 1 ≤ N.m → 1 ≤ N.d → Promise H N (lru H N) (λ k s. Sound H N s)
unfolding serve
lru-promises H N m1 d1 =
    record {
      sound = λ k s h. h;
      shape = λ k s s' al fr us h' h. h';
      invalidates = λ k s a b h w. sound-serve H N s (invalidate a b (0, 0)) h m1 d1 w;
      steps = λ k s q h w. sound-step H N s q h m1 d1 w;
      spends = λ k s q h. spent-step H N.m s q;
      faithful = λ In only plain k s q h f w t. faithful-step H In only N plain s q h f m1 d1 w t.print t.in_set t.plainly t.clean;
    }
