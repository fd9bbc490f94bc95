-- Demand 3, proved: for every list of calls from a fresh box over any bytes.
use Rattle.std.specs.Prelude.{◌≡◌, Bool, true, false, not, ◌&&◌, ◌||◌, ℕ, ◌<◌, ◌*◌, length, take, drop}
use Rattle.std.proofs.Math.Path.{refl, sym, ap, ap₂, subst, subst₂}
use Rattle.std.proofs.Common.{◌∙◌, inl, arith, take-append-drop, eqb-true, le-ltb}
use Rattle.std.proofs.lemmas.Bool.{false≢true, eqb-false, not-false}
use Rattle.std.proofs.Math.Bool.{cond}
use mathlib.Core.List.{List, [], ◌∷◌, ◌++◌, map, append-nil, Memᴰ}
use Rattle.std.proofs.Math.Option.{Option, none, some}
use Rattle.std.proofs.Math.Dec.{eqb}
use Rattle.tables.specs.Records.{address_table, block_table, free_row, slots_from, fresh_addresses, fresh_blocks}
use Rattle.paper.specs.Cache as Paper
use Rattle.paper.specs.Cache.{Numbers, Hashing, Box, Counters, dirty_rows, no_counts}
use Rattle.paper.specs.KeyedLaws.{All, all_left, all_right, all_map, by-test}
use Rattle.paper.specs.Engine.{Fixed, labelled}
use Rattle.paper.specs.Lent.{Lent, Ask, opening, calling, call_of, lent_block, address_of, wrong_buffers, wrong_block, other_length, outside, counts}
use Rattle.paper.specs.Lent.{over, unfit, limit_outside, over_limit, FewDirty, refusal}
use Rattle.paper.specs.Lent.{served, call, box_in, lent_of, join, split, fresh, with_counters, opened, block_after, part_after}
use Rattle.paper.specs.Batch.{Batched, start}
use Rattle.paper.specs.BatchLent.{Asking, one, many, report, recount, bad_count, any_outside, batch_refusal, batched_from, served_batch, call_batch}
use Rattle.paper.specs.Machines.{plain_next, plain_block, written_by, NoWrite, Compared, if_read, seen_in, printed_trace, content_of, OrphanLaw}
use Rattle.paper.specs.Machines.{TrueFingerprints}
use Rattle.paper.specs.Demand3.{number_of, next, plain_step, Throughout, EachServed, InList, refusals, written_in, written, ShowsPlain, AsReads}
use Rattle.paper.specs.Demand3.{OrphansWithin}
use Rattle.paper.specs.Demand3.{FlushesWhole, CleanIsPlain, reads_of, said_word, seen_after, first_plain, Demand3}
use Rattle.paper.specs.Events.{Event}
use Rattle.paper.specs.Sound.{Sound}
use Rattle.paper.proofs.SoundLaws.{sound-fresh}
use Rattle.paper.proofs.Orphans.{NoWaste}
use Rattle.paper.proofs.OrphanList.{no_waste-serve, never_both}
use Rattle.paper.proofs.FaithfulLaws.{at, BlockTrue, Faithful}
use Rattle.paper.specs.PlainDisk.{ServedWithin}
use Rattle.paper.proofs.PlainDiskLaws.{Good, clean-is-plain, fresh-good, faithful-serve, flush-whole}
use Rattle.paper.specs.Quiet as Quiet
use Rattle.paper.proofs.QuietLaws as QuietLaws
use Rattle.paper.specs.Quiet.{trace_of}
use Rattle.paper.proofs.QuietLaws.{printed-quiet}
use Rattle.paper.proofs.Parts.{length-split, join-split}
use Rattle.paper.specs.LentLaws.{Lengths, Passes}
use Rattle.paper.proofs.LentLaws.{right-lengths, counters-box, counters-pass, passes-sound, sound-passes, lent_back}
use Rattle.paper.proofs.RefusalLaws.{exactly-opening, served-is, keeps, opened-is}
use Rattle.paper.specs.CallLaws.{outcome, In64}
use Rattle.paper.proofs.CallLaws.{fits, served-finds, outcome-sound, outcome-few, served-lent, served-box, served-passes, look-counts}
use Rattle.paper.proofs.CallLaws.{counters-stay}
use Rattle.paper.proofs.BatchLaws.{batch-sound, batch-good, batch-in-turn, batch-blocks}
use Rattle.paper.specs.Reports.{width, report_refusal}
use Rattle.paper.proofs.BatchLentLaws.{batch-finds, batch-served, batch-keeps, batch-lent, batch-leaves, batch-box, batch-few-dirty, batch-passes}
use Rattle.paper.proofs.BatchLentLaws.{batch-fits}
use Rattle.paper.proofs.BatchLentLaws.{in-turn-is}
use Rattle.paper.specs.Demand3Laws.{Brings64, Written}

pub head-≡ : {A : Type 0} {x y : A} {l k : List A} → ◌≡◌ {A = List A} (x ∷ l) (y ∷ k) → x ≡ y
head-≡ e = cc

-- each block of a list is in it
all-mem : {X : Type 0} (l : List X) → All (λ b. Memᴰ b l) l
all-mem [] = tt
all-mem (x ∷ xs) = (Memᴰ.head refl, all_map (λ b. Memᴰ b xs) (λ b. Memᴰ b (x ∷ xs)) (λ b h. Memᴰ.tail h) xs (all-mem xs))

-- a served call as an event: which are refused is computed from the bytes
abbrev is_refused : Numbers → Lent → Ask → Bool
is_refused N t q = not (eqb (refusal N t (calling q)) 0)

-- a list of single calls as events
unfoldable events_of : (N : Numbers) → Lent → List Ask → List (Event (Fixed N.B))
events_of N t [] = []
events_of N t (q ∷ qs) = record { call = call_of N.B q; refused = is_refused N t q } ∷ events_of N (next N t (one q)) qs

module _ (N : Numbers) where
  abbrev H : Hashing (Fixed 32) (Fixed N.B)
  H = labelled N

  -- ---- what each call keeps with no premise: the bytes pass, few rows are dirty, and nothing is wasted

  pub record Kept (t : Lent) : Type 0 where
    pub passes : Passes N t
    pub few : FewDirty N (box_in N t)
    pub no_waste : NoWaste H (box_in N t).rows (box_in N t).used

  pub kept_next : (t : Lent) (q : Asking) → Kept t → Kept (next N t q)
  kept_next t (one q) k =
      by-test (eqb (refusal N t (calling q)) 0)
      (λ y. let e = eqb-true (refusal N t (calling q)) 0 y in
      record {
        passes = served-passes N t q e;
        few = subst (FewDirty N) (sym (served-box N t q e)) (outcome-few N t q e);
        no_waste = subst (λ s. NoWaste H s.rows s.used) (sym (served-box N t q e))
            (no_waste-serve H N (box_in N t) (call_of N.B q) (passes-sound N t k.passes).addresses k.no_waste);
      })
      (λ y. subst Kept (sym (keeps N t q (eqb-false (refusal N t (calling q)) 0 y)).lent) k)
  kept_next t (many l b) k =
      by-test (eqb (batch_refusal N t l b) 0)
      (λ y. let e = eqb-true (batch_refusal N t l b) 0 y in
      record {
        passes = batch-passes N t l b e;
        few = subst (FewDirty N) (sym (batch-box N t l b e)) (batch-few-dirty N t l b e);
        no_waste = subst (λ s. NoWaste H s.rows s.used) (sym (batch-box N t l b e)) ((batch-leaves N t l b e).1 k.no_waste);
      })
      (λ y. subst Kept (sym (batch-keeps N t l b (eqb-false (batch_refusal N t l b) 0 y)).lent) k)
  kept_next t (report w lent) k = k
  kept_next t (recount c) k =
      let e = sym (counters-box N t c) in
      record {
        passes = counters-pass N t c k.passes;
        few = subst (FewDirty N) e k.few;
        no_waste = subst (λ s. NoWaste H s.rows s.used) e k.no_waste;
      }

  orphan : (t : Lent) → Kept t → OrphanLaw H (box_in N t)
  orphan t k = never_both H (box_in N t).rows (box_in N t).used k.no_waste

  -- a claim of each state, and one of each served call
  kept-throughout : (Q : Lent → Type 0) → ((t : Lent) → Kept t → Q t) → (t : Lent) (plain : List (Fixed N.B)) (qs : List Asking) → Kept t
      → Throughout N (λ x p. Q x) t plain qs
  unfolding Throughout
  kept-throughout Q f t plain [] k = f t k
  kept-throughout Q f t plain (q ∷ qs) k = (f t k, kept-throughout Q f (next N t q) (plain_step N t plain q) qs (kept_next t q k))

  all_take : (Q : ℕ → Type 0) (l : List ℕ) (k : ℕ) → All Q l → All Q (take k l)
  all_take Q l k h = all_left Q (take k l) (drop k l) (subst (All Q) (sym (take-append-drop k l)) h)

  orphans-within : (t : Lent) (plain : List (Fixed N.B)) (q : Asking) → Kept t → number_of N t q ≡ 0 → OrphansWithin N t plain q
  orphans-within t plain (one q) k e = tt
  orphans-within t plain (many l b) k e = λ j.
      let x = batch-finds N t l b e in
      let s = (batched_from N t (take j l)).box in
      never_both H s.rows s.used
      ((batch-sound H N x.fits.m-least x.fits.d-least (start (box_in N t) t.counters) (take j l) (all_take (λ a. a < N.P) l j x.within)
      (passes-sound N t x.passes)).1 k.no_waste)
  orphans-within t plain (report w lent) k e = tt
  orphans-within t plain (recount c) k e = tt

  within-each : (t : Lent) (plain : List (Fixed N.B)) (qs : List Asking) → Kept t → EachServed N (OrphansWithin N) t plain qs
  unfolding EachServed
  within-each t plain [] k = tt
  within-each t plain (q ∷ qs) k = (orphans-within t plain q k, within-each (next N t q) (plain_step N t plain q) qs (kept_next t q k))

  -- the numbers
  pub no-13 : (t : Lent) → Kept t → over_limit N t ≡ false
  no-13 t k = le-ltb N.t (dirty_rows H (box_in N t).rows) k.few

  in_list : (t : Lent) (q : Asking) → unfit N ≡ false → limit_outside N ≡ false → Kept t → InList (number_of N t q)
  unfolding refusal batch_refusal report_refusal
  in_list t (one q) u l k =
      let p = k.passes in
      rw (u, l) (by-test (wrong_buffers N t || wrong_block N.B (lent_block q))
      (λ e. rw e refl)
      (λ e. rw e (by-test (outside N.P (address_of q))
      (λ f. rw f refl)
      (λ f. rw (f, p.addresses, p.blocks, p.dirty, no-13 t k) (by-test (counts q && over t.counters) (λ g. rw g refl) (λ g. rw g refl))))))
  in_list t (many list b) u l k =
      let p = k.passes in
      rw (u, l) (by-test (wrong_buffers N t || other_length b (length list * N.B))
      (λ e. rw e refl)
      (λ e. rw e (by-test (bad_count list)
      (λ c. rw c refl)
      (λ c. rw c (by-test (any_outside N.P list)
      (λ f. rw f refl)
      (λ f. rw (f, p.addresses, p.blocks, p.dirty, no-13 t k) (by-test (over t.counters) (λ g. rw g refl) (λ g. rw g refl))))))))
  in_list t (report w lent) u l k =
      let p = k.passes in
      rw (u, l) (by-test (wrong_buffers N t || other_length lent (N.m * width w))
      (λ e. rw e refl)
      (λ e. rw (e, p.addresses, p.blocks, p.dirty, no-13 t k) refl))
  in_list t (recount c) u l k = refl

  numbers-are : (t : Lent) (qs : List Asking) → unfit N ≡ false → limit_outside N ≡ false → Kept t → All InList (refusals N t qs)
  unfolding refusals
  numbers-are t [] u l k = tt
  numbers-are t (q ∷ qs) u l k = (in_list t q u l k, numbers-are (next N t q) qs u l (kept_next t q k))

  -- ---- what each call keeps under the premise, over any blocks of which no two different ones share a fingerprint

  module _ (In : Fixed N.B → Type 0) (only : (b c : Fixed N.B) → In b → In c → H.hash b ≡ H.hash c → b ≡ c) where
    pub record Held (t : Lent) (plain : List (Fixed N.B)) : Type 0 where
      pub kept : Kept t
      pub faithful : Faithful H In N.P plain (box_in N t)

    good : (t : Lent) (plain : List (Fixed N.B)) → Held t plain → Good H In N (box_in N t) plain
    good t plain k = (passes-sound N t k.kept.passes, k.faithful)

    faithful-one : (t : Lent) (plain : List (Fixed N.B)) (q : Ask) → Held t plain → refusal N t (calling q) ≡ 0 → All In (written_by (call_of N.B q))
        → Faithful H In N.P (plain_next plain (call_of N.B q)) (outcome N t q).box
        × ((outcome N t q).block ≡ plain_block H.blank plain (call_of N.B q))
    faithful-one t plain q k e i =
        let x = served-finds N t q e in
        faithful-serve H In only N plain (box_in N t) (call_of N.B q) (good t plain k).0 k.faithful x.fits.m-least x.fits.d-least x.within i

    held_next : (t : Lent) (plain : List (Fixed N.B)) (q : Asking) → Held t plain → All In (cond (eqb (number_of N t q) 0) (written_in N q) [])
        → Held (next N t q) (plain_step N t plain q)
    held_next t plain (one q) k =
        by-test (eqb (refusal N t (calling q)) 0)
        (λ y. rw y (λ i.
        let e = eqb-true (refusal N t (calling q)) 0 y in
        record {
          kept = kept_next t (one q) k.kept;
          faithful = subst (Faithful H In N.P (plain_next plain (call_of N.B q))) (sym (served-box N t q e)) (faithful-one t plain q k e i).0;
        }))
        (λ y. rw y (λ i. subst (λ u. Held u plain) (sym (keeps N t q (eqb-false (refusal N t (calling q)) 0 y)).lent) k))
    held_next t plain (many l b) k = λ i.
        by-test (eqb (batch_refusal N t l b) 0)
        (λ y.
        let e = eqb-true (batch_refusal N t l b) 0 y in
        let x = batch-finds N t l b e in
        let g = batch-good H In only N x.fits.m-least x.fits.d-least (start (box_in N t) t.counters) plain l (good t plain k) tt x.within in
        record {
          kept = kept_next t (many l b) k.kept;
          faithful = subst (Faithful H In N.P plain) (sym (batch-box N t l b e)) g.0.1;
        })
        (λ y. subst (λ u. Held u plain) (sym (batch-keeps N t l b (eqb-false (batch_refusal N t l b) 0 y)).lent) k)
    held_next t plain (report w lent) k = λ i. k
    held_next t plain (recount c) k = λ i.
        record {
          kept = kept_next t (recount c) k.kept;
          faithful = subst (Faithful H In N.P plain) (sym (counters-box N t c)) k.faithful;
        }

    -- a claim of each state, and one of each served call
    throughout : (Q : Lent → List (Fixed N.B) → Type 0) → ((t : Lent) (plain : List (Fixed N.B)) → Held t plain → Q t plain)
        → (t : Lent) (plain : List (Fixed N.B)) (qs : List Asking) → Held t plain → All In (written N t qs) → Throughout N Q t plain qs
    unfolding Throughout written
    throughout Q f t plain [] k i = f t plain k
    throughout Q f t plain (q ∷ qs) k i =
        let own = cond (eqb (number_of N t q) 0) (written_in N q) [] in
        let rest = written N (next N t q) qs in
        (f t plain k, throughout Q f (next N t q) (plain_step N t plain q) qs (held_next t plain q k (all_left In own rest i)) (all_right In own rest i))

    each-served : (Q : Lent → List (Fixed N.B) → Asking → Type 0)
        → ((t : Lent) (plain : List (Fixed N.B)) (q : Asking) → Held t plain → number_of N t q ≡ 0 → All In (written_in N q) → Q t plain q)
        → (t : Lent) (plain : List (Fixed N.B)) (qs : List Asking) → Held t plain → All In (written N t qs) → EachServed N Q t plain qs
    unfolding EachServed written
    each-served Q f t plain [] k i = tt
    each-served Q f t plain (q ∷ qs) k i =
        let own = cond (eqb (number_of N t q) 0) (written_in N q) [] in
        let rest = written N (next N t q) qs in
        let i₀ = all_left In own rest i in (
          (λ z. f t plain q k z (subst (λ c. All In (cond c (written_in N q) [])) (ap (λ n. eqb n 0) z) i₀)),
          each-served Q f (next N t q) (plain_step N t plain q) qs (held_next t plain q k i₀) (all_right In own rest i),
        )

    -- the claims
    fingerprints : (t : Lent) (plain : List (Fixed N.B)) → Held t plain → TrueFingerprints H (box_in N t) plain
    fingerprints t plain k = (
      k.faithful.rows_true,
      all_map (BlockTrue H In (box_in N t).flash) (λ u. u.fingerprint ≡ H.hash (at H (box_in N t).flash u.slot)) (λ u z. z.0)
          (box_in N t).used k.faithful.blocks_true,
    )

    shows : (t : Lent) (plain : List (Fixed N.B)) (q : Ask) → refusal N t (calling q) ≡ 0
        → (outcome N t q).block ≡ plain_block H.blank plain (call_of N.B q) → ShowsPlain N t plain (one q)
    unfolding call_of served
    shows t plain (Ask.read a l) z e = ap (λ x. x.block) (served-is N t (Ask.read a l) z) ∙ ap (block_after (Ask.read a l)) e
    shows t plain (Ask.look a) z e =
        ap {B = Option (List ℕ)} (λ x. some x.part) (served-is N t (Ask.look a) z) ∙ ap {B = Option (List ℕ)} (λ b. some (part_after (Ask.look a) b)) e
    shows t plain (Ask.through a l seat) z e = refl
    shows t plain (Ask.back a l seat) z e = refl
    shows t plain (Ask.invalidate a l seat) z e = refl
    shows t plain (Ask.flush k) z e = refl

    shown : (t : Lent) (plain : List (Fixed N.B)) (q : Asking) → Held t plain → number_of N t q ≡ 0 → All In (written_in N q) → ShowsPlain N t plain q
    unfolding served_batch
    shown t plain (one q) k e i = shows t plain q e (faithful-one t plain q k e i).1
    shown t plain (many l b) k e i =
        let x = batch-finds N t l b e in
        ap (λ a. a.buffer) (batch-served N t l b e)
        ∙ ap join (batch-blocks H In only N x.fits.m-least x.fits.d-least (box_in N t) t.counters plain l (good t plain k) x.within)
    shown t plain (report w lent) k e i = tt
    shown t plain (recount c) k e i = tt

    flushed : (t : Lent) (plain : List (Fixed N.B)) (q : Asking) → Held t plain → number_of N t q ≡ 0 → All In (written_in N q) → FlushesWhole N t plain q
    unfolding call_of lent_of
    flushed t plain q k e i f =
        let z : refusal N t (calling (Ask.flush N.m)) ≡ 0 = subst (λ x. number_of N t x ≡ 0) f e in
        ap (λ x. (next N t x).disk) f
        ∙ ap (λ x. x.disk) (served-lent N t (Ask.flush N.m) z) ∙ ap join (flush-whole H In only N plain (box_in N t) (good t plain k).0 k.faithful)

    -- where the lent memory passes, its disk is that of its box
    clean : (t : Lent) (plain : List (Fixed N.B)) → Held t plain → CleanIsPlain N t plain
    unfolding box_in
    clean t plain k c =
        sym (join-split N.B N.P t.disk k.kept.passes.lengths.disk)
        ∙ ap join (clean-is-plain H In N plain (box_in N t) (good t plain k).0 k.faithful c)

    as-reads : (t : Lent) (plain : List (Fixed N.B)) (q : Asking) → Held t plain → number_of N t q ≡ 0 → All In (written_in N q) → AsReads N t plain q
    as-reads t plain (one q) k e i = tt
    as-reads t plain (many l b) k e i =
        let x = batch-finds N t l b e in
        let s = start (box_in N t) t.counters in
        let same = batch-in-turn H In only N x.fits.m-least x.fits.d-least s s plain l refl (good t plain k) tt x.within in
        batch-lent N t l b e
        ∙ ap (λ (v : Batched (Fixed 32) (Fixed N.B)). lent_of N v.box v.counters) same
        ∙ sym (in-turn-is N x.fits t l k.kept.passes x.within x.some-address)
    as-reads t plain (report w lent) k e i = tt
    as-reads t plain (recount c) k e i = tt

  -- ---- single calls, for the comparison with printed D-LRU

  zero_is : (t : Lent) (q : Ask) → is_refused N t q ≡ false → refusal N t (calling q) ≡ 0
  zero_is t q e = eqb-true (refusal N t (calling q)) 0 (not-false (eqb (refusal N t (calling q)) 0) e)

  events-within : (t : Lent) (qs : List Ask) → All (ServedWithin N.P) (events_of N t qs)
  unfolding events_of
  events-within t [] = tt
  events-within t (q ∷ qs) = ((λ e. (served-finds N t q (zero_is t q e)).within), events-within (next N t (one q)) qs)

  next-box : (t : Lent) (q : Ask) → box_in N (next N t (one q)) ≡ cond (is_refused N t q) (box_in N t) (outcome N t q).box
  next-box t q =
      by-test (eqb (refusal N t (calling q)) 0)
      (λ y. served-box N t q (eqb-true (refusal N t (calling q)) 0 y) ∙ rw y refl)
      (λ y. ap (box_in N) (keeps N t q (eqb-false (refusal N t (calling q)) 0 y)).lent ∙ rw y refl)

  -- the reads: what is seen after each, and what printed D-LRU is fed
  same_reads : (t : Lent) (qs : List Ask) → reads_of N t qs ≡ Quiet.reads_of (events_of N t qs)
  unfolding reads_of events_of
  same_reads t [] = refl
  same_reads t (q ∷ qs) =
      ap (if_read (call_of N.B q) (λ a. record { address = a; refused = is_refused N t q })) (same_reads (next N t (one q)) qs)

  word-is : (t : Lent) (q : Ask) → said_word (call N t q).answer ≡ cond (is_refused N t q) none (some (outcome N t q).word)
  unfolding served
  word-is t q =
      by-test (eqb (refusal N t (calling q)) 0)
      (λ y. ap (λ x. said_word x.answer) (served-is N t q (eqb-true (refusal N t (calling q)) 0 y)) ∙ rw y refl)
      (λ y. ap said_word (keeps N t q (eqb-false (refusal N t (calling q)) 0 y)).answer ∙ rw y refl)

  same_seen : (t : Lent) (qs : List Ask) → seen_after N t qs ≡ trace_of H N (box_in N t) (events_of N t qs)
  unfolding seen_after trace_of events_of
  same_seen t [] = refl
  same_seen t (q ∷ qs) =
      let es = events_of N (next N t (one q)) qs in
      let s = cond (is_refused N t q) (box_in N t) (outcome N t q).box in
      let w = cond (is_refused N t q) none (some (outcome N t q).word) in
      ap (if_read (call_of N.B q) (λ a. seen_in (box_in N (next N t (one q))) (said_word (call N t q).answer))) (same_seen (next N t (one q)) qs)
      ∙ ap₂ {C = List (Compared (Fixed 32))} (λ b v. if_read (call_of N.B q) (λ a. seen_in b v) (trace_of H N b es)) (next-box t q) (word-is t q)

  no_writes : (t : Lent) (qs : List Ask) → All (λ q. NoWrite (call_of N.B q)) qs → All (λ e. NoWrite e.call) (events_of N t qs)
  unfolding events_of
  no_writes t [] w = tt
  no_writes t (q ∷ qs) w = (w.0, no_writes (next N t (one q)) qs w.1)

  -- "Fresh: n = 0, counters and address rows zero, block rows free with slots 0 to d − 1 in order; flash and disk keep their bytes."
  module _ (t : Lent) (opens : refusal N t opening ≡ 0) where
    flash : List (Fixed N.B)
    flash = split N.B N.d t.flash

    disk : List (Fixed N.B)
    disk = split N.B N.P t.disk

    fits-numbers : unfit N ≡ false
    fits-numbers = ((exactly-opening N t).gives-0.0 opens).0

    fits-limit : limit_outside N ≡ false
    fits-limit = ((exactly-opening N t).gives-0.0 opens).1.0

    lengths : Lengths N t
    lengths = right-lengths N t ((exactly-opening N t).gives-0.0 opens).1.1.0

    fresh-lent : opened N t ≡ lent_of N (Paper.fresh N.d flash disk) no_counts
    unfolding fresh lent_of fresh_addresses fresh_blocks flash disk
    fresh-lent =
        let di = sym (join-split N.B N.P t.disk lengths.disk) in
        let fl = sym (join-split N.B N.d t.flash lengths.flash) in
        let b = sym (ap block_table (append-nil (map free_row (slots_from 0 N.d)))) in
        opened-is N t opens ∙ (λ i. record { n = 0; disk = di i; flash = fl i; addresses = address_table N.m []; blocks = b i; counters = no_counts })

    fresh-sound : Sound H N (Paper.fresh N.d flash disk)
    unfolding flash disk
    fresh-sound = sound-fresh H N flash disk (length-split N.B N.d t.flash) (length-split N.B N.P t.disk)

    fresh-box : box_in N (opened N t) ≡ Paper.fresh N.d flash disk
    fresh-box = let f = fits N fits-numbers in ap (box_in N) fresh-lent
        ∙ lent_back N (Paper.fresh N.d flash disk) fresh-sound no_counts f.P-most f.d-most

    fresh-passes : Passes N (opened N t)
    fresh-passes = let f = fits N fits-numbers in subst (Passes N) (sym fresh-lent)
        (sound-passes N (Paper.fresh N.d flash disk) fresh-sound no_counts f.P-most f.d-most)

    fresh-disk : split N.B N.P (opened N t).disk ≡ disk
    unfolding fresh disk
    fresh-disk = ap (λ x. split N.B N.P x.disk) (opened-is N t opens)

    pub fresh_kept : Kept (opened N t)
    fresh_kept =
        record {
          passes = fresh-passes;
          few = subst (FewDirty N) (sym fresh-box) (omega arith);
          no_waste = subst (λ s. NoWaste H s.rows s.used) (sym fresh-box) (inl (λ f h. absurd (false≢true h)));
        }

    fresh-held : (In : Fixed N.B → Type 0) (only : (b c : Fixed N.B) → In b → In c → H.hash b ≡ H.hash c → b ≡ c)
        → All In (first_plain N (opened N t)) → Held In only (opened N t) (first_plain N (opened N t))
    unfolding flash disk
    fresh-held In only i =
        let g = fresh-good H In N flash disk (length-split N.B N.d t.flash) (length-split N.B N.P t.disk) (subst (All In) fresh-disk i) in
        record { kept = fresh_kept; faithful = subst₂ (Faithful H In N.P) (sym fresh-disk) (sym fresh-box) g.1 }

    -- a list of single calls with no write
    printed-reads : (rs : List Ask) → All (λ q. NoWrite (call_of N.B q)) rs
        → seen_after N (opened N t) rs
        ≡ printed_trace H.same N.m N.d (content_of H (first_plain N (opened N t))) (record { addresses = []; fingerprints = [] })
        (reads_of N (opened N t) rs)
    unfolding flash disk
    printed-reads rs w =
        let f = fits N fits-numbers in
        let es = events_of N (opened N t) rs in
        let quiet = printed-quiet H disk N f.m-least f.d-least flash es (length-split N.B N.d t.flash) (length-split N.B N.P t.disk)
        (no_writes (opened N t) rs w) (events-within (opened N t) rs) in
        same_seen (opened N t) rs
        ∙ subst₂ (λ b p. trace_of H N b es
        ≡ printed_trace H.same N.m N.d (content_of H p) (record { addresses = []; fingerprints = [] }) (Quiet.reads_of es)) (sym fresh-box)
        (sym fresh-disk) quiet
        ∙ ap (printed_trace H.same N.m N.d (content_of H (first_plain N (opened N t))) (record { addresses = []; fingerprints = [] }))
        (sym (same_reads (opened N t) rs))

    module _ (qs : List Asking) where
      -- "In every state reached, the fresh one included": addresses distinct and below P, at most m of them, fingerprints of used rows distinct,
      -- slots each of 0 to d − 1 once, a dirty row's fingerprint cached
      pub structure-throughout : Throughout N (λ x plain. Sound (labelled N) N (box_in N x)) (opened N t) (first_plain N (opened N t)) qs
      structure-throughout = kept-throughout (λ x. Sound H N (box_in N x)) (λ x k. passes-sound N x k.passes) (opened N t)
          (first_plain N (opened N t)) qs fresh_kept

      demand-3-from : Demand3 N (opened N t) qs
      demand-3-from =
          let plain = first_plain N (opened N t) in
          let all = plain ++ written N (opened N t) qs in
          let In : Fixed N.B → Type 0 = λ b. Memᴰ b all in
          let i₀ = all_left In plain (written N (opened N t) qs) (all-mem all) in
          let i₁ = all_right In plain (written N (opened N t) qs) (all-mem all) in
          record {
            numbers = numbers-are (opened N t) qs fits-numbers fits-limit fresh_kept;
            dirty = kept-throughout (λ x. FewDirty N (box_in N x)) (λ x k. k.few) (opened N t) plain qs fresh_kept;
            orphans = kept-throughout (λ x. OrphanLaw H (box_in N x)) orphan (opened N t) plain qs fresh_kept;
            orphans_within = within-each (opened N t) plain qs fresh_kept;
            fingerprints = λ only. throughout In only (λ x p. TrueFingerprints H (box_in N x) p) (fingerprints In only) (opened N t) plain qs
                (fresh-held In only i₀) i₁;
            blocks = λ only. each-served In only (ShowsPlain N) (shown In only) (opened N t) plain qs (fresh-held In only i₀) i₁;
            as_reads = λ only. each-served In only (AsReads N) (as-reads In only) (opened N t) plain qs (fresh-held In only i₀) i₁;
            flushes = λ only. each-served In only (FlushesWhole N) (flushed In only) (opened N t) plain qs (fresh-held In only i₀) i₁;
            clean = λ only. throughout In only (CleanIsPlain N) (clean In only) (opened N t) plain qs (fresh-held In only i₀) i₁;
            printed = λ rs e w. printed-reads rs w;
          }

-- The theorem: demand 3 for every list of calls, from a fresh box over any disk and flash bytes, wherever the opening is not refused
pub demand-3 : (N : Numbers) (t : Lent) (qs : List Asking) → refusal N t opening ≡ 0 → Demand3 N (opened N t) qs
demand-3 N t qs opens = demand-3-from N t opens qs

-- a fresh box is such, and what a call leaves where it found such
pub opened-written : (N : Numbers) (t : Lent) → refusal N t opening ≡ 0 → Written N (opened N t)
opened-written N t o = (_, no_counts, fresh-sound N t o, fresh-lent N t o)

-- what a box writes, with other counters
counters-out : (N : Numbers) (s : Box (Fixed 32) (Fixed N.B)) (k c : Counters) → with_counters (lent_of N s k) c ≡ lent_of N s c
unfolding lent_of
counters-out N s k c = refl

pub next-written : (N : Numbers) (t : Lent) (q : Asking) → Written N t → Written N (next N t q)
next-written N t (one q) w =
    by-test (eqb (refusal N t (calling q)) 0)
    (λ y. let e = eqb-true (refusal N t (calling q)) 0 y in (_, _, outcome-sound N t q e, served-lent N t q e))
    (λ y. subst (Written N) (sym (keeps N t q (eqb-false (refusal N t (calling q)) 0 y)).lent) w)
next-written N t (many l b) w =
    by-test (eqb (batch_refusal N t l b) 0)
    (λ y. let e = eqb-true (batch_refusal N t l b) 0 y in (_, _, (batch-leaves N t l b e).0, batch-lent N t l b e))
    (λ y. subst (Written N) (sym (batch-keeps N t l b (eqb-false (batch_refusal N t l b) 0 y)).lent) w)
next-written N t (report r lent) w = w
next-written N t (recount k) w = (w.0, k, w.2, ap (λ x. with_counters x k) w.3 ∙ counters-out N w.0 w.1 k)

-- counters of 64 bits keep to them, whatever is asked
pub next_64 : (N : Numbers) (t : Lent) (q : Asking) → Brings64 q → In64 t.counters → In64 (next N t q).counters
next_64 N t (one q) b h = counters-stay N t q h
next_64 N t (many l f) b h =
    by-test (eqb (batch_refusal N t l f) 0)
    (λ y. batch-fits N t l f (eqb-true (batch_refusal N t l f) 0 y))
    (λ y. subst (λ (x : Lent). In64 x.counters) (sym (batch-keeps N t l f (eqb-false (batch_refusal N t l f) 0 y)).lent) h)
next_64 N t (report w lent) b h = h
next_64 N t (recount k) b h = b

-- a recount leaves the counters that it brings, and all else as it was
pub recounted : (N : Numbers) (t : Lent) (k : Counters)
    → ((next N t (recount k)).counters ≡ k) × (with_counters (next N t (recount k)) t.counters ≡ t)
recounted N t k = (refl, refl)

-- there a look leaves what is lent as it is
pub look-stays : (N : Numbers) (t : Lent) (a : ℕ) → Written N t → (call N t (Ask.look a)).lent ≡ t
unfolding call_of lent_of
look-stays N t a w =
    let q = Ask.look a in
    by-test (eqb (refusal N t (calling q)) 0)
    (λ y.
    let e = eqb-true (refusal N t (calling q)) 0 y in
    let f = (served-finds N t q e).fits in
    let s = w.0 in
    let k = w.1 in
    let back : box_in N t ≡ s = ap (box_in N) w.3 ∙ lent_back N s w.2 k f.P-most f.d-most in
    let box : (outcome N t q).box ≡ s = QuietLaws.look-same (labelled N) N (box_in N t) a ∙ back in
    let own = ap (λ (x : Lent). x.counters) (served-lent N t q e) in
    let same = look-counts N t a in
    let mine = ap (λ (x : Lent). x.counters) w.3 in
    served-lent N t q e ∙ ap₂ {C = Lent} (lent_of N) box (sym own ∙ same ∙ mine) ∙ sym w.3)
    (λ y. (keeps N t q (eqb-false (refusal N t (calling q)) 0 y)).lent)
