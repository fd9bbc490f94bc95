-- What a served folder read finds and leaves, in bytes: lent memory that passes, the reads done in turn, and counters that stay in 64 bits.
use Rattle.std.specs.Prelude.{◌≡◌, Bool, false, not, ◌||◌, cond, ◌↔◌, ◌≢◌, ℕ, ◌≤◌, ◌<◌, ◌*◌, eqb, leb, ltb, length, take, drop}
use Rattle.std.proofs.Math.Path.{refl, ap, subst}
use Rattle.std.proofs.Common.{sym, ◌∙◌, eqb-true, leb-false, ltb-false, ne_eqb, le-ltb}
use Rattle.std.proofs.Math.Bool.{true}
use mathlib.Core.List.{List, [], ◌∷◌}
use native.Mathlib.Omega.{arith}
use Rattle.std.proofs.lemmas.Bool.{eqb-false, lt-leb, not-false}
use Rattle.tables.specs.Rows.{table_bytes}
use Rattle.tables.specs.Unsound.{addresses_unsound, blocks_unsound, dirty_uncached}
use Rattle.paper.specs.Cache.{Numbers, Call, dirty_rows, counted, serve}
use Rattle.paper.specs.KeyedLaws.{eqb-self, All, or-false-left, or-false-right}
use Rattle.paper.specs.Engine.{Fixed, labelled}
use Rattle.paper.specs.Lent.{Lent, Ask, test, one_of, calling, call_of, refusal, unfit, limit_outside, wrong_buffers, other_length}
use Rattle.paper.specs.Lent.{over_limit, FewDirty, over, box_in, lent_of, served}
use Rattle.paper.specs.Sound.{Sound}
use Rattle.paper.proofs.SoundLaws.{sound-serve}
use Rattle.paper.proofs.Orphans.{NoWaste}
use Rattle.paper.specs.LentLaws.{Passes}
use Rattle.paper.proofs.LentLaws.{right-lengths, passes-sound, sound-passes, lent_back}
use Rattle.paper.specs.RefusalLaws.{Apart, NoneOf}
use Rattle.paper.proofs.RefusalLaws.{gives, gives_none, in-first}
use Rattle.paper.specs.CallLaws.{Fits, In64}
use Rattle.paper.proofs.CallLaws.{fits, not-over}
use Rattle.paper.proofs.FewWrites.{tally-serve}
use Rattle.paper.specs.Batch.{Batched, start, added, in_turn}
use Rattle.paper.proofs.BatchLaws.{batch-sound, batch-few, batch-grows}
use Rattle.paper.specs.BatchLent.{bad_count, any_outside, batch_tests, batch_refusal, BatchAnswer, refused, batched_from, served_batch, call_batch, served_in_turn}
use Rattle.paper.specs.BatchLentLaws.{Finds, KeepsBatch}

-- ---- the refusals
-- the tests of a folder read by their numbers: "10 .. checked after 2", 3 after it, then as in every call
module _ (N : Numbers) (t : Lent) (l buffer : List ℕ) where
  abbrev pub test1 : Bool
  test1 = unfit N

  abbrev pub test12 : Bool
  test12 = limit_outside N

  abbrev pub test2 : Bool
  test2 = wrong_buffers N t || other_length buffer (length l * N.B)

  abbrev pub test10 : Bool
  test10 = bad_count l

  abbrev pub test3 : Bool
  test3 = any_outside N.P l

  abbrev pub test6 : Bool
  test6 = addresses_unsound N.P N.m t.n t.addresses

  abbrev pub test7 : Bool
  test7 = blocks_unsound N.d t.blocks

  abbrev pub test8 : Bool
  test8 = dirty_uncached t.n N.d t.addresses t.blocks

  abbrev pub test13 : Bool
  test13 = over_limit N t

  abbrev pub test9 : Bool
  test9 = over t.counters

  abbrev pub number : ℕ
  number = batch_refusal N t l buffer

  -- a folder read gets a number exactly when its test holds and none before it does
  pub record ExactlyBatch : Type 0 where
    pub gives-1 : number ≡ 1 ↔ (NoneOf [] × (test1 ≡ true))
    pub gives-12 : number ≡ 12 ↔ (NoneOf (test1 ∷ []) × (test12 ≡ true))
    pub gives-2 : number ≡ 2 ↔ (NoneOf (test1 ∷ test12 ∷ []) × (test2 ≡ true))
    pub gives-10 : number ≡ 10 ↔ (NoneOf (test1 ∷ test12 ∷ test2 ∷ []) × (test10 ≡ true))
    pub gives-3 : number ≡ 3 ↔ (NoneOf (test1 ∷ test12 ∷ test2 ∷ test10 ∷ []) × (test3 ≡ true))
    pub gives-6 : number ≡ 6 ↔ (NoneOf (test1 ∷ test12 ∷ test2 ∷ test10 ∷ test3 ∷ []) × (test6 ≡ true))
    pub gives-7 : number ≡ 7 ↔ (NoneOf (test1 ∷ test12 ∷ test2 ∷ test10 ∷ test3 ∷ test6 ∷ []) × (test7 ≡ true))
    pub gives-8 : number ≡ 8 ↔ (NoneOf (test1 ∷ test12 ∷ test2 ∷ test10 ∷ test3 ∷ test6 ∷ test7 ∷ []) × (test8 ≡ true))
    pub gives-13 : number ≡ 13 ↔ (NoneOf (test1 ∷ test12 ∷ test2 ∷ test10 ∷ test3 ∷ test6 ∷ test7 ∷ test8 ∷ []) × (test13 ≡ true))
    pub gives-9 : number ≡ 9 ↔ (NoneOf (test1 ∷ test12 ∷ test2 ∷ test10 ∷ test3 ∷ test6 ∷ test7 ∷ test8 ∷ test13 ∷ []) × (test9 ≡ true))
    pub gives-0 : number ≡ 0 ↔ NoneOf (test1 ∷ test12 ∷ test2 ∷ test10 ∷ test3 ∷ test6 ∷ test7 ∷ test8 ∷ test13 ∷ test9 ∷ [])
    pub no_other : one_of number (0 ∷ 1 ∷ 12 ∷ 2 ∷ 10 ∷ 3 ∷ 6 ∷ 7 ∷ 8 ∷ 13 ∷ 9 ∷ []) ≡ true

  pub exactly-batch : ExactlyBatch
  unfolding batch_refusal
  exactly-batch =
      let x = batch_tests N t l buffer in
      let d : Apart x = (refl, (refl, (refl, (refl, (refl, (refl, (refl, (refl, (refl, (refl, (refl, tt))))))))))) in
      record {
        gives-1 = gives [] (test test1 1) (drop 1 x) d;
        gives-12 = gives (take 1 x) (test test12 12) (drop 2 x) d;
        gives-2 = gives (take 2 x) (test test2 2) (drop 3 x) d;
        gives-10 = gives (take 3 x) (test test10 10) (drop 4 x) d;
        gives-3 = gives (take 4 x) (test test3 3) (drop 5 x) d;
        gives-6 = gives (take 5 x) (test test6 6) (drop 6 x) d;
        gives-7 = gives (take 6 x) (test test7 7) (drop 7 x) d;
        gives-8 = gives (take 7 x) (test test8 8) (drop 8 x) d;
        gives-13 = gives (take 8 x) (test test13 13) (drop 9 x) d;
        gives-9 = gives (take 9 x) (test test9 9) [] d;
        gives-0 = gives_none x d;
        no_other = in-first x;
      }

all-within : (P : ℕ) (l : List ℕ) → any_outside P l ≡ false → All (λ a. a < P) l
all-within P [] e = tt
all-within P (a ∷ l) e = (leb-false P a (or-false-left (leb P a) (any_outside P l) e), all-within P l (or-false-right (leb P a) (any_outside P l) e))

pub batch-finds : (N : Numbers) (t : Lent) (l buffer : List ℕ) → batch_refusal N t l buffer ≡ 0 → Finds N t l buffer
batch-finds N t l buffer e =
    let x = (exactly-batch N t l buffer).gives-0.0 e in
    let y = x.1.1.1.1.1 in
    let right = x.1.1.0 in
    let counted = x.1.1.1.0 in
    let n0 = eqb-false (length l) 0 (or-false-left (eqb (length l) 0) (ltb 64 (length l)) counted) in
    record {
      numbers = x.0;
      fits = fits N x.0;
      limit = x.1.0;
      few = ltb-false N.t (dirty_rows (labelled N) (box_in N t).rows) y.1.1.1.0;
      passes = record {
        lengths = right-lengths N t (or-false-left (wrong_buffers N t) (other_length buffer (length l * N.B)) right);
        addresses = y.0;
        blocks = y.1.0;
        dirty = y.1.1.0;
      };
      some-address = omega (arith, n0);
      count = ltb-false 64 (length l) (or-false-right (eqb (length l) 0) (ltb 64 (length l)) counted);
      long = eqb-true (length buffer) (length l * N.B)
          (not-false (eqb (length buffer) (length l * N.B)) (or-false-right (wrong_buffers N t) (other_length buffer (length l * N.B)) right));
      within = all-within N.P l x.1.1.1.1.0;
      counters = y.1.1.1.1.0;
    }

-- ---- what it leaves
pub batch-served : (N : Numbers) (t : Lent) (l buffer : List ℕ) → batch_refusal N t l buffer ≡ 0 → call_batch N t l buffer ≡ served_batch N t l
unfolding call_batch
batch-served N t l buffer e = rw e refl

pub batch-keeps : (N : Numbers) (t : Lent) (l buffer : List ℕ) → batch_refusal N t l buffer ≢ 0 → KeepsBatch N t l buffer
unfolding call_batch
batch-keeps N t l buffer n = let e = ne_eqb (batch_refusal N t l buffer) 0 n in record { answer = rw e refl; lent = rw e refl; buffer-kept = rw e refl }

module _ (N : Numbers) (t : Lent) (l buffer : List ℕ) (e : batch_refusal N t l buffer ≡ 0) where
  abbrev left : Batched (Fixed 32) (Fixed N.B)
  left = batched_from N t l

  pub batch-lent : (call_batch N t l buffer).lent ≡ lent_of N left.box left.counters
  unfolding served_batch
  batch-lent = ap (λ a. a.lent) (batch-served N t l buffer e)

  pub batch-leaves : Sound (labelled N) N left.box
      × (NoWaste (labelled N) (box_in N t).rows (box_in N t).used → NoWaste (labelled N) left.box.rows left.box.used)
  batch-leaves =
      let x = batch-finds N t l buffer e in
      batch-sound (labelled N) N x.fits.m-least x.fits.d-least (start (box_in N t) t.counters) l x.within (passes-sound N t x.passes)

  pub batch-box : box_in N (call_batch N t l buffer).lent ≡ left.box
  batch-box =
      let f = (batch-finds N t l buffer e).fits in
      ap (box_in N) batch-lent ∙ lent_back N left.box batch-leaves.0 left.counters f.P-most f.d-most

  pub batch-passes : Passes N (call_batch N t l buffer).lent
  batch-passes =
      let f = (batch-finds N t l buffer e).fits in
      subst (Passes N) (sym batch-lent) (sound-passes N left.box batch-leaves.0 left.counters f.P-most f.d-most)

  pub batch-few-dirty : FewDirty N left.box
  batch-few-dirty = batch-few (labelled N) N (start (box_in N t) t.counters) l (batch-finds N t l buffer e).few

  -- its counters stay in 64 bits, though 9 is checked only before its first read
  pub batch-fits : In64 (call_batch N t l buffer).lent.counters
  unfolding lent_of
  batch-fits =
      let x = batch-finds N t l buffer e in
      let g = batch-grows (labelled N) N x.fits.m-least x.fits.d-least x.fits.m-most (start (box_in N t) t.counters) l
      (passes-sound N t x.passes) x.within in
      let n = x.count in
      let h = not-over t.counters x.counters in
      let h₀ = h.0 in
      let h₁ = h.1 in
      let h₂ = h.2 in
      let h₃ = h.3 in
      let g₀ = g.reads in
      let g₁ = g.hits in
      let g₂ = g.flash_writes in
      let g₃ = g.primary_writes in
      subst (λ y. In64 y.counters) (sym batch-lent)
      (record { reads = omega arith; hits = omega arith; flash_writes = omega arith; primary_writes = omega arith })

-- ---- the reads done in turn, in bytes
module _ (N : Numbers) (f : Fits N) where
  in-turn-from : (v : Batched (Fixed 32) (Fixed N.B)) (l : List ℕ) → Sound (labelled N) N v.box → All (λ a. a < N.P) l
      → let w = in_turn (labelled N) N v l in served_in_turn N (lent_of N v.box v.counters) l ≡ lent_of N w.box w.counters
  unfolding in_turn served_in_turn served call_of lent_of
  in-turn-from v [] h w = refl
  in-turn-from v (a ∷ l) h w =
      let o = serve (labelled N) N v.box (Call.read a) in
      let back = lent_back N v.box h v.counters f.P-most f.d-most in
      ap (λ s. let p = serve (labelled N) N s (Call.read a) in served_in_turn N (lent_of N p.box (counted v.counters (Call.read a) p)) l) back
      ∙ in-turn-from (added (labelled N) v a true o) l (sound-serve (labelled N) N v.box (Call.read a) h f.m-least f.d-least w.0) w.1

  pub in-turn-is : (t : Lent) (l : List ℕ) → Passes N t → All (λ a. a < N.P) l → 0 < length l
      → let w = in_turn (labelled N) N (start (box_in N t) t.counters) l in served_in_turn N t l ≡ lent_of N w.box w.counters
  unfolding in_turn served_in_turn served call_of lent_of
  in-turn-is t [] p w n = absurd (omega (arith, n))
  in-turn-is t (a ∷ l) p w n =
      let o = serve (labelled N) N (box_in N t) (Call.read a) in
      in-turn-from (added (labelled N) (start (box_in N t) t.counters) a true o) l
      (sound-serve (labelled N) N (box_in N t) (Call.read a) (passes-sound N t p) f.m-least f.d-least w.0) w.1

  read-passes : (t : Lent) (a : ℕ) → Passes N t → a < N.P → Passes N (served N t (Ask.read a [])).lent
  unfolding served call_of
  read-passes t a p w =
      let o = serve (labelled N) N (box_in N t) (Call.read a) in
      sound-passes N o.box (sound-serve (labelled N) N (box_in N t) (Call.read a) (passes-sound N t p) f.m-least f.d-least w)
      (counted t.counters (Call.read a) o) f.P-most f.d-most

  read-few : (t : Lent) (a : ℕ) → Passes N t → a < N.P → FewDirty N (box_in N t) → FewDirty N (box_in N (served N t (Ask.read a [])).lent)
  unfolding served call_of
  read-few t a p w few =
      let o = serve (labelled N) N (box_in N t) (Call.read a) in
      let h = sound-serve (labelled N) N (box_in N t) (Call.read a) (passes-sound N t p) f.m-least f.d-least w in
      subst (FewDirty N) (sym (lent_back N o.box h (counted t.counters (Call.read a) o) f.P-most f.d-most))
      ((tally-serve (labelled N) N (box_in N t) (Call.read a)).few few)

  passes-in-turn : (t : Lent) (l : List ℕ) → Passes N t → FewDirty N (box_in N t) → All (λ a. a < N.P) l
      → Passes N (served_in_turn N t l) × FewDirty N (box_in N (served_in_turn N t l))
  unfolding served_in_turn
  passes-in-turn t [] p few w = (p, few)
  passes-in-turn t (a ∷ l) p few w = passes-in-turn (served N t (Ask.read a [])).lent l (read-passes t a p w.0) (read-few t a p w.0 few) w.1

pub right-buffers : (N : Numbers) (t : Lent) → length N.label ≡ 64 → Passes N t → wrong_buffers N t ≡ false
unfolding wrong_buffers
right-buffers N t l p =
    let x = p.lengths in
    rw (
      l,
      x.disk,
      x.flash,
      x.addresses,
      x.blocks,
      eqb-self (N.P * N.B),
      eqb-self (N.d * N.B),
      eqb-self (table_bytes N.m),
      eqb-self (table_bytes N.d),
    )
    refl

-- "with 9 checked only before the first": between the reads done in turn a single read would get 9 where a counter is over, and no other number
pub only-9-between : (N : Numbers) (t : Lent) (l : List ℕ) (a : ℕ) (x : List ℕ) → unfit N ≡ false → limit_outside N ≡ false → length N.label ≡ 64
    → Passes N t → FewDirty N (box_in N t) → All (λ b. b < N.P) l → a < N.P → length x ≡ N.B
    → let u = served_in_turn N t l in refusal N u (calling (Ask.read a x)) ≡ cond (over u.counters) 9 0
unfolding refusal
only-9-between N t l a x nu lu nl p few w wa lx =
    let u = served_in_turn N t l in
    let y = passes-in-turn N (fits N nu) t l p few w in
    let q = y.0 in
    let no-13 = le-ltb N.t (dirty_rows (labelled N) (box_in N u).rows) y.1 in
    rw (nu, lu, right-buffers N u nl q, lx, eqb-self N.B, lt-leb N.P a wa, q.addresses, q.blocks, q.dirty, no-13) refl
