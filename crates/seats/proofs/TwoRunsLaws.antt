-- The theorem of two runs for boxes that run D-LRU: what the desk sees is the same, whatever seats the calls carry.
use Rattle.std.specs.Prelude.{◌≡◌, true, false, List, map, ◌≢◌, ℕ}
use Rattle.std.proofs.Math.Path.{refl, ap}
use Rattle.std.proofs.Common.{sym, ◌∙◌, subst, le-ltb}
use Rattle.tables.specs.Unsound.{addresses_unsound, blocks_unsound, dirty_uncached}
use Rattle.paper.specs.Cache.{Numbers, Hashing, Counters, dirty_rows}
use Rattle.paper.specs.Engine.{Fixed, labelled}
use Rattle.paper.specs.Lent.{Lent, Ask, calling, call_of, test, unfit, wrong_buffers, over_limit, FewDirty, refusal, served, box_in}
use Rattle.paper.specs.LentLaws.{Passes}
use Rattle.paper.proofs.RefusalLaws.{served-is, keeps}
use Rattle.paper.proofs.CallLaws.{outcome-few, served-box, served-passes}
use Rattle.paper.specs.Reports.{report_refusal, reported}
use Rattle.paper.specs.Batch.{start}
use Rattle.paper.specs.BatchLent.{Asking, one, many, report, recount, batch_refusal, served_batch}
use Rattle.paper.proofs.BatchLentLaws.{batch-served, batch-keeps, batch-box, batch-few-dirty, batch-passes}
use Rattle.paper.specs.Demand3.{number_of, next}
use Rattle.arc.specs.Policy.{lru}
use Rattle.arc.proofs.LruServes.{lru-serves}
use Rattle.arc.proofs.FolderLaws.{lru-folder}
use Rattle.seats.specs.TwoRuns.{bare_ask, bare_asking, single, folder, number, lru_tells, lru_runs, desk_sees}
use Rattle.blind.specs.Blind.{lru-blind}
use Rattle.blind.specs.Serving.{lru_state, lru-leaves, lru-stays}
use Rattle.seats.specs.Alike.{Tests, number_by, outcome_told, batch_told}
use Rattle.seats.proofs.AlikeLaws.{refused_told, served_told, Serves, runs-alike}

-- lent memory that passes has the same lengths
pub same-buffers : (N : Numbers) (t u : Lent) → Passes N t → Passes N u → wrong_buffers N t ≡ wrong_buffers N u
unfolding wrong_buffers
same-buffers N t u p p' =
    let x = p.lengths in
    let y = p'.lengths in
    rw (x.disk, x.flash, x.addresses, x.blocks, y.disk, y.flash, y.addresses, y.blocks) refl

module _ (N : Numbers) where
  abbrev H : Hashing (Fixed 32) (Fixed N.B)
  H = labelled N

  abbrev tests : Lent → Tests
  tests t =
      record {
        buffers = wrong_buffers N t;
        six = addresses_unsound N.P N.m t.n t.addresses;
        seven = blocks_unsound N.d t.blocks;
        eight = dirty_uncached t.n N.d t.addresses t.blocks;
        thirteen = over_limit N t;
      }

  numbered : (t : Lent) (q : Asking) → number_of N t q ≡ number_by N (test (unfit N) 1) (tests t) t.counters q
  unfolding refusal batch_refusal report_refusal
  numbered t (one q) = refl
  numbered t (many l buffer) = refl
  numbered t (report w lent) = refl
  numbered t (recount c) = refl

  -- after a served call not more rows are dirty than the limit
  few-dirty : (t : Lent) → FewDirty N (box_in N t) → over_limit N t ≡ false
  few-dirty t f = le-ltb N.t (dirty_rows H (box_in N t).rows) f

  one-few : (t : Lent) (q : Ask) → refusal N t (calling q) ≡ 0 → over_limit N (next N t (one q)) ≡ false
  one-few t q e = few-dirty (next N t (one q)) (subst (FewDirty N) (sym (served-box N t q e)) (outcome-few N t q e))

  many-few : (t : Lent) (l b : List ℕ) → batch_refusal N t l b ≡ 0 → over_limit N (next N t (many l b)) ≡ false
  many-few t l b e = few-dirty (next N t (many l b)) (subst (FewDirty N) (sym (batch-box N t l b e)) (batch-few-dirty N t l b e))

  same_tests : (t u : Lent) → Passes N t → Passes N u → over_limit N t ≡ false → over_limit N u ≡ false → tests t ≡ tests u
  same_tests t u p p' f f' =
      let b = same-buffers N t u p p' in
      let x = p.addresses ∙ sym p'.addresses in
      let y = p.blocks ∙ sym p'.blocks in
      let z = p.dirty ∙ sym p'.dirty in
      let v = f ∙ sym f' in
      λ i. record { buffers = b i; six = x i; seven = y i; eight = z i; thirteen = v i }

  -- the tests look at no counter
  counters-tests : (t : Lent) (c : Counters) → tests (next N t (recount c)) ≡ tests t
  unfolding wrong_buffers box_in
  counters-tests t c = refl

  passes : (t u : Lent) (q : Asking) → tests t ≡ tests u → number_of N t q ≡ 0 → number_of N u (bare_asking q) ≡ 0
      → tests (next N t q) ≡ tests (next N u (bare_asking q))
  passes t u (one q) k e f =
      same_tests (next N t (one q)) (next N u (one (bare_ask q))) (served-passes N t q e) (served-passes N u (bare_ask q) f) (one-few t q e)
      (one-few u (bare_ask q) f)
  passes t u (many l b) k e f =
      same_tests (next N t (many l b)) (next N u (many l b)) (batch-passes N t l b e) (batch-passes N u l b f) (many-few t l b e) (many-few u l b f)
  passes t u (report w lent) k e f = k
  passes t u (recount c) k e f = counters-tests t c ∙ k ∙ sym (counters-tests u c)

  tells : (t : Lent) (q : Asking) → number_of N t q ≡ 0 → lru_tells N t q ≡ served_told N (lru H N) (lru_state N t) q
  unfolding served served_batch
  tells t (one q) e =
      ap (λ x. single x.answer x.block x.part) (served-is N t q e) ∙ ap (outcome_told q) (sym (lru-serves H N (box_in N t) (call_of N.B q)))
  tells t (many l buffer) e =
      ap (λ x. folder x.answer x.buffer) (batch-served N t l buffer e)
      ∙ ap batch_told (sym (lru-folder H N (start (box_in N t) t.counters) l))
  tells t (report w lent) e = ap number e
  tells t (recount c) e = refl

  refuses : (t : Lent) (q : Asking) → number_of N t q ≢ 0 → lru_tells N t q ≡ refused_told (number_of N t q) q
  refuses t (one q) z = let x = keeps N t q z in λ i. single (x.answer i) (x.block i) (x.part i)
  refuses t (many l buffer) z = let x = batch-keeps N t l buffer z in λ i. folder (x.answer i) (x.buffer-kept i)
  refuses t (report w lent) z = refl
  refuses t (recount c) z = refl

  lru-runs : Serves N (lru H N) (lru_runs N)
  unfolding reported
  lru-runs =
      record {
        state = lru_state N;
        tests = tests;
        unfit = test (unfit N) 1;
        number = number_of N;
        numbered = numbered;
        counters = λ t. refl;
        tells = tells;
        leaves = lru-leaves N;
        passes = passes;
        refuses = refuses;
        keeps = lru-stays N;
        reports = λ t lent. refl;
      }

-- From any lent memory, whatever is refused
pub two_runs : (N : Numbers) (lent : List ℕ) (t : Lent) (qs rs : List Asking) → map bare_asking qs ≡ map bare_asking rs
    → desk_sees (lru_runs N) lent t qs ≡ desk_sees (lru_runs N) lent t rs
two_runs N lent t qs rs e = runs-alike N (lru (labelled N) N) (lru-blind true (labelled N) N) (lru_runs N) (lru-runs N) lent t qs rs e
