-- "From fresh, and until a 9, each read's block and its hit or miss are as without the limit.", proved for boxes that run D-LRU.
use Rattle.std.specs.Prelude.{◌≡◌, false, ◌≢◌, ◌≤◌, length}
use Rattle.std.proofs.Math.Path.{refl, ap, subst}
use Rattle.std.proofs.Common.{sym, ◌∙◌}
use mathlib.Core.List.{List, []}
use Rattle.paper.specs.Cache.{Numbers, Hashing, Box}
use Rattle.paper.specs.Engine.{Fixed, labelled}
use Rattle.paper.specs.Lent.{Lent, opening, call_of, unfit, limit_outside, over, refusal, served, kept, box_in, opened}
use Rattle.paper.specs.Sound.{Sound}
use Rattle.paper.proofs.LentLaws.{label-right, passes-sound}
use Rattle.paper.proofs.RefusalLaws.{exactly-opening, served-is, refused-keeps, opened-is}
use Rattle.paper.proofs.CallLaws.{fits, served-finds}
use Rattle.paper.specs.Reports.{report_refusal}
use Rattle.paper.specs.Batch.{start}
use Rattle.paper.specs.BatchLent.{Asking, one, many, report, recount, batch_refusal, served_batch}
use Rattle.paper.proofs.BatchLentLaws.{batch-finds, batch-served, batch-keeps, right-buffers}
use Rattle.paper.specs.Demand3.{number_of, returned, said_word}
use Rattle.paper.proofs.Demand3Laws.{Kept, kept_next, no-13, fresh_kept}
use Rattle.arc.specs.Policy.{lru}
use Rattle.arc.proofs.PromiseLaws.{lru-promises}
use Rattle.arc.proofs.LruServes.{lru-serves}
use Rattle.arc.proofs.FolderLaws.{lru-folder}
use Rattle.limits.specs.AsWithout.{single, folder, number, hits_said, lru_shows, lru_kind, unlimited, AsWithout}
use Rattle.blind.specs.Blind.{lru-blind}
use Rattle.blind.specs.Serving.{lru_state, lru-leaves, lru-stays}
use Rattle.limits.proofs.SeesLaws.{sees-step}
use Rattle.limits.proofs.BesideLaws.{Parallel, Beside, beside-itself}
use Rattle.limits.proofs.Unlimited.{unlimited-unfit, unlimited-limit, unlimited-buffers, unlimited-box, unlimited-fresh, fresh-rows}
use Rattle.limits.specs.Until.{refused_shown, outcome_shown, batch_shown, number_by, Inside}
use Rattle.limits.proofs.UntilLaws.{served_shown, Serves, until-nine}
use Rattle.limits.specs.AsWithoutLaws.{Fitting}

-- D-LRU promises what two boxes beside each other need
pub lru-parallel : {F X : Type 0} (H : Hashing F X) (N : Numbers) → 1 ≤ N.m → 1 ≤ N.d → Parallel H N (lru H N) (λ k s. Sound H N s)
lru-parallel H N m1 d1 =
    record { blind = lru-blind false H N; sees = λ shown k s q h f w ow cl. sees-step H N shown s q h f m1 d1 w ow cl }

module _ (N : Numbers) (x : Fitting N) where
  abbrev H : Hashing (Fixed 32) (Fixed N.B)
  H = labelled N

  numbered : (t : Lent) (q : Asking) → Kept N t → number_of N t q ≡ number_by N.B N.P N.m (over t.counters) q
  unfolding refusal batch_refusal report_refusal
  numbered t (one q) k =
      let p = k.passes in
      rw (x.numbers, x.limit, right-buffers N t x.label p, p.addresses, p.blocks, p.dirty, no-13 N t k) refl
  numbered t (many l buffer) k =
      let p = k.passes in
      rw (x.numbers, x.limit, right-buffers N t x.label p, p.addresses, p.blocks, p.dirty, no-13 N t k) refl
  numbered t (report w lent) k =
      let p = k.passes in
      rw (x.numbers, x.limit, right-buffers N t x.label p, p.addresses, p.blocks, p.dirty, no-13 N t k) refl
  numbered t (recount c) k = refl

  inside : (t : Lent) (q : Asking) → number_of N t q ≡ 0 → Inside N.B N.P q
  inside t (one q) e = (served-finds N t q e).within
  inside t (many l buffer) e = (batch-finds N t l buffer e).within
  inside t (report w lent) e = tt
  inside t (recount c) e = tt

  shows : (t : Lent) (q : Asking) → number_of N t q ≡ 0 → lru_shows N t q ≡ served_shown N.B N.P N.m H (lru H N) (lru_state N t) q
  unfolding served served_batch
  shows t (one q) e =
      let y = served-is N t q e in
      (λ j. single (e j) (said_word (y j).answer) (returned q (y j))) ∙ ap (outcome_shown q) (sym (lru-serves H N (box_in N t) (call_of N.B q)))
  shows t (many l buffer) e =
      let y = batch-served N t l buffer e in
      (λ j. folder (e j) (hits_said (y j).answer) (y j).buffer) ∙ ap batch_shown (sym (lru-folder H N (start (box_in N t) t.counters) l))
  shows t (report w lent) e = ap number e
  shows t (recount c) e = refl

  refuses : (t : Lent) (q : Asking) → number_of N t q ≢ 0 → lru_shows N t q ≡ refused_shown (number_of N t q) q
  unfolding kept
  refuses t (one q) z =
      let y = refused-keeps N t q z in
      λ j. single (number_of N t (one q)) (said_word (y j).answer) (returned q (y j))
  refuses t (many l buffer) z =
      let y = batch-keeps N t l buffer z in
      λ j. folder (number_of N t (many l buffer)) (hits_said (y.answer j)) (y.buffer-kept j)
  refuses t (report w lent) z = refl
  refuses t (recount c) z = refl

  lru-kind : Serves N.B N.P N.m H (lru H N) (lru_kind N)
  lru-kind =
      record {
        state = lru_state N;
        Good = Kept N;
        numbered = numbered;
        inside = inside;
        shows = shows;
        leaves = lru-leaves N;
        refuses = refuses;
        keeps = lru-stays N;
        stays = kept_next N;
      }

-- ---- from fresh, under both limits
module _ (N : Numbers) (t : Lent) (o : refusal N t opening ≡ 0) where
  fitting : Fitting N
  fitting =
      let y = (exactly-opening N t).gives-0.0 o in
      record { numbers = y.0; limit = y.1.0; label = label-right N t y.1.1.0 }

  unlimited-fitting : Fitting (unlimited N)
  unlimited-fitting =
      record {
        numbers = unlimited-unfit N ∙ fitting.numbers;
        limit = unlimited-limit N (fits N fitting.numbers).m-least;
        label = fitting.label;
      }

  unlimited-opens : refusal (unlimited N) t opening ≡ 0
  unlimited-opens =
      let y = (exactly-opening N t).gives-0.0 o in
      (exactly-opening (unlimited N) t).gives-0.1 (unlimited-fitting.numbers, (unlimited-fitting.limit, (unlimited-buffers N t ∙ y.1.1.0, tt)))

  -- one fresh box under both
  same-fresh : box_in (unlimited N) (opened (unlimited N) t) ≡ box_in N (opened N t)
  same-fresh =
      unlimited-box N (opened (unlimited N) t)
      ∙ ap (box_in N) (opened-is (unlimited N) t unlimited-opens ∙ unlimited-fresh N t ∙ sym (opened-is N t o))

  as-without-from : (qs : List Asking) → AsWithout N t qs
  unfolding lru-kind
  as-without-from qs =
      let f = fits N fitting.numbers in
      let pr = lru-promises (labelled N) N f.m-least f.d-least in
      let pa = lru-parallel (labelled N) N f.m-least f.d-least in
      let good = fresh_kept N t o in
      let Inv : Unit {0} → Box (Fixed 32) (Fixed N.B) → Type 0 = λ k s. Sound (labelled N) N s in
      let b = box_in N (opened N t) in
      let none : b.rows ≡ [] = ap (λ x. (box_in N x).rows) (opened-is N t o) ∙ fresh-rows N t in
      let near = beside-itself (labelled N) N (lru (labelled N) N) Inv pr pa N.m tt b (passes-sound N (opened N t) good.passes) none in
      until-nine N (lru (labelled N) N) Inv pr pa N.m (lru_kind N) (lru_kind (unlimited N)) (lru-kind N fitting) (lru-kind (unlimited N) unlimited-fitting)
      (opened N t) (opened (unlimited N) t) qs
      (record {
        good = good;
        good' = fresh_kept (unlimited N) t unlimited-opens;
        near = subst (λ u. Beside (labelled N) N (lru (labelled N) N) Inv pr pa N.m tt tt b u) (sym same-fresh) near;
      })

-- The theorem: every list of calls, from a fresh box over any disk and flash bytes, wherever the opening is not refused
pub as-without : (N : Numbers) (t : Lent) (qs : List Asking) → refusal N t opening ≡ 0 → AsWithout N t qs
as-without N t qs o = as-without-from N t o qs
