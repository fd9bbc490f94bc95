-- The calls on lent memory as calls over a policy: what passes from call to call, and what a call leaves of it. For boxes that run D-LRU and D-ARC.
-- Assumes nothing.
use Rattle.std.specs.Prelude.{◌≡◌, List, ◌≢◌, ℕ}
use Rattle.std.proofs.Math.Path.{refl, sym, ap}
use Rattle.std.proofs.Common.{◌∙◌}
use Rattle.paper.specs.Cache.{Numbers, Hashing, Box, Counters, counted}
use Rattle.paper.specs.Engine.{Fixed, labelled}
use Rattle.paper.specs.Lent.{Lent, Ask, call_of, box_in, lent_of}
use Rattle.paper.proofs.LentLaws.{counters-box}
use Rattle.paper.proofs.RefusalLaws.{keeps}
use Rattle.paper.proofs.CallLaws.{served-lent, served-box}
use Rattle.paper.specs.Batch.{start}
use Rattle.paper.specs.BatchLent.{Asking, one, many, report, recount}
use Rattle.paper.proofs.BatchLentLaws.{batch-keeps, batch-lent, batch-box}
use Rattle.paper.specs.Demand3.{number_of, next}
use Rattle.arc.specs.Policy.{Policy, Served, serve_by, lru}
use Rattle.arc.specs.Folder as Folder
use Rattle.arc.specs.Folder.{FolderBy}
use Rattle.arc.proofs.FolderLaws.{lru-folder}
use Rattle.arc.proofs.LruServes.{lru-serves}
use Rattle.arc.specs.Arc.{Sizes, base_numbers, Lists, arc}
use Rattle.arc.specs.ArcLent.{ArcLent}
use Rattle.arc.specs.ArcDemand.{lists_of, box_of, arc_number, arc_next}
use Rattle.arc.proofs.ArcDemandLaws as Arc

-- what passes from call to call: the policy's state, the box and the counters
pub record State (F X S : Type 0) : Type 0 where
  pub kept : S
  pub box : Box F X
  pub counters : Counters

module _ {S : Type 0} (B : ℕ) (H : Hashing (Fixed 32) (Fixed B)) (pol : Policy (Fixed 32) (Fixed B) S) where
  abbrev pub served_by : State (Fixed 32) (Fixed B) S → Ask → Served (Fixed 32) (Fixed B) S
  served_by s q = serve_by H pol s.kept s.box (call_of B q)

  abbrev pub folder_by : State (Fixed 32) (Fixed B) S → List ℕ → FolderBy (Fixed 32) (Fixed B) S
  folder_by s l = Folder.folder H pol (record { kept = s.kept; batched = start s.box s.counters }) l

  -- what a served call leaves
  abbrev pub served_state : State (Fixed 32) (Fixed B) S → Asking → State (Fixed 32) (Fixed B) S
  served_state s (one q) =
      let o = served_by s q in
      record { kept = o.kept; box = o.outcome.box; counters = counted s.counters (call_of B q) o.outcome }
  served_state s (many l buffer) =
      let r = folder_by s l in
      record { kept = r.kept; box = r.batched.box; counters = r.batched.counters }
  served_state s (report w lent) = s
  served_state s (recount k) = record { kept = s.kept; box = s.box; counters = k }

-- boxes that run D-LRU
module _ (N : Numbers) where
  abbrev pub lru_state : Lent → State (Fixed 32) (Fixed N.B) (Unit {0})
  lru_state t = record { kept = tt; box = box_in N t; counters = t.counters }

  pub lru-leaves : (t : Lent) (q : Asking) → number_of N t q ≡ 0
      → lru_state (next N t q) ≡ served_state N.B (labelled N) (lru (labelled N) N) (lru_state t) q
  unfolding lent_of
  lru-leaves t (one q) e =
      let o = sym (lru-serves (labelled N) N (box_in N t) (call_of N.B q)) in
      let b = served-box N t q e ∙ ap (λ x. x.box) o in
      let c = ap (λ x. x.counters) (served-lent N t q e) ∙ ap (counted t.counters (call_of N.B q)) o in
      λ i. record { kept = tt; box = b i; counters = c i }
  lru-leaves t (many l buffer) e =
      let r = sym (lru-folder (labelled N) N (start (box_in N t) t.counters) l) in
      let b = batch-box N t l buffer e ∙ ap (λ x. x.box) r in
      let c = ap (λ x. x.counters) (batch-lent N t l buffer e) ∙ ap (λ x. x.counters) r in
      λ i. record { kept = tt; box = b i; counters = c i }
  lru-leaves t (report w lent) e = refl
  lru-leaves t (recount c) e = let b = counters-box N t c in λ i. record { kept = tt; box = b i; counters = c }

  -- a refused call leaves all as it was
  pub lru-stays : (t : Lent) (q : Asking) → number_of N t q ≢ 0 → next N t q ≡ t
  lru-stays t (one q) z = (keeps N t q z).lent
  lru-stays t (many l buffer) z = (batch-keeps N t l buffer z).lent
  lru-stays t (report w lent) z = refl
  lru-stays t (recount c) z = absurd (z refl)

-- boxes that run D-ARC
module _ (Z : Sizes) where
  abbrev M : Numbers
  M = base_numbers Z

  abbrev pub arc_state : ArcLent → State (Fixed 32) (Fixed Z.B) Lists
  arc_state t = record { kept = lists_of t; box = box_of Z t; counters = t.base.counters }

  pub arc-leaves : (t : ArcLent) (q : Asking) → arc_number Z t q ≡ 0
      → arc_state (arc_next Z t q) ≡ served_state Z.B (labelled M) (arc (labelled M) Z) (arc_state t) q
  arc-leaves t (one q) e =
      let l = Arc.served-lists Z t q e in
      let b = Arc.served-box Z t q e in
      let c = Arc.served-counters Z t q e in
      λ i. record { kept = l i; box = b i; counters = c i }
  arc-leaves t (many l buffer) e =
      let k = Arc.folder-lists Z t l buffer e in
      let b = Arc.folder-box Z t l buffer e in
      let c = Arc.folder-counters Z t l buffer e in
      λ i. record { kept = k i; box = b i; counters = c i }
  arc-leaves t (report w lent) e = refl
  arc-leaves t (recount c) e = let b = counters-box M t.base c in λ i. record { kept = lists_of t; box = b i; counters = c }

  pub arc-stays : (t : ArcLent) (q : Asking) → arc_number Z t q ≢ 0 → arc_next Z t q ≡ t
  arc-stays t (one q) z = ap (λ x. x.lent) (Arc.arc-keeps Z t q z)
  arc-stays t (many l buffer) z = ap (λ x. x.lent) (Arc.arc-folder-keeps Z t l buffer z)
  arc-stays t (report w lent) z = refl
  arc-stays t (recount c) z = absurd (z refl)
