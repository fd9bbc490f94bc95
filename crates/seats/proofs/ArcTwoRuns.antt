-- The theorem of two runs for boxes that run D-ARC.
use Rattle.std.specs.Prelude.{◌≡◌, true, ◌||◌, List, map, ◌≢◌, ℕ}
use Rattle.std.proofs.Math.Path.{refl, ap}
use Rattle.std.proofs.Common.{sym, ap₂, ◌∙◌}
use Rattle.tables.specs.Unsound.{addresses_unsound, blocks_unsound, dirty_uncached}
use Rattle.paper.specs.Cache.{Numbers, Hashing, Counters}
use Rattle.paper.specs.Engine.{Fixed, labelled}
use Rattle.paper.specs.Lent.{test, wrong_buffers, over_limit, box_in}
use Rattle.paper.specs.BatchLent.{Asking, one, many, report, recount}
use Rattle.arc.specs.Arc.{Sizes, base_numbers, m_of, arc}
use Rattle.arc.specs.ArcLent.{ArcLent, unfit_arc, lists_unsound, top_uncached, tops_in, wrong_arc_buffers, arc_refusal, arc_served}
use Rattle.arc.specs.ArcFolder.{arc_folder_refusal, arc_served_folder}
use Rattle.arc.specs.ArcReports.{arc_report_refusal, arc_reported}
use Rattle.arc.specs.ArcDemand.{box_of, arc_number, arc_next}
use Rattle.arc.proofs.ArcDemandLaws.{ArcPasses, no-13, served-is, arc-keeps, served-passes}
use Rattle.arc.proofs.ArcDemandLaws.{folder-served, arc-folder-keeps, folder-passes}
use Rattle.seats.specs.TwoRuns.{bare_ask, bare_asking, single, folder, number, arc_tells, arc_runs, desk_sees}
use Rattle.blind.specs.ArcBlind.{arc-blind}
use Rattle.blind.specs.Serving.{arc_state, arc-leaves, arc-stays}
use Rattle.seats.specs.Alike.{Tests, number_by}
use Rattle.seats.proofs.AlikeLaws.{refused_told, served_told, Serves, runs-alike}
use Rattle.seats.proofs.TwoRunsLaws.{same-buffers}

module _ (Z : Sizes) where
  abbrev H : Hashing (Fixed 32) (Fixed Z.B)
  H = labelled (base_numbers Z)

  abbrev M : Numbers
  M = base_numbers Z

  abbrev tests : ArcLent → Tests
  tests t =
      let b = t.base in
      record {
        buffers = wrong_arc_buffers Z t;
        six = addresses_unsound Z.P (m_of Z) b.n b.addresses || lists_unsound Z (box_of Z t).rows t.sizes t.lists;
        seven = blocks_unsound Z.C b.blocks;
        eight = dirty_uncached b.n Z.C b.addresses b.blocks || top_uncached H (box_of Z t) (tops_in t.sizes t.lists);
        thirteen = over_limit M b;
      }

  numbered : (t : ArcLent) (q : Asking) → arc_number Z t q ≡ number_by M (test (unfit_arc Z) 11) (tests t) t.base.counters q
  unfolding arc_refusal arc_folder_refusal arc_report_refusal
  numbered t (one q) = refl
  numbered t (many l buffer) = refl
  numbered t (report w lent) = refl
  numbered t (recount c) = refl

  same_tests : (t u : ArcLent) → ArcPasses Z t → ArcPasses Z u → tests t ≡ tests u
  same_tests t u p p' =
      let b = ap₂ ◌||◌ (same-buffers M t.base u.base p.base p'.base) (p.width ∙ sym p'.width) in
      let x = ap₂ ◌||◌ (p.base.addresses ∙ sym p'.base.addresses) (p.six ∙ sym p'.six) in
      let y = p.base.blocks ∙ sym p'.base.blocks in
      let z = ap₂ ◌||◌ (p.base.dirty ∙ sym p'.base.dirty) (p.eight ∙ sym p'.eight) in
      let v = no-13 Z t p ∙ sym (no-13 Z u p') in
      λ i. record { buffers = b i; six = x i; seven = y i; eight = z i; thirteen = v i }

  -- the tests look at no counter
  counters-tests : (t : ArcLent) (c : Counters) → tests (arc_next Z t (recount c)) ≡ tests t
  unfolding wrong_buffers box_in
  counters-tests t c = refl

  passes : (t u : ArcLent) (q : Asking) → tests t ≡ tests u → arc_number Z t q ≡ 0 → arc_number Z u (bare_asking q) ≡ 0
      → tests (arc_next Z t q) ≡ tests (arc_next Z u (bare_asking q))
  passes t u (one q) k e f = same_tests (arc_next Z t (one q)) (arc_next Z u (one (bare_ask q))) (served-passes Z t q e) (served-passes Z u (bare_ask q) f)
  passes t u (many l b) k e f = same_tests (arc_next Z t (many l b)) (arc_next Z u (many l b)) (folder-passes Z t l b e) (folder-passes Z u l b f)
  passes t u (report w lent) k e f = k
  passes t u (recount c) k e f = counters-tests t c ∙ k ∙ sym (counters-tests u c)

  tells : (t : ArcLent) (q : Asking) → arc_number Z t q ≡ 0 → arc_tells Z t q ≡ served_told M (arc H Z) (arc_state Z t) q
  unfolding arc_served arc_served_folder
  tells t (one q) e = ap (λ x. single x.answer x.block x.part) (served-is Z t q e)
  tells t (many l buffer) e = ap (λ x. folder x.answer x.buffer) (folder-served Z t l buffer e)
  tells t (report w lent) e = ap number e
  tells t (recount c) e = refl

  refuses : (t : ArcLent) (q : Asking) → arc_number Z t q ≢ 0 → arc_tells Z t q ≡ refused_told (arc_number Z t q) q
  refuses t (one q) z = ap (λ x. single x.answer x.block x.part) (arc-keeps Z t q z)
  refuses t (many l buffer) z = ap (λ x. folder x.answer x.buffer) (arc-folder-keeps Z t l buffer z)
  refuses t (report w lent) z = refl
  refuses t (recount c) z = refl

  arc-runs : Serves M (arc H Z) (arc_runs Z)
  unfolding arc_reported
  arc-runs =
      record {
        state = arc_state Z;
        tests = tests;
        unfit = test (unfit_arc Z) 11;
        number = arc_number Z;
        numbered = numbered;
        counters = λ t. refl;
        tells = tells;
        leaves = arc-leaves Z;
        passes = passes;
        refuses = refuses;
        keeps = arc-stays Z;
        reports = λ t lent. refl;
      }

-- From any lent memory, whatever is refused
pub arc-two-runs : (Z : Sizes) (lent : List ℕ) (t : ArcLent) (qs rs : List Asking) → map bare_asking qs ≡ map bare_asking rs
    → desk_sees (arc_runs Z) lent t qs ≡ desk_sees (arc_runs Z) lent t rs
arc-two-runs Z lent t qs rs e =
    runs-alike (base_numbers Z) (arc (labelled (base_numbers Z)) Z) (arc-blind true (labelled (base_numbers Z)) Z) (arc_runs Z) (arc-runs Z) lent t qs rs e
