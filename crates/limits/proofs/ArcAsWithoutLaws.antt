-- "From fresh, and until a 9, each read's block and its hit or miss are as without the limit.", proved for boxes that run D-ARC.
use Rattle.std.specs.Prelude.{◌≡◌, false, ◌||◌, List, ◌≢◌, ◌*◌, length}
use Rattle.std.proofs.Math.Path.{refl, ap}
use Rattle.std.proofs.Common.{sym, ◌∙◌, subst, subst₂, arith}
use Rattle.tables.specs.Rows.{zeros}
use Rattle.paper.specs.Cache.{Hashing}
use Rattle.paper.specs.KeyedLaws.{or-both, or-false-left}
use Rattle.paper.specs.Engine.{Fixed, labelled}
use Rattle.paper.specs.Lent.{opening, other_length, limit_outside, wrong_buffers, over, fresh}
use Rattle.paper.proofs.LentLaws.{label-right}
use Rattle.paper.specs.BatchLent.{Asking, one, many, report, recount}
use Rattle.paper.proofs.BatchLentLaws.{right-buffers}
use Rattle.paper.specs.Demand3.{said_word}
use Rattle.arc.specs.Policy.{Policy}
use Rattle.arc.specs.Arc.{Sizes, base_numbers, m_of, Lists}
use Rattle.arc.specs.Arc.{arc}
use Rattle.arc.specs.ArcStep.{ArcSound}
use Rattle.arc.proofs.ArcLaws.{arc-promises}
use Rattle.arc.specs.ArcLent.{ArcLent, unfit_arc, wrong_arc_buffers, no_sizes, arc_refusal, arc_served, arc_opened}
use Rattle.arc.specs.ArcFolder.{arc_folder_refusal, arc_served_folder}
use Rattle.arc.specs.ArcReports.{arc_report_refusal}
use Rattle.arc.proofs.ArcExactlyLaws.{arc-exactly-opening}
use Rattle.arc.specs.ArcDemand.{lists_of, box_of, arc_number, arc_next, arc_returned}
use Rattle.arc.proofs.ArcDemandLaws.{ArcPasses, arc-fits, found, passes-right, served-is, arc-keeps, folder-found}
use Rattle.arc.proofs.ArcDemandLaws.{folder-served, arc-folder-keeps, passes-next, no-6, no-8, no-13, fresh-passes}
use Rattle.blind.specs.Serving.{served_state, arc_state, arc-leaves, arc-stays}
use Rattle.limits.specs.AsWithout.{single, folder, number, hits_said, arc_shows, arc_kind, arc_unlimited, ArcAsWithout}
use Rattle.limits.specs.Beside.{capped}
use Rattle.limits.proofs.BesideLaws.{Beside, beside-itself}
use Rattle.limits.specs.Until.{refused_shown, number_by, Inside}
use Rattle.limits.proofs.UntilLaws.{served_shown, Serves, until-nine}
use Rattle.limits.proofs.ArcSees.{arc-parallel}
use Rattle.limits.proofs.Unlimited.{unlimited-unfit-arc, unlimited-limit, unlimited-buffers, unlimited-box, fresh-rows, arc-capped}

-- ---- the calls of a D-ARC box in lent bytes are those over its policy
-- what the opening finds and every later call finds again
record Fitting (Z : Sizes) : Type 0 where
  numbers : unfit_arc Z ≡ false
  limit : limit_outside (base_numbers Z) ≡ false
  label : length Z.label ≡ 64

module _ (Z : Sizes) (x : Fitting Z) where
  abbrev H : Hashing (Fixed 32) (Fixed Z.B)
  H = labelled (base_numbers Z)

  right-arc : (t : ArcLent) → ArcPasses Z t → wrong_arc_buffers Z t ≡ false
  right-arc t p =
      or-both (wrong_buffers (base_numbers Z) t.base) (other_length t.lists (m_of Z * 4))
      (right-buffers (base_numbers Z) t.base x.label p.base) p.width

  numbered : (t : ArcLent) (q : Asking) → ArcPasses Z t → arc_number Z t q ≡ number_by Z.B Z.P (m_of Z) (over t.base.counters) q
  unfolding arc_refusal arc_folder_refusal arc_report_refusal
  numbered t (one q) p = rw (x.numbers, x.limit, right-arc t p, no-6 Z t p, p.base.blocks, no-8 Z t p, no-13 Z t p) refl
  numbered t (many l buffer) p = rw (x.numbers, x.limit, right-arc t p, no-6 Z t p, p.base.blocks, no-8 Z t p, no-13 Z t p) refl
  numbered t (report w lent) p = rw (x.numbers, x.limit, right-arc t p, no-6 Z t p, p.base.blocks, no-8 Z t p, no-13 Z t p) refl
  numbered t (recount c) p = refl

  inside : (t : ArcLent) (q : Asking) → arc_number Z t q ≡ 0 → Inside Z.B Z.P q
  inside t (one q) e = (found Z t q e).inside
  inside t (many l buffer) e = (folder-found Z t l buffer e).inside
  inside t (report w lent) e = tt
  inside t (recount c) e = tt

  shows : (t : ArcLent) (q : Asking) → arc_number Z t q ≡ 0 → arc_shows Z t q ≡ served_shown Z.B Z.P (m_of Z) H (arc H Z) (arc_state Z t) q
  unfolding arc_served arc_served_folder
  shows t (one q) e = let y = served-is Z t q e in λ j. single (e j) (said_word (y j).answer) (arc_returned q (y j))
  shows t (many l buffer) e = let y = folder-served Z t l buffer e in λ j. folder (e j) (hits_said (y j).answer) (y j).buffer
  shows t (report w lent) e = ap number e
  shows t (recount c) e = refl

  refuses : (t : ArcLent) (q : Asking) → arc_number Z t q ≢ 0 → arc_shows Z t q ≡ refused_shown (arc_number Z t q) q
  refuses t (one q) z =
      let y = arc-keeps Z t q z in
      λ j. single (arc_number Z t (one q)) (said_word (y j).answer) (arc_returned q (y j))
  refuses t (many l buffer) z =
      let y = arc-folder-keeps Z t l buffer z in
      λ j. folder (arc_number Z t (many l buffer)) (hits_said (y j).answer) (y j).buffer
  refuses t (report w lent) z = refl
  refuses t (recount c) z = refl

  abbrev arc-kind : (pol : Policy (Fixed 32) (Fixed Z.B) Lists) → arc H Z ≡ pol → Serves Z.B Z.P (m_of Z) H pol (arc_kind Z)
  arc-kind pol e =
      record {
        state = arc_state Z;
        Good = ArcPasses Z;
        numbered = numbered;
        inside = inside;
        shows = subst (λ y. (t : ArcLent) (q : Asking) → arc_number Z t q ≡ 0 → arc_shows Z t q ≡ served_shown Z.B Z.P (m_of Z) H y (arc_state Z t) q) e shows;
        leaves = subst (λ y. (t : ArcLent) (q : Asking) → arc_number Z t q ≡ 0
            → arc_state Z (arc_next Z t q) ≡ served_state Z.B H y (arc_state Z t) q) e (arc-leaves Z);
        refuses = refuses;
        keeps = arc-stays Z;
        stays = passes-next Z;
      }

-- ---- from fresh, under both limits
module _ (Z : Sizes) (t : ArcLent) (o : arc_refusal Z t opening ≡ 0) where
  fitting : Fitting Z
  fitting =
      let y = (arc-exactly-opening Z t).gives-0.0 o in
      record {
        numbers = y.0;
        limit = y.1.0;
        label = label-right (base_numbers Z) t.base
            (or-false-left (wrong_buffers (base_numbers Z) t.base) (other_length t.lists (m_of Z * 4)) y.1.1.0);
      }

  unlimited-fitting : Fitting (arc_unlimited Z)
  unlimited-fitting =
      let c1 = (arc-fits Z fitting.numbers).C-least in
      record {
        numbers = unlimited-unfit-arc Z ∙ fitting.numbers;
        limit = unlimited-limit (base_numbers Z) (omega (arith, c1));
        label = fitting.label;
      }

  unlimited-opens : arc_refusal (arc_unlimited Z) t opening ≡ 0
  unlimited-opens =
      let y = (arc-exactly-opening Z t).gives-0.0 o in
      let buffers = ap (λ w. w || other_length t.lists (m_of Z * 4)) (unlimited-buffers (base_numbers Z) t.base) in
      (arc-exactly-opening (arc_unlimited Z) t).gives-0.1
      (unlimited-fitting.numbers, (unlimited-fitting.limit, (buffers ∙ y.1.1.0, tt)))

  -- one fresh box under both
  abbrev fresh_arc : ArcLent
  fresh_arc = record { base = fresh (base_numbers Z) t.base; sizes = no_sizes; lists = zeros (m_of Z * 4) }

  opened-is : arc_opened Z t ≡ fresh_arc
  unfolding arc_opened
  opened-is = rw (o, arc_opened) refl

  unlimited-opened : arc_opened (arc_unlimited Z) t ≡ fresh_arc
  unfolding arc_opened fresh
  unlimited-opened = rw (unlimited-opens, arc_opened) refl

  same-fresh : arc_opened (arc_unlimited Z) t ≡ arc_opened Z t
  same-fresh = unlimited-opened ∙ sym opened-is

  arc-as-without-from : (qs : List Asking) → ArcAsWithout Z t qs
  arc-as-without-from qs =
      let M = base_numbers Z in
      let G = labelled M in
      let pol = arc G Z in
      let c1 = (arc-fits Z fitting.numbers).C-least in
      let pr = arc-promises G Z c1 in
      let pa = arc-parallel G Z c1 in
      let good = fresh-passes Z t o in
      let u = arc_opened (arc_unlimited Z) t in
      let l = lists_of (arc_opened Z t) in
      let b = box_of Z (arc_opened Z t) in
      let near = beside-itself G M pol (ArcSound G Z) pr pa (m_of Z) l b (passes-right Z (arc_opened Z t) good)
      (ap (λ x. (box_of Z x).rows) opened-is ∙ fresh-rows (base_numbers Z) t.base) in
      until-nine M pol (ArcSound G Z) pr pa (m_of Z) (arc_kind Z) (arc_kind (arc_unlimited Z)) (arc-kind Z fitting pol refl)
      (arc-kind (arc_unlimited Z) unlimited-fitting (capped (m_of Z) pol) (arc-capped G Z)) (arc_opened Z t) u qs
      (record {
        good = good;
        good' = fresh-passes (arc_unlimited Z) t unlimited-opens;
        near = subst₂ (λ k s. Beside G M pol (ArcSound G Z) pr pa (m_of Z) l k b s) (sym (ap lists_of same-fresh))
            (sym (unlimited-box (base_numbers Z) u.base ∙ ap (box_of Z) same-fresh)) near;
      })

-- The theorem: every list of calls, from a fresh D-ARC box over any disk and flash bytes, wherever the opening is not refused
pub arc-as-without : (Z : Sizes) (t : ArcLent) (qs : List Asking) → arc_refusal Z t opening ≡ 0 → ArcAsWithout Z t qs
arc-as-without Z t qs o = arc-as-without-from Z t o qs
