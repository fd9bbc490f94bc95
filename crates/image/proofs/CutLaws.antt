-- "from fresh and under demand 3's premise, the disk is the plain disk's": after any list of calls, the disk that a save leaves, whole or cut
use Rattle.std.specs.Prelude.{◌≡◌, refl}
use mathlib.Core.List.{List, [], ◌∷◌, ◌++◌}
use Rattle.paper.specs.Cache.{Numbers}
use Rattle.paper.specs.Engine.{Fixed}
use Rattle.paper.specs.Lent.{Lent, Ask, opening, refusal, opened, join}
use Rattle.paper.specs.BatchLent.{Asking, one}
use Rattle.paper.specs.Demand3.{number_of, next, plain_step, EachServed, first_plain, Premise}
use Rattle.paper.proofs.Demand3Laws.{demand-3}
use Rattle.arc.specs.Arc.{Sizes, m_of}
use Rattle.arc.specs.ArcLent.{ArcLent, arc_refusal, arc_opened}
use Rattle.arc.specs.ArcDemand.{arc_number, arc_next, arc_plain, ArcEachServed, disk_of, ArcPremise}
use Rattle.arc.proofs.ArcDemandLaws.{arc-demand}
use Rattle.image.specs.Saved.{lru_saver, arc_saver, save_refusal}
use Rattle.image.proofs.BoxLaws.{lru-flush-0, arc-flush-0}

-- the memory and the plain disk that a list of calls reaches
module _ (N : Numbers) where
  unfoldable pub reached : Lent → List Asking → Lent
  reached t [] = t
  reached t (q ∷ qs) = reached (next N t q) qs

  unfoldable pub plain_reached : Lent → List (Fixed N.B) → List Asking → List (Fixed N.B)
  plain_reached t plain [] = plain
  plain_reached t plain (q ∷ qs) = plain_reached (next N t q) (plain_step N t plain q) qs

  last-served : (Q : Lent → List (Fixed N.B) → Asking → Type 0) (t : Lent) (plain : List (Fixed N.B)) (qs : List Asking) (q : Asking)
      → EachServed N Q t plain (qs ++ (q ∷ [])) → number_of N (reached t qs) q ≡ 0 → Q (reached t qs) (plain_reached t plain qs) q
  unfolding EachServed reached plain_reached
  last-served Q t plain [] q h e = h.0 e
  last-served Q t plain (r ∷ qs) q h e = last-served Q (next N t r) (plain_step N t plain r) qs q h.1 e

  -- the flush is complete before the first write of the image, so this is the disk wherever power fails in them
  pub saved-disk : (t : Lent) → refusal N t opening ≡ 0 → (qs : List Asking) (area : List _) → save_refusal (lru_saver N) (reached (opened N t) qs) area ≡ 0
      → Premise N (opened N t) (qs ++ (one (Ask.flush N.m) ∷ []))
      → ((lru_saver N).flushed (reached (opened N t) qs)).disk ≡ join (plain_reached (opened N t) (first_plain N (opened N t)) qs)
  saved-disk t o qs area e p =
      let q = one (Ask.flush N.m) in
      last-served _ (opened N t) (first_plain N (opened N t)) qs q ((demand-3 N t (qs ++ (q ∷ [])) o).flushes p)
      (lru-flush-0 N (reached (opened N t) qs) area e).0 refl

module _ (Z : Sizes) where
  unfoldable pub arc_reached : ArcLent → List Asking → ArcLent
  arc_reached t [] = t
  arc_reached t (q ∷ qs) = arc_reached (arc_next Z t q) qs

  unfoldable pub arc_plain_reached : ArcLent → List (Fixed Z.B) → List Asking → List (Fixed Z.B)
  arc_plain_reached t plain [] = plain
  arc_plain_reached t plain (q ∷ qs) = arc_plain_reached (arc_next Z t q) (arc_plain Z t plain q) qs

  arc-last-served : (Q : ArcLent → List (Fixed Z.B) → Asking → Type 0) (t : ArcLent) (plain : List (Fixed Z.B)) (qs : List Asking) (q : Asking)
      → ArcEachServed Z Q t plain (qs ++ (q ∷ [])) → arc_number Z (arc_reached t qs) q ≡ 0 → Q (arc_reached t qs) (arc_plain_reached t plain qs) q
  unfolding ArcEachServed arc_reached arc_plain_reached
  arc-last-served Q t plain [] q h e = h.0 e
  arc-last-served Q t plain (r ∷ qs) q h e = arc-last-served Q (arc_next Z t r) (arc_plain Z t plain r) qs q h.1 e

  pub arc-saved-disk : (t : ArcLent) → arc_refusal Z t opening ≡ 0 → (qs : List Asking) (area : List _)
      → save_refusal (arc_saver Z) (arc_reached (arc_opened Z t) qs) area ≡ 0
      → ArcPremise Z (arc_opened Z t) (qs ++ (one (Ask.flush (m_of Z)) ∷ []))
      → ((arc_saver Z).flushed (arc_reached (arc_opened Z t) qs)).base.disk ≡ join (arc_plain_reached (arc_opened Z t) (disk_of Z (arc_opened Z t)) qs)
  arc-saved-disk t o qs area e p =
      let q = one (Ask.flush (m_of Z)) in
      arc-last-served _ (arc_opened Z t) (disk_of Z (arc_opened Z t)) qs q ((arc-demand Z t (qs ++ (q ∷ [])) o).flushes p)
      (arc-flush-0 Z (arc_reached (arc_opened Z t) qs) area e).0 refl
