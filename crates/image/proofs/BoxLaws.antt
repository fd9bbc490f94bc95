-- Boxes of both kinds: what a served save wrote, a restore gives back as the flush left it, and the calls go on.
use Rattle.std.specs.Prelude.{◌≡◌, refl, Bool, false, ◌||◌, cond, List, [], ◌∷◌, map, ℕ, ◌+◌, ◌*◌, ◌≤◌, eqb, ltb, length, drop}
use Rattle.std.proofs.Common.{sym, ap, ◌∙◌, subst, inl, inr}
use Rattle.std.proofs.Math.Option.{Option, some}
use native.Mathlib.Omega.{arith}
use borrow.Author.Tests.{eqb-true, eqb-false, ltb-false, le-ltb, not-false}
use Rattle.hash.specs.LastChunk.{Size}
use Rattle.tables.specs.Find.{any}
use Rattle.tables.specs.Unsound.{nonzero}
use Rattle.paper.specs.KeyedLaws.{by-test, or-false-left, or-false-right}
use Rattle.paper.specs.Cache.{Numbers, Counters, dirty_rows}
use Rattle.paper.specs.Engine.{labelled}
use Rattle.paper.specs.Lent.{Lent, Ask, calling, unfit, limit_outside, wrong_buffers, other_length, over_limit, FewDirty, refusal, box_in}
use Rattle.paper.specs.BatchLent.{one, recount}
use Rattle.paper.specs.Demand3.{next}
use Rattle.paper.proofs.SoundTestsLaws.{addresses-good}
use Rattle.paper.specs.LentLaws.{Passes}
use Rattle.paper.proofs.LentLaws.{label-right}
use Rattle.paper.proofs.RefusalLaws.{exactly}
use Rattle.paper.proofs.CallLaws.{fits, limit-fits, served-finds, served-box, served-passes, outcome-few}
use Rattle.arc.specs.Arc.{Sizes, base_numbers, m_of}
use Rattle.arc.specs.ArcLent.{ArcLent, words, total_of, unfit_arc, misnamed, oversized, lists_unsound, top_uncached, wrong_arc_buffers, arc_refusal}
use Rattle.arc.specs.ArcDemand.{box_of, arc_next}
use Rattle.arc.proofs.ArcExactlyLaws.{arc-exactly}
use Rattle.arc.proofs.ArcDemandLaws as Arc
use Rattle.arc.proofs.ArcDemandLaws.{ArcPasses, arc-fits, no-6, no-8, no-13}
use Rattle.image.specs.Body.{total, body_of, Form, body_length}
use Rattle.image.specs.Image.{too_short}
use Rattle.image.specs.Kinds.{lru_fields, arc_fields, lru_numbers, arc_sizes, lru_form, arc_form, kinds}
use Rattle.image.specs.Saved.{Saver, lru_saver, arc_saver, save_refusal, save, restore, goes_on, arc_goes_on}
use Rattle.image.specs.BodyLaws.{Fits}
use Rattle.image.proofs.BodyLaws.{length-body}
use Rattle.image.specs.KindLaws.{Savable}
use Rattle.image.proofs.SavedLaws.{save-number, save-is, given_back, RightLengths, restore-finds}
use Rattle.image.specs.BoxLaws.{LruFound}

-- a block size has 4 bytes
size_small : (B : ℕ) → Size B → B ≤ 4096
size_small B (inl e) = omega arith
size_small B (inr (inl e)) = omega arith
size_small B (inr (inr (inl e))) = omega arith
size_small B (inr (inr (inr (inl e)))) = omega arith
size_small B (inr (inr (inr (inr (inl e))))) = omega arith
size_small B (inr (inr (inr (inr (inr (inl e)))))) = omega arith
size_small B (inr (inr (inr (inr (inr (inr e)))))) = omega arith

-- a served save: its flush is served, and there is room
served-save : (n : ℕ) (short : Bool) → cond (eqb n 0) (cond short 14 0) n ≡ 0 → (n ≡ 0) × (short ≡ false)
served-save n short =
    by-test (eqb n 0)
    (λ y. by-test short (λ z. rw (y, z) (λ e. absurd (omega arith))) (λ z e. (eqb-true n 0 y, z)))
    (λ y. rw y (λ e. absurd (eqb-false n 0 y e)))

-- ---- a box that runs D-LRU
module _ (N : Numbers) (u : unfit N ≡ false) (w : limit_outside N ≡ false) (l : length N.label ≡ 64) where
  lru-fits : (t : Lent) → Passes N t → Fits lru_form (lru_fields N t)
  unfolding lru_form
  lru-fits t p =
      let f = fits N u in
      let b = size_small N.B f.B-size in
      let P1 = f.P-most in
      let m1 = f.m-most in
      let d1 = f.d-most in
      let t1 = (limit-fits N w).1 in
      let n1 = (addresses-good N.P N.m t.n t.addresses p.addresses).few in
      let la = p.lengths.addresses in
      let lb = p.lengths.blocks in
      record {
        count = refl;
        small = (omega arith, (omega arith, (omega arith, (omega arith, (omega arith, (omega arith, (omega arith, tt)))))));
        sizes = λ i. l i ∷ la i ∷ lb i ∷ 0 ∷ [];
      }

  lru-savable : (forms : ℕ → Option Form) → forms 0 ≡ some lru_form → (t t' : Lent) → Passes N t → Passes N t' → over_limit N t' ≡ false
      → (area : List ℕ) → too_short area (length (body_of (lru_fields N t))) ≡ false → Savable forms lru_form (lru_fields N t') area
  unfolding lru_form body_length total box_in
  lru-savable forms k t t' p p' o area room =
      let f = fits N u in
      let m1 = f.m-most in
      let d1 = f.d-most in
      record {
        numbered = omega arith;
        form = k;
        fits = lru-fits t' p';
        passes = rw (u, w, p'.addresses, p'.blocks, p'.dirty, o) refl;
        short = omega arith;
        room = rw (length-body lru_form (lru_fields N t) (lru-fits t p)) at room;
      }

pub lru-found : (N : Numbers) (t : Lent) → refusal N t (calling (Ask.flush N.m)) ≡ 0 → LruFound N t
lru-found N t z =
    let q = Ask.flush N.m in
    let x = (exactly N t q).gives-0.0 z in
    record {
      fit = x.0;
      limit = x.1.0;
      label = label-right N t (or-false-left (wrong_buffers N t) false x.1.1.0);
      passes = (served-finds N t q z).passes;
    }

-- how long the body is
pub lru-length : (N : Numbers) (t : Lent) → LruFound N t → length (body_of (lru_fields N t)) ≡ 92 + N.m * 40 + N.d * 40
unfolding lru_form body_length total
lru-length N t f = length-body lru_form (lru_fields N t) (lru-fits N f.fit f.limit f.label t f.passes) ∙ omega arith

module _ (N : Numbers) (t : Lent) (area : List ℕ) (e : save_refusal (lru_saver N) t area ≡ 0) where
  -- a served save: its flush is served, and there is room
  pub lru-flush-0 : (refusal N t (calling (Ask.flush N.m)) ≡ 0) × (too_short area (length (body_of (lru_fields N t))) ≡ false)
  unfolding refusal
  lru-flush-0 =
      served-save (refusal N t (calling (Ask.flush N.m))) (too_short area (length (body_of (lru_fields N t))))
      (sym (save-number (lru_saver N) t area refl) ∙ e)

  -- what a served save wrote can be found
  pub lru-saved : (forms : ℕ → Option Form) → forms 0 ≡ some lru_form → Savable forms lru_form (lru_fields N ((lru_saver N).flushed t)) area
  lru-saved forms k =
      let q = Ask.flush N.m in
      let z = lru-flush-0.0 in
      let x = lru-found N t z in
      let few = subst (FewDirty N) (sym (served-box N t q z)) (outcome-few N t q z) in
      lru-savable N x.fit x.limit x.label forms k t ((lru_saver N).flushed t) x.passes (served-passes N t q z)
      (le-ltb N.t (dirty_rows (labelled N) (box_in N ((lru_saver N).flushed t)).rows) few) area lru-flush-0.1

-- ---- a box that runs D-ARC
-- sizes that pass 6
sizes-small : (Z : Sizes) (t : ArcLent) → ArcPasses Z t
    → (t.sizes.p ≤ Z.C) × (t.sizes.t1 + t.sizes.t2 + t.sizes.b3 ≤ Z.C + Z.X) × (t.sizes.b1 + t.sizes.b2 ≤ Z.C)
unfolding lists_unsound oversized
sizes-small Z t p =
    let r = t.sizes in
    let a = misnamed (map (λ x. x.address) (box_of Z t).rows) (words (total_of r) t.lists) in
    let b₁ = ltb (Z.C + Z.X) (r.t1 + r.t2 + r.b3) in
    let b₂ = ltb Z.C (r.b1 + r.b2) in
    let c = any nonzero (drop (total_of r * 4) t.lists) in
    let d = ltb Z.C r.p in
    let b = or-false-right a (b₁ || b₂) (or-false-left (a || (b₁ || b₂)) c (or-false-left ((a || (b₁ || b₂)) || c) d p.six)) in (
      ltb-false Z.C r.p (or-false-right ((a || (b₁ || b₂)) || c) d p.six),
      ltb-false (Z.C + Z.X) (r.t1 + r.t2 + r.b3) (or-false-left b₁ b₂ b),
      ltb-false Z.C (r.b1 + r.b2) (or-false-right b₁ b₂ b),
    )

module _ (Z : Sizes) (u : unfit_arc Z ≡ false) (w : limit_outside (base_numbers Z) ≡ false) (l : length Z.label ≡ 64) where
  arc-fields-fit : (t : ArcLent) → ArcPasses Z t → Fits arc_form (arc_fields Z t)
  unfolding arc_form
  arc-fields-fit t p =
      let f = arc-fits Z u in
      let b = size_small Z.B f.B-size in
      let P1 = f.P-most in
      let C1 = f.C-most in
      let m1 = f.m-most in
      let t1 = (limit-fits (base_numbers Z) w).1 in
      let n1 = (addresses-good Z.P (m_of Z) t.base.n t.base.addresses p.base.addresses).few in
      let la = p.base.lengths.addresses in
      let lb = p.base.lengths.blocks in
      let ll = eqb-true (length t.lists) (m_of Z * 4) (not-false (eqb (length t.lists) (m_of Z * 4)) p.width) in
      let s = sizes-small Z t p in
      let s1 = s.0 in
      let s2 = s.1 in
      let s3 = s.2 in
      record {
        count = refl;
        small = (
          omega arith,
          (
            omega arith,
            (
              omega arith,
              (
                omega arith,
                (
                  omega arith,
                  (
                    omega arith,
                    (
                      omega arith,
                      (
                        omega arith,
                        (omega arith, (omega arith, (omega arith, (omega arith, (omega arith, tt))))),
                      ),
                    ),
                  ),
                ),
              ),
            ),
          ),
        );
        sizes = λ i. l i ∷ la i ∷ lb i ∷ ll i ∷ [];
      }

  arc-savable : (forms : ℕ → Option Form) → forms 1 ≡ some arc_form → (t t' : ArcLent) → ArcPasses Z t → ArcPasses Z t'
      → (area : List ℕ) → too_short area (length (body_of (arc_fields Z t))) ≡ false → Savable forms arc_form (arc_fields Z t') area
  unfolding arc_form body_length total box_in top_uncached
  arc-savable forms k t t' p p' area room =
      let f = arc-fits Z u in
      let C1 = f.C-most in
      let m1 = f.m-most in
      record {
        numbered = omega arith;
        form = k;
        fits = arc-fields-fit t' p';
        passes = rw (u, w, no-6 Z t' p', p'.base.blocks, no-8 Z t' p', no-13 Z t' p') refl;
        short = omega arith;
        room = rw (length-body arc_form (arc_fields Z t) (arc-fields-fit t p)) at room;
      }

-- what a served flush finds
pub record ArcFound (Z : Sizes) (t : ArcLent) : Type 0 where
  pub fit : unfit_arc Z ≡ false
  pub limit : limit_outside (base_numbers Z) ≡ false
  pub label : length Z.label ≡ 64
  pub passes : ArcPasses Z t

pub arc-found : (Z : Sizes) (t : ArcLent) → arc_refusal Z t (calling (Ask.flush (m_of Z))) ≡ 0 → ArcFound Z t
arc-found Z t z =
    let q = Ask.flush (m_of Z) in
    let x = (arc-exactly Z t q).gives-0.0 z in
    let w = or-false-left (wrong_arc_buffers Z t) false x.1.1.0 in
    record {
      fit = x.0;
      limit = x.1.0;
      label = label-right (base_numbers Z) t.base (or-false-left (wrong_buffers (base_numbers Z) t.base) (other_length t.lists (m_of Z * 4)) w);
      passes = (Arc.found Z t q z).passes;
    }

-- how long the body is
pub arc-body-length : (Z : Sizes) (t : ArcLent) → Fits arc_form (arc_fields Z t)
    → length (body_of (arc_fields Z t)) ≡ 116 + m_of Z * 40 + Z.C * 40 + m_of Z * 4
unfolding arc_form body_length total
arc-body-length Z t f = length-body arc_form (arc_fields Z t) f ∙ omega arith

pub arc-length : (Z : Sizes) (t : ArcLent) → ArcFound Z t → length (body_of (arc_fields Z t)) ≡ 116 + m_of Z * 40 + Z.C * 40 + m_of Z * 4
arc-length Z t f = arc-body-length Z t (arc-fields-fit Z f.fit f.limit f.label t f.passes)

module _ (Z : Sizes) (t : ArcLent) (area : List ℕ) (e : save_refusal (arc_saver Z) t area ≡ 0) where
  pub arc-flush-0 : (arc_refusal Z t (calling (Ask.flush (m_of Z))) ≡ 0) × (too_short area (length (body_of (arc_fields Z t))) ≡ false)
  unfolding arc_refusal
  arc-flush-0 =
      served-save (arc_refusal Z t (calling (Ask.flush (m_of Z)))) (too_short area (length (body_of (arc_fields Z t))))
      (sym (save-number (arc_saver Z) t area refl) ∙ e)

  pub arc-saved : (forms : ℕ → Option Form) → forms 1 ≡ some arc_form → Savable forms arc_form (arc_fields Z ((arc_saver Z).flushed t)) area
  arc-saved forms k =
      let z = arc-flush-0.0 in
      let x = arc-found Z t z in
      arc-savable Z x.fit x.limit x.label forms k t ((arc_saver Z).flushed t) x.passes (Arc.served-passes Z t (Ask.flush (m_of Z)) z) area
      arc-flush-0.1

-- ---- a restore after a save, of either kind
module _ (forms : ℕ → Option Form) {M : Type 0} (k : Saver M) (f : Form) (t : M) (area : List ℕ) (e : save_refusal k t area ≡ 0)
    (h : Savable forms f (k.fields (k.flushed t)) area) (a b l : List ℕ) (r : RightLengths forms (k.fields (k.flushed t)) a b l) where
  abbrev pub image : List ℕ
  image = (save k t area).area

  -- "Restore .. gives back the saved box"
  pub given_back_lem : restore forms image a b l ≡ given_back forms (k.fields (k.flushed t)) image
  given_back_lem =
      let x = k.fields (k.flushed t) in
      subst (λ y. restore forms y a b l ≡ given_back forms x y) (sym (ap (λ y. y.area) (save-is k t area e)))
      (restore-finds forms f x area h a b l r)

-- The record that is given back, and the calls after it: they go on from what the full flush left, with counters of the caller's. So for every list of calls
-- a save and its restore are a full flush and a `recount`.
module _ (forms : ℕ → Option Form) (k : forms 0 ≡ some lru_form) (N : Numbers) (t : Lent) (area : List ℕ) (e : save_refusal (lru_saver N) t area ≡ 0)
    (a b l : List ℕ) (r : RightLengths forms (lru_fields N ((lru_saver N).flushed t)) a b l) where
  pub lru-back : restore forms (save (lru_saver N) t area).area a b l
      ≡ given_back forms (lru_fields N ((lru_saver N).flushed t)) (save (lru_saver N) t area).area
  lru-back = given_back_lem forms (lru_saver N) lru_form t area e (lru-saved N t area e forms k) a b l r

  pub same_numbers : lru_numbers (restore forms (save (lru_saver N) t area).area a b l).given ≡ N
  same_numbers = ap (λ x. lru_numbers x.given) lru-back

  pub warm-start : (c : Counters) → goes_on ((lru_saver N).flushed t) (restore forms (save (lru_saver N) t area).area a b l) c
      ≡ next N (next N t (one (Ask.flush N.m))) (recount c)
  warm-start c = ap (λ x. goes_on ((lru_saver N).flushed t) x c) lru-back

module _ (Z : Sizes) (t : ArcLent) (area : List ℕ) (e : save_refusal (arc_saver Z) t area ≡ 0) (a b l : List ℕ)
    (r : RightLengths kinds (arc_fields Z ((arc_saver Z).flushed t)) a b l) where
  arc-back : restore kinds (save (arc_saver Z) t area).area a b l ≡ given_back kinds (arc_fields Z ((arc_saver Z).flushed t)) (save (arc_saver Z) t area).area
  unfolding kinds
  arc-back = given_back_lem kinds (arc_saver Z) arc_form t area e (arc-saved Z t area e kinds refl) a b l r

  pub same-sizes : arc_sizes (restore kinds (save (arc_saver Z) t area).area a b l).given ≡ Z
  same-sizes = ap (λ x. arc_sizes x.given) arc-back

  pub arc-warm-start : (c : Counters) → arc_goes_on ((arc_saver Z).flushed t) (restore kinds (save (arc_saver Z) t area).area a b l) c
      ≡ arc_next Z (arc_next Z t (one (Ask.flush (m_of Z)))) (recount c)
  arc-warm-start c = ap (λ x. arc_goes_on ((arc_saver Z).flushed t) x c) arc-back
