-- A save in turn. Assumes nothing.
use Rattle.std.specs.Prelude.{◌≡◌, true, cond, List, ℕ, ◌+◌, ◌*◌, ◌≤◌, eqb, Err}
use Rattle.std.proofs.Math.Path.{refl, ap, subst}
use Rattle.std.proofs.Common.{sym, ap₂, ◌∙◌, arith, ne_eqb, ltb-false}
use Rattle.std.proofs.Math.Bool.{false}
use Rattle.std.proofs.Math.Option.{none}
use Rattle.std.proofs.Math.ListN.{length}
use Rattle.paper.specs.Cache.{Counters}
use Rattle.paper.specs.Lent.{Ask, calling, refused}
use Rattle.arc.specs.Arc.{Sizes, m_of}
use Rattle.arc.specs.ArcLent.{ArcLent, unfit_arc, arc_refusal}
use Rattle.arc.proofs.ArcDemandLaws.{arc-fits}
use Rattle.outcome.specs.declared.Outcome.{Outcome}
use Rattle.policy.specs.declared.Answered.{Answered}
use Rattle.refusal.specs.declared.Refusal.{Refusal}
use Rattle.refusal.specs.Numbers.{code}
use Rattle.refusal.specs.Numbers as Refusals
use Rattle.counters.specs.declared.Counters as Code
use Rattle.refusals.specs.Given.{counters_of}
use Rattle.image.specs.Body.{Fields, body_of}
use Rattle.image.specs.Area.{writes_for, applied, save_writes}
use Rattle.image.specs.Image.{too_short}
use Rattle.image.specs.Kinds.{arc_fields, arc_form, kinds}
use Rattle.image.specs.Saved.{arc_saver, save_refusal}
use Rattle.image.proofs.BodyLaws.{length-body}
use Rattle.image.specs.KindLaws.{Savable}
use Rattle.image.proofs.SavedLaws.{save-number, save-is, save-keeps}
use Rattle.image.proofs.BoxLaws.{arc-found, arc-length, arc-body-length, arc-flush-0, arc-saved}
use Rattle.arcrefusals.specs.declared.ArcRecord.{ArcRecord}
use Rattle.arcrefusals.specs.Given.{sizes_of, arc_lent}
use Rattle.arccalls.specs.Contract.{arc_told, arc_called}
use Rattle.arcsaving.specs.Given.{fields_of, arc_body, Writable, arc_saved_told, arc_saved_by}

-- ---- the refusals

module _ (Z : Sizes) (t : ArcLent) (area : List ℕ) where
  abbrev q : Ask
  q = Ask.flush (m_of Z)

  number_is : save_refusal (arc_saver Z) t area
      ≡ cond (eqb (arc_refusal Z t (calling q)) 0) (cond (too_short area (length (body_of (arc_fields Z t)))) 14 0) (arc_refusal Z t (calling q))
  unfolding arc_refusal
  number_is = save-number (arc_saver Z) t area refl

  pub flush-refused : (k : ℕ) → k ≡ arc_refusal Z t (calling q) → (k ≡ 0 → ⊥) → k ≡ save_refusal (arc_saver Z) t area
  flush-refused k e h = sym (number_is ∙ rw (← e) (rw (ne_eqb k 0 h) refl))

  module _ (e : arc_refusal Z t (calling q) ≡ 0) where
    -- numbers that 11 lets pass
    pub numbers-small : (Z.C ≤ 256) × (Z.X ≤ 1024)
    numbers-small =
        let f = arc-fits Z (arc-found Z t e).fit in
        let m = f.m-most in
        (f.C-most, omega (arith, m))

    module _ (n : ℕ) (l : n ≡ 116 + m_of Z * 40 + Z.C * 40 + m_of Z * 4) where
      long : n ≡ length (body_of (arc_fields Z t))
      long = l ∙ sym (arc-length Z t (arc-found Z t e))

      pub save-14 : too_short area n ≡ true → 14 ≡ save_refusal (arc_saver Z) t area
      save-14 f = sym (number_is ∙ rw (e, rw long at f) refl)

      pub save-0 : too_short area n ≡ false → 0 ≡ save_refusal (arc_saver Z) t area
      save-0 f = sym (number_is ∙ rw (e, rw long at f) refl)

-- ---- a save that is served: the flush, then the image

module _ (Z : Sizes) (t : ArcLent) (area : List ℕ) (e : save_refusal (arc_saver Z) t area ≡ 0) (a : ArcRecord) (disk flash ad bs ls : List ℕ) (k : Counters)
    (numbers : sizes_of a ≡ Z) (after : arc_lent a disk flash ad bs ls k ≡ (arc_saver Z).flushed t) where
  -- the fields of the record and of what the flush left
  same : fields_of a ad bs ls ≡ arc_fields Z ((arc_saver Z).flushed t)
  same = ap₂ {C = Fields} arc_fields numbers after

  savable : Savable kinds arc_form (fields_of a ad bs ls) area
  unfolding kinds
  savable = subst (λ x. Savable kinds arc_form x area) (sym same) (arc-saved Z t area e kinds refl)

  pub writable : Writable a ad bs ls area
  unfolding too_short
  writable =
      let x = arc-found Z t (arc-flush-0 Z t area e).0 in
      let f = arc-fits (sizes_of a) (ap unfit_arc numbers ∙ x.fit) in
      let s = savable in
      let l = arc-body-length (sizes_of a) (arc_lent a disk flash ad bs ls k) s.fits in
      let r : too_short area (length (arc_body a ad bs ls)) ≡ false = ap (too_short area) (length-body arc_form (fields_of a ad bs ls) s.fits) ∙ s.room in
      record {
        small = s.fits.small;
        cached = f.C-most;
        rows = f.m-most;
        label = ap (λ n. length n.label) numbers ∙ x.label;
        long = l;
        room = subst (λ j. 64 + writes_for j * 64 ≤ length area) l (ltb-false (length area) _ r);
      }

  pub image-is : applied (save_writes (arc_body a ad bs ls)) area ≡ applied (save_writes (body_of (arc_fields Z ((arc_saver Z).flushed t)))) area
  image-is = ap (λ x. applied (save_writes (body_of x)) area) same

-- ---- in turn

module _ (a : ArcRecord) (c : Code.Counters) (disk flash ad bs ls area : List ℕ) where
  abbrev lent : ArcLent
  lent = arc_lent a disk flash ad bs ls (counters_of c)

  pub save-refused : (r : Refusal) → code r ≡ save_refusal (arc_saver (sizes_of a)) lent area
      → arc_saved_told (record { answer = Err r; box_record = a; counters = c }) disk flash ad bs ls area ≡ arc_saved_by a lent area
  save-refused r e =
      (λ i. record { numbers = sizes_of a; saved = record { answer = refused (e i); lent = lent; area = area } })
      ∙ ap (λ s. record { numbers = sizes_of a; saved = s }) (sym (save-keeps (arc_saver (sizes_of a)) lent area (λ z. Refusals.refused r (e ∙ z))))

-- the flush of all rows, and its outcome r
module _ (a : ArcRecord) (t : ArcLent) (area : List ℕ) (e : save_refusal (arc_saver (sizes_of a)) t area ≡ 0) (k : ℕ)
    (full : unfit_arc (sizes_of a) ≡ false → k ≡ m_of (sizes_of a)) where
  rows_are : k ≡ m_of (sizes_of a)
  rows_are = full (arc-found (sizes_of a) t (arc-flush-0 (sizes_of a) t area e).0).fit

  pub flush-0 : arc_refusal (sizes_of a) t (calling (Ask.flush k)) ≡ 0
  flush-0 = subst (λ n. arc_refusal (sizes_of a) t (calling (Ask.flush n)) ≡ 0) (sym rows_are) (arc-flush-0 (sizes_of a) t area e).0

  module _ (r : Outcome Answered ArcRecord) (disk flash ad bs ls : List ℕ) (h : arc_told r disk flash ad bs ls none ≡ arc_called a t (Ask.flush k)) where
    told : arc_told r disk flash ad bs ls none ≡ arc_called a t (Ask.flush (m_of (sizes_of a)))
    told = h ∙ ap (λ n. arc_called a t (Ask.flush n)) rows_are

    n : sizes_of r.box_record ≡ sizes_of a
    n = ap (λ x. x.numbers) told

    l : arc_lent r.box_record disk flash ad bs ls (counters_of r.counters) ≡ (arc_saver (sizes_of a)).flushed t
    l = ap (λ x. x.after.lent) told

    pub writable-after : Writable r.box_record ad bs ls area
    writable-after = writable (sizes_of a) t area e r.box_record disk flash ad bs ls (counters_of r.counters) n l

    pub save-served : (area' : List ℕ) → area' ≡ applied (save_writes (arc_body r.box_record ad bs ls)) area
        → arc_saved_told r disk flash ad bs ls area' ≡ arc_saved_by a t area
    save-served area' w =
        let an = ap (λ x. x.after.answer) told in
        let ar = w ∙ image-is (sizes_of a) t area e r.box_record disk flash ad bs ls (counters_of r.counters) n l in
        (λ i. record { numbers = n i; saved = record { answer = an i; lent = l i; area = ar i } })
        ∙ ap (λ s. record { numbers = sizes_of a; saved = s }) (sym (save-is (arc_saver (sizes_of a)) t area e))
