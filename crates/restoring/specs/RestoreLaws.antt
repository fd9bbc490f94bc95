-- An area that has an image, and its restore. Assumes nothing.
use Rattle.std.specs.Prelude.{◌≡◌, true, false, ◌||◌, cond, List, [], ℕ, ◌+◌, ◌*◌, ◌≤◌, eqb, length, drop, Result, Ok, Err}
use Rattle.std.proofs.Math.Path.{refl, sym, ap}
use Rattle.std.proofs.Common.{◌∙◌, length-drop, length-take-le}
use Rattle.std.proofs.Math.Bool.{not}
use native.Mathlib.Omega.{arith}
use borrow.Author.Tests.{ne_eqb, eqb-true, eqb-false, not-false}
use Rattle.tables.specs.Rows.{le4, zeros}
use Rattle.paper.specs.KeyedLaws.{by-test, or-false-left, or-false-right}
use Rattle.paper.specs.Lent.{test}
use Rattle.paper.specs.RefusalLaws.{Apart}
use Rattle.paper.proofs.RefusalLaws.{gives_none}
use Rattle.arc.specs.Arc.{m_of}
use Rattle.refusal.specs.declared.Refusal.{Refusal}
use Rattle.refusal.specs.Numbers.{code, number_of, refused}
use Rattle.arcrefusals.specs.declared.ArcRecord.{ArcRecord}
use Rattle.arcrefusals.specs.Given.{sizes_of}
use Rattle.image.specs.Body.{Fields, no_body}
use Rattle.image.specs.Area.{put, clearing}
use Rattle.image.specs.Image.{no_image, length_in, body_in, too_short, image_tests, image_refusal}
use Rattle.image.specs.Kinds.{string_at, kinds}
use Rattle.image.specs.Saved as Saved
use Rattle.image.specs.Saved.{fields_found, wrong_tables, restore_refusal, restored}
use Rattle.image.proofs.SavedLaws.{first-behind, restore-keeps}
use Rattle.restoring.specs.declared.Found.{Found}
use Rattle.restoring.specs.declared.Restored.{Restored}
use Rattle.restoring.specs.Given.{arc_of, arc_in, as_box, zero_arc, body_fields, Laid, other_lengths, records_of, Left, left}
use Rattle.restoring.specs.FoundLaws.{or-true, room_for, long-enough}
use Rattle.restoring.specs.ArcBodyLaws.{arc-least, arc-laid}

-- ---- an area that has an image

module _ (area : List ℕ) (e : image_refusal kinds area ≡ 0) where
  passes : (no_image area ≡ false) × ((too_short area (length_in area) ≡ false) × ((no_body kinds (body_in area) ≡ false) × Unit {0}))
  unfolding image_refusal
  passes =
      let d : Apart (image_tests kinds area []) = (refl, (refl, (refl, (refl, tt)))) in
      (gives_none (image_tests kinds area []) d).0 e

  pub found-header : 64 ≤ length area
  found-header = long-enough area passes.0

  pub found-room : (n : ℕ) → n ≡ le4 area 5 → 64 + n ≤ length area
  unfolding length_in
  found-room n k = let r = room_for area (le4 area 5) passes.1.0 in omega arith

  pub found-body : (body : List ℕ) → body ≡ body_in area → no_body kinds body ≡ false
  found-body body h = ap (no_body kinds) h ∙ passes.1.1.0

pub found-fields : (area body : List ℕ) → body ≡ body_in area → body_fields body ≡ fields_found kinds area
unfolding fields_found
found-fields area body h = ap body_fields h

-- ---- 2

-- the strings have the lengths that were found
module _ (body : List ℕ) (x : Fields) (at₁ n₁ n₂ n₃ : ℕ) (l : Laid body x at₁ n₁ n₂ n₃) where
  long-1 : length (string_at x 1) ≡ n₁
  long-1 =
      let w = l.whole in
      ap length l.addresses ∙ length-take-le n₁ (drop at₁ body) (omega (arith, w, length-drop at₁ body))

  long-2 : length (string_at x 2) ≡ n₂
  long-2 =
      let w = l.whole in
      ap length l.blocks ∙ length-take-le n₂ (drop (at₁ + n₁) body) (omega (arith, w, length-drop (at₁ + n₁) body))

  long-3 : length (string_at x 3) ≡ n₃
  long-3 =
      let w = l.whole in
      ap length l.lists ∙ length-take-le n₃ (drop (at₁ + n₁ + n₂) body) (omega (arith, w, length-drop (at₁ + n₁ + n₂) body))

module _ (area a t l : List ℕ) (body : List ℕ) (h : body ≡ body_in area) (f : Found)
    (d : Laid body (body_fields body) f.start f.addresses f.blocks f.lists) where
  tables-are : wrong_tables kinds (fields_found kinds area) a t l ≡ other_lengths f (length a) (length t) (length l)
  unfolding wrong_tables
  tables-are =
      let x = body_fields body in
      let e₁ = long-1 body x f.start f.addresses f.blocks f.lists d in
      let e₂ = long-2 body x f.start f.addresses f.blocks f.lists d in
      let e₃ = long-3 body x f.start f.addresses f.blocks f.lists d in
      ap (λ y. wrong_tables kinds y a t l) (sym (found-fields area body h))
      ∙ (λ i. not (eqb (length a) (e₁ i)) || not (eqb (length t) (e₂ i)) || not (eqb (length l) (e₃ i)))

  module _ (e : image_refusal kinds area ≡ 0) where
    number_is : restore_refusal kinds area a t l ≡ cond (other_lengths f (length a) (length t) (length l)) 2 0
    unfolding restore_refusal image_refusal
    number_is = let p = passes area e in rw (p.0, p.1.0, p.1.1.0, tables-are) refl

    pub refused-2 : other_lengths f (length a) (length t) (length l) ≡ true → 2 ≡ restore_refusal kinds area a t l
    refused-2 o = sym (number_is ∙ rw o refl)

    pub refused_none : other_lengths f (length a) (length t) (length l) ≡ false → 0 ≡ restore_refusal kinds area a t l
    refused_none o = sym (number_is ∙ rw o refl)

    pub lengths-taken : restore_refusal kinds area a t l ≡ 0 → (length a ≡ f.addresses) × (length t ≡ f.blocks) × (length l ≡ f.lists)
    lengths-taken z =
        let p = not (eqb (length a) f.addresses) in
        let q = not (eqb (length t) f.blocks) in
        let r = not (eqb (length l) f.lists) in
        let o = by-test (p || q || r) (λ y. let u = rw y at (sym number_is ∙ z) in absurd (omega arith)) (λ y. y) in
        let v = or-false-left (p || q) r o in (
          eqb-true (length a) f.addresses (not-false (eqb (length a) f.addresses) (or-false-left p q v)),
          eqb-true (length t) f.blocks (not-false (eqb (length t) f.blocks) (or-false-right p q v)),
          eqb-true (length l) f.lists (not-false (eqb (length l) f.lists) (or-false-right (p || q) r o)),
        )

-- "for a D-LRU image the lists' buffer has length 0": for a D-ARC image it never has, so one that is lent no lists gets 2
pub arc-lists-needed : (area a t : List ℕ) → image_refusal kinds area ≡ 0 → le4 (body_in area) 0 ≡ 1 → restore_refusal kinds area a t [] ≡ 2
arc-lists-needed area a t e k =
    let body = body_in area in
    let c = arc_in body in
    let m = m_of (sizes_of c) in
    let p = found-body area e body refl in
    let f : Found = record { arc_record = c; start = 116; addresses = m * 40; blocks = c.sizes.cached * 40; lists = m * 4 } in
    let h = arc-least body c refl k p in
    number_is area a t [] body refl f (arc-laid body c refl k p) e
    ∙ rw (ne_eqb 0 (m * 4) (λ z. absurd (omega (arith, h, z))), or-true (not (eqb (length a) (m * 40)) || not (eqb (length t) (c.sizes.cached * 40)))) refl

-- ---- a restore

pub image-refused : (area a t l : List ℕ) (n : ℕ) → n ≡ image_refusal kinds area → (n ≡ 0 → ⊥) → n ≡ restore_refusal kinds area a t l
unfolding restore_refusal image_refusal
image-refused area a t l n e h =
    let x = test (wrong_tables kinds (fields_found kinds area) a t l) 2 in
    e ∙ sym (first-behind (image_tests kinds area []) x refl ∙ rw (← e) (rw (ne_eqb n 0 h) refl))

-- both records
abbrev pub answer : ArcRecord → Restored
answer c = record { box_record = as_box c; arc_record = c }

abbrev pub told : Result Restored Refusal → (area addresses blocks lists : List ℕ) → Left
told r area a t l =
    record {
      number = number_of r;
      given = (records_of r).box_record;
      arc = (records_of r).arc_record;
      area = area;
      addresses = a;
      blocks = t;
      lists = l;
    }

module _ (area a t l : List ℕ) where
  pub restore-refused : (r : Refusal) → code r ≡ restore_refusal kinds area a t l → told (Err r) area a t l ≡ left (Saved.restore kinds area a t l)
  unfolding zeros
  restore-refused r e =
      let k = restore-keeps kinds area a t l (λ z. refused r (e ∙ z)) in
      (λ i. record { number = e i; given = as_box zero_arc; arc = zero_arc; area = area; addresses = a; blocks = t; lists = l }) ∙ sym (ap left k)

  module _ (e : restore_refusal kinds area a t l ≡ 0) where
    -- what is known of it
    pub image-passes : image_refusal kinds area ≡ 0
    unfolding restore_refusal image_refusal
    image-passes =
        let x = test (wrong_tables kinds (fields_found kinds area) a t l) 2 in
        by-test (eqb (image_refusal kinds area) 0)
        (λ y. eqb-true (image_refusal kinds area) 0 y)
        (λ y. absurd (eqb-false (image_refusal kinds area) 0 y (sym (rw y at (first-behind (image_tests kinds area []) x refl)) ∙ e)))

    is-restored : Saved.restore kinds area a t l ≡ restored kinds area
    unfolding Saved.restore
    is-restored = rw e refl

    pub restore-served : (area' a' t' l' : List ℕ) (c : ArcRecord) (r : Restored) → let x = fields_found kinds area in r ≡ answer c → c ≡ arc_of x
        → a' ≡ string_at x 1 → t' ≡ string_at x 2 → l' ≡ string_at x 3 → area' ≡ put area clearing
        → told (Ok r) area' a' t' l' ≡ left (Saved.restore kinds area a t l)
    unfolding restored
    restore-served area' a' t' l' c r er f ea et el ew =
        ap (λ x. told (Ok x) area' a' t' l') er ∙ (λ i. told (Ok (answer (f i))) (ew i) (ea i) (et i) (el i)) ∙ sym (ap left is-restored)
