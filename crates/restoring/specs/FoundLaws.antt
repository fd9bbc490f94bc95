-- The checks of an area, case by case. Assumes nothing.
use Rattle.std.specs.Prelude.{◌≡◌, Bool, true, false, ◌&&◌, ◌||◌, cond, List, [], ◌∷◌, ℕ, ◌+◌, ◌-◌, ◌*◌, ◌/◌, ◌≤◌, ◌<◌, eqb, ltb, length, take, drop}
use Rattle.std.specs.Prelude.{Result, Ok, Err, is_err}
use Rattle.std.specs.List.{list_all}
use Rattle.std.proofs.Math.Path.{refl, sym, ap, subst}
use Rattle.std.proofs.Common.{ap₂, ◌∙◌, get_or-take, drop-cons, length-take-le}
use Rattle.std.proofs.Math.Bool.{not}
use native.Mathlib.Omega.{arith}
use Rattle.std.proofs.Math.ListN.{get_or}
use Rattle.std.proofs.Math.Seq.{take-take, drop-drop}
use borrow.Author.Tests.{lt-ltb, le-ltb, ltb-false, eq-eqb, ne_eqb, eqb-true, not-false}
use Rattle.tables.specs.Rows.{le4}
use Rattle.tables.specs.Find.{all, same}
use Rattle.tables.specs.Sound.{is_zero}
use Rattle.tables.specs.RowLaws.{drop-take}
use Rattle.paper.specs.KeyedLaws.{by-test, clash, or-false-left}
use Rattle.paper.specs.Lent.{unfit, limit_outside, first, box_in}
use Rattle.arc.specs.ArcLent.{words}
use Rattle.arc.proofs.ArcLentLaws.{words-at}
use Rattle.tables.specs.Records.{held_rows}
use Rattle.parts.specs.declared.BoxRecord.{BoxRecord}
use Rattle.parts.specs.Rep.{numbers_of}
use Rattle.refusal.specs.declared.Refusal.{Refusal}
use Rattle.refusal.specs.Numbers.{code, number_of, refused}
use Rattle.refusals.specs.Sizes.{most}
use Rattle.refusals.specs.Checks.{tables_refusal}
use Rattle.image.specs.Body.{Fields, Form, pieces, total, body_length, numbers_in, fields_in, fails_as, fails_in, no_body}
use Rattle.image.specs.Area.{mark, version, writes_for}
use Rattle.image.specs.Image.{is_image, no_image, length_in, body_in, too_short, image_refusal}
use Rattle.image.specs.Kinds.{string_at, lru_form, arc_form, kinds, lru_checks}
use Rattle.image.proofs.AreaLaws.{writes-enough}
use Rattle.restoring.specs.Given as Given
use Rattle.restoring.specs.Given.{arc_of, long_of, failing, body_fields, Laid}

-- ---- 15

pub or-true : (b : Bool) → (b || true) ≡ true
or-true true = refl
or-true false = refl

and-false : (b : Bool) → (b && false) ≡ false
and-false true = refl
and-false false = refl

-- whether all pass a test
pub each-passes : {A : Type 0} (p : A → Bool) (xs : List A) → list_all p xs ≡ all p xs
unfolding all
each-passes p [] = refl
each-passes p (x ∷ xs) = ap (λ b. p x && b) (each-passes p xs)

pub short-area : (area : List ℕ) → length area < 64 → true ≡ no_image area
unfolding no_image
short-area area h = rw (lt-ltb (length area) 64 h)

module _ (area : List ℕ) (l : 64 ≤ length area) where
  front_long : length (take 64 area) ≡ 64
  front_long = length-take-le 64 area l

  -- bytes 3 and 4 of the header
  version_of : take 2 (drop 3 (take 64 area)) ≡ get_or area 3 0 ∷ get_or area 4 0 ∷ []
  version_of =
      let h = take 64 area in
      let e = front_long in
      ap (take 2) (drop-cons h 3 0 (omega arith) ∙ ap {B = List ℕ} (λ r. get_or h 3 0 ∷ r) (drop-cons h 4 0 (omega arith)))
      ∙ ap₂ {C = List ℕ} (λ x y. x ∷ y ∷ []) (get_or-take 64 area 3 0 (omega arith)) (get_or-take 64 area 4 0 (omega arith))

  other-version : same (get_or area 3 0 ∷ get_or area 4 0 ∷ []) version ≡ false → true ≡ no_image area
  unfolding no_image is_image
  other-version e = rw (version_of, e, and-false (same (take 3 (take 64 area)) mark), or-true (ltb (length area) 64))

  pub no-mark : same (take 3 area) mark ≡ false → true ≡ no_image area
  unfolding no_image is_image
  no-mark e = rw (take-take 3 64 area (omega arith), e, or-true (ltb (length area) 64))

  pub no-version-3 : (get_or area 3 0 ≡ 1 → ⊥) → true ≡ no_image area
  unfolding same
  no-version-3 n = other-version (rw (ne_eqb (get_or area 3 0) 1 n) refl)

  pub no-version-4 : get_or area 3 0 ≡ 1 → (get_or area 4 0 ≡ 0 → ⊥) → true ≡ no_image area
  unfolding same
  no-version-4 e n = other-version (rw (e, ne_eqb (get_or area 4 0) 0 n) refl)

  pub image-zeros : same (take 3 area) mark ≡ true → get_or area 3 0 ≡ 1 → get_or area 4 0 ≡ 0 → not (all is_zero (take 55 (drop 9 area))) ≡ no_image area
  unfolding no_image is_image same
  image-zeros m v w = rw (le-ltb (length area) 64 l, take-take 3 64 area (omega arith), m, version_of, v, w, drop-take 9 55 area)

-- ---- 14

pub short-is : (area : List ℕ) (n : ℕ) → ltb (length area) (64 + (n + 63) / 64 * 64) ≡ too_short area n
unfolding too_short writes_for
short-is area n = refl

-- ---- the record in a body

pub record-made : (body label : List ℕ) (w₁ w₂ w₃ w₄ w₅ w₆ : ℕ) → label ≡ take 64 (drop 28 body)
    → w₁ ≡ le4 body 4 → w₂ ≡ le4 body 8 → w₃ ≡ le4 body 12 → w₄ ≡ le4 body 16 → w₅ ≡ le4 body 20 → w₆ ≡ le4 body 24
    → record { size = w₁; blocks = w₂; rows = w₃; slots = w₄; held = w₅; label = label; limit = w₆ } ≡ Given.box_in body
unfolding fields_in numbers_in lru_form pieces
record-made body label w₁ w₂ w₃ w₄ w₅ w₆ l e₁ e₂ e₃ e₄ e₅ e₆ =
    let w : (k : ℕ) → k < 7 → get_or (words 7 body) k 0 ≡ le4 body (k * 4) = words-at 7 body in
    let f₁ = e₁ ∙ sym (w 1 (omega arith)) in
    let f₂ = e₂ ∙ sym (w 2 (omega arith)) in
    let f₃ = e₃ ∙ sym (w 3 (omega arith)) in
    let f₄ = e₄ ∙ sym (w 4 (omega arith)) in
    let f₅ = e₅ ∙ sym (w 5 (omega arith)) in
    let f₆ = e₆ ∙ sym (w 6 (omega arith)) in
    λ i. record { size = f₁ i; blocks = f₂ i; rows = f₃ i; slots = f₄ i; held = f₅ i; label = l i; limit = f₆ i }

-- ---- the strings of a body, of either kind

module _ (f : Form) (body : List ℕ) (at₁ n₁ n₂ n₃ : ℕ) (e : f.sizes (numbers_in f body) ≡ 64 ∷ n₁ ∷ n₂ ∷ n₃ ∷ []) (h : f.count * 4 + 64 ≡ at₁) where
  -- what follows the label
  behind : drop 64 (drop (f.count * 4) body) ≡ drop at₁ body
  behind = drop-drop 64 (f.count * 4) body ∙ ap (λ k. drop k body) h

  pub string-1 : string_at (fields_in f body) 1 ≡ take n₁ (drop at₁ body)
  unfolding fields_in pieces
  string-1 = ap (λ s. get_or (pieces s (drop (f.count * 4) body)) 1 []) e ∙ ap (take n₁) behind

  pub string-2 : string_at (fields_in f body) 2 ≡ take n₂ (drop (at₁ + n₁) body)
  unfolding fields_in pieces
  string-2 =
      ap (λ s. get_or (pieces s (drop (f.count * 4) body)) 2 []) e
      ∙ ap (take n₂) (ap (drop n₁) behind ∙ drop-drop n₁ at₁ body)

  pub string-3 : string_at (fields_in f body) 3 ≡ take n₃ (drop (at₁ + n₁ + n₂) body)
  unfolding fields_in pieces
  string-3 =
      ap (λ s. get_or (pieces s (drop (f.count * 4) body)) 3 []) e
      ∙ ap (take n₃) (ap (drop n₂) (ap (drop n₁) behind ∙ drop-drop n₁ at₁ body) ∙ drop-drop n₂ (at₁ + n₁) body)

  pub laid_in : (x : Fields) → x ≡ fields_in f body → at₁ + n₁ + n₂ + n₃ ≡ length body → Laid body x at₁ n₁ n₂ n₃
  laid_in x g l =
      record {
        whole = l;
        addresses = ap (λ y. string_at y 1) g ∙ string-1;
        blocks = ap (λ y. string_at y 2) g ∙ string-2;
        lists = ap (λ y. string_at y 3) g ∙ string-3;
      }

-- a part of a body, as the code takes it
pub part-is : (at₁ n : ℕ) (body : List ℕ) → take (at₁ + n - at₁) (drop at₁ body) ≡ take n (drop at₁ body)
part-is at₁ n body = let x : at₁ + n - at₁ ≡ n = omega arith in ap (λ k. take k (drop at₁ body)) x

-- ---- 16

-- "a body that starts above 1"
pub other-kind : (body : List ℕ) → (le4 body 0 ≡ 0 → ⊥) → (le4 body 0 ≡ 1 → ⊥) → true ≡ no_body kinds body
unfolding no_body fails_in kinds
other-kind body n m = rw (ne_eqb (le4 body 0) 0 n, ne_eqb (le4 body 0) 1 m)

pub first_kind : (body : List ℕ) → le4 body 0 ≡ 0 → no_body kinds body ≡ fails_as lru_form body
unfolding no_body fails_in kinds
first_kind body e = rw e

pub second-kind : (body : List ℕ) → le4 body 0 ≡ 1 → no_body kinds body ≡ fails_as arc_form body
unfolding no_body fails_in kinds
second-kind body e = rw e

-- its fields
pub lru-fields : (body : List ℕ) → le4 body 0 ≡ 0 → body_fields body ≡ fields_in lru_form body
unfolding kinds
lru-fields body e = rw e refl

pub arc-fields : (body : List ℕ) → le4 body 0 ≡ 1 → body_fields body ≡ fields_in arc_form body
unfolding kinds
arc-fields body e = rw e refl

-- ---- the body of a D-LRU box

module _ (body : List ℕ) (b : BoxRecord) (e : b ≡ Given.box_in body) where
  sizes-are : lru_form.sizes (numbers_in lru_form body) ≡ 64 ∷ b.rows * 40 ∷ b.slots * 40 ∷ 0 ∷ []
  unfolding fields_in lru_form
  sizes-are = ap (λ z. 64 ∷ z.rows * 40 ∷ z.slots * 40 ∷ 0 ∷ []) (sym e)

  -- a body fails where it has another length, its numbers are unfit, or its tables fail
  fails-are : fails_as lru_form body ≡ (not (eqb (length body) (long_of b)) || not (eqb (first (lru_checks (fields_in lru_form body))) 0))
  unfolding fails_as body_length numbers_in fields_in lru_form total
  fails-are =
      let z : 7 * 4 + (64 + ((Given.box_in body).rows * 40 + ((Given.box_in body).slots * 40 + (0 + 0)))) ≡ long_of (Given.box_in body) = omega arith in
      ap (λ k. not (eqb (length body) k) || not (eqb (first (lru_checks (fields_in lru_form body))) 0)) (z ∙ ap long_of (sym e))

  module _ (k : le4 body 0 ≡ 0) where
    is : no_body kinds body ≡ (not (eqb (length body) (long_of b)) || not (eqb (first (lru_checks (fields_in lru_form body))) 0))
    is = first_kind body k ∙ fails-are

    pub unfit-body : unfit (numbers_of b) ≡ true → true ≡ no_body kinds body
    unfit-body u =
        let u' = subst (λ z. unfit (numbers_of z) ≡ true) e u in
        sym (is ∙ rw (u', or-true (not (eqb (length body) (long_of b)))) refl)

    pub limit-body : unfit (numbers_of b) ≡ false → limit_outside (numbers_of b) ≡ true → true ≡ no_body kinds body
    limit-body u w =
        let u' = subst (λ z. unfit (numbers_of z) ≡ false) e u in
        let w' = subst (λ z. limit_outside (numbers_of z) ≡ true) e w in
        sym (is ∙ rw (u', w', or-true (not (eqb (length body) (long_of b)))) refl)

    pub long-body : (length body ≡ long_of b → ⊥) → true ≡ no_body kinds body
    long-body n = sym (is ∙ rw (ne_eqb (length body) (long_of b) n) refl)

    pub tables-body : unfit (numbers_of b) ≡ false → limit_outside (numbers_of b) ≡ false → length body ≡ long_of b → (r : Bool)
        → r ≡ failing b (take (92 + b.rows * 40 - 92) (drop 92 body))
        (take (92 + b.rows * 40 + b.slots * 40 - (92 + b.rows * 40)) (drop (92 + b.rows * 40) body))
        → r ≡ no_body kinds body
    unfolding lru_form
    tables-body u w l r h =
        let u' = subst (λ z. unfit (numbers_of z) ≡ false) e u in
        let w' = subst (λ z. limit_outside (numbers_of z) ≡ false) e w in
        let n₁ = b.rows * 40 in
        let n₂ = b.slots * 40 in
        let a = part-is 92 n₁ body ∙ sym (string-1 lru_form body 92 n₁ n₂ 0 sizes-are refl) in
        let t = part-is (92 + n₁) n₂ body ∙ sym (string-2 lru_form body 92 n₁ n₂ 0 sizes-are refl) in
        h ∙ (λ i. failing (e i) (a i) (t i)) ∙ sym (is ∙ rw (eq-eqb (length body) (long_of b) l, u', w') refl)

    -- what is known of a body that passes: its length, small numbers, and where the tables lie
    module _ (p : no_body kinds body ≡ false) where
      pub lru-long : length body ≡ long_of b
      lru-long =
          let long = not (eqb (length body) (long_of b)) in
          let rest = not (eqb (first (lru_checks (fields_in lru_form body))) 0) in
          eqb-true (length body) (long_of b) (not-false (eqb (length body) (long_of b)) (or-false-left long rest (sym is ∙ p)))

      pub lru-small : (b.rows ≤ 1024) × (b.slots ≤ 256)
      lru-small =
          let m = most b (by-test (unfit (numbers_of b)) (λ y. clash (sym (unfit-body y)) p) (λ y. y)) in
          (m.rows, m.slots)

      pub lru-laid : Laid body (body_fields body) 92 (b.rows * 40) (b.slots * 40) 0
      unfolding lru_form
      lru-laid =
          let l = lru-long in
          laid_in lru_form body 92 (b.rows * 40) (b.slots * 40) 0 sizes-are refl (body_fields body) (lru-fields body k) (omega (arith, l))

      -- its record in the other kind's, which has no more numbers
      pub lru-record : Given.as_arc b ≡ arc_of (body_fields body)
      unfolding fields_in numbers_in lru_form words
      lru-record = ap Given.as_arc e ∙ ap arc_of (sym (lru-fields body k))

-- what is refused has another number than 0
pub err-numbered : (r : Result Unit Refusal) → is_err r ≡ not (eqb (number_of r) 0)
err-numbered (Ok x) = refl
err-numbered (Err e) = ap not (sym (ne_eqb (code e) 0 (refused e)))

-- 6, 7, 8 and 13 of tables
pub tables-fail : (b : BoxRecord) (a t : List ℕ) (r : Result Unit Refusal) → number_of r ≡ tables_refusal b a t → is_err r ≡ failing b a t
unfolding tables_refusal box_in held_rows
tables-fail b a t r e = err-numbered r ∙ ap (λ n. not (eqb n 0)) e

-- ---- 15, 14 and 16 in turn

pub refused-15 : (area : List ℕ) → no_image area ≡ true → 15 ≡ image_refusal kinds area
unfolding image_refusal
refused-15 area e = rw e

-- the part of the area that the code takes for the body, by the length n in the header
abbrev pub taken : List ℕ → ℕ → List ℕ
taken area n = take (64 + n - 64) (drop 64 area)

pub taken-body : (area : List ℕ) (n : ℕ) → n ≡ le4 area 5 → taken area n ≡ body_in area
unfolding body_in length_in
taken-body area n e = let x : 64 + n - 64 ≡ le4 area 5 = omega arith in ap (λ k. take k (drop 64 area)) x

module _ (area : List ℕ) (n : ℕ) (k : n ≡ le4 area 5) (e : no_image area ≡ false) where
  pub refused-14 : too_short area n ≡ true → 14 ≡ image_refusal kinds area
  unfolding image_refusal length_in
  refused-14 f = rw (e, rw k at f)

  module _ (f : too_short area n ≡ false) where
    last-16 : (b : Bool) → no_body kinds (taken area n) ≡ b → image_refusal kinds area ≡ cond b 16 0
    unfolding image_refusal length_in
    last-16 b g = rw (e, rw k at f, sym (ap (no_body kinds) (taken-body area n k)) ∙ g) refl

    pub refused-16 : no_body kinds (taken area n) ≡ true → 16 ≡ image_refusal kinds area
    refused-16 g = sym (last-16 true g)

    pub refused-0 : no_body kinds (taken area n) ≡ false → 0 ≡ image_refusal kinds area
    refused-0 g = sym (last-16 false g)

-- room for the body
pub room_for : (area : List ℕ) (n : ℕ) → too_short area n ≡ false → 64 + n ≤ length area
unfolding too_short
room_for area n e = let h = ltb-false (length area) (64 + writes_for n * 64) e in omega (arith, writes-enough n)

pub long-enough : (area : List ℕ) → no_image area ≡ false → 64 ≤ length area
unfolding no_image
long-enough area e = ltb-false (length area) 64 (or-false-left (ltb (length area) 64) (not (is_image (take 64 area))) e)
