-- The body of a D-ARC box, test by test, and the kinds together. Assumes nothing.
use Rattle.std.specs.Prelude.{◌≡◌, Bool, true, false, ◌||◌, List, [], ◌∷◌, ℕ, ◌+◌, ◌-◌, ◌*◌, ◌≤◌, ◌<◌, eqb, ltb, length, take, drop, get_or}
use Rattle.std.proofs.Math.Path.{refl, sym, ap, subst}
use Rattle.std.proofs.Common.{◌∙◌, length-drop, length-take-le, eq-eqb, ne_eqb, eqb-true, ltb-true, ltb-false}
use Rattle.std.proofs.Math.Bool.{not}
use native.Mathlib.Omega.{arith}
use Rattle.std.proofs.lemmas.Bool.{eqb-false, not-false}
use Rattle.tables.specs.Rows.{le4}
use Rattle.paper.specs.KeyedLaws.{by-test, clash, or-false-left}
use Rattle.paper.specs.Lent.{limit_outside, first}
use Rattle.arc.specs.Arc.{m_of, base_numbers}
use Rattle.arc.specs.ArcLent.{words, unfit_arc}
use Rattle.arc.proofs.ArcLentLaws.{words-at}
use Rattle.arc.specs.ArcDemandLaws.{ArcFits}
use Rattle.arc.proofs.ArcDemandLaws.{arc-fits}
use Rattle.arclists.specs.declared.ListSizes.{ListSizes}
use Rattle.arcrefusals.specs.declared.ArcRecord.{ArcRecord}
use Rattle.arcrefusals.specs.Given.{sizes_of}
use Rattle.arcrefusals.specs.Checks.{Fits}
use Rattle.image.specs.Body.{pieces, total, body_length, numbers_in, fields_in, fails_as, no_body}
use Rattle.image.specs.Kinds.{arc_form, arc_checks, kinds}
use Rattle.restoring.specs.Given.{box_in, arc_of, arc_in, arc_long, arc_failing, body_fields, Laid}
use Rattle.restoring.specs.FoundLaws.{or-true, string-1, string-2, string-3, laid_in, part-is, other-kind, second-kind, arc-fields, long-body}

-- ---- the record in a body

pub sizes-made : (body : List ℕ) (w₁ w₂ w₃ w₄ w₅ w₆ w₇ w₈ : ℕ) → w₁ ≡ le4 body 32 → w₂ ≡ le4 body 36 → w₃ ≡ le4 body 40 → w₄ ≡ le4 body 44
    → w₅ ≡ le4 body 48 → w₆ ≡ le4 body 28 → w₇ ≡ le4 body 12 → w₈ ≡ le4 body 16
    → record { t1 = w₁; t2 = w₂; b1 = w₃; b2 = w₄; b3 = w₅; p = w₆; cached = w₇; extra = w₈ } ≡ (arc_in body).sizes
unfolding fields_in numbers_in arc_form
sizes-made body w₁ w₂ w₃ w₄ w₅ w₆ w₇ w₈ e₁ e₂ e₃ e₄ e₅ e₆ e₇ e₈ =
    let w : (k : ℕ) → k < 13 → get_or (words 13 body) k 0 ≡ le4 body (k * 4) = words-at 13 body in
    let f₁ = e₁ ∙ sym (w 8 (omega arith)) in
    let f₂ = e₂ ∙ sym (w 9 (omega arith)) in
    let f₃ = e₃ ∙ sym (w 10 (omega arith)) in
    let f₄ = e₄ ∙ sym (w 11 (omega arith)) in
    let f₅ = e₅ ∙ sym (w 12 (omega arith)) in
    let f₆ = e₆ ∙ sym (w 7 (omega arith)) in
    let f₇ = e₇ ∙ sym (w 3 (omega arith)) in
    let f₈ = e₈ ∙ sym (w 4 (omega arith)) in
    λ i. record { t1 = f₁ i; t2 = f₂ i; b1 = f₃ i; b2 = f₄ i; b3 = f₅ i; p = f₆ i; cached = f₇ i; extra = f₈ i }

pub arc-made : (body label : List ℕ) (s : ListSizes) (w₁ w₂ w₃ w₄ : ℕ) → label ≡ take 64 (drop 52 body) → s ≡ (arc_in body).sizes
    → w₁ ≡ le4 body 4 → w₂ ≡ le4 body 8 → w₃ ≡ le4 body 20 → w₄ ≡ le4 body 24
    → record { size = w₁; blocks = w₂; held = w₃; label = label; limit = w₄; sizes = s } ≡ arc_in body
unfolding fields_in numbers_in arc_form pieces
arc-made body label s w₁ w₂ w₃ w₄ l es e₁ e₂ e₃ e₄ =
    let w : (k : ℕ) → k < 13 → get_or (words 13 body) k 0 ≡ le4 body (k * 4) = words-at 13 body in
    let f₁ = e₁ ∙ sym (w 1 (omega arith)) in
    let f₂ = e₂ ∙ sym (w 2 (omega arith)) in
    let f₃ = e₃ ∙ sym (w 5 (omega arith)) in
    let f₄ = e₄ ∙ sym (w 6 (omega arith)) in
    λ i. record { size = f₁ i; blocks = f₂ i; held = f₃ i; label = l i; limit = f₄ i; sizes = es i }

-- the parts of a body as long as its record says have the lengths that their check asks for
pub parts-fit : (a : ArcRecord) (body : List ℕ) → a.blocks ≤ 65536 → a.sizes.cached ≤ 256 → m_of (sizes_of a) ≤ 1024 → length body ≡ arc_long a
    → let n₁ = m_of (sizes_of a) * 40 in let n₂ = a.sizes.cached * 40 in let n₃ = m_of (sizes_of a) * 4 in
    Fits a (take (116 + n₁ - 116) (drop 116 body)) (take (116 + n₁ + n₂ - (116 + n₁)) (drop (116 + n₁) body))
    (take (116 + n₁ + n₂ + n₃ - (116 + n₁ + n₂)) (drop (116 + n₁ + n₂) body))
parts-fit a body p d r l =
    let n₁ = m_of (sizes_of a) * 40 in
    let n₂ = a.sizes.cached * 40 in
    let n₃ = m_of (sizes_of a) * 4 in
    record {
      disk-most = p;
      cached-most = d;
      rows-most = r;
      addresses-are = ap length (part-is 116 n₁ body) ∙ length-take-le n₁ (drop 116 body) (omega (arith, l, length-drop 116 body));
      blocks-are = ap length (part-is (116 + n₁) n₂ body) ∙ length-take-le n₂ (drop (116 + n₁) body) (omega (arith, l, length-drop (116 + n₁) body));
      lists-are = ap length (part-is (116 + n₁ + n₂) n₃ body)
          ∙ length-take-le n₃ (drop (116 + n₁ + n₂) body) (omega (arith, l, length-drop (116 + n₁ + n₂) body));
    }

-- ---- 16

module _ (body : List ℕ) (a : ArcRecord) (e : a ≡ arc_in body) where
  abbrev m : ℕ
  m = m_of (sizes_of a)

  abbrev n₁ : ℕ
  n₁ = m * 40

  abbrev n₂ : ℕ
  n₂ = a.sizes.cached * 40

  abbrev n₃ : ℕ
  n₃ = m * 4

  sizes-are : arc_form.sizes (numbers_in arc_form body) ≡ 64 ∷ n₁ ∷ n₂ ∷ n₃ ∷ []
  unfolding fields_in arc_form
  sizes-are = ap (λ z. 64 ∷ m_of (sizes_of z) * 40 ∷ z.sizes.cached * 40 ∷ m_of (sizes_of z) * 4 ∷ []) (sym e)

  abbrev fails : Bool
  fails = not (eqb (first (arc_checks (fields_in arc_form body))) 0)

  abbrev other : Bool
  other = not (eqb (length body) (arc_long a))

  -- a body fails where it has another length, its numbers are unfit, or its tables or lists fail
  fails-are : fails_as arc_form body ≡ (other || fails)
  unfolding fails_as body_length numbers_in fields_in arc_form total
  fails-are =
      let b = arc_in body in
      let k = m_of (sizes_of b) in
      let z : 13 * 4 + (64 + (k * 40 + (b.sizes.cached * 40 + (k * 4 + 0)))) ≡ arc_long b = omega arith in
      ap (λ j. not (eqb (length body) j) || fails) (z ∙ ap arc_long (sym e))

  module _ (k : le4 body 0 ≡ 1) where
    is : no_body kinds body ≡ (other || fails)
    is = second-kind body k ∙ fails-are

    pub arc-unfit-body : unfit_arc (sizes_of a) ≡ true → true ≡ no_body kinds body
    arc-unfit-body u =
        let u' = subst (λ z. unfit_arc (sizes_of z) ≡ true) e u in
        sym (is ∙ rw (u', or-true other) refl)

    pub arc-limit-body : unfit_arc (sizes_of a) ≡ false → limit_outside (base_numbers (sizes_of a)) ≡ true → true ≡ no_body kinds body
    arc-limit-body u w =
        let u' = subst (λ z. unfit_arc (sizes_of z) ≡ false) e u in
        let w' = subst (λ z. limit_outside (base_numbers (sizes_of z)) ≡ true) e w in
        sym (is ∙ rw (u', w', or-true other) refl)

    pub arc-long-body : (length body ≡ arc_long a → ⊥) → true ≡ no_body kinds body
    arc-long-body n = sym (is ∙ rw (ne_eqb (length body) (arc_long a) n) refl)

    pub arc-tables-body : unfit_arc (sizes_of a) ≡ false → limit_outside (base_numbers (sizes_of a)) ≡ false → length body ≡ arc_long a → (r : Bool)
        → r ≡ arc_failing a (take (116 + n₁ - 116) (drop 116 body)) (take (116 + n₁ + n₂ - (116 + n₁)) (drop (116 + n₁) body))
        (take (116 + n₁ + n₂ + n₃ - (116 + n₁ + n₂)) (drop (116 + n₁ + n₂) body))
        → r ≡ no_body kinds body
    unfolding arc_form
    arc-tables-body u w l r h =
        let u' = subst (λ z. unfit_arc (sizes_of z) ≡ false) e u in
        let w' = subst (λ z. limit_outside (base_numbers (sizes_of z)) ≡ false) e w in
        let x₁ = part-is 116 n₁ body ∙ sym (string-1 arc_form body 116 n₁ n₂ n₃ sizes-are refl) in
        let x₂ = part-is (116 + n₁) n₂ body ∙ sym (string-2 arc_form body 116 n₁ n₂ n₃ sizes-are refl) in
        let x₃ = part-is (116 + n₁ + n₂) n₃ body ∙ sym (string-3 arc_form body 116 n₁ n₂ n₃ sizes-are refl) in
        h ∙ (λ i. arc_failing (e i) (x₁ i) (x₂ i) (x₃ i)) ∙ sym (is ∙ rw (eq-eqb (length body) (arc_long a) l, u', w') refl)

    -- what is known of a body that passes: its length, small numbers, and where the tables and the lists lie
    module _ (p : no_body kinds body ≡ false) where
      pub arc-long : length body ≡ arc_long a
      arc-long =
          eqb-true (length body) (arc_long a) (not-false (eqb (length body) (arc_long a)) (or-false-left other fails (sym is ∙ p)))

      fits : ArcFits (sizes_of a)
      fits = arc-fits (sizes_of a) (by-test (unfit_arc (sizes_of a)) (λ y. clash (sym (arc-unfit-body y)) p) (λ y. y))

      pub arc-small : (a.sizes.cached ≤ 256) × (m ≤ 1024)
      arc-small = (fits.C-most, fits.m-most)

      pub arc-least : 1 ≤ m
      arc-least = let h = fits.C-least in omega (arith, h)

      pub arc-laid : Laid body (body_fields body) 116 n₁ n₂ n₃
      unfolding arc_form
      arc-laid = laid_in arc_form body 116 n₁ n₂ n₃ sizes-are refl (body_fields body) (arc-fields body k) (sym arc-long)

      pub arc-record : a ≡ arc_of (body_fields body)
      arc-record = e ∙ ap arc_of (sym (arc-fields body k))

-- ---- both kinds

module _ (body : List ℕ) where
  pub arc-short-body : le4 body 0 ≡ 1 → length body < 116 → true ≡ no_body kinds body
  arc-short-body k h = arc-long-body body (arc_in body) refl k (λ e. omega arith)

  pub short-body : length body < 92 → true ≡ no_body kinds body
  short-body h =
      by-test (eqb (le4 body 0) 0)
      (λ y. long-body body (box_in body) refl (eqb-true (le4 body 0) 0 y) (λ e. omega arith))
      (λ y. by-test (eqb (le4 body 0) 1)
      (λ z. arc-short-body (eqb-true (le4 body 0) 1 z) (omega arith))
      (λ z. other-kind body (eqb-false (le4 body 0) 0 y) (eqb-false (le4 body 0) 1 z)))

  -- a body that passes
  module _ (p : no_body kinds body ≡ false) where
    pub kind-one : (le4 body 0 ≡ 0 → ⊥) → le4 body 0 ≡ 1
    kind-one n =
        by-test (eqb (le4 body 0) 1)
        (λ z. eqb-true (le4 body 0) 1 z)
        (λ z. clash (sym (other-kind body n (eqb-false (le4 body 0) 1 z))) p)

    pub body-long : 92 ≤ length body
    body-long = by-test (ltb (length body) 92) (λ y. clash (sym (short-body (ltb-true (length body) 92 y))) p) (λ y. ltb-false (length body) 92 y)
