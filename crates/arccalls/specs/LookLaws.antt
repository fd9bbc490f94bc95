-- A look of a D-ARC box, from where its block is found. Assumes nothing.
use Rattle.std.specs.Prelude.{◌≡◌, List, ℕ, ◌<◌, eqb, get_or, Result, Err}
use Rattle.std.proofs.Math.Path.{sym}
use Rattle.std.proofs.Common.{ap, ◌∙◌, subst, ne_eqb, eqb-true}
use Rattle.std.proofs.lemmas.Bool.{eqb-false}
use Rattle.paper.specs.KeyedLaws.{by-test}
use Rattle.paper.specs.Cache.{Counters}
use Rattle.paper.specs.RowBytes.{Bytes}
use Rattle.paper.proofs.LentForth.{lent-forth}
use Rattle.paper.proofs.LentLaws.{passes-sound}
use Rattle.paper.proofs.Demand3Laws.{look-stays}
use Rattle.paper.specs.Lent.{box_in, lent_of, Ask, calling, refusal, call, After}
use Rattle.paper.proofs.RefusalLaws as Base
use Rattle.arc.specs.Arc.{Sizes, base_numbers}
use Rattle.arc.specs.ArcLent.{ArcLent, ArcAfter, arc_refusal, arc_call}
use Rattle.arc.proofs.ArcDemandLaws.{found, served-is, arc-keeps}
use Rattle.parts.specs.declared.BoxRecord.{BoxRecord}
use Rattle.parts.specs.Rep.{numbers_of}
use Rattle.refusals.specs.Given.{lent}
use Rattle.look.specs.declared.Place.{Place}
use Rattle.refusal.specs.declared.Refusal.{Refusal}
use Rattle.refusal.specs.Numbers.{code, refused}
use Rattle.look.specs.Look.{where_is, answer_at, part_at}
use Rattle.look.specs.LookLaws.{look-answers, PartIn, where-in, look-returns}
use Rattle.arcrefusals.specs.declared.ArcRecord.{ArcRecord}
use Rattle.arcrefusals.specs.Given.{sizes_of, base_of, arc_lent}
use Rattle.arccalls.specs.Contract.{arc_where}
use Rattle.arccalls.specs.BaseLaws.{base-zero, look-keeps, call-base}

module _ (Z : Sizes) (t : ArcLent) (a : ℕ) where
  pub place-refused : (number : ℕ) → number ≡ arc_refusal Z t (calling (Ask.look a)) → (number ≡ 0 → ⊥) → Err number ≡ arc_where Z t a
  unfolding arc_where
  place-refused number e n = rw (ne_eqb (arc_refusal Z t (calling (Ask.look a))) 0 (λ z. n (e ∙ z))) (ap (λ (x : ℕ). Err x) e)

  -- the same by the code's refusal
  pub place-told : (r : Refusal) → code r ≡ arc_refusal Z t (calling (Ask.look a)) → Err (code r) ≡ arc_where Z t a
  place-told r e = place-refused (code r) e (refused r)

  pub place_found : (p : Result Place ℕ) → arc_refusal Z t (calling (Ask.look a)) ≡ 0 → p ≡ where_is (base_numbers Z) t.base a → p ≡ arc_where Z t a
  unfolding arc_where
  place_found p z e = rw (z, arc_where) e

  -- a look that isn't refused is the base's
  base-call : arc_refusal Z t (calling (Ask.look a)) ≡ 0
      → ((arc_call Z t (Ask.look a)).answer ≡ (call (base_numbers Z) t.base (Ask.look a)).answer)
      × ((arc_call Z t (Ask.look a)).part ≡ (call (base_numbers Z) t.base (Ask.look a)).part)
  base-call z =
      let q = Ask.look a in
      let e = served-is Z t q z ∙ look-keeps Z t a in
      let s = sym (Base.served-is (base_numbers Z) t.base q (base-zero Z t q z)) in
      (ap (λ (x : ArcAfter). x.answer) e ∙ ap (λ (x : After). x.answer) s, ap (λ (x : ArcAfter). x.part) e ∙ ap (λ (x : After). x.part) s)

  -- what it answers, by the place
  pub arc-answers : answer_at (arc_where Z t a) ≡ (arc_call Z t (Ask.look a)).answer
  unfolding arc_where answer_at
  arc-answers =
      let n = arc_refusal Z t (calling (Ask.look a)) in
      by-test (eqb n 0)
      (λ y. rw y (look-answers (base_numbers Z) t.base a ∙ sym (base-call (eqb-true n 0 y)).0))
      (λ y. rw y (sym (ap (λ (x : ArcAfter). x.answer) (arc-keeps Z t (Ask.look a) (eqb-false n 0 y)))))

-- what it returns, by the place, whose bytes are there
module _ (a : ArcRecord) (disk flash addresses blocks lists : List ℕ) (k : Counters) (x : ℕ) where
  abbrev Z : Sizes
  Z = sizes_of a

  abbrev t : ArcLent
  t = arc_lent a disk flash addresses blocks lists k

  pub arc-where-in : Bytes addresses → Bytes blocks → PartIn (base_of a) flash disk x (arc_where Z t x)
  unfolding arc_where
  arc-where-in ba bb =
      let n = arc_refusal Z t (calling (Ask.look x)) in
      by-test (eqb n 0) (λ y. rw y (where-in (base_of a) disk flash addresses blocks k x ba bb)) (λ y. rw y tt)

  pub arc-returns : Bytes addresses → Bytes blocks → part_at a.size x flash disk (arc_where Z t x) ≡ (arc_call Z t (Ask.look x)).part
  unfolding arc_where part_at
  arc-returns ba bb =
      let n = arc_refusal Z t (calling (Ask.look x)) in
      by-test (eqb n 0)
      (λ y. rw y (look-returns (base_of a) disk flash addresses blocks k x ba bb ∙ sym (base-call Z t x (eqb-true n 0 y)).1))
      (λ y. rw y (sym (ap (λ (x : ArcAfter). x.part) (arc-keeps Z t (Ask.look x) (eqb-false n 0 y)))))

  -- what it leaves is what is lent, so nothing is to be written
  pub look-leaves : Bytes addresses → Bytes blocks → ((i : ℕ) → get_or lists i 0 < 256) → (arc_call Z t (Ask.look x)).lent ≡ t
  look-leaves ba bb low =
      let n = arc_refusal Z t (calling (Ask.look x)) in
      by-test (eqb n 0)
      (λ y.
      let z = eqb-true n 0 y in
      let p = (found Z t (Ask.look x) z).passes.base in
      let w : t.base ≡ lent_of (base_numbers Z) (box_in (base_numbers Z) t.base) k
      = sym (lent-forth (base_numbers Z) t.base p.lengths ba bb p.addresses p.blocks) in
      let base = look-stays (base_numbers Z) t.base x (box_in (base_numbers Z) t.base, k, passes-sound (base_numbers Z) t.base p, w) in
      ap (λ (o : ArcAfter). o.lent) (call-base Z t (Ask.look x) z (look-keeps Z t x) low) ∙ (λ i. record { base = base i; sizes = t.sizes; lists = lists }))
      (λ y. ap (λ (o : ArcAfter). o.lent) (arc-keeps Z t (Ask.look x) (eqb-false n 0 y)))

  -- the base's refusal and the base's place, of the base's record
  module _ (b : BoxRecord) (eb : b ≡ base_of a) where
    pub look-0 : arc_refusal Z t (calling (Ask.look x)) ≡ 0 → refusal (numbers_of b) (lent b disk flash addresses blocks k) (calling (Ask.look x)) ≡ 0
    look-0 z =
        subst (λ (y : BoxRecord). refusal (numbers_of y) (lent y disk flash addresses blocks k) (calling (Ask.look x)) ≡ 0) (sym eb)
        (base-zero Z t (Ask.look x) z)

    pub look-place : (p : Result Place ℕ) → arc_refusal Z t (calling (Ask.look x)) ≡ 0 → p ≡ where_is (numbers_of b) (lent b disk flash addresses blocks k) x
        → p ≡ arc_where Z t x
    look-place p z e = place_found Z t x p z (e ∙ ap (λ (y : BoxRecord). where_is (numbers_of y) (lent y disk flash addresses blocks k) x) eb)
