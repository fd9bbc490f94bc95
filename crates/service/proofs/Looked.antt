-- A look on bytes, from the place that the cache finds and what is written of it. Assumes nothing.
use mathlib.Core.Path.{◌≡◌, refl, sym, ap, ◌∙◌, subst}
use mathlib.Core.Bool.{true}
use mathlib.Core.List.{List}
use Prim.Native.Nat.{ℕ, ◌*◌, ◌^◌, ◌<◌}
use Rattle.std.specs.Prelude.{Result, Ok, Err}
use native.Mathlib.Omega.{arith}
use lib.Dec.{eqb}
use lib.ListN.{length}
use borrow.Author.Tests.{eqb-true, eqb-false}
use Rattle.paper.specs.KeyedLaws.{by-test, by-option, and_left, and_right}
use Rattle.paper.specs.RowBytes.{Bytes}
use Rattle.paper.specs.Cache.{Numbers, Counters, row_with_block}
use Rattle.paper.specs.Engine.{labelled}
use Rattle.paper.specs.Lent.{Lent, Ask, calling, refusal, box_in, call}
use Rattle.parts.specs.declared.BoxRecord.{BoxRecord}
use Rattle.look.specs.declared.Place.{Place}
use Rattle.look.specs.declared.Place.TheVariants.{Flash, Disk}
use Rattle.parts.specs.Rep.{numbers_of}
use Rattle.refusals.specs.Given.{counters_of, lent}
use Rattle.look.specs.Look.{where_is, answer_at, part_at}
use Rattle.look.specs.Look as Found
use Rattle.look.specs.LookLaws.{PartIn, where-in, look-answers, look-returns}
use Rattle.fields.specs.Fields.{get8, record_in, counters_in, fitting, state_bytes}
use Rattle.fields.specs.FieldLaws.{word_read, second-read, third-read}
use Rattle.fields.specs.Noted.{answer_number, LeftLook, start_of, noted_place}
use Rattle.service.specs.Left.{lent_in, shown, word_in, Shows}

-- a state and an answer that fit have their lengths
pub lengths : (n : ℕ) (s l : List ℕ) → fitting n s l ≡ true → (length s ≡ state_bytes) × (length l ≡ n)
unfolding fitting
lengths n s l h = (
  eqb-true (length s) state_bytes (and_left (eqb (length s) state_bytes) (eqb (length l) n) h),
  eqb-true (length l) n (and_right (eqb (length s) state_bytes) (eqb (length l) n) h),
)

-- a place that is refused has a number
pub numbered : (N : Numbers) (t : Lent) (a : ℕ) → where_is N t a ≡ Err 0 → ⊥
unfolding where_is Found.row_place
numbered N t a =
    let n = refusal N t (calling (Ask.look a)) in
    by-test (eqb n 0)
    (λ y. rw y (by-option (row_with_block (labelled N) (box_in N t) a)
    (λ w. rw w (λ e. (let z : ◌≡◌ {A = ℕ} 0 1 = cc in omega arith)))
    (λ r w. rw w (λ e. (let z : ◌≡◌ {A = ℕ} 0 1 = cc in omega arith)))))
    (λ y. rw y (λ e. eqb-false n 0 y (cc)))

-- where a part starts is less than what is lent
pub starts : (b : BoxRecord) (flash disk : List ℕ) (a : ℕ) (p : Result Place ℕ) → PartIn b flash disk a p
    → length flash < 2 ^ 64 → length disk < 2 ^ 64 → start_of b.size a p < 2 ^ 64
starts b flash disk a (Err k) h lf ld = omega arith
starts b flash disk a (Ok (Flash s)) h lf ld = omega arith
starts b flash disk a (Ok Disk) h lf ld = omega arith

-- what is written of a place shows it
module _ (B a : ℕ) (flash disk l : List ℕ) (h : length l ≡ 24) (b_b : B < 2 ^ 64) where
  number_at : (p : Result Place ℕ) → (noted_place B a l p).number ≡ answer_number (answer_at p)
  unfolding answer_at
  number_at (Err k) = refl
  number_at (Ok (Flash s)) = refl
  number_at (Ok Disk) = refl

  word_at : (p : Result Place ℕ) → (p ≡ Err 0 → ⊥) → (noted_place B a l p).number ≡ 0
      → get8 (noted_place B a l p).answer 0 ≡ word_in (answer_at p)
  unfolding answer_at
  word_at (Err k) n z = absurd (n (ap (λ (x : ℕ). Err x) z))
  word_at (Ok (Flash s)) n z = word_read 5 (s.0 * B) B l h (omega arith)
  word_at (Ok Disk) n z = word_read 6 (a * B) B l h (omega arith)

  part-at : (p : Result Place ℕ) → (p ≡ Err 0 → ⊥) → start_of B a p < 2 ^ 64 → (noted_place B a l p).number ≡ 0
      → shown flash disk (noted_place B a l p).answer ≡ part_at B a flash disk p
  unfolding shown part_at
  part-at (Err k) n b z = absurd (n (ap (λ (x : ℕ). Err x) z))
  part-at (Ok (Flash s)) n b z = rw (word_read 5 (s.0 * B) B l h (omega arith), second-read 5 (s.0 * B) B l h b, third-read 5 (s.0 * B) B l h b_b) refl
  part-at (Ok Disk) n b z = rw (word_read 6 (a * B) B l h (omega arith), second-read 6 (a * B) B l h b, third-read 6 (a * B) B l h b_b) refl

module _ (a : ℕ) (s disk flash addresses blocks l : List ℕ) where
  -- the cache's place on the record read, and what is written of it
  module _ (b : BoxRecord) (eb : b ≡ record_in s) (p : Result Place ℕ)
      (ep : (k : Counters) → p ≡ where_is (numbers_of b) (lent b disk flash addresses blocks k) a) where
    place_is : p ≡ where_is (numbers_of (record_in s)) (lent_in s disk flash addresses blocks) a
    place_is =
        ep (counters_of (counters_in s))
        ∙ ap (λ (x : BoxRecord). where_is (numbers_of x) (lent x disk flash addresses blocks (counters_of (counters_in s))) a) eb

    pub starts-below : Bytes addresses → Bytes blocks → length flash < 2 ^ 64 → length disk < 2 ^ 64 → start_of b.size a p < 2 ^ 64
    starts-below ba bb lf ld =
        let k = counters_of (counters_in s) in
        starts b flash disk a p (subst (PartIn b flash disk a) (sym (ep k)) (where-in b disk flash addresses blocks k a ba bb)) lf ld

    module _ (h : fitting 24 s l ≡ true) (number : ℕ) (l' : List ℕ)
        (e : ◌≡◌ {A = LeftLook} (record { number = number; answer = l' }) (noted_place b.size a l p)) where
      written : ◌≡◌ {A = LeftLook} (record { number = number; answer = l' }) (noted_place (record_in s).size a l p)
      written = e ∙ ap (λ (x : BoxRecord). noted_place x.size a l p) eb

      pub looked-shows : Bytes addresses → Bytes blocks → length l ≡ 24 → get8 s 0 < 2 ^ 64 → length flash < 2 ^ 64 → length disk < 2 ^ 64
          → Shows number l' (lent_in s disk flash addresses blocks) (call (numbers_of (record_in s)) (lent_in s disk flash addresses blocks) (Ask.look a))
      looked-shows ba bb hl b_b lf ld =
          let B = get8 s 0 in
          let N = numbers_of (record_in s) in
          let t = lent_in s disk flash addresses blocks in
          let said : answer_at p ≡ (call N t (Ask.look a)).answer = ap answer_at place_is ∙ look-answers N t a in
          let shows : part_at B a flash disk p ≡ (call N t (Ask.look a)).part =
          ap (part_at B a flash disk) place_is ∙ look-returns (record_in s) disk flash addresses blocks (counters_of (counters_in s)) a ba bb in
          let en : number ≡ (noted_place B a l p).number = ap (λ (x : LeftLook). x.number) written in
          let el : l' ≡ (noted_place B a l p).answer = ap (λ (x : LeftLook). x.answer) written in
          let no : p ≡ Err 0 → ⊥ = λ z. numbered N t a (sym place_is ∙ z) in
          let st : start_of B a p < 2 ^ 64 = subst (λ (x : BoxRecord). start_of x.size a p < 2 ^ 64) eb (starts-below ba bb lf ld) in
          record {
            number_is = en ∙ number_at B a flash disk l hl b_b p ∙ ap answer_number said;
            word-is = λ z. ap (λ (x : List ℕ). get8 x 0) el ∙ word_at B a flash disk l hl b_b p no (sym en ∙ z) ∙ ap word_in said;
            part-is = λ z. ap (shown flash disk) el ∙ part-at B a flash disk l hl b_b p no st (sym en ∙ z) ∙ shows;
          }
