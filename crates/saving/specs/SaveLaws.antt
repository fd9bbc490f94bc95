-- A save in turn. Assumes nothing.
use Rattle.std.specs.Prelude.{◌≡◌, true, false, cond, List, [], ◌∷◌, ◌++◌, ℕ, ◌+◌, ◌*◌, ◌≤◌, eqb, Err}
use Rattle.std.proofs.Math.Path.{refl, ap, ap₂, subst, subst₂}
use Rattle.std.proofs.Common.{sym, ◌∙◌, arith, length-append, ne_eqb, ltb-false}
use Rattle.std.proofs.Math.Option.{none}
use Rattle.std.proofs.Math.ListN.{length}
use Rattle.tables.specs.Rows.{flat}
use Rattle.paper.specs.Cache.{Numbers, Counters}
use Rattle.paper.specs.Lent.{Lent, Ask, calling, refused, unfit, limit_outside, refusal}
use Rattle.paper.specs.LentLaws.{Passes}
use Rattle.paper.proofs.SoundTestsLaws.{addresses-good}
use Rattle.paper.proofs.CallLaws.{limit-fits, served-passes}
use Rattle.arc.specs.ArcLent.{word_bytes}
use Rattle.arc.proofs.ArcLentLaws.{length-words}
use Rattle.parts.specs.declared.BoxRecord.{BoxRecord}
use Rattle.parts.specs.Rep.{numbers_of}
use Rattle.outcome.specs.declared.Outcome.{Outcome}
use Rattle.policy.specs.declared.Answered.{Answered}
use Rattle.refusal.specs.declared.Refusal.{Refusal}
use Rattle.refusal.specs.Numbers.{code}
use Rattle.refusal.specs.Numbers as Refusals
use Rattle.policy.specs.Contract as Policy
use Rattle.counters.specs.declared.Counters as Code
use Rattle.refusals.specs.Given.{counters_of, lent}
use Rattle.refusals.specs.Sizes.{most}
use Rattle.image.specs.Body.{Fields, body_of}
use Rattle.image.specs.Area.{writes_for, applied, save_writes}
use Rattle.image.specs.Image.{too_short}
use Rattle.image.specs.Kinds.{lru_fields}
use Rattle.image.specs.Saved.{lru_saver, save_refusal, save}
use Rattle.image.proofs.SavedLaws.{save-number, save-is, save-keeps}
use Rattle.image.proofs.BoxLaws.{lru-found, lru-length, lru-flush-0}
use Rattle.restoring.specs.Given.{long_of}
use Rattle.saving.specs.Given.{box_body, Writable, told, saved_by}

-- ---- the refusals

module _ (N : Numbers) (t : Lent) (area : List ℕ) where
  abbrev q : Ask
  q = Ask.flush N.m

  number_is : save_refusal (lru_saver N) t area
      ≡ cond (eqb (refusal N t (calling q)) 0) (cond (too_short area (length (body_of (lru_fields N t)))) 14 0) (refusal N t (calling q))
  unfolding refusal
  number_is = save-number (lru_saver N) t area refl

  pub flush-refused : (k : ℕ) → k ≡ refusal N t (calling q) → (k ≡ 0 → ⊥) → k ≡ save_refusal (lru_saver N) t area
  flush-refused k e h = sym (number_is ∙ rw (← e) (rw (ne_eqb k 0 h) refl))

  module _ (e : refusal N t (calling q) ≡ 0) (n : ℕ) (l : n ≡ 92 + N.m * 40 + N.d * 40) where
    long : n ≡ length (body_of (lru_fields N t))
    long = l ∙ sym (lru-length N t (lru-found N t e))

    pub save-14 : too_short area n ≡ true → 14 ≡ save_refusal (lru_saver N) t area
    save-14 f = sym (number_is ∙ rw (e, rw long at f) refl)

    pub save-0 : too_short area n ≡ false → 0 ≡ save_refusal (lru_saver N) t area
    save-0 f = sym (number_is ∙ rw (e, rw long at f) refl)

pub flush-most : (b : BoxRecord) (t : Lent) → refusal (numbers_of b) t (calling (Ask.flush b.rows)) ≡ 0 → (b.rows ≤ 1024) × (b.slots ≤ 256)
flush-most b t e = let m = most b (lru-found (numbers_of b) t e).fit in (m.rows, m.slots)

-- ---- the image

pub body-long : (b : BoxRecord) (a bs area : List ℕ) → Writable b a bs area → long_of b ≡ length (box_body b a bs)
unfolding body_of flat
body-long b a bs area w =
    let ns : List ℕ = 0 ∷ b.size ∷ b.blocks ∷ b.rows ∷ b.slots ∷ b.held ∷ b.limit ∷ [] in
    let x₁ = length-words ns in
    let x₂ = length-append (word_bytes ns) (b.label ++ (a ++ (bs ++ ([] ++ [])))) in
    let x₃ = length-append b.label (a ++ (bs ++ ([] ++ []))) in
    let x₄ = length-append a (bs ++ ([] ++ [])) in
    let x₅ = length-append bs ([] ++ []) in
    let l = w.label in
    let la = w.addresses-long in
    let lb = w.blocks-long in
    omega arith

-- ---- a save that is served: the flush, then the image

module _ (N : Numbers) (t : Lent) (area : List ℕ) (e : save_refusal (lru_saver N) t area ≡ 0) (b : BoxRecord) (disk flash a bs : List ℕ) (k : Counters)
    (numbers : numbers_of b ≡ N) (after : lent b disk flash a bs k ≡ (lru_saver N).flushed t) where
  zero : refusal N t (calling (Ask.flush N.m)) ≡ 0
  zero = (lru-flush-0 N t area e).0

  pub writable : Writable b a bs area
  unfolding too_short
  writable =
      let f = lru-found N t zero in
      let p : Passes (numbers_of b) (lent b disk flash a bs k) = subst₂ Passes (sym numbers) (sym after) (served-passes N t (Ask.flush N.m) zero) in
      let m = most b (ap unfit numbers ∙ f.fit) in
      let n1 : b.held ≤ b.rows = (addresses-good b.blocks b.rows b.held a p.addresses).few in
      let t1 : b.limit ≤ b.rows = (limit-fits (numbers_of b) (ap limit_outside numbers ∙ f.limit)).1 in
      let m1 = m.rows in
      let long : length (body_of (lru_fields N t)) ≡ long_of b
      = lru-length N t f ∙ ap₂ {C = ℕ} (λ x y. 92 + x * 40 + y * 40) (sym (ap (λ n. n.m) numbers)) (sym (ap (λ n. n.d) numbers)) in
      record {
        size = m.size;
        blocks-most = m.blocks;
        rows = m.rows;
        slots = m.slots;
        held = omega arith;
        limit = omega arith;
        label = ap (λ n. length n.label) numbers ∙ f.label;
        addresses-long = p.lengths.addresses;
        blocks-long = p.lengths.blocks;
        room = subst (λ j. 64 + writes_for j * 64 ≤ length area) long (ltb-false (length area) _ (lru-flush-0 N t area e).1);
      }

  pub image-is : applied (save_writes (box_body b a bs)) area ≡ applied (save_writes (body_of (lru_fields N ((lru_saver N).flushed t)))) area
  image-is = ap (λ x. applied (save_writes (body_of x)) area) (ap₂ {C = Fields} lru_fields numbers after)

-- ---- in turn

pub save-refused : (b : BoxRecord) (c : Code.Counters) (disk flash a bs area : List ℕ) (r : Refusal)
    → code r ≡ save_refusal (lru_saver (numbers_of b)) (lent b disk flash a bs (counters_of c)) area
    → told (record { answer = Err r; box_record = b; counters = c }) disk flash a bs area ≡ saved_by b (lent b disk flash a bs (counters_of c)) area
save-refused b c disk flash a bs area r e =
    let t = lent b disk flash a bs (counters_of c) in
    (λ i. record { numbers = numbers_of b; saved = record { answer = refused (e i); lent = t; area = area } })
    ∙ ap (λ s. record { numbers = numbers_of b; saved = s }) (sym (save-keeps (lru_saver (numbers_of b)) t area (λ z. Refusals.refused r (e ∙ z))))

-- the flush's outcome r
module _ (b : BoxRecord) (t : Lent) (area : List ℕ) (e : save_refusal (lru_saver (numbers_of b)) t area ≡ 0) (r : Outcome Answered BoxRecord) (disk flash a bs : List ℕ)
    (h : Policy.told r disk flash a bs none ≡ Policy.called b t (Ask.flush b.rows)) where
  n : numbers_of r.box_record ≡ numbers_of b
  n = ap (λ x. x.numbers) h

  l : lent r.box_record disk flash a bs (counters_of r.counters) ≡ (lru_saver (numbers_of b)).flushed t
  l = ap (λ x. x.after.lent) h

  pub writable-after : Writable r.box_record a bs area
  writable-after = writable (numbers_of b) t area e r.box_record disk flash a bs (counters_of r.counters) n l

  pub save-served : (area' : List ℕ) → area' ≡ applied (save_writes (box_body r.box_record a bs)) area → told r disk flash a bs area' ≡ saved_by b t area
  save-served area' w =
      let an = ap (λ x. x.after.answer) h in
      let ar = w ∙ image-is (numbers_of b) t area e r.box_record disk flash a bs (counters_of r.counters) n l in
      (λ i. record { numbers = n i; saved = record { answer = an i; lent = l i; area = ar i } })
      ∙ ap (λ s. record { numbers = numbers_of b; saved = s }) (sym (save-is (lru_saver (numbers_of b)) t area e))
