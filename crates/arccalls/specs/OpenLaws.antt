-- What an opening leaves, refused and not. Assumes nothing.
use Rattle.std.specs.Prelude.{◌≡◌, refl, Bool, true, ◌||◌, cond, List, [], ◌∷◌, ℕ, ◌*◌, length, Ok, Err}
use Rattle.std.proofs.Math.Path.{sym, ap}
use Rattle.std.proofs.Common.{◌∙◌}
use Rattle.std.proofs.Math.Bool.{false}
use Rattle.std.proofs.Math.Dec.{eqb}
use Rattle.std.proofs.Math.ListN.{replicate}
use borrow.Author.Tests.{eq-eqb, ne_eqb}
use Rattle.counters.specs.declared.Counters as Code
use Rattle.tables.specs.Rows.{table_bytes, zeros}
use Rattle.tables.specs.Records.{fresh_addresses, fresh_blocks}
use Rattle.paper.specs.Cache.{no_counts}
use Rattle.paper.specs.Lent.{opening, test, first, limit_outside, other_length, wrong_buffers, fresh, unopened}
use Rattle.arc.specs.Arc.{Sizes, m_of, base_numbers}
use Rattle.arc.specs.ArcLent.{ArcLent, unfit_arc, arc_refusal, arc_opened, arc_label_after}
use Rattle.outcome.specs.declared.Outcome.{Outcome}
use Rattle.refusal.specs.declared.Refusal.{Refusal}
use Rattle.refusal.specs.Numbers.{code}
use Rattle.refusal.specs.Numbers as Refusals
use Rattle.refusals.specs.Given.{counters_of}
use Rattle.arcrefusals.specs.declared.ArcRecord.{ArcRecord}
use Rattle.arcrefusals.specs.Given.{sizes_of, arc_lent}
use Rattle.arcrefusals.specs.Checks.{Fits}
use Rattle.arcrefusals.specs.CallLaws.{opens-with}
use Rattle.arccalls.specs.Contract.{empty_arc, relabelled, arc_begun, arc_opens}

-- counters that have counted nothing
abbrev none-counted : Code.Counters
none-counted = record { reads = 0; hits = 0; flash = 0; primary = 0 }

-- of 11, 12 and 2, the label's length can be looked at last
last : (u l x y z : Bool) → let a = first (test u 11 ∷ test l 12 ∷ test (x || false || z) 2 ∷ []) in
    first (test u 11 ∷ test l 12 ∷ test (x || y || z) 2 ∷ []) ≡ cond (eqb a 0) (cond y 2 0) a
last true l x y z = refl
last false true x y z = refl
last false false true y z = refl
last false false false true true = refl
last false false false true false = refl
last false false false false true = refl
last false false false false false = refl

module _ (size blocks cached extra limit : ℕ) (label disk flash addresses table lists : List ℕ) (c : Code.Counters) where
  -- the record with the label given, and with one of zeros
  abbrev given : ArcRecord
  given = empty_arc size blocks cached extra limit label

  abbrev pub zeroed : ArcRecord
  zeroed = empty_arc size blocks cached extra limit (replicate 64 0)

  abbrev Z : Sizes
  Z = sizes_of given

  abbrev t : ArcLent
  t = arc_lent given disk flash addresses table lists (counters_of c)

  by-label : let a = arc_refusal (sizes_of zeroed) t opening in arc_refusal Z t opening ≡ cond (eqb a 0) (cond (other_length label 64) 2 0) a
  unfolding arc_refusal unfit_arc wrong_buffers
  by-label =
      last (unfit_arc Z) (limit_outside (base_numbers Z))
      (other_length disk (blocks * size) || other_length flash (cached * size) || other_length addresses (table_bytes (m_of Z))
      || other_length table (table_bytes cached))
      (other_length label 64) (other_length lists (m_of Z * 4))

  -- the number of the check, of the record that was made
  module _ (a : ArcRecord) (ea : a ≡ zeroed) (no : ℕ)
      (en : no ≡ arc_refusal (sizes_of a) (arc_lent a disk flash addresses table lists (counters_of c)) opening) where
    number_is : no ≡ arc_refusal (sizes_of zeroed) t opening
    number_is = en ∙ ap (λ (x : ArcRecord). arc_refusal (sizes_of x) (arc_lent x disk flash addresses table lists (counters_of c)) opening) ea

    pub number-kept : (no ≡ 0 → ⊥) → no ≡ arc_refusal Z t opening
    number-kept n =
        let e = number_is in
        e ∙ sym (by-label ∙ rw (ne_eqb (arc_refusal (sizes_of zeroed) t opening) 0 (λ z. n (e ∙ z))) refl)

    pub number-two : no ≡ 0 → (length label ≡ 64 → ⊥) → 2 ≡ arc_refusal Z t opening
    number-two z n = sym (by-label ∙ rw (sym number_is ∙ z, ne_eqb (length label) 64 n) refl)

    pub number-none : no ≡ 0 → length label ≡ 64 → arc_refusal Z t opening ≡ 0
    number-none z l = by-label ∙ rw (sym number_is ∙ z, eq-eqb (length label) 64 l) refl

    pub fits-are : no ≡ 0 → Fits a addresses table lists
    fits-are z = (opens-with a disk flash addresses table lists (counters_of c) (sym en ∙ z)).fits

  pub opening-refused : (a : ArcRecord) → a ≡ zeroed → (r : Outcome (Unit {0}) ArcRecord) (q : Refusal)
      → r ≡ record { answer = Err q; box_record = a; counters = c }
      → code q ≡ arc_refusal Z t opening → arc_begun r disk flash addresses table lists ≡ arc_opens given t
  unfolding unopened zeros arc_opened arc_label_after
  opening-refused a ea r q er e =
      let z : eqb (arc_refusal Z t opening) 0 ≡ false = ne_eqb (arc_refusal Z t opening) 0 (λ y. Refusals.refused q (e ∙ y)) in
      let l : t ≡ arc_opened Z t = sym (rw (z, arc_opened) refl) in
      let s : replicate 64 0 ≡ arc_label_after Z t = sym (rw (z, arc_label_after) refl) in
      ap (λ (x : Outcome (Unit {0}) ArcRecord). arc_begun x disk flash addresses table lists)
      (er ∙ ap (λ (x : ArcRecord). record { answer = Err q; box_record = x; counters = c }) ea)
      ∙ (λ i. record { number = e i; numbers = record { B = size; P = blocks; C = cached; X = extra; label = s i; t = limit }; lent = l i })

  pub opening-done : arc_refusal Z t opening ≡ 0 → (a : ArcRecord) → a ≡ zeroed → (addresses' table' lists' : List ℕ)
      → addresses' ≡ fresh_addresses (m_of (sizes_of a)) → table' ≡ fresh_blocks a.sizes.cached → lists' ≡ zeros (m_of (sizes_of a) * 4)
      → (r : Outcome (Unit {0}) ArcRecord) → r ≡ record { answer = Ok tt; box_record = relabelled a label; counters = none-counted }
      → arc_begun r disk flash addresses' table' lists' ≡ arc_opens given t
  unfolding fresh arc_opened arc_label_after
  opening-done z a ea addresses' table' lists' xa xt xl r er =
      let ma : addresses' ≡ fresh_addresses (m_of Z) = xa ∙ ap (λ (x : ArcRecord). fresh_addresses (m_of (sizes_of x))) ea in
      let mt : table' ≡ fresh_blocks cached = xt ∙ ap (λ (x : ArcRecord). fresh_blocks x.sizes.cached) ea in
      let ml : lists' ≡ zeros (m_of Z * 4) = xl ∙ ap (λ (x : ArcRecord). zeros (m_of (sizes_of x) * 4)) ea in
      let l : record { base = fresh (base_numbers Z) t.base; sizes = t.sizes; lists = zeros (m_of Z * 4) } ≡ arc_opened Z t = sym (rw (z, arc_opened) refl) in
      let s : label ≡ arc_label_after Z t = sym (rw (z, arc_label_after) refl) in
      let f : arc_lent given disk flash addresses' table' lists' no_counts ≡ arc_opened Z t
      = (λ i. arc_lent given disk flash (ma i) (mt i) (ml i) no_counts) ∙ l in
      ap (λ (x : Outcome (Unit {0}) ArcRecord). arc_begun x disk flash addresses' table' lists')
      (er ∙ ap (λ (x : ArcRecord). record { answer = Ok tt; box_record = relabelled x label; counters = none-counted }) ea)
      ∙ (λ i. record { number = sym z i; numbers = record { B = size; P = blocks; C = cached; X = extra; label = s i; t = limit }; lent = f i })
