-- What an opening leaves, refused and not. Assumes nothing.
use mathlib.Core.Path.{◌≡◌, refl, sym, ap, ◌∙◌}
use mathlib.Core.Bool.{Bool, true, false, ◌||◌, cond}
use mathlib.Core.List.{List, [], ◌∷◌}
use Prim.Native.Nat.{ℕ, ◌*◌}
use lib.Dec.{eqb}
use lib.ListN.{length, replicate}
use borrow.Author.Tests.{eq-eqb, ne_eqb}
use Rattle.counters.specs.declared.Counters as Code
use Rattle.tables.specs.Rows.{table_bytes, zeros}
use Rattle.tables.specs.Records.{fresh_addresses, fresh_blocks}
use Rattle.paper.specs.Cache.{Numbers, no_counts}
use Rattle.paper.specs.Lent.{Lent, opening, test, first, unfit, limit_outside, other_length, wrong_buffers, refusal, fresh, unopened, opened}
use Rattle.paper.specs.Lent.{label_after}
use Rattle.paper.proofs.RefusalLaws.{refused-opening, opened-is, label-carried, label-zeros}
use Rattle.std.specs.Prelude.{Ok, Err}
use Rattle.outcome.specs.declared.Outcome.{Outcome}
use Rattle.refusal.specs.declared.Refusal.{Refusal}
use Rattle.refusal.specs.Numbers.{code}
use Rattle.refusal.specs.Numbers as Refusals
use Rattle.parts.specs.declared.BoxRecord.{BoxRecord}
use Rattle.parts.specs.Rep.{numbers_of, empty_box}
use Rattle.refusals.specs.Given.{counters_of, lent}
use Rattle.open.specs.Contract.{begun, opens}

-- of 1, 12 and 2, the label's length is what an opening looks at last
last : (u l x y : Bool) → let a = first (test u 1 ∷ test l 12 ∷ test (x || false) 2 ∷ []) in
    first (test u 1 ∷ test l 12 ∷ test (x || y) 2 ∷ []) ≡ cond (eqb a 0) (cond y 2 0) a
last true l x y = refl
last false true x y = refl
last false false true y = refl
last false false false true = refl
last false false false false = refl

module _ (size blocks rows slots limit : ℕ) (label disk flash addresses table : List ℕ) (c : Code.Counters) where
  -- the record with the label given, and with one of zeros
  abbrev given : BoxRecord
  given = empty_box size blocks rows slots limit label

  abbrev pub zeroed : BoxRecord
  zeroed = empty_box size blocks rows slots limit (replicate 64 0)

  abbrev N : Numbers
  N = numbers_of given

  abbrev t : Lent
  t = lent given disk flash addresses table (counters_of c)

  by-label : let a = refusal (numbers_of zeroed) t opening in refusal N t opening ≡ cond (eqb a 0) (cond (other_length label 64) 2 0) a
  unfolding refusal unfit wrong_buffers
  by-label =
      last (unfit N) (limit_outside N)
      (other_length disk (blocks * size) || other_length flash (slots * size) || other_length addresses (table_bytes rows) || other_length table (table_bytes slots))
      (other_length label 64)

  module _ (no : ℕ) (e : no ≡ refusal (numbers_of zeroed) t opening) where
    pub number-kept : (no ≡ 0 → ⊥) → no ≡ refusal N t opening
    number-kept n = e ∙ sym (by-label ∙ rw (ne_eqb (refusal (numbers_of zeroed) t opening) 0 (λ z. n (e ∙ z))) refl)

    pub number-two : no ≡ 0 → (length label ≡ 64 → ⊥) → 2 ≡ refusal N t opening
    number-two z n = sym (by-label ∙ rw (sym e ∙ z, ne_eqb (length label) 64 n) refl)

    pub number-none : no ≡ 0 → length label ≡ 64 → refusal N t opening ≡ 0
    number-none z l = by-label ∙ rw (sym e ∙ z, eq-eqb (length label) 64 l) refl

  pub opening-refused : (b : BoxRecord) → b ≡ zeroed → (r : Outcome (Unit {0}) BoxRecord) (q : Refusal) → r ≡ record { answer = Err q; box_record = b; counters = c }
      → code q ≡ refusal N t opening → begun r disk flash addresses table ≡ opens given disk flash addresses table (counters_of c)
  unfolding unopened zeros
  opening-refused b m r q er e =
      let z : refusal N t opening ≡ 0 → ⊥ = λ y. Refusals.refused q (e ∙ y) in
      let l : t ≡ opened N t = sym (refused-opening N t z) in
      let s : replicate 64 0 ≡ label_after N t = sym (label-zeros N t z) in
      ap (λ (x : Outcome (Unit {0}) BoxRecord). begun x disk flash addresses table) (er ∙ ap (λ (x : BoxRecord). record { answer = Err q; box_record = x; counters = c }) m)
      ∙ (λ i. record { number = e i; numbers = record { B = size; P = blocks; m = rows; d = slots; label = s i; t = limit }; lent = l i })

  pub opening-done : refusal N t opening ≡ 0 → (b : BoxRecord) → b ≡ given → (addresses' table' : List ℕ) (c' : Code.Counters)
      → addresses' ≡ fresh_addresses rows → table' ≡ fresh_blocks slots → c' ≡ record { reads = 0; hits = 0; flash = 0; primary = 0 }
      → begun (record { answer = Ok tt; box_record = b; counters = c' }) disk flash addresses' table' ≡ opens given disk flash addresses table (counters_of c)
  unfolding fresh
  opening-done z b eb addresses' table' c' ea et ec =
      let k : counters_of c' ≡ no_counts = ap counters_of ec in
      let f : lent given disk flash addresses' table' (counters_of c') ≡ fresh N t
      = λ i. record { n = 0; disk = disk; flash = flash; addresses = ea i; blocks = et i; counters = k i } in
      let l : lent given disk flash addresses' table' (counters_of c') ≡ opened N t = f ∙ sym (opened-is N t z) in
      let s : label ≡ label_after N t = sym (label-carried N t z) in
      ap (λ (x : BoxRecord). begun (record { answer = Ok tt; box_record = x; counters = c' }) disk flash addresses' table') eb
      ∙ (λ i. record { number = sym z i; numbers = record { B = size; P = blocks; m = rows; d = slots; label = s i; t = limit }; lent = l i })
