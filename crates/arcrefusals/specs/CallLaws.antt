-- The number of a call from its parts. Assumes nothing.
use Rattle.std.specs.Prelude.{◌≡◌, Bool, true, false, ◌||◌, cond, List, [], ◌∷◌, ◌++◌, ℕ, ◌*◌, ◌≤◌, eqb, leb, length, drop}
use Rattle.std.proofs.Math.Path.{refl}
use Rattle.std.proofs.Common.{arith}
use borrow.Author.Tests.{eq-eqb, ne_eqb, eqb-true, not-false}
use Rattle.paper.specs.KeyedLaws.{All, by-test, or-false-left, or-false-right}
use Rattle.paper.specs.Cache.{Counters}
use Rattle.paper.specs.Lent.{Ask, opening, calling, limit_outside, other_length, wrong_buffers, wrong_block, lent_block, over, Test, test, first}
use Rattle.paper.proofs.LentLaws.{right-lengths}
use Rattle.arc.specs.Arc.{Sizes, m_of, base_numbers}
use Rattle.arc.specs.ArcLent.{ArcLent, unfit_arc, wrong_arc_buffers, arc_table_tests, arc_tests, arc_refusal}
use Rattle.arc.proofs.ArcDemandLaws.{arc-fits}
use Rattle.arc.proofs.ArcExactlyLaws.{arc-exactly-opening}
use Rattle.arcrefusals.specs.declared.ArcRecord.{ArcRecord}
use Rattle.arcrefusals.specs.Given.{sizes_of, arc_lent}
use Rattle.arcrefusals.specs.Checks.{Fits}

-- a number that some tests give, they give before others too; where they give none, the others follow
pub first_more : (l rest : List Test) → (first l ≡ 0 → ⊥) → first l ≡ first (l ++ rest)
first_more [] rest = λ n. absurd (n refl)
first_more (x ∷ xs) rest = by-test x.holds (λ e. rw e (λ n. refl)) (λ e. rw e (λ n. first_more xs rest n))

pub first_rest : (l rest : List Test) → All (λ x. 1 ≤ x.number) l → first l ≡ 0 → first rest ≡ first (l ++ rest)
first_rest [] rest a = λ z. refl
first_rest (x ∷ xs) rest a =
    by-test x.holds (λ e. rw e (λ z. let h = a.0 in absurd (omega (arith, h, z)))) (λ e. rw e (λ z. first_rest xs rest a.1 z))

-- 9 comes after the tables and the lists
module _ (Z : Sizes) (t : ArcLent) (k : Counters) where
  pub state-tables : (first (arc_table_tests Z t []) ≡ 0 → ⊥) → first (arc_table_tests Z t []) ≡ first (arc_table_tests Z t (test (over k) 9 ∷ []))
  state-tables n = first_more (arc_table_tests Z t []) (test (over k) 9 ∷ []) n

  pub state-counters : first (arc_table_tests Z t []) ≡ 0 → cond (over k) 9 0 ≡ first (arc_table_tests Z t (test (over k) 9 ∷ []))
  state-counters e = first_rest (arc_table_tests Z t []) (test (over k) 9 ∷ []) (omega arith, (omega arith, (omega arith, (omega arith, tt)))) e

module _ (a : ArcRecord) (disk flash addresses blocks lists : List ℕ) (k : Counters) where
  abbrev Z : Sizes
  Z = sizes_of a

  abbrev t : ArcLent
  t = arc_lent a disk flash addresses blocks lists k

  -- a number that an opening gets, whatever makes its tests first gets too
  pub opening-first : (more : Bool) (rest : List Test) → (arc_refusal Z t opening ≡ 0 → ⊥)
      → arc_refusal Z t opening ≡ first (test (unfit_arc Z) 11 ∷ test (limit_outside (base_numbers Z)) 12 ∷ test (wrong_arc_buffers Z t || more) 2 ∷ rest)
  unfolding arc_refusal
  opening-first more rest n =
      by-test (unfit_arc Z)
      (λ e. rw e refl)
      (λ e. by-test (limit_outside (base_numbers Z))
      (λ l. rw (e, l) refl)
      (λ l. by-test (wrong_arc_buffers Z t) (λ f. rw (e, l, f) refl) (λ f. absurd (n (rw (e, l, f) refl)))))

  pub refused-first : (q : Ask) → (arc_refusal Z t opening ≡ 0 → ⊥) → arc_refusal Z t opening ≡ arc_refusal Z t (calling q)
  unfolding arc_refusal
  refused-first q n = opening-first (wrong_block Z.B (lent_block q)) (drop 3 (arc_tests Z t (calling q))) n

  -- what memory that an opening is not refused on is known to be
  pub record Opens : Type 0 where
    pub fit : unfit_arc Z ≡ false
    pub limit : limit_outside (base_numbers Z) ≡ false
    pub right : wrong_arc_buffers Z t ≡ false
    pub fits : Fits a addresses blocks lists

  pub opens-with : arc_refusal Z t opening ≡ 0 → Opens
  opens-with e =
      let x = (arc-exactly-opening Z t).gives-0.0 e in
      let f = arc-fits Z x.0 in
      let r = x.1.1.0 in
      let w = wrong_buffers (base_numbers Z) t.base in
      let o = other_length lists (m_of Z * 4) in
      let l = right-lengths (base_numbers Z) t.base (or-false-left w o r) in
      record {
        fit = x.0;
        limit = x.1.0;
        right = r;
        fits = record {
          disk-most = f.P-most;
          cached-most = f.C-most;
          rows-most = f.m-most;
          addresses-are = l.addresses;
          blocks-are = l.blocks;
          lists-are = eqb-true (length lists) (m_of Z * 4) (not-false (eqb (length lists) (m_of Z * 4)) (or-false-right w o r));
        };
      }

  -- what is left of a number where 11, 12, 2 and 3 are passed; a look has no 9, a flush no 3
  module _ (o : Opens) where
    pub access-rest : (x : ℕ) (l : List ℕ) → length l ≡ a.size → leb a.blocks x ≡ false
        → first (arc_table_tests Z t (test (over k) 9 ∷ [])) ≡ arc_refusal Z t (calling (Ask.read x l))
    unfolding arc_refusal
    access-rest x l e p = rw (o.fit, o.limit, o.right, eq-eqb (length l) a.size e, p) refl

    pub look-rest : (x : ℕ) → leb a.blocks x ≡ false → first (arc_table_tests Z t []) ≡ arc_refusal Z t (calling (Ask.look x))
    unfolding arc_refusal
    look-rest x p = rw (o.fit, o.limit, o.right, p) refl

    pub flush-rest : (n : ℕ) → first (arc_table_tests Z t (test (over k) 9 ∷ [])) ≡ arc_refusal Z t (calling (Ask.flush n))
    unfolding arc_refusal
    flush-rest n = rw (o.fit, o.limit, o.right) refl

    -- 2 for the lent block, and 3
    pub access-2 : (x : ℕ) (l : List ℕ) → (length l ≡ a.size → ⊥) → 2 ≡ arc_refusal Z t (calling (Ask.read x l))
    unfolding arc_refusal
    access-2 x l n = rw (o.fit, o.limit, o.right, ne_eqb (length l) a.size n) refl

    pub access-3 : (x : ℕ) (l : List ℕ) → length l ≡ a.size → leb a.blocks x ≡ true → 3 ≡ arc_refusal Z t (calling (Ask.read x l))
    unfolding arc_refusal
    access-3 x l e p = rw (o.fit, o.limit, o.right, eq-eqb (length l) a.size e, p) refl

    pub look-3 : (x : ℕ) → leb a.blocks x ≡ true → 3 ≡ arc_refusal Z t (calling (Ask.look x))
    unfolding arc_refusal
    look-3 x p = rw (o.fit, o.limit, o.right, p) refl

-- a write is refused as a read is
module _ (Z : Sizes) (t : ArcLent) (x : ℕ) (l : List ℕ) (seat : ℕ) where
  abbrev as_read : ℕ
  as_read = arc_refusal Z t (calling (Ask.read x l))

  pub write-as-read : (arc_refusal Z t (calling (Ask.through x l seat)) ≡ as_read) × (arc_refusal Z t (calling (Ask.back x l seat)) ≡ as_read)
      × (arc_refusal Z t (calling (Ask.invalidate x l seat)) ≡ as_read)
  unfolding arc_refusal
  write-as-read = (refl, refl, refl)
