-- The refusals: what the checks, in their order, say of the number of a refusal. Assumes nothing.
use mathlib.Core.Path.{◌≡◌, refl}
use mathlib.Core.Bool.{Bool, true, false, not, ◌||◌, cond}
use mathlib.Core.List.{List, [], ◌∷◌}
use Prim.Native.Nat.{ℕ, ◌*◌, ◌≤◌}
use native.Mathlib.Omega.{arith}
use lib.Dec.{eqb, leb}
use lib.ListN.{length, drop}
use borrow.Author.Tests.{eq-eqb, ne_eqb, le-leb}
use Rattle.tables.specs.Sound.{addresses_fit, blocks_fit}
use Rattle.tables.specs.Unsound.{elem, addresses_unsound, blocks_unsound, dirty_uncached}
use Rattle.paper.specs.KeyedLaws.{by-test}
use Rattle.paper.specs.Cache.{Numbers, Counters}
use Rattle.paper.specs.Lent.{Lent, Ask, opening, calling, lent_block, unfit, limit_outside, other_length, wrong_buffers, wrong_block, box_in, over}
use Rattle.paper.specs.Lent.{Test, test, first, tests, refusal}
use Rattle.paper.specs.Reports.{Reader, width, report_tests, report_refusal}
use Rattle.paper.proofs.SoundTestsLaws.{addresses-good}
use Rattle.tables.specs.Records.{held_rows}
use Rattle.paper.specs.BatchLent.{bad_count, any_outside, batch_tests, batch_refusal}
use Rattle.parts.specs.declared.BoxRecord.{BoxRecord}
use Rattle.parts.specs.Rep.{numbers_of}
use Rattle.refusals.specs.Given.{lent}
use Rattle.refusals.specs.Sizes.{Opens}
use Rattle.refusals.specs.Checks.{wrong_lengths, sound_refusal, over_in, tables_refusal, state_refusal, list_refusal}
use Rattle.tables.specs.Rows.{table_bytes}

-- a number in a list, by its first element
pub elem-yes : (s x : ℕ) (xs : List ℕ) → s ≡ x → true ≡ elem s (x ∷ xs)
unfolding elem
elem-yes s x xs e = rw (eq-eqb s x e) refl

pub elem-no : (s x : ℕ) (xs : List ℕ) (z : Bool) → (s ≡ x → ⊥) → z ≡ elem s xs → z ≡ elem s (x ∷ xs)
unfolding elem
elem-no s x xs z n e = rw (ne_eqb s x n) e

pub elem-last : (s x : ℕ) → eqb s x ≡ elem s (x ∷ [])
unfolding elem
elem-last s x = by-test (eqb s x) (λ e. rw e refl) (λ e. rw e refl)

-- the two ways to say refusal 2 of the four buffers: a record's label has its length
pub wrong-is : (b : BoxRecord) (disk flash addresses blocks : List ℕ) (k : Counters) → length b.label ≡ 64
    → wrong_lengths b (length disk) (length flash) (length addresses) (length blocks) ≡ wrong_buffers (numbers_of b) (lent b disk flash addresses blocks k)
unfolding wrong_lengths wrong_buffers
wrong-is b disk flash addresses blocks k l =
    rw (eq-eqb (length b.label) 64 l) (or-none (wrong_lengths b (length disk) (length flash) (length addresses) (length blocks)))
  where
    or-none : (x : Bool) → x ≡ (x || false)
    or-none true = refl
    or-none false = refl

-- a number that an opening gets, whatever makes its tests first gets too
opening-first : (N : Numbers) (t : Lent) (more : Bool) (rest : List Test) → (refusal N t opening ≡ 0 → ⊥)
    → refusal N t opening ≡ first (test (unfit N) 1 ∷ test (limit_outside N) 12 ∷ test (wrong_buffers N t || more) 2 ∷ rest)
unfolding refusal
opening-first N t more rest n =
    by-test (unfit N)
    (λ e. rw e refl)
    (λ e. by-test (limit_outside N)
    (λ l. rw (e, l) refl)
    (λ l. by-test (wrong_buffers N t) (λ f. rw (e, l, f) refl) (λ f. absurd (n (rw (e, l, f) refl)))))

-- a call, a folder read, a report
pub refused-first : (N : Numbers) (t : Lent) (q : Ask) → (refusal N t opening ≡ 0 → ⊥) → refusal N t opening ≡ refusal N t (calling q)
unfolding refusal
refused-first N t q n = opening-first N t (wrong_block N.B (lent_block q)) (drop 3 (tests N t (calling q))) n

pub many-first : (N : Numbers) (t : Lent) (l buffer : List ℕ) → (refusal N t opening ≡ 0 → ⊥) → refusal N t opening ≡ batch_refusal N t l buffer
unfolding batch_refusal
many-first N t l buffer n = opening-first N t (other_length buffer (length l * N.B)) (drop 3 (batch_tests N t l buffer)) n

pub report-first : (N : Numbers) (t : Lent) (w : Reader) (report : List ℕ) → (refusal N t opening ≡ 0 → ⊥) → refusal N t opening ≡ report_refusal N t w report
unfolding report_refusal
report-first N t w report n = opening-first N t (other_length report (N.m * width w)) (drop 3 (report_tests N t w report)) n

-- 6, 7 and 8, of tables that the checks can be run on
pub tables-are : (b : BoxRecord) (addresses blocks : List ℕ) → b.blocks ≤ 65536 → b.rows ≤ 1024 → b.slots ≤ 256 → length addresses ≡ table_bytes b.rows → length blocks ≡ table_bytes b.slots
    → cond (not (addresses_fit b.blocks b.rows addresses) || addresses_unsound b.blocks b.rows b.held addresses) 6 (cond (not (blocks_fit b.slots blocks) || blocks_unsound b.slots blocks) 7 (cond (dirty_uncached b.held b.slots addresses blocks) 8 0))
    ≡ sound_refusal b addresses blocks
unfolding addresses_fit blocks_fit sound_refusal
tables-are b addresses blocks p r d la lb =
    rw (le-leb b.blocks 65536 p, le-leb b.rows 1024 r, le-leb b.slots 256 d, eq-eqb (length addresses) (table_bytes b.rows) la, eq-eqb (length blocks) (table_bytes b.slots) lb) refl

-- 13 comes after them, and then 9
pub tables-sound : (b : BoxRecord) (addresses blocks : List ℕ) → (sound_refusal b addresses blocks ≡ 0 → ⊥) → sound_refusal b addresses blocks ≡ tables_refusal b addresses blocks
unfolding sound_refusal tables_refusal
tables-sound b addresses blocks n =
    by-test (addresses_unsound b.blocks b.rows b.held addresses)
    (λ e. rw e refl)
    (λ e. by-test (blocks_unsound b.slots blocks)
    (λ f. rw (e, f) refl)
    (λ f. by-test (dirty_uncached b.held b.slots addresses blocks)
    (λ g. rw (e, f, g) refl)
    (λ g. absurd (n (rw (e, f, g) refl)))))

pub tables-limit : (b : BoxRecord) (addresses blocks : List ℕ) → sound_refusal b addresses blocks ≡ 0 → cond (over_in b addresses) 13 0 ≡ tables_refusal b addresses blocks
unfolding sound_refusal tables_refusal
tables-limit b addresses blocks =
    by-test (addresses_unsound b.blocks b.rows b.held addresses)
    (λ e. rw e (λ z. absurd (omega arith)))
    (λ e. by-test (blocks_unsound b.slots blocks)
    (λ f. rw (e, f) (λ z. absurd (omega arith)))
    (λ f. by-test (dirty_uncached b.held b.slots addresses blocks)
    (λ g. rw (e, f, g) (λ z. absurd (omega arith)))
    (λ g. rw (e, f, g) (λ z. refl))))

-- tables that pass 6 have the rows that are held
pub held-fit : (b : BoxRecord) (addresses blocks : List ℕ) → sound_refusal b addresses blocks ≡ 0 → b.held ≤ b.rows
unfolding sound_refusal
held-fit b addresses blocks =
    by-test (addresses_unsound b.blocks b.rows b.held addresses)
    (λ e. rw e (λ z. absurd (omega arith)))
    (λ e z. (addresses-good b.blocks b.rows b.held addresses e).few)

pub state-tables : (b : BoxRecord) (addresses blocks : List ℕ) (k : Counters) → (tables_refusal b addresses blocks ≡ 0 → ⊥) → tables_refusal b addresses blocks ≡ state_refusal b addresses blocks k
unfolding tables_refusal state_refusal
state-tables b addresses blocks k n =
    by-test (addresses_unsound b.blocks b.rows b.held addresses)
    (λ e. rw e refl)
    (λ e. by-test (blocks_unsound b.slots blocks)
    (λ f. rw (e, f) refl)
    (λ f. by-test (dirty_uncached b.held b.slots addresses blocks)
    (λ g. rw (e, f, g) refl)
    (λ g. by-test (over_in b addresses) (λ o. rw (e, f, g, o) refl) (λ o. absurd (n (rw (e, f, g, o) refl))))))

pub state-counters : (b : BoxRecord) (addresses blocks : List ℕ) (k : Counters) → tables_refusal b addresses blocks ≡ 0 → cond (over k) 9 0 ≡ state_refusal b addresses blocks k
unfolding tables_refusal state_refusal
state-counters b addresses blocks k =
    by-test (addresses_unsound b.blocks b.rows b.held addresses)
    (λ e. rw e (λ z. absurd (omega arith)))
    (λ e. by-test (blocks_unsound b.slots blocks)
    (λ f. rw (e, f) (λ z. absurd (omega arith)))
    (λ f. by-test (dirty_uncached b.held b.slots addresses blocks)
    (λ g. rw (e, f, g) (λ z. absurd (omega arith)))
    (λ g. by-test (over_in b addresses) (λ o. rw (e, f, g, o) (λ z. absurd (omega arith))) (λ o. rw (e, f, g, o) (λ z. refl)))))

-- what is left of a refusal where 1, 12, 2 and 3 are passed
module _ (b : BoxRecord) (disk flash addresses blocks : List ℕ) (k : Counters) (o : Opens b disk flash addresses blocks k) where
  pub access-rest : (a : ℕ) (l : List ℕ) → length l ≡ b.size → leb b.blocks a ≡ false → state_refusal b addresses blocks k ≡ refusal (numbers_of b) (lent b disk flash addresses blocks k) (calling (Ask.read a l))
  unfolding refusal state_refusal box_in held_rows
  access-rest a l e p = rw (o.fit, o.limit, o.right, eq-eqb (length l) b.size e, p) refl

  -- a look has no 9, a flush no 3
  pub look-rest : (a : ℕ) → leb b.blocks a ≡ false → tables_refusal b addresses blocks ≡ refusal (numbers_of b) (lent b disk flash addresses blocks k) (calling (Ask.look a))
  unfolding refusal tables_refusal box_in held_rows
  look-rest a p = rw (o.fit, o.limit, o.right, p) refl

  pub flush-rest : (n : ℕ) → state_refusal b addresses blocks k ≡ refusal (numbers_of b) (lent b disk flash addresses blocks k) (calling (Ask.flush n))
  unfolding refusal state_refusal box_in held_rows
  flush-rest n = rw (o.fit, o.limit, o.right) refl

  -- 2 for the lent block, and 3
  pub access-2 : (a : ℕ) (l : List ℕ) → (length l ≡ b.size → ⊥) → 2 ≡ refusal (numbers_of b) (lent b disk flash addresses blocks k) (calling (Ask.read a l))
  unfolding refusal
  access-2 a l n = rw (o.fit, o.limit, o.right, ne_eqb (length l) b.size n) refl

  pub access-3 : (a : ℕ) (l : List ℕ) → length l ≡ b.size → leb b.blocks a ≡ true → 3 ≡ refusal (numbers_of b) (lent b disk flash addresses blocks k) (calling (Ask.read a l))
  unfolding refusal
  access-3 a l e p = rw (o.fit, o.limit, o.right, eq-eqb (length l) b.size e, p) refl

  pub look-3 : (a : ℕ) → leb b.blocks a ≡ true → 3 ≡ refusal (numbers_of b) (lent b disk flash addresses blocks k) (calling (Ask.look a))
  unfolding refusal
  look-3 a p = rw (o.fit, o.limit, o.right, p) refl

-- ---- a folder read

module _ (b : BoxRecord) (disk flash addresses blocks : List ℕ) (k : Counters) (o : Opens b disk flash addresses blocks k) (l buffer : List ℕ) where
  abbrev number : ℕ
  number = batch_refusal (numbers_of b) (lent b disk flash addresses blocks k) l buffer

  pub many-list : (list_refusal b l (length buffer) ≡ 0 → ⊥) → list_refusal b l (length buffer) ≡ number
  unfolding list_refusal batch_refusal
  many-list n =
      rw (o.fit, o.limit, o.right)
      (by-test (eqb (length buffer) (length l * b.size))
      (λ e. by-test (bad_count l)
      (λ f. rw (e, f) refl)
      (λ f. by-test (any_outside b.blocks l) (λ g. rw (e, f, g) refl) (λ g. absurd (n (rw (e, f, g) refl)))))
      (λ e. rw e refl))

  pub many-rest : list_refusal b l (length buffer) ≡ 0 → state_refusal b addresses blocks k ≡ number
  unfolding list_refusal state_refusal batch_refusal box_in held_rows
  many-rest =
      rw (o.fit, o.limit, o.right)
      (by-test (eqb (length buffer) (length l * b.size))
      (λ e. by-test (bad_count l)
      (λ f. rw (e, f) (λ y. absurd (omega arith)))
      (λ f. by-test (any_outside b.blocks l) (λ g. rw (e, f, g) (λ y. absurd (omega arith))) (λ g. rw (e, f, g) (λ y. refl))))
      (λ e. rw e (λ y. absurd (omega arith))))
