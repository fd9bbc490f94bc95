-- Numbers that pass 1 are not too large, and memory that passes 1 and 2 has its lengths. By the tests. Assumes nothing.
use Rattle.std.specs.Prelude.{◌≡◌, refl, true, false, not, ◌||◌, List, [], ◌∷◌, ℕ, ◌≤◌, eqb}
use Rattle.std.proofs.Common.{arith, eqb-true}
use Rattle.std.proofs.lemmas.Bool.{not-false}
use Rattle.tables.specs.Unsound.{elem}
use Rattle.paper.specs.KeyedLaws.{All, by-test, clash, or-false-left}
use Rattle.paper.specs.Cache.{Counters}
use Rattle.paper.specs.Lent.{between, unfit, limit_outside, opening, wrong_buffers, refusal}
use Rattle.paper.specs.LentLaws.{Lengths}
use Rattle.paper.proofs.LentLaws.{right-lengths}
use Rattle.paper.proofs.RefusalLaws.{exactly-opening}
use Rattle.paper.proofs.CallLaws.{fits}
use Rattle.parts.specs.declared.BoxRecord.{BoxRecord}
use Rattle.parts.specs.Rep.{numbers_of}
use Rattle.refusals.specs.Given.{lent}
use Rattle.refusals.specs.Checks.{sizes}

elem-most : (m s : ℕ) (xs : List ℕ) → All (λ x. x ≤ m) xs → elem s xs ≡ true → s ≤ m
unfolding elem
elem-most m s [] a = λ e. clash e refl
elem-most m s (x ∷ xs) a = by-test (eqb s x) (λ y. λ e. (let q = eqb-true s x y in let l = a.0 in omega arith)) (λ y. rw y (λ e. elem-most m s xs a.1 e))

-- numbers that pass 1 are not too large
pub record Most (b : BoxRecord) : Type 0 where
  pub size : b.size ≤ 4096
  pub blocks : b.blocks ≤ 65536
  pub rows : b.rows ≤ 1024
  pub slots : b.slots ≤ 256

pub most : (b : BoxRecord) → unfit (numbers_of b) ≡ false → Most b
unfolding unfit
most b h =
    let f = fits (numbers_of b) h in
    let p = not (elem b.size sizes) in
    let q = not (between 1 65536 b.blocks) in
    let r = not (between 1 1024 b.rows) in
    let s = not (between 1 256 b.slots) in
    let e = not-false (elem b.size sizes) (or-false-left p q (or-false-left (p || q) r (or-false-left (p || q || r) s h))) in
    record {
      size = elem-most 4096 b.size sizes (omega arith, (omega arith, (omega arith, (omega arith, (omega arith, (omega arith, (omega arith, tt))))))) e;
      blocks = f.P-most;
      rows = f.m-most;
      slots = f.d-most;
    }

-- what memory that an opening is not refused on is known to be
pub record Opens (b : BoxRecord) (disk flash addresses blocks : List ℕ) (k : Counters) : Type 0 where
  pub fit : unfit (numbers_of b) ≡ false
  pub limit : limit_outside (numbers_of b) ≡ false
  pub right : wrong_buffers (numbers_of b) (lent b disk flash addresses blocks k) ≡ false
  pub most : Most b
  pub lengths : Lengths (numbers_of b) (lent b disk flash addresses blocks k)

pub opens-with : (b : BoxRecord) (disk flash addresses blocks : List ℕ) (k : Counters)
    → refusal (numbers_of b) (lent b disk flash addresses blocks k) opening ≡ 0 → Opens b disk flash addresses blocks k
opens-with b disk flash addresses blocks k e =
    let x = (exactly-opening (numbers_of b) (lent b disk flash addresses blocks k)).gives-0.0 e in
    record {
      fit = x.0;
      limit = x.1.0;
      right = x.1.1.0;
      most = most b x.0;
      lengths = right-lengths (numbers_of b) (lent b disk flash addresses blocks k) x.1.1.0;
    }
