-- A folder read that is not refused, from what its refusal says and what its turns leave. Assumes nothing.
use Rattle.std.specs.Prelude.{◌≡◌, refl, false, List, [], ◌∷◌, ℕ, zero, suc, ◌+◌, ◌*◌, ◌<◌, ◌≤◌, ◌^◌, eqb, length, get_or, Ok, Err}
use Rattle.std.proofs.Common.{sym, ◌∙◌, le_of_suc-le-suc, arith, take_all, ne_eqb}
use Rattle.counters.specs.declared.Counters as Code
use Rattle.counters.specs.Added.{added}
use Rattle.parts.specs.declared.BoxRecord.{BoxRecord}
use Rattle.paper.specs.KeyedLaws.{All}
use Rattle.paper.specs.Cache.{Numbers, Counters}
use Rattle.paper.specs.Engine.{Fixed}
use Rattle.paper.specs.Lent.{Lent, over, box_in, lent_of}
use Rattle.paper.specs.RowBytes.{Bytes}
use Rattle.paper.proofs.LentLaws.{passes-sound}
use Rattle.paper.proofs.CallLaws.{not-over}
use Rattle.paper.specs.Layout.{addresses_of, blocks_of}
use Rattle.paper.specs.Batch.{start, batch}
use Rattle.paper.specs.BatchLent.{batch_refusal, batched, served_batch, call_batch}
use Rattle.paper.specs.BatchLentLaws.{Finds}
use Rattle.paper.proofs.BatchLentLaws.{batch-finds, batch-served}
use Rattle.parts.specs.Rep.{numbers_of, with_held, engine}
use Rattle.serve.specs.Calls.{LentSound}
use Rattle.refusals.specs.Given.{counters_of, lent}
use Rattle.turns.specs.declared.Sums.{Sums}
use Rattle.turns.specs.Turns.{Turned}
use Rattle.refusal.specs.declared.Refusal.{Refusal}
use Rattle.refusal.specs.Numbers.{code, refused}
use Rattle.policy.specs.Contract.{ToldMany, told_many, called_many}
use Rattle.policy.specs.CallLaws.{passes-rep}

module _ (b : BoxRecord) (disk flash addresses blocks : List ℕ) (k : Counters) (l buffer : List ℕ)
    (z : batch_refusal (numbers_of b) (lent b disk flash addresses blocks k) l buffer ≡ 0) where
  abbrev pub found : Finds (numbers_of b) (lent b disk flash addresses blocks k) l buffer
  found = batch-finds (numbers_of b) (lent b disk flash addresses blocks k) l buffer z

  abbrev pub sound : Bytes addresses → Bytes blocks → LentSound b disk flash addresses blocks
  sound x y = (
    box_in (numbers_of b) (lent b disk flash addresses blocks k),
    passes-rep b disk flash addresses blocks k found.fits found.passes x y,
    passes-sound (numbers_of b) (lent b disk flash addresses blocks k) found.passes,
  )

  pub within : (j : ℕ) → j < length l → get_or l j 0 < b.blocks
  within = go l found.within
    where
      go : (xs : List ℕ) → All (λ a. a < b.blocks) xs → (j : ℕ) → j < length xs → get_or xs j 0 < b.blocks
      go [] w j h = absurd (omega arith)
      go (x ∷ xs) w zero h = w.0
      go (x ∷ xs) w (suc j) h = go xs w.1 j (le_of_suc-le-suc h)

-- a refused one
pub keep : (b : BoxRecord) (disk flash addresses blocks : List ℕ) (c : Code.Counters) (l buffer : List ℕ) (n : Refusal)
    → code n ≡ batch_refusal (numbers_of b) (lent b disk flash addresses blocks (counters_of c)) l buffer
    → told_many (record { answer = Err n; box_record = b; counters = c }) disk flash addresses blocks buffer
    ≡ called_many b (lent b disk flash addresses blocks (counters_of c)) l buffer
unfolding call_batch
keep b disk flash addresses blocks c l buffer n e =
    let r = batch_refusal (numbers_of b) (lent b disk flash addresses blocks (counters_of c)) l buffer in
    let w : eqb r 0 ≡ false = ne_eqb r 0 (λ y. refused n (e ∙ y)) in
    rw (w, e) refl

-- the sums of 64 reads fit
pub fitting : (c : Code.Counters) (n h f p : ℕ) → over (counters_of c) ≡ false → n ≤ 64 → h ≤ n → f ≤ n → p ≤ n * 1026
    → (c.reads + n < 2 ^ 64) × (c.hits + h < 2 ^ 64) × (c.flash + f < 2 ^ 64) × (c.primary + p < 2 ^ 64)
fitting c n h f p e ln lh lf lp =
    let x = not-over (counters_of c) e in
    let x0 = x.0 in
    let x1 = x.1 in
    let x2 = x.2 in
    let x3 = x.3 in
    (omega arith, omega arith, omega arith, omega arith)

-- a served one
pub finish : (b : BoxRecord) (disk flash addresses blocks : List ℕ) (c : Code.Counters) (l buffer : List ℕ)
    → batch_refusal (numbers_of b) (lent b disk flash addresses blocks (counters_of c)) l buffer ≡ 0
    → (s : Sums) (disk' flash' addresses' blocks' buffer' : List ℕ) → length buffer' ≡ length buffer
    → Turned b l (counters_of c)
    (batch (engine b) (numbers_of b) (start (box_in (numbers_of b) (lent b disk flash addresses blocks (counters_of c))) (counters_of c)) l)
    s disk' flash' addresses' blocks' buffer'
    → told_many (record {
      answer = Ok (record { hits = s.hits; flashed = s.flashed; primary = s.primary; fetches = s.fetches });
      box_record = with_held b s.held;
      counters = added c (length l) s.hits s.flashed s.primary;
    }) disk' flash' addresses' blocks' buffer'
    ≡ called_many b (lent b disk flash addresses blocks (counters_of c)) l buffer
unfolding lent_of addresses_of blocks_of served_batch
finish b disk flash addresses blocks c l buffer z s disk' flash' addresses' blocks' buffer' lb w =
    let n = numbers_of b in
    let u = lent b disk flash addresses blocks (counters_of c) in
    let long = lb ∙ (batch-finds n u l buffer z).long in
    let eb = sym (take_all (length l * b.size) buffer' (rw long (omega arith))) ∙ w.filled_is in
    let x = w.box-is in
    let last = sym (batch-served n u l buffer z) in
    ◌∙◌ {A = ToldMany}
    (λ i. record {
      numbers = n;
      after = record {
        answer = batched (sym w.hits-are i) (sym w.flashed-is i) (sym w.primary-is i) (sym w.fetches-are i);
        lent = record {
          n = sym x.rows_are.count i;
          disk = x.disk-is.is i;
          flash = x.flash-is.is i;
          addresses = x.rows_are.is i;
          blocks = x.blocks-are.is i;
          counters = sym w.counters-are i;
        };
        buffer = eb i;
      };
    })
    (λ i. record { numbers = n; after = last i })
