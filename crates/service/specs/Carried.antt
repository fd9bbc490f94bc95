-- A call reads what the call before it wrote: the state's bytes carry the box record and the counters, so that the next call on
-- the bytes is the paper's call on what the paper's last call left. Assumes nothing.
use Rattle.std.specs.Prelude.{◌≡◌, true, List, ℕ, ◌+◌, ◌^◌, ◌<◌, ◌≤◌, eqb, get_or}
use Rattle.std.proofs.Math.Path.{refl, subst}
use Rattle.std.proofs.Common.{sym, ap, ◌∙◌}
use native.Mathlib.Omega.{arith}
use Rattle.std.proofs.Math.ListN.{length}
use borrow.Author.Tests.{eq-eqb, eqb-true, eqb-false}
use Rattle.paper.specs.KeyedLaws.{and_left, by-test}
use Rattle.paper.specs.Cache.{Numbers, Word, no_counts}
use Rattle.paper.specs.Lent.{Lent, Ask, refused, answered, After, calling, opening, refusal, call, served, lent_of, opened, fresh, unopened}
use Rattle.paper.specs.Lent.{label_after, with_label}
use Rattle.paper.proofs.LentLaws.{label-right}
use Rattle.paper.specs.BatchLent.{BatchAnswer, batched, BatchAfter, batch_refusal, batched_from, served_batch, call_batch}
use Rattle.paper.proofs.BatchLentLaws.{batch-finds, batch-served, batch-keeps, batch-lent, batch-leaves, batch-fits}
use Rattle.paper.proofs.RefusalLaws.{exactly-opening, served-is, keeps, opened-is, refused-opening, label-carried, label-zeros}
use Rattle.paper.specs.CallLaws.{In64, outcome}
use Rattle.paper.proofs.CallLaws.{served-finds, served-lent, outcome-sound, counters-stay}
use Rattle.tables.specs.Rows.{zeros}
use Rattle.block.specs.Laws.{part-past}
use Rattle.parts.specs.Rep.{numbers_of}
use Rattle.refusals.specs.Given.{counters_of, lent}
use Rattle.fields.specs.Fields.{low_bytes, get8, put8, state_bytes, record_in, counters_in, put_state, put_label, fitting}
use Rattle.fields.specs.FieldLaws.{get8-below, length-put8, get8-put8, get8-before, get8-after, length-put_state, record-back, counters-back}
use Rattle.fields.specs.FieldLaws.{length-put_label, label-back, get8-label, limit-past}
use Rattle.service.specs.Left.{lent_in, told_in, leaves, told_many_in, leaves_many, fresh_record, opened_in, leaves_open}

-- the state has its length, the numbers and the label are as they were, and n, the buffers and the counters are the paper's
pub record Carries (state disk flash addresses blocks : List ℕ) (N : Numbers) (t : Lent) : Type 0 where
  pub long : length state ≡ state_bytes
  pub numbers : numbers_of (record_in state) ≡ N
  pub lent : lent_in state disk flash addresses blocks ≡ t

module _ (s : List ℕ) (h : length s ≡ state_bytes) where
  -- what is written of n and the counters
  pub written : (t : Lent) → t.n < 2 ^ 64 → In64 t.counters
      → Carries (put_state t.n t.counters s) t.disk t.flash t.addresses t.blocks (numbers_of (record_in s)) t
  written t bn bk =
      let r = record-back t.n t.counters s h bn in
      let k = counters-back t.n t.counters s h bk.reads bk.hits bk.flash_writes bk.primary_writes in
      record {
        long = length-put_state t.n t.counters s h;
        numbers = ap numbers_of r;
        lent = λ i. record { n = (r i).held; disk = t.disk; flash = t.flash; addresses = t.addresses; blocks = t.blocks; counters = k i };
      }

  -- what a served call leaves, and a refused one
  module _ (l : List ℕ) (x : After) where
    next-served : (w : Word) (f p : ℕ) → x.answer ≡ answered w f p → x.lent.n < 2 ^ 64 → In64 x.lent.counters
        → Carries (told_in s l x).state (told_in s l x).disk (told_in s l x).flash (told_in s l x).addresses (told_in s l x).blocks (numbers_of (record_in s))
        x.lent
    unfolding told_in
    next-served w f p e bn bk = rw e (written x.lent bn bk)

    next-refused : (k : ℕ) (disk flash addresses blocks : List ℕ) → x.answer ≡ refused k → x.lent ≡ lent_in s disk flash addresses blocks
        → Carries (told_in s l x).state (told_in s l x).disk (told_in s l x).flash (told_in s l x).addresses (told_in s l x).blocks (numbers_of (record_in s))
        x.lent
    unfolding told_in
    next-refused k disk flash addresses blocks e el =
        rw e (record { long = h; numbers = refl; lent = subst (λ (t : Lent). lent_in s t.disk t.flash t.addresses t.blocks ≡ t) (sym el) refl })

  -- the same of a folder read
  module _ (l : List ℕ) (x : BatchAfter) where
    many-served : (h f p n : ℕ) → x.answer ≡ batched h f p n → x.lent.n < 2 ^ 64 → In64 x.lent.counters
        → (let z = told_many_in s l x in Carries z.state z.disk z.flash z.addresses z.blocks (numbers_of (record_in s)) x.lent)
    unfolding told_many_in
    many-served h f p n e bn bk = rw e (written x.lent bn bk)

    many-refused : (k : ℕ) (disk flash addresses blocks : List ℕ) → x.answer ≡ BatchAnswer.refused k → x.lent ≡ lent_in s disk flash addresses blocks
        → (let z = told_many_in s l x in Carries z.state z.disk z.flash z.addresses z.blocks (numbers_of (record_in s)) x.lent)
    unfolding told_many_in
    many-refused k disk flash addresses blocks e el =
        rw e (record { long = h; numbers = refl; lent = subst (λ (t : Lent). lent_in s t.disk t.flash t.addresses t.blocks ≡ t) (sym el) refl })

-- counters of eight bytes each have 64 bits
pub in64 : (s : List ℕ) → ((i : ℕ) → get_or s i 0 < 256) → In64 (counters_of (counters_in s))
in64 s b = record { reads = get8-below s 40 b; hits = get8-below s 48 b; flash_writes = get8-below s 56 b; primary_writes = get8-below s 64 b }

-- a served call holds at most m addresses
pub held_below : (N : Numbers) (t : Lent) (q : Ask) → refusal N t (calling q) ≡ 0 → (call N t q).lent.n < 2 ^ 64
unfolding lent_of
held_below N t q e =
    let m = (served-finds N t q e).fits.m-most in
    let few = (outcome-sound N t q e).few in
    let n = ap (λ (x : Lent). x.n) (served-lent N t q e) in
    omega arith

-- the word of a served call
pub served-word : (N : Numbers) (t : Lent) (q : Ask) → refusal N t (calling q) ≡ 0
    → (call N t q).answer ≡ answered (outcome N t q).word (outcome N t q).flash_writes (outcome N t q).primary_writes
unfolding served
served-word N t q e = ap (λ (x : After). x.answer) (served-is N t q e)

pub state-long : (n : ℕ) (s l : List ℕ) → fitting n s l ≡ true → length s ≡ state_bytes
unfolding fitting
state-long n s l h = eqb-true (length s) state_bytes (and_left (eqb (length s) state_bytes) (eqb (length l) n) h)

module _ (q : Ask) (s disk flash addresses blocks l : List ℕ) (h : fitting 24 s l ≡ true) where
  -- after a call the bytes carry what the paper's call left, served or refused, where the counters have 64 bits
  pub carried-64 : In64 (counters_of (counters_in s))
      → (let z = leaves q s disk flash addresses blocks l in Carries z.state z.disk z.flash z.addresses z.blocks (numbers_of (record_in s))
      (call (numbers_of (record_in s)) (lent_in s disk flash addresses blocks) q).lent)
  unfolding leaves
  carried-64 b =
      let N = numbers_of (record_in s) in
      let t = lent_in s disk flash addresses blocks in
      rw h
      (by-test (eqb (refusal N t (calling q)) 0)
      (λ y. let e = eqb-true (refusal N t (calling q)) 0 y in
      next-served s (state-long 24 s l h) l (call N t q) _ _ _ (served-word N t q e) (held_below N t q e) (counters-stay N t q b))
      (λ y. let k = keeps N t q (eqb-false (refusal N t (calling q)) 0 y) in
      next-refused s (state-long 24 s l h) l (call N t q) _ disk flash addresses blocks k.answer k.lent))

  -- they have where the state is of bytes
  pub carried : ((i : ℕ) → get_or s i 0 < 256)
      → (let z = leaves q s disk flash addresses blocks l in Carries z.state z.disk z.flash z.addresses z.blocks (numbers_of (record_in s))
      (call (numbers_of (record_in s)) (lent_in s disk flash addresses blocks) q).lent)
  carried bytes = carried-64 (in64 s bytes)

-- a folder read holds at most m addresses
many_below : (N : Numbers) (t : Lent) (q f : List ℕ) → batch_refusal N t q f ≡ 0 → (call_batch N t q f).lent.n < 2 ^ 64
unfolding lent_of
many_below N t q f e =
    let m = (batch-finds N t q f e).fits.m-most in
    let few = (batch-leaves N t q f e).0.few in
    let n = ap (λ (x : Lent). x.n) (batch-lent N t q f e) in
    omega arith

many-answer : (N : Numbers) (t : Lent) (q f : List ℕ) → batch_refusal N t q f ≡ 0
    → (let o = batched_from N t q in (call_batch N t q f).answer ≡ batched o.hits o.flash_writes o.primary_writes o.fetches)
unfolding served_batch
many-answer N t q f e = ap (λ (x : BatchAfter). x.answer) (batch-served N t q f e)

module _ (q f s disk flash addresses blocks l : List ℕ) (h : fitting 32 s l ≡ true) where
  -- after a folder read they carry what the paper's left, served or refused
  pub carried-many : In64 (counters_of (counters_in s))
      → (let z = leaves_many q f s disk flash addresses blocks l in Carries z.state z.disk z.flash z.addresses z.blocks (numbers_of (record_in s))
      (call_batch (numbers_of (record_in s)) (lent_in s disk flash addresses blocks) q f).lent)
  unfolding leaves_many
  carried-many b =
      let N = numbers_of (record_in s) in
      let t = lent_in s disk flash addresses blocks in
      rw h
      (by-test (eqb (batch_refusal N t q f) 0)
      (λ y. let e = eqb-true (batch_refusal N t q f) 0 y in
      many-served s (state-long 32 s l h) l (call_batch N t q f) _ _ _ _ (many-answer N t q f e) (many_below N t q f e) (batch-fits N t q f e))
      (λ y. let k = batch-keeps N t q f (eqb-false (batch_refusal N t q f) 0 y) in
      many-refused s (state-long 32 s l h) l (call_batch N t q f) _ disk flash addresses blocks k.answer k.lent))

-- with another label written they carry it
relabelled : (s disk flash addresses blocks : List ℕ) (N : Numbers) (t : Lent) (label : List ℕ) → length label ≡ 64
    → Carries s disk flash addresses blocks N t → Carries (put_label label s) disk flash addresses blocks (with_label N label) t
relabelled s disk flash addresses blocks N t label l c =
    let h = c.long in
    let at : (i : ℕ) → i + 8 ≤ 72 → get8 (put_label label s) i ≡ get8 s i = get8-label label s h l in
    let own : numbers_of (record_in (put_label label s)) ≡ with_label (numbers_of (record_in s)) label
    = λ i. record {
      B = at 0 (omega arith) i;
      P = at 8 (omega arith) i;
      m = at 16 (omega arith) i;
      d = at 24 (omega arith) i;
      label = label-back label s h l i;
      t = limit-past label s h l i;
    } in
    let same : lent_in (put_label label s) disk flash addresses blocks ≡ lent_in s disk flash addresses blocks
    = λ i. record {
      n = at 32 (omega arith) i;
      disk = disk;
      flash = flash;
      addresses = addresses;
      blocks = blocks;
      counters = record {
        reads = at 40 (omega arith) i;
        hits = at 48 (omega arith) i;
        flash_writes = at 56 (omega arith) i;
        primary_writes = at 64 (omega arith) i;
      };
    } in
    record { long = length-put_label label s h l; numbers = own ∙ ap (λ (M : Numbers). with_label M label) c.numbers; lent = same ∙ c.lent }

-- after an opening they carry the fresh box with the label given, or where it is refused what was given, with n = 0 and a label of zeros
module _ (label s disk flash addresses blocks : List ℕ) (h : length s ≡ state_bytes) where
  abbrev given : Lent
  given = lent (fresh_record label s) disk flash addresses blocks (counters_of (counters_in s))

  -- n = 0 written alone
  alone : Carries (put8 32 0 s) disk flash addresses blocks (numbers_of (record_in s)) given
  unfolding put8
  alone =
      let room : 32 + 8 ≤ length s = omega arith in
      let before : (i : ℕ) → i + 8 ≤ 32 → get8 (put8 32 0 s) i ≡ get8 s i = get8-before 32 0 s room in
      let after : (i : ℕ) → 32 + 8 ≤ i → get8 (put8 32 0 s) i ≡ get8 s i = get8-after 32 0 s room in
      record {
        long = length-put8 32 0 s room ∙ h;
        numbers = λ i. record {
          B = before 0 (omega arith) i;
          P = before 8 (omega arith) i;
          m = before 16 (omega arith) i;
          d = before 24 (omega arith) i;
          label = part-past 32 8 (low_bytes 8 0) s refl room 72 64 (omega arith) i;
          t = after 136 (omega arith) i;
        };
        lent = λ i. record {
          n = get8-put8 32 0 s room (omega arith) i;
          disk = disk;
          flash = flash;
          addresses = addresses;
          blocks = blocks;
          counters = record {
            reads = after 40 (omega arith) i;
            hits = after 48 (omega arith) i;
            flash_writes = after 56 (omega arith) i;
            primary_writes = after 64 (omega arith) i;
          };
        };
      }

  pub carried-open : (let z = leaves_open label s disk flash addresses blocks in let N = numbers_of (fresh_record label s) in
      Carries z.state disk flash z.addresses z.blocks (with_label N (label_after N given)) (opened N given))
  unfolding leaves_open opened_in fresh unopened zeros
  carried-open =
      let N = numbers_of (fresh_record label s) in
      let bounds : In64 no_counts = record { reads = omega arith; hits = omega arith; flash_writes = omega arith; primary_writes = omega arith } in
      rw (eq-eqb (length s) state_bytes h)
      (by-test (eqb (refusal N given opening) 0)
      (λ y.
      let e = eqb-true (refusal N given opening) 0 y in
      rw (y, opened-is N given e, label-carried N given e)
      (relabelled _ disk flash _ _ (numbers_of (record_in s)) (fresh N given) label
      (label-right N given ((exactly-opening N given).gives-0.0 e).1.1.0) (written s h (fresh N given) (omega arith) bounds)))
      (λ y.
      let n = eqb-false (refusal N given opening) 0 y in
      rw (y, refused-opening N given n, label-zeros N given n) (relabelled _ disk flash _ _ (numbers_of (record_in s)) given (zeros 64) refl alone)))
