-- The turns of a folder read. Assumes nothing.
use Rattle.std.specs.Prelude.{◌≡◌, Bool, ◌&&◌, ℕ, ◌+◌, ◌-◌, ◌*◌, ◌<◌, ◌≤◌, eqb, ltb, leb, get_or, drop}
use Rattle.std.proofs.Math.Path.{refl, sym, ap, ap₂, subst}
use Rattle.std.proofs.Common.{◌∙◌, arith, le_of_suc-le-suc, zero-mul, add-one, length-append, length-drop, take-append-drop, length-take-le, take-suc, take_all, ltb-true, ltb-false, lt-ltb, le-leb}
use Rattle.std.proofs.Math.Bool.{true, false, not, cond}
use mathlib.Core.List.{List, [], ◌∷◌, ◌++◌, map, append_assoc, append-nil}
use Rattle.std.proofs.Math.Option.{Option, none, some}
use Rattle.std.proofs.Math.ListN.{length, take}
use Rattle.std.proofs.lemmas.List.{length-map, take-append-le, drop-append-le}
use Rattle.std.proofs.Math.Seq.{paste, take-append_seam}
use Rattle.std.proofs.lemmas.Bool.{lt-leb, not-false}
use borrow.Rule.Slice.PartMut.{put_mid}
use Rattle.tables.specs.Rows.{table_bytes, rows}
use Rattle.tables.specs.Find.{every}
use Rattle.tables.specs.Index.{unique, row_ok}
use Rattle.tables.specs.Sound.{distinct, row_slot}
use Rattle.tables.specs.Unsound.{blocks_unsound}
use Rattle.table_laws.specs.Checked.{blocks-checked}
use Rattle.block.specs.Blocks.{part, splice}
use Rattle.block.specs.Laws.{length_part, length-splice, put-mid, part-splice, take-splice}
use Rattle.parts.specs.declared.BoxRecord.{BoxRecord}
use Rattle.serve.specs.declared.Served.{Served}
use Rattle.turns.specs.declared.Sums.{Sums}
use Rattle.paper.specs.KeyedLaws.{by-test, and_right}
use Rattle.paper.specs.Cache.{Numbers, Hashing, AddressRow, Box, Counters, no_counts, Outcome, counted, one_if, is_hit, row_with_block, read_as, answer}
use Rattle.paper.specs.Engine.{Fixed}
use Rattle.paper.specs.Lent.{join, lent_of}
use Rattle.paper.proofs.SoundLaws.{sound-read_as}
use Rattle.paper.proofs.LentLaws.{sound-lengths, sound-passes}
use Rattle.paper.specs.Layout.{Parts, addresses_of, blocks_of}
use Rattle.paper.specs.Index.{index_where}
use Rattle.paper.specs.Batch.{Filled, Batched, addresses_in, blocks_in, is_miss, seen, first_read, start, source, block_in, added, batch_read, batch}
use Rattle.paper.proofs.BatchLaws.{map_last}
use Rattle.paper.specs.CallLaws.{Fits}
use Rattle.parts.specs.Rep.{numbers_of, with_held, Rep, engine}
use Rattle.parts.specs.CopyLaws.{part-block, block-ends}
use Rattle.step.specs.Steps.{Sure, out4}
use Rattle.serve.specs.Calls.{Leaves, left, leaves, is_yes, returned_or}
use Rattle.serve.specs.ServeLaws.{sound-rep}
use Rattle.turns.specs.Turns.{Turned, Lends}

-- the bytes of a sound box have an index: the table's length, and no fingerprint used twice
pub indexable : (b : BoxRecord) (disk flash addrs blocks : List ℕ) (s : Box (Fixed 32) (Fixed b.size)) → Rep b disk flash addrs blocks s → Sure b s
    → (length blocks ≡ table_bytes b.slots) × (b.slots ≤ 256) × (every unique (rows b.slots blocks) ≡ true)
unfolding lent_of blocks_of
indexable b disk flash addrs blocks s h sd =
    let p = sound-passes (numbers_of b) s sd no_counts h.rows_are.small h.blocks-are.small in
    let rs = rows b.slots blocks in
    let ok = every (row_ok b.slots) rs in
    let once = every unique rs in
    let slots = distinct (map row_slot rs) in
    let passed : blocks_unsound b.slots blocks ≡ false = ap (blocks_unsound b.slots) h.blocks-are.is ∙ p.blocks in
    let all = not-false (ok && (slots && once)) (sym (blocks-checked b.slots blocks) ∙ passed) in (
      ap (length {A = ℕ}) h.blocks-are.is ∙ p.lengths.blocks,
      h.blocks-are.small,
      and_right slots once (and_right ok (slots && once) all),
    )

-- a folder read, its last read apart
batch-last : {F X : Type 0} (H : Hashing F X) (N : Numbers) (t : Batched F X) (l : List ℕ) (a : ℕ)
    → batch H N t (l ++ (a ∷ [])) ≡ batch_read H N (batch H N t l) a
unfolding batch
batch-last H N t [] a = refl
batch-last H N t (y ∷ l) a = batch-last H N (batch_read H N t y) l a

-- ---- the first read of an address

module _ {X : Type 0} (a : ℕ) (z : X) where
  abbrev place : List (Filled X) → ℕ
  place fs = index_where (λ x. eqb a x) (addresses_in fs)

  first_some : (fs : List (Filled X)) → place fs < length fs → (first_read a fs ≡ some (get_or (blocks_in fs) (place fs) z)) × (seen a fs ≡ true)
  unfolding index_where
  first_some [] = λ h. absurd (omega arith)
  first_some (f ∷ fs) = by-test (eqb a f.address) (λ e. rw e (λ h. (refl, refl))) (λ e. rw e (λ h. first_some fs (le_of_suc-le-suc h)))

  first-none : (fs : List (Filled X)) → length fs ≤ place fs → (first_read a fs ≡ none) × (seen a fs ≡ false)
  unfolding index_where
  first-none [] = λ h. (refl, refl)
  first-none (f ∷ fs) = by-test (eqb a f.address) (λ e. rw e (λ h. absurd (omega arith))) (λ e. rw e (λ h. first-none fs (le_of_suc-le-suc h)))

-- ---- the buffer

-- what a call leaves behind `&mut d[at..at + n]`, said of the whole
pub put-part : (at n : ℕ) (d s : List ℕ) → length s ≡ n → put_mid at (at + n - at) d s ≡ splice at s d
put-part at n d s e = subst (λ (k : ℕ). put_mid at (at + k - at) d s ≡ splice at s d) e (put-mid at d s s refl)

-- a part of what is before an index
part-take : (at n m : ℕ) (s : List ℕ) → at + n ≤ m → m ≤ length s → part at n s ≡ part at n (take m s)
unfolding part
part-take at n m s h k =
    let l : length (take m s) ≡ m = length-take-le m s k in
    let r : length (drop at (take m s)) ≡ m - at = length-drop at (take m s) ∙ ap (λ (x : ℕ). x - at) l in
    ap (λ (x : List ℕ). take n (drop at x)) (sym (take-append-drop m s))
    ∙ ap (take n) (drop-append-le at (take m s) (drop m s) (omega (arith, l)))
    ∙ take-append-le n (drop at (take m s)) (drop m s) (omega (arith, r))

-- a move in the buffer is a part written
pub paste-splice : (d : List ℕ) (to from n : ℕ) → from + n ≤ length d → paste d to (drop from d) n ≡ splice to (part from n d) d
unfolding part splice
paste-splice d to from n h =
    append_assoc (take to d) (take n (drop from d)) (drop (to + n) d)
    ∙ ap (λ (k : ℕ). take to d ++ (take n (drop from d) ++ drop (to + k) d)) (sym (length_part from n d h))

-- a block brought to its place is there, and the blocks before it stay
module _ (B k i : ℕ) (buffer buffer' : List ℕ) (room : k * B + B ≤ length buffer)
    (e : buffer' ≡ cond (ltb i k) (splice (k * B) (part (i * B) B buffer) buffer) buffer) where
  brought-long : i < k → length (part (i * B) B buffer) ≡ B
  brought-long h = length_part (i * B) B buffer (omega (arith, block-ends i k B h, room))

  brought : i < k → part (k * B) B buffer' ≡ part (i * B) B buffer
  brought h =
      ap (part (k * B) B) e
      ∙ rw (lt-ltb i k h) (part-splice (k * B) B (part (i * B) B buffer) buffer (brought-long h) room)

  before-stays : take (k * B) buffer' ≡ take (k * B) buffer
  before-stays =
      by-test (ltb i k)
      (λ y. let h = ltb-true i k y in
      ap (take (k * B)) e ∙ rw y (take-splice (k * B) B (part (i * B) B buffer) buffer (brought-long h) room))
      (λ y. ap (take (k * B)) e ∙ rw y refl)

  pub as_long : length buffer' ≡ length buffer
  as_long =
      by-test (ltb i k)
      (λ y. let h = ltb-true i k y in
      let n = brought-long h in
      ap (length {A = ℕ}) e ∙ rw y (length-splice (k * B) (part (i * B) B buffer) buffer (omega (arith, n, room))))
      (λ y. ap (length {A = ℕ}) e ∙ rw y refl)

-- what is brought is what the read is to take
pub lends : (b : BoxRecord) (l : List ℕ) (z : Counters) (T : Batched (Fixed 32) (Fixed b.size)) (t : Sums) (disk flash addrs blocks buffer : List ℕ)
    → Turned b l z T t disk flash addrs blocks buffer
    → (a k i : ℕ) → length l ≡ k → k * b.size + b.size ≤ length buffer → i ≡ index_where (λ x. eqb a x) l
    → (buffer' : List ℕ) → buffer' ≡ cond (ltb i k) (splice (k * b.size) (part (i * b.size) b.size buffer) buffer) buffer
    → Lends b T a (leb k i) (part (k * b.size) b.size buffer')
lends b l z T t disk flash addrs blocks buffer w a k i lk room ei buffer' eb =
    let B = b.size in
    let fs = T.filled in
    let bl = (engine b).blank in
    let n : length fs ≡ k = sym (length-map fs (λ f. f.address)) ∙ ap (length {A = ℕ}) w.read ∙ lk in
    let e : i ≡ index_where (λ x. eqb a x) (addresses_in fs) = ei ∙ ap (index_where (λ x. eqb a x)) (sym w.read) in
    by-test (ltb i k)
    (λ y.
    let lt = ltb-true i k y in
    let q = first_some a bl fs (omega (arith, e, n, lt)) in
    let x = get_or (blocks_in fs) i bl in
    let p : Parts B k (take (k * B) buffer) (blocks_in fs)
    = record { count = length-map fs (λ f. f.block) ∙ n; is = ap (λ (j : ℕ). take (j * B) buffer) (sym lk) ∙ w.filled_is } in
    let is : x.0 ≡ part (k * B) B buffer'
    = sym (brought B k i buffer buffer' room eb lt ∙ part-take (i * B) B (k * B) buffer (block-ends i k B lt) (omega (arith, room))
    ∙ part-block B k (take (k * B) buffer) (blocks_in fs) p i bl lt) in
    rw (lt-leb k i lt) (x, is, ap (source (engine b) T.box a) q.0 ∙ ap (λ (j : ℕ). get_or (blocks_in fs) j bl) (sym e), ap not q.1))
    (λ y.
    let le = ltb-false i k y in
    let q = first-none a bl fs (omega (arith, e, n, le)) in
    let long : length (part (k * B) B buffer') ≡ B
    = length_part (k * B) B buffer' (subst (λ (j : ℕ). k * B + B ≤ j) (sym (as_long B k i buffer buffer' room eb)) room) in
    rw (le-leb k i le) ((part (k * B) B buffer', long), refl, ap (source (engine b) T.box a) q.0, ap not q.1))

-- the tables' lengths
pub table-lengths : (b : BoxRecord) (n : ℕ) (disk flash addrs blocks : List ℕ) (s : Box (Fixed 32) (Fixed b.size))
    → Rep (with_held b n) disk flash addrs blocks s → Sure b s → (length addrs ≡ table_bytes b.rows) × (length blocks ≡ table_bytes b.slots)
unfolding lent_of addresses_of blocks_of
table-lengths b n disk flash addrs blocks s h sd =
    let p = sound-lengths (numbers_of b) s sd no_counts in
    (ap (length {A = ℕ}) h.rows_are.is ∙ p.addresses, ap (length {A = ℕ}) h.blocks-are.is ∙ p.blocks)

-- nothing read yet
pub turned_none : (b : BoxRecord) (disk flash addrs blocks buffer : List ℕ) (s : Box (Fixed 32) (Fixed b.size)) (z : Counters)
    → Rep b disk flash addrs blocks s → Sure b s
    → Turned b [] z (start s z) (record { held = b.held; hits = 0; flashed = 0; primary = 0; fetches = 0 }) disk flash addrs blocks buffer
turned_none b disk flash addrs blocks buffer s z h sd =
    let a0 : (x : ℕ) → x ≡ x + 0 = λ x. omega arith in
    record {
      box-is = h;
      sure = sd;
      read = refl;
      filled_is = ap (λ (j : ℕ). take j buffer) (zero-mul b.size);
      counters-are = λ i. record {
        reads = a0 z.reads i;
        hits = a0 z.hits i;
        flash_writes = a0 z.flash_writes i;
        primary_writes = a0 z.primary_writes i;
      };
      hits-are = refl;
      flashed-is = refl;
      primary-is = refl;
      fetches-are = refl;
      few = (omega arith, omega arith, omega arith, omega arith);
    }

-- a block brought to its place changes nothing of what is filled
pub turned-brought : (b : BoxRecord) (l : List ℕ) (z : Counters) (T : Batched (Fixed 32) (Fixed b.size)) (t : Sums) (disk flash addrs blocks buffer : List ℕ)
    → (k i : ℕ) → length l ≡ k → k * b.size + b.size ≤ length buffer
    → (buffer' : List ℕ) → buffer' ≡ cond (ltb i k) (splice (k * b.size) (part (i * b.size) b.size buffer) buffer) buffer
    → Turned b l z T t disk flash addrs blocks buffer → Turned b l z T t disk flash addrs blocks buffer'
turned-brought b l z T t disk flash addrs blocks buffer k i lk room buffer' e w =
    record {
      box-is = w.box-is;
      sure = w.sure;
      read = w.read;
      filled_is =
          ap (λ (j : ℕ). take (j * b.size) buffer') lk
          ∙ before-stays b.size k i buffer buffer' room e
          ∙ sym (ap (λ (j : ℕ). take (j * b.size) buffer) lk)
          ∙ w.filled_is;
      counters-are = w.counters-are;
      hits-are = w.hits-are;
      flashed-is = w.flashed-is;
      primary-is = w.primary-is;
      fetches-are = w.fetches-are;
      few = w.few;
    }

-- ---- what a read tells

module _ (b : BoxRecord) (s : Box (Fixed 32) (Fixed b.size)) (a : ℕ) (x : Fixed b.size) where
  abbrev reading : Option (AddressRow (Fixed 32)) → Outcome (Fixed 32) (Fixed b.size)
  reading o = read_as (engine b) b.rows s a x o

  reads-hit : (o : Option (AddressRow (Fixed 32))) → cond (is_yes (reading o).word) 1 0 ≡ one_if (is_hit (reading o).word)
  unfolding read_as answer
  reads-hit (some r) = refl
  reads-hit none = refl

  reads-fetch : (first : Bool) (o : Option (AddressRow (Fixed 32)))
      → cond (first && not (is_yes (reading o).word)) 1 0 ≡ one_if (first && is_miss (reading o).word)
  unfolding read_as answer
  reads-fetch true (some r) = refl
  reads-fetch true none = refl
  reads-fetch false (some r) = refl
  reads-fetch false none = refl

  reads-block : (lent : List ℕ) (o : Option (AddressRow (Fixed 32))) → returned_or (reading o).block lent ≡ (block_in (engine b) (reading o).block).0
  unfolding read_as answer
  reads-block lent (some r) = refl
  reads-block lent none = refl

-- ---- the buffer, a block longer

join_last : {B : ℕ} (xs : List (Fixed B)) (y : Fixed B) → join (xs ++ (y ∷ [])) ≡ join xs ++ y.0
join_last [] y = append-nil y.0
join_last (x ∷ xs) y = ap (λ l. x.0 ++ l) (join_last xs y) ∙ sym (append_assoc x.0 (join xs) y.0)

filled_more : (B n : ℕ) (buffer y : List ℕ) → length y ≡ B → n * B + B ≤ length buffer
    → take ((n + 1) * B) (splice (n * B) y buffer) ≡ take (n * B) buffer ++ y
unfolding splice
filled_more B n buffer y ly h =
    let p = take (n * B) buffer ++ y in
    let lt : length (take (n * B) buffer) ≡ n * B = length-take-le (n * B) buffer (omega (arith, h)) in
    let lp : (n + 1) * B ≡ length p = sym (length-append (take (n * B) buffer) y ∙ ap₂ (λ (i j : ℕ). i + j) lt ly ∙ omega arith) in
    ap₂ (λ (j : ℕ) (r : List ℕ). take j r) lp (sym (append_assoc (take (n * B) buffer) y (drop (n * B + length y) buffer)))
    ∙ take-append_seam p (drop (n * B + length y) buffer)

-- ---- one turn

one-le : (y : Bool) → cond y 1 0 ≤ 1
one-le true = omega arith
one-le false = omega arith

module _ (b : BoxRecord) (l : List ℕ) (z : Counters) (T : Batched (Fixed 32) (Fixed b.size)) (t : Sums) (disk flash addrs blocks buffer : List ℕ)
    (w : Turned b l z T t disk flash addrs blocks buffer) (a : ℕ) (first : Bool) (block : List ℕ) (g : Lends b T a first block)
    (s : Served) (own disk' flash' addrs' blocks' block' : List ℕ) where
  -- what the read takes, its row, and its outcome
  abbrev took : Fixed b.size
  took = cond first (get_or T.box.disk a (engine b).blank) g.0

  abbrev row : Option (AddressRow (Fixed 32))
  row = row_with_block (engine b) T.box a

  abbrev out : Outcome (Fixed 32) (Fixed b.size)
  out = read_as (engine b) b.rows T.box a took row

  abbrev sums : Sums
  sums =
      record {
        held = s.held;
        hits = t.hits + cond s.yes 1 0;
        flashed = t.flashed + s.flashed;
        primary = t.primary + s.primary;
        fetches = t.fetches + cond (first && not s.yes) 1 0;
      }

  abbrev then : Batched (Fixed 32) (Fixed b.size)
  then = batch_read (engine b) (numbers_of b) T a

  one_more : then ≡ added (engine b) T a first out
  unfolding batch_read
  one_more = ap₂ (λ y v. added (engine b) T a y (read_as (engine b) b.rows T.box a v row)) g.3 g.2

  module _ (fits : Fits (numbers_of b)) (ab : a < b.blocks) (room : length l * b.size + b.size ≤ length buffer) (f1 : s.flashed ≤ 1)
      (p1 : s.primary ≤ 2 + b.rows) (e : left s disk' flash' addrs' blocks' block' ≡ leaves (with_held b t.held) own out) where
    sound-out : Sure b out.box
    sound-out = sound-read_as (engine b) (numbers_of b) T.box a took row w.sure fits.m-least fits.d-least ab

    rep-out : Rep (with_held b s.held) disk' flash' addrs' blocks' out.box
    unfolding leaves out4
    rep-out =
        sound-rep b s.held disk' flash' addrs' blocks' out.box sound-out w.box-is.rows_are.small w.box-is.blocks-are.small
        (sym (ap (λ (y : Leaves). y.held) e)) (ap (λ (y : Leaves). y.left.disk) e) (ap (λ (y : Leaves). y.left.flash) e)
        (ap (λ (y : Leaves). y.left.addrs) e) (ap (λ (y : Leaves). y.left.blocks) e)

    yes-is : s.yes ≡ is_yes out.word
    unfolding leaves
    yes-is = ap (λ (y : Leaves). y.yes) e

    flashed-out : s.flashed ≡ out.flash_writes
    unfolding leaves out4
    flashed-out = ap (λ (y : Leaves). y.left.flashed) e

    primary-out : s.primary ≡ out.primary_writes
    unfolding leaves out4
    primary-out = ap (λ (y : Leaves). y.left.primary) e

    block_out : block' ≡ (block_in (engine b) out.block).0
    unfolding leaves
    block_out = ap (λ (y : Leaves). y.block) e ∙ reads-block b T.box a took own row

    hit-out : cond s.yes 1 0 ≡ one_if (is_hit out.word)
    hit-out = ap (λ y. cond y 1 0) yes-is ∙ reads-hit b T.box a took row

    fetch-out : cond (first && not s.yes) 1 0 ≡ one_if (first && is_miss out.word)
    fetch-out = ap (λ y. cond (first && not y) 1 0) yes-is ∙ reads-fetch b T.box a took first row

    longer : length (l ++ (a ∷ [])) ≡ length l + 1
    longer = length-append l (a ∷ [])

    turned : Turned b (l ++ (a ∷ [])) z then sums disk' flash' addrs' blocks' (splice (length l * b.size) block' buffer)
    unfolding counted
    turned =
        let x = block_in (engine b) out.block in
        let fw = flashed-out in
        let pw = primary-out in
        let ht = hit-out in
        let ft = fetch-out in
        let lg = longer in
        let h1 = one-le s.yes in
        let h2 = one-le (first && not s.yes) in
        let mm = fits.m-most in
        let w0 = w.few.0 in
        let w1 = w.few.1 in
        let w2 = w.few.2 in
        let w3 = w.few.3 in
        let ck = w.counters-are in
        let k0 = ap (λ (y : Counters). y.reads) ck in
        let k1 = ap (λ (y : Counters). y.hits) ck in
        let k2 = ap (λ (y : Counters). y.flash_writes) ck in
        let k3 = ap (λ (y : Counters). y.primary_writes) ck in
        let c0 : T.counters.reads + 1 ≡ z.reads + length (l ++ (a ∷ [])) = omega (arith, k0, lg) in
        let c1 : T.counters.hits + one_if (is_hit out.word) ≡ z.hits + (t.hits + cond s.yes 1 0) = omega (arith, k1, ht) in
        let c2 : T.counters.flash_writes + out.flash_writes ≡ z.flash_writes + (t.flashed + s.flashed) = omega (arith, k2, fw) in
        let c3 : T.counters.primary_writes + out.primary_writes ≡ z.primary_writes + (t.primary + s.primary) = omega (arith, k3, pw) in
        subst (λ U. Turned b (l ++ (a ∷ [])) z U sums disk' flash' addrs' blocks' (splice (length l * b.size) block' buffer)) (sym one_more)
        (record {
          box-is = rep-out;
          sure = sound-out;
          read = map_last (λ f. f.address) T.filled (record { address = a; block = x }) ∙ ap (λ y. y ++ (a ∷ [])) w.read;
          filled_is =
              ap (λ (j : ℕ). take (j * b.size) (splice (length l * b.size) block' buffer)) lg
              ∙ filled_more b.size (length l) buffer block' (ap (length {A = ℕ}) block_out ∙ x.1) room
              ∙ ap₂ (λ (y v : List ℕ). y ++ v) w.filled_is block_out
              ∙ sym (join_last (blocks_in T.filled) x)
              ∙ sym (ap (λ (y : List (Fixed b.size)). join y) (map_last (λ f. f.block) T.filled (record { address = a; block = x })));
          counters-are = λ i. record { reads = c0 i; hits = c1 i; flash_writes = c2 i; primary_writes = c3 i };
          hits-are = ap₂ (λ (y v : ℕ). y + v) w.hits-are (sym ht);
          flashed-is = ap₂ (λ (y v : ℕ). y + v) w.flashed-is (sym fw);
          primary-is = ap₂ (λ (y v : ℕ). y + v) w.primary-is (sym pw);
          fetches-are = ap₂ (λ (y v : ℕ). y + v) w.fetches-are (sym ft);
          few = (omega (arith, lg, w0, h1), omega (arith, lg, w1, f1), omega (arith, lg, w2, p1, mm), omega (arith, lg, w3, h2));
        })

    -- the same, of what the code leaves
    pub turned-at : (k : ℕ) → length l ≡ k → (t' : Sums) → t' ≡ sums → (buffer' : List ℕ) → buffer' ≡ splice (k * b.size) block' buffer
        → Turned b (l ++ (a ∷ [])) z then t' disk' flash' addrs' blocks' buffer'
    turned-at k ll t' et buffer' eb =
        let e1 = subst (λ (j : ℕ). Turned b (l ++ (a ∷ [])) z then sums disk' flash' addrs' blocks' (splice (j * b.size) block' buffer)) ll turned in
        let e2 = subst (λ (v : List ℕ). Turned b (l ++ (a ∷ [])) z then sums disk' flash' addrs' blocks' v) (sym eb) e1 in
        subst (λ (v : Sums). Turned b (l ++ (a ∷ [])) z then v disk' flash' addrs' blocks' buffer') (sym et) e2

-- ---- the turns of a list

module _ (b : BoxRecord) (asked : List ℕ) (k : ℕ) (z : Counters) (t : Sums) (disk flash addrs blocks buffer : List ℕ) where
  pub next_of : (T : Batched (Fixed 32) (Fixed b.size)) → k < length asked
      → Turned b (take k asked ++ (get_or asked k 0 ∷ [])) z T t disk flash addrs blocks buffer
      → Turned b (take (k + 1) asked) z T t disk flash addrs blocks buffer
  next_of T h w =
      subst (λ (x : List ℕ). Turned b x z T t disk flash addrs blocks buffer) (sym (ap (λ (j : ℕ). take j asked) (add-one k) ∙ take-suc asked k 0 h)) w

  abbrev up_to : Box (Fixed 32) (Fixed b.size) → ℕ → Batched (Fixed 32) (Fixed b.size)
  up_to s j = batch (engine b) (numbers_of b) (start s z) (take j asked)

  pub batch-next : (s : Box (Fixed 32) (Fixed b.size)) → k < length asked
      → Turned b (take (k + 1) asked) z (batch_read (engine b) (numbers_of b) (up_to s k) (get_or asked k 0)) t disk flash addrs blocks buffer
      → Turned b (take (k + 1) asked) z (up_to s (k + 1)) t disk flash addrs blocks buffer
  batch-next s h w =
      let e : up_to s (k + 1) ≡ batch_read (engine b) (numbers_of b) (up_to s k) (get_or asked k 0)
      = ap (batch (engine b) (numbers_of b) (start s z)) (ap (λ (j : ℕ). take j asked) (add-one k) ∙ take-suc asked k 0 h)
      ∙ batch-last (engine b) (numbers_of b) (start s z) (take k asked) (get_or asked k 0) in
      subst (λ (U : Batched (Fixed 32) (Fixed b.size)). Turned b (take (k + 1) asked) z U t disk flash addrs blocks buffer) (sym e) w

  pub batch-whole : (s : Box (Fixed 32) (Fixed b.size)) → length asked ≤ k → Turned b (take k asked) z (up_to s k) t disk flash addrs blocks buffer
      → Turned b asked z (batch (engine b) (numbers_of b) (start s z) asked) t disk flash addrs blocks buffer
  batch-whole s h w =
      subst (λ (x : List ℕ). Turned b x z (batch (engine b) (numbers_of b) (start s z) x) t disk flash addrs blocks buffer) (take_all k asked h) w
