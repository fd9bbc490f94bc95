-- A call that is not refused, from what its refusal says and what its steps leave. Assumes nothing.
use Rattle.std.specs.Prelude.{◌≡◌, Bool, true, false, ◌&&◌, List, [], ◌∷◌, ℕ, suc, ◌≤◌, ◌<◌, ◌+◌, ◌*◌, ◌^◌, eqb, length, get_or, Ok, Err}
use Rattle.std.proofs.Math.Path.{refl, sym, ap, ◌∙◌}
use Rattle.std.proofs.Common.{subst, arith, leb-false, eqb-true}
use Rattle.std.proofs.Math.Bool.{cond}
use Rattle.std.proofs.Math.Option.{Option, none, some}
use Rattle.std.proofs.lemmas.Bool.{not-false}
use Rattle.counters.specs.declared.Counters as Code
use Rattle.counters.specs.Added.{added}
use Rattle.paper.specs.KeyedLaws.{or-false-right}
use Rattle.paper.specs.Cache.{Seat, Numbers, AddressRow, Box, Call, Outcome, Word, hit, miss, same_block, new_block, Counters, counted, one_if, is_read, is_hit}
use Rattle.paper.specs.Cache.{answer, cached, serve, read_as, row_with_block, write_through, write_back, write_invalidate}
use Rattle.paper.specs.Engine.{Fixed, fit, labelled}
use Rattle.tables.specs.Records.{bytes2}
use Rattle.paper.specs.Lent.{Lent, Ask, calling, refusal, call_of, box_in, lent_of, served, answered, block_after, part_after, wrong_buffers, wrong_block}
use Rattle.paper.specs.Lent.{lent_block, outside, address_of, counts, over}
use Rattle.paper.specs.RowBytes.{Bytes}
use Rattle.paper.specs.LentLaws.{Passes}
use Rattle.paper.proofs.LentLaws.{passes-sound, fit-whole}
use Rattle.paper.proofs.RefusalLaws.{exactly, served-is, refused-keeps}
use Rattle.paper.specs.CallLaws.{Fits, Served, outcome}
use Rattle.paper.proofs.CallLaws.{served-finds, not-over}
use Rattle.paper.specs.Layout.{addresses_of, blocks_of}
use Rattle.paper.proofs.LayoutLaws.{passes-addrs, passes-blocks, passes-flash, passes-disk}
use Rattle.parts.specs.declared.BoxRecord.{BoxRecord}
use Rattle.policy.specs.declared.Word as CodeWord
use Rattle.refusal.specs.declared.Refusal.{Refusal}
use Rattle.refusal.specs.Numbers.{code}
use Rattle.refusal.specs.Numbers as Refusals
use Rattle.parts.specs.Rep.{numbers_of, Sized, Rep, with_held, engine}
use Rattle.step.specs.Steps.{Out4, out4, Sure}
use Rattle.serve.specs.declared.Served as CodeServed
use Rattle.serve.specs.declared.Write.{Write}
use Rattle.serve.specs.declared.Write.TheVariants.{Through, Back, Invalidate}
use Rattle.serve.specs.Calls.{Access, LentSound, Leaves, left, leaves, writing, is_yes, returned_or}
use Rattle.refusals.specs.Given.{counters_of, lent}
use Rattle.policy.specs.Contract.{word_of, Told, told, called, ask_of}

-- bytes below 256, one by one
pub all-bytes : (l : List ℕ) → ((i : ℕ) → get_or l i 0 < 256) → Bytes l
all-bytes [] h = tt
all-bytes (x ∷ xs) h = (h 0, all-bytes xs (λ i. h (suc i)))

-- a lent block of the right length is itself
pub fit_is : (n : ℕ) (l : List ℕ) → length l ≡ n → (fit n l).0 ≡ l
fit_is n l e = ap (λ f. f.0) (fit-whole n (l, e))

-- bytes that pass are those of the box in them
pub passes-rep : (b : BoxRecord) (disk flash addrs blocks : List ℕ) (k : Counters) → Fits (numbers_of b)
    → Passes (numbers_of b) (lent b disk flash addrs blocks k) → Bytes addrs → Bytes blocks
    → Rep b disk flash addrs blocks (box_in (numbers_of b) (lent b disk flash addrs blocks k))
passes-rep b disk flash addrs blocks k f p x y =
    let N = numbers_of b in
    let t = lent b disk flash addrs blocks k in
    record {
      rows_are = passes-addrs N t p x y f.P-most;
      blocks-are = passes-blocks N t p x y f.d-most;
      flash-is = passes-flash N t p x y;
      disk-is = passes-disk N t p x y;
    }

module _ (b : BoxRecord) (disk flash addrs blocks : List ℕ) (k : Counters) (q : Ask)
    (e : refusal (numbers_of b) (lent b disk flash addrs blocks k) (calling q) ≡ 0) where
  pub finds : Served (numbers_of b) (lent b disk flash addrs blocks k) q
  finds = served-finds (numbers_of b) (lent b disk flash addrs blocks k) q e

  pub sure : Sure b (box_in (numbers_of b) (lent b disk flash addrs blocks k))
  sure = passes-sound (numbers_of b) (lent b disk flash addrs blocks k) finds.passes

  pub rep : Bytes addrs → Bytes blocks → Rep b disk flash addrs blocks (box_in (numbers_of b) (lent b disk flash addrs blocks k))
  rep x y = passes-rep b disk flash addrs blocks k finds.fits finds.passes x y

  pub block-fits : (l : List ℕ) → lent_block q ≡ some l → length l ≡ b.size
  block-fits l p =
      let x = (exactly (numbers_of b) (lent b disk flash addrs blocks k) q).gives-0.0 e in
      eqb-true (length l) b.size (not-false (eqb (length l) b.size)
      (sym (ap (wrong_block b.size) p) ∙ or-false-right (wrong_buffers (numbers_of b) (lent b disk flash addrs blocks k))
      (wrong_block b.size (lent_block q)) x.1.1.0))

  pub address-fits : (a : ℕ) → address_of q ≡ some a → a < b.blocks
  address-fits a p =
      let x = (exactly (numbers_of b) (lent b disk flash addrs blocks k) q).gives-0.0 e in
      leb-false b.blocks a (sym (ap (outside b.blocks) p) ∙ x.1.1.1.0)

  -- what a served call finds: tables of the box's lengths, a sound box, a disk of its length, and its counters
  pub sized : Bytes addrs → Bytes blocks → Sized b addrs blocks
  sized x y = ((rep x y).rows_are.few, finds.passes.lengths.addresses, finds.passes.lengths.blocks)

  pub access : Bytes addrs → Bytes blocks → (a : ℕ) (l : List ℕ) → address_of q ≡ some a → lent_block q ≡ some l → Access b a l addrs blocks
  access x y a l ea el = (finds.fits.m-least, finds.fits.d-least, block-fits l el, address-fits a ea, finds.fits.m-most, sized x y, finds.fits.B-size)

  abbrev pub sound : Bytes addrs → Bytes blocks → LentSound b disk flash addrs blocks
  sound x y = (box_in (numbers_of b) (lent b disk flash addrs blocks k), rep x y, sure)

  pub disk-fits : length disk ≡ b.blocks * b.size
  disk-fits = finds.passes.lengths.disk

  -- the paper's call, from what the steps leave, the word and the counts
  pub finish : (w : CodeWord.Word) (said : Bool) (held f p r h : ℕ) (c : Code.Counters) (own disk' flash' addrs' blocks' block' : List ℕ)
      (one : Option (List ℕ))
      → k ≡ counters_of c
      → ◌≡◌ {A = Leaves} (record {
        yes = said;
        held = held;
        left = (record { flashed = f; primary = p; disk = disk'; flash = flash'; addrs = addrs'; blocks = blocks' });
        block = block';
      }) (leaves b own (outcome (numbers_of b) (lent b disk flash addrs blocks k) q))
      → word_of w ≡ (outcome (numbers_of b) (lent b disk flash addrs blocks k) q).word
      → r ≡ one_if (is_read (call_of b.size q))
      → h ≡ one_if (is_hit (outcome (numbers_of b) (lent b disk flash addrs blocks k) q).word)
      → one ≡ block_after q (outcome (numbers_of b) (lent b disk flash addrs blocks k) q).block
      → part_after q (outcome (numbers_of b) (lent b disk flash addrs blocks k) q).block ≡ []
      → told (record { answer = Ok (record { word = w; flashed = f; primary = p }); box_record = with_held b held; counters = added c r h f p }) disk' flash' addrs' blocks' one
      ≡ called b (lent b disk flash addrs blocks k) q
  unfolding leaves out4 addresses_of blocks_of lent_of served counted
  finish w said held f p r h c own disk' flash' addrs' blocks' block' one ek x ew er eh eo ep =
      let N = numbers_of b in
      let t = lent b disk flash addrs blocks k in
      let last = sym (served-is N t q e) in
      ◌∙◌ {A = Told}
      (λ i. record {
        numbers = N;
        after = record {
          answer = answered (ew i) (x i).left.flashed (x i).left.primary;
          lent = record {
            n = (x i).held;
            disk = (x i).left.disk;
            flash = (x i).left.flash;
            addresses = (x i).left.addrs;
            blocks = (x i).left.blocks;
            counters = record {
              reads = (sym ek i).reads + er i;
              hits = (sym ek i).hits + eh i;
              flash_writes = (sym ek i).flash_writes + (x i).left.flashed;
              primary_writes = (sym ek i).primary_writes + (x i).left.primary;
            };
          };
          block = eo i;
          part = sym ep i;
        };
      })
      (λ i. record { numbers = N; after = last i })

-- a refused call
pub keep : (b : BoxRecord) (disk flash addrs blocks : List ℕ) (c : Code.Counters) (q : Ask) (r : Refusal)
    → code r ≡ refusal (numbers_of b) (lent b disk flash addrs blocks (counters_of c)) (calling q)
    → (one : Option (List ℕ)) → one ≡ lent_block q
    → told (record { answer = Err r; box_record = b; counters = c }) disk flash addrs blocks one
    ≡ called b (lent b disk flash addrs blocks (counters_of c)) q
unfolding Rattle.paper.specs.Lent.kept
keep b disk flash addrs blocks c q r e one eo =
    let N = numbers_of b in
    let t = lent b disk flash addrs blocks (counters_of c) in
    let last = sym (refused-keeps N t q (λ z. Refusals.refused r (e ∙ z))) in
    ◌∙◌ {A = Told}
    (λ i. record { numbers = N; after = record { answer = Rattle.paper.specs.Lent.refused (e i); lent = t; block = eo i; part = [] } })
    (λ i. record { numbers = N; after = last i })

-- a call's own counts fit
pub fitting : (c : Code.Counters) (rows r h f p : ℕ) → over (counters_of c) ≡ false → rows ≤ 1024 → r ≤ 1 → h ≤ 1 → f ≤ 1 → p ≤ 2 + rows
    → (c.reads + r < 2 ^ 64) × (c.hits + h < 2 ^ 64) × (c.flash + f < 2 ^ 64) × (c.primary + p < 2 ^ 64)
fitting c rows r h f p e l lr lh lf lp =
    let x = not-over (counters_of c) e in
    let x0 = x.0 in
    let x1 = x.1 in
    let x2 = x.2 in
    let x3 = x.3 in
    (omega arith, omega arith, omega arith, omega arith)

-- ---- the words
or_new : (b : Bool) → ◌≡◌ {A = Word} (cond b same_block new_block) (cond (is_yes (cond b same_block new_block)) same_block new_block)
or_new true = refl
or_new false = refl

module _ (N : Numbers) (s : Box (Fixed 32) (Fixed N.B)) (a : ℕ) where
  -- a read's word is hit or miss
  pub read-says : (serve (labelled N) N s (Call.read a)).word ≡ cond (is_yes (serve (labelled N) N s (Call.read a)).word) hit miss
  unfolding serve read_as answer
  read-says = go (get_or s.disk a (labelled N).blank) (row_with_block (labelled N) s a)
    where
      go : (x : Fixed N.B) (o : Option (AddressRow (Fixed 32)))
          → (read_as (labelled N) N.m s a x o).word ≡ cond (is_yes (read_as (labelled N) N.m s a x o).word) hit miss
      go x (some r) = refl
      go x none = refl

  -- a write's word is same or new
  pub write-says : (kind : Write) (x : Fixed N.B) (z : Seat)
      → (serve (labelled N) N s (writing kind a x z)).word ≡ cond (is_yes (serve (labelled N) N s (writing kind a x z)).word) same_block new_block
  unfolding serve write_through write_back write_invalidate answer
  write-says Through x z = or_new (cached (labelled N) ((labelled N).hash x) s.used)
  write-says Back x z = or_new (cached (labelled N) ((labelled N).hash x) s.used)
  write-says Invalidate x z = or_new (cached (labelled N) ((labelled N).hash x) s.used)

-- a word that is one of two, from what the code says of it
pub said-is : (w u v : Word) (said : Bool) → w ≡ cond (is_yes w) u v → said ≡ is_yes w → cond said u v ≡ w
said-is w u v said e f = ap (λ b. cond b u v) f ∙ sym e

-- a hit is counted
pub hit-counted : (w : Word) (said : Bool) → w ≡ cond (is_yes w) hit miss → said ≡ is_yes w → cond said 1 0 ≡ one_if (is_hit w)
hit-counted w true e f = sym (ap (λ u. one_if (is_hit u)) (e ∙ ap (λ b. cond b hit miss) (sym f)))
hit-counted w false e f = sym (ap (λ u. one_if (is_hit u)) (e ∙ ap (λ b. cond b hit miss) (sym f)))

-- a write is no hit
pub no_hit : (w : Word) → w ≡ cond (is_yes w) same_block new_block → 0 ≡ one_if (is_hit w)
no_hit w e = go (is_yes w) e
  where
    go : (b : Bool) → w ≡ cond b same_block new_block → 0 ≡ one_if (is_hit w)
    go true e = sym (ap (λ u. one_if (is_hit u)) e)
    go false e = sym (ap (λ u. one_if (is_hit u)) e)

-- the lent block after a read
pub read-block : {B : ℕ} (a : ℕ) (l : List ℕ) (o : Option (Fixed B)) → some (returned_or o l) ≡ block_after (Ask.read a l) o
read-block a l (some x) = refl
read-block a l none = refl

pub one-le : (said : Bool) (n : ℕ) → n ≡ cond said 1 0 → n ≤ 1
one-le true n e = omega arith
one-le false n e = omega arith

-- the word and the block that the steps leave
module _ (b : BoxRecord) (own : List ℕ) (o : Outcome (Fixed 32) (Fixed b.size)) {said : Bool} {held : ℕ} {left : Out4} {block : List ℕ}
    (x : ◌≡◌ {A = Leaves} (record { yes = said; held = held; left = left; block = block }) (leaves b own o)) where
  pub yes_of : said ≡ is_yes o.word
  unfolding leaves
  yes_of = ap (λ y. y.yes) x

  pub block_of : block ≡ returned_or o.block own
  unfolding leaves
  block_of = ap (λ y. y.block) x

-- ---- the writes
-- what a write of any kind asks: an access with its address and its block, which it keeps; no read
pub record AsksWrite (kind : Write) (B a z : ℕ) (l : List ℕ) : Type 0 where
  pub call : call_of B (ask_of kind a l z) ≡ writing kind a (fit B l) (bytes2 z)
  pub refusal_is : (N : Numbers) (t : Lent) → refusal N t (calling (Ask.read a l)) ≡ refusal N t (calling (ask_of kind a l z))
  pub address : address_of (ask_of kind a l z) ≡ some a
  pub block : lent_block (ask_of kind a l z) ≡ some l
  pub counted : (k : Counters) → over k ≡ counts (ask_of kind a l z) && over k
  pub no_read : is_read (call_of B (ask_of kind a l z)) ≡ false
  pub kept : (o : Option (Fixed B)) → some l ≡ block_after (ask_of kind a l z) o
  pub no_part : (o : Option (Fixed B)) → part_after (ask_of kind a l z) o ≡ []

pub asks_write : (kind : Write) (B a z : ℕ) (l : List ℕ) → AsksWrite kind B a z l
unfolding call_of refusal
asks_write Through B a z l =
    record { call = refl; refusal_is = λ N t. refl; address = refl; block = refl; counted = λ k. refl; no_read = refl; kept = λ o. refl; no_part = λ o. refl }
asks_write Back B a z l =
    record { call = refl; refusal_is = λ N t. refl; address = refl; block = refl; counted = λ k. refl; no_read = refl; kept = λ o. refl; no_part = λ o. refl }
asks_write Invalidate B a z l =
    record { call = refl; refusal_is = λ N t. refl; address = refl; block = refl; counted = λ k. refl; no_read = refl; kept = λ o. refl; no_part = λ o. refl }
