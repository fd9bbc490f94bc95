-- A read or a write of a D-ARC box that isn't refused: what it finds in the lent bytes, and what it tells when the step is done. Assumes nothing.
use Rattle.std.specs.Prelude.{◌≡◌, List, [], Bool, true, false, ◌&&◌, ℕ, ◌+◌, ◌^◌, ◌≤◌, ◌<◌, get_or, Ok}
use Rattle.std.proofs.Math.Path.{refl, sym, ◌∙◌}
use Rattle.std.proofs.Common.{ap, subst, arith}
use Rattle.std.proofs.Math.Bool.{cond}
use Rattle.std.proofs.Math.Option.{Option, none, some}
use Rattle.counters.specs.declared.Counters as Code
use Rattle.counters.specs.Added.{added}
use Rattle.paper.specs.Cache.{Hashing, Seat, AddressRow, Box, Call, Word, hit, miss, same_block, new_block, counted, one_if, is_read, is_hit, answer, cached}
use Rattle.paper.specs.Cache.{row_with_block, write_invalidate}
use Rattle.paper.specs.Engine.{Fixed, fit}
use Rattle.tables.specs.Records.{bytes2}
use Rattle.paper.specs.Lent.{Ask, calling, call_of, lent_of, answered, block_after, part_after, address_of, lent_block, counts, over}
use Rattle.paper.proofs.CallLaws.{not-over}
use Rattle.paper.specs.Layout.{addresses_of, blocks_of}
use Rattle.paper.specs.RowBytes.{Bytes}
use Rattle.arc.specs.Policy.{Served, answered_by, read_by, through_by, back_by, serve_by}
use Rattle.serve.specs.declared.Write.{Write}
use Rattle.serve.specs.declared.Write.TheVariants.{Through, Back, Invalidate}
use Rattle.serve.specs.Calls.{is_yes, writing}
use Rattle.arc.specs.Arc.{Sizes, Lists, m_of, arc}
use Rattle.arc.specs.ArcStep.{ArcSound}
use Rattle.arc.specs.ArcLent.{ArcLent, ListRecord, words, total_of, arc_refusal, arc_lent_of, arc_served}
use Rattle.arc.proofs.ArcLentLaws.{length-words-in}
use Rattle.arc.specs.ArcDemand.{lists_of, box_of}
use Rattle.arc.proofs.ArcDemandLaws.{Found, found, served-is, passes-right}
use Rattle.arclists.specs.declared.ListSizes.{ListSizes}
use Rattle.arclists.specs.Holding.{Holds}
use Rattle.parts.specs.Rep.{Rep, with_held, engine}
use Rattle.refusals.specs.Given.{counters_of}
use Rattle.policy.specs.declared.Word as CodeWord
use Rattle.policy.specs.Contract.{word_of, ask_of}
use Rattle.policy.specs.CallLaws.{rep, access, said-is, no_hit, asks_write}
use Rattle.arcserve.specs.ArcCalls.{ArcAccess, Serves}
use Rattle.arcserve.specs.declared.ArcServed.{ArcServed}
use Rattle.arcrefusals.specs.declared.ArcRecord.{ArcRecord}
use Rattle.arcrefusals.specs.Given.{sizes_of, base_of, arc_lent}
use Rattle.arccalls.specs.Contract.{ArcTold, arc_told, arc_called}
use Rattle.arccalls.specs.ListLaws.{record-found, bytes-found}
use Rattle.arccalls.specs.BaseLaws.{base-zero, passes-read}

-- the record with other rows held and other lists; C and X stay
abbrev pub moved : ArcRecord → ℕ → ListSizes → ArcRecord
moved a n s =
    record {
      size = a.size;
      blocks = a.blocks;
      held = n;
      label = a.label;
      limit = a.limit;
      sizes = record {
        t1 = s.t1;
        t2 = s.t2;
        b1 = s.b1;
        b2 = s.b2;
        b3 = s.b3;
        p = s.p;
        cached = a.sizes.cached;
        extra = a.sizes.extra;
      };
    }

module _ (a : ArcRecord) (disk flash addresses blocks lists : List ℕ) (c : Code.Counters) (q : Ask)
    (e : arc_refusal (sizes_of a) (arc_lent a disk flash addresses blocks lists (counters_of c)) (calling q) ≡ 0) where
  abbrev Z : Sizes
  Z = sizes_of a

  abbrev t : ArcLent
  t = arc_lent a disk flash addresses blocks lists (counters_of c)

  finds : Found (sizes_of a) (arc_lent a disk flash addresses blocks lists (counters_of c)) q
  finds = found (sizes_of a) (arc_lent a disk flash addresses blocks lists (counters_of c)) q e

  pub box-sound : ArcSound (engine (base_of a)) (sizes_of a) (lists_of (arc_lent a disk flash addresses blocks lists (counters_of c)))
      (box_of (sizes_of a) (arc_lent a disk flash addresses blocks lists (counters_of c)))
  box-sound = passes-right (sizes_of a) (arc_lent a disk flash addresses blocks lists (counters_of c)) finds.passes

  pub box-held : Bytes addresses → Bytes blocks
      → Rep (base_of a) disk flash addresses blocks (box_of (sizes_of a) (arc_lent a disk flash addresses blocks lists (counters_of c)))
  box-held x y =
      rep (base_of a) disk flash addresses blocks (counters_of c) q
      (base-zero (sizes_of a) (arc_lent a disk flash addresses blocks lists (counters_of c)) q e) x y

  pub lists-held : ((i : ℕ) → get_or lists i 0 < 256)
      → Holds (m_of (sizes_of a)) a.sizes lists (lists_of (arc_lent a disk flash addresses blocks lists (counters_of c)))
  lists-held low =
      let u = arc_lent a disk flash addresses blocks lists (counters_of c) in
      let r = passes-read (sizes_of a) u finds.passes in
      let n = sym (record-found u.sizes (words (total_of u.sizes) lists) (length-words-in (total_of u.sizes) lists)) in
      record {
        sized = record {
          t1-is = ap (λ (x : ListRecord). x.t1) n;
          t2-is = ap (λ (x : ListRecord). x.t2) n;
          b1-is = ap (λ (x : ListRecord). x.b1) n;
          b2-is = ap (λ (x : ListRecord). x.b2) n;
          b3-is = ap (λ (x : ListRecord). x.b3) n;
          p-is = ap (λ (x : ListRecord). x.p) n;
        };
        bytes = sym (bytes-found (m_of (sizes_of a)) u.sizes lists r.long r.room low r.after);
        room = r.room;
      }

  -- what the code's call asks
  pub accesses : Bytes addresses → Bytes blocks → (x : ℕ) (l : List ℕ) → address_of q ≡ some x → lent_block q ≡ some l
      → ArcAccess (base_of a) a.sizes x l addresses blocks lists
  accesses u v x l ea el =
      let w = access (base_of a) disk flash addresses blocks (counters_of c) q
      (base-zero (sizes_of a) (arc_lent a disk flash addresses blocks lists (counters_of c)) q e) u v x l ea el in
      let r = passes-read (sizes_of a) (arc_lent a disk flash addresses blocks lists (counters_of c)) finds.passes in
      (w.1, w.4, w.2, w.3, w.5, refl, refl, r.long, w.6)

  -- its counts fit
  pub counts-fit : over (counters_of c) ≡ false
      → (r h f p : ℕ) → r ≤ 1 → h ≤ 1 → f ≤ 1 → p ≤ 2 + m_of (sizes_of a) + m_of (sizes_of a) → m_of (sizes_of a) ≤ 1024
      → (c.reads + r < 2 ^ 64) × (c.hits + h < 2 ^ 64) × (c.flash + f < 2 ^ 64) × (c.primary + p < 2 ^ 64)
  counts-fit o r h f p lr lh lf lp lm =
      let x = not-over (counters_of c) o in
      let x0 = x.0 in
      let x1 = x.1 in
      let x2 = x.2 in
      let x3 = x.3 in
      (omega arith, omega arith, omega arith, omega arith)

  pub small-numbers : (a.sizes.cached ≤ 256) × (a.sizes.extra ≤ 1024)
  small-numbers = let m = finds.fits.m-most in (finds.fits.C-most, omega (arith, m))

  pub most-rows : m_of (sizes_of a) ≤ 1024
  most-rows = finds.fits.m-most

  pub none_over : (counts q && over (counters_of c)) ≡ false
  none_over = finds.counters

  -- what the call leaves on paper
  abbrev pub outcome : Served (Fixed 32) (Fixed a.size) Lists
  outcome =
      serve_by (engine (base_of a)) (arc (engine (base_of a)) (sizes_of a)) (lists_of (arc_lent a disk flash addresses blocks lists (counters_of c)))
      (box_of (sizes_of a) (arc_lent a disk flash addresses blocks lists (counters_of c))) (call_of a.size q)

  -- the paper's call, from what the code leaves
  pub access-told : (w : CodeWord.Word) (held f p r h : ℕ) (s : ListSizes) (disk' flash' addresses' blocks' lists' : List ℕ) (one : Option (List ℕ))
      → Rep (with_held (base_of a) held) disk' flash' addresses' blocks' outcome.outcome.box → Holds (m_of (sizes_of a)) s lists' outcome.kept
      → word_of w ≡ outcome.outcome.word → f ≡ outcome.outcome.flash_writes → p ≡ outcome.outcome.primary_writes
      → r ≡ one_if (is_read (call_of a.size q)) → h ≡ one_if (is_hit outcome.outcome.word) → one ≡ block_after q outcome.outcome.block
      → [] ≡ part_after q outcome.outcome.block
      → arc_told (record { answer = Ok (record { word = w; flashed = f; primary = p }); box_record = moved a held s; counters = added c r h f p })
      disk' flash' addresses' blocks' lists' one
      ≡ arc_called a (arc_lent a disk flash addresses blocks lists (counters_of c)) q
  unfolding arc_served arc_lent_of lent_of addresses_of blocks_of counted
  access-told w held f p r h s disk' flash' addresses' blocks' lists' one b k ew ef ep er eh eo part =
      let u = arc_lent a disk flash addresses blocks lists (counters_of c) in
      let last = sym (served-is (sizes_of a) u q e) in
      let z = k.sized in
      ◌∙◌ {A = ArcTold}
      (λ i. record {
        numbers = sizes_of a;
        after = record {
          answer = answered (ew i) (ef i) (ep i);
          lent = record {
            base = record {
              n = sym b.rows_are.count i;
              disk = b.disk-is.is i;
              flash = b.flash-is.is i;
              addresses = b.rows_are.is i;
              blocks = b.blocks-are.is i;
              counters = record {
                reads = c.reads + er i;
                hits = c.hits + eh i;
                flash_writes = c.flash + ef i;
                primary_writes = c.primary + ep i;
              };
            };
            sizes = record { t1 = z.t1-is i; t2 = z.t2-is i; b1 = z.b1-is i; b2 = z.b2-is i; b3 = z.b3-is i; p = z.p-is i };
            lists = k.bytes i;
          };
          block = eo i;
          part = part i;
        };
      })
      (λ i. record { numbers = sizes_of a; after = last i })

-- the words: a read's is hit or miss, a write's same or new
module _ {X : ℕ} (H : Hashing (Fixed 32) (Fixed X)) (Z : Sizes) (l : Lists) (x : Box (Fixed 32) (Fixed X)) (a : ℕ) where
  pub read-says : (serve_by H (arc H Z) l x (Call.read a)).outcome.word ≡ cond (is_yes (serve_by H (arc H Z) l x (Call.read a)).outcome.word) hit miss
  unfolding serve_by read_by answered_by answer
  read-says = go (get_or x.disk a H.blank) (row_with_block H x a)
    where
      go : (y : Fixed X) (o : Option (AddressRow (Fixed 32)))
          → (read_by H (arc H Z) l x a y o).outcome.word ≡ cond (is_yes (read_by H (arc H Z) l x a y o).outcome.word) hit miss
      go y (some r) = refl
      go y none = refl

  same_new : (b : Bool) → ◌≡◌ {A = Word} (cond b same_block new_block) (cond (is_yes (cond b same_block new_block)) same_block new_block)
  same_new true = refl
  same_new false = refl

  pub write-says : (kind : Write) (y : Fixed X) (z : Seat)
      → (serve_by H (arc H Z) l x (writing kind a y z)).outcome.word
      ≡ cond (is_yes (serve_by H (arc H Z) l x (writing kind a y z)).outcome.word) same_block new_block
  unfolding serve_by through_by back_by answered_by answer write_invalidate
  write-says Through y z = same_new (cached H (H.hash y) x.used)
  write-says Back y z = same_new (cached H (H.hash y) x.used)
  write-says Invalidate y z = same_new (cached H (H.hash y) x.used)

-- a write is refused as a read is
pub asked-as-read : (kind : Write) (Z : Sizes) (t : ArcLent) (x : ℕ) (l : List ℕ) (z : ℕ)
    → arc_refusal Z t (calling (Ask.read x l)) ≡ arc_refusal Z t (calling (ask_of kind x l z))
unfolding arc_refusal
asked-as-read Through Z t x l z = refl
asked-as-read Back Z t x l z = refl
asked-as-read Invalidate Z t x l z = refl

-- a write, from what its step leaves
module _ (a : ArcRecord) (disk flash addresses blocks lists : List ℕ) (c : Code.Counters) (kind : Write) (x : ℕ) (l : List ℕ) (z : ℕ)
    (e : arc_refusal (sizes_of a) (arc_lent a disk flash addresses blocks lists (counters_of c)) (calling (ask_of kind x l z)) ≡ 0) where
  abbrev on : Call (Fixed a.size) → Served (Fixed 32) (Fixed a.size) Lists
  on u =
      serve_by (engine (base_of a)) (arc (engine (base_of a)) (sizes_of a)) (lists_of (arc_lent a disk flash addresses blocks lists (counters_of c)))
      (box_of (sizes_of a) (arc_lent a disk flash addresses blocks lists (counters_of c))) u

  pub written_as : (w : CodeWord.Word) (r : ArcServed) (disk' flash' addresses' blocks' lists' : List ℕ)
      → Serves (base_of a) r disk' flash' addresses' blocks' lists' l l (on (writing kind x (fit a.size l) (bytes2 z)))
      → word_of w ≡ cond r.yes same_block new_block
      → arc_told (record {
        answer = Ok (record { word = w; flashed = r.running.flashed; primary = r.running.primary });
        box_record = moved a r.running.held r.running.sizes;
        counters = added c 0 0 r.running.flashed r.running.primary;
      }) disk' flash' addresses' blocks' lists' (some l)
      ≡ arc_called a (arc_lent a disk flash addresses blocks lists (counters_of c)) (ask_of kind x l z)
  written_as w r disk' flash' addresses' blocks' lists' s ew =
      let q = ask_of kind x l z in
      let k = asks_write kind a.size x z l in
      let y : Call (Fixed a.size) = writing kind x (fit a.size l) (bytes2 z) in
      let says = write-says (engine (base_of a)) (sizes_of a) (lists_of (arc_lent a disk flash addresses blocks lists (counters_of c)))
      (box_of (sizes_of a) (arc_lent a disk flash addresses blocks lists (counters_of c))) x kind (fit a.size l) (bytes2 z) in
      let v = subst (λ u. Serves (base_of a) r disk' flash' addresses' blocks' lists' l l (on u)) (sym k.call) s in
      let says' = subst (λ u. (on u).outcome.word ≡ cond (is_yes (on u).outcome.word) same_block new_block) (sym k.call) says in
      let o = outcome a disk flash addresses blocks lists c q e in
      access-told a disk flash addresses blocks lists c q e w r.running.held r.running.flashed r.running.primary 0 0 r.running.sizes
      disk' flash' addresses' blocks' lists' (some l) v.box v.names (ew ∙ said-is o.outcome.word same_block new_block r.yes says' v.word)
      v.flashed v.primary (sym (ap one_if k.no_read)) (no_hit o.outcome.word says') (k.kept o.outcome.block)
      (sym (k.no_part o.outcome.block))
