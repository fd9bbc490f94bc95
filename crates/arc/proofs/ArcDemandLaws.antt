-- Demand 3 for D-ARC boxes, proved: for every list of calls from a fresh box over any bytes.
use Rattle.std.specs.Prelude.{◌≡◌, false, not, ◌&&◌, ◌||◌, ◌≢◌, ℕ, ◌+◌, ◌-◌, ◌*◌, ◌^◌, ◌≤◌, ◌<◌, leb, ltb}
use Rattle.std.proofs.Math.Path.{refl, sym, ap, ap₂, subst, subst₂}
use Rattle.std.proofs.Common.{◌∙◌, true≢false}
use Rattle.std.proofs.Math.Bool.{cond}
use mathlib.Core.List.{List, [], ◌∷◌, ◌++◌, map, append-nil, Memᴰ}
use Rattle.std.proofs.Math.Option.{Option, none, some}
use native.Mathlib.Omega.{arith}
use Rattle.std.proofs.Math.Dec.{eqb}
use Rattle.std.proofs.Math.ListN.{length, length-append}
use borrow.Author.Tests.{eqb-true, eqb-false, eq-eqb, leb-true, leb-false, ltb-false, le-ltb, ne_eqb, not-false}
use Rattle.tables.specs.Rows.{zeros}
use Rattle.tables.specs.ShiftLaws.{length-zeros}
use Rattle.tables.specs.Records.{address_table, block_table, free_row, slots_from, fresh_addresses, fresh_blocks}
use Rattle.tables.specs.Unsound.{elem, addresses_unsound, dirty_uncached}
use Rattle.paper.specs.Cache as Paper
use Rattle.paper.specs.Cache.{Numbers, Hashing, Box, Below, Within, dirty_rows, row_with_block, no_counts, Counters, counted, is_read, is_hit}
use Rattle.paper.specs.KeyedLaws.{All, by-test, all_left, all_right, all_map, or-false-left, or-false-right, or-both, and_left, and_right}
use Rattle.paper.specs.Engine.{Fixed, labelled}
use Rattle.paper.specs.Lent as Base
use Rattle.paper.specs.Lent.{Ask, opening, calling, call_of, address_of, lent_block, between, other_length, wrong_buffers, wrong_block, outside, over}
use Rattle.paper.specs.Lent.{limit_outside, over_limit, FewDirty, counts, box_in, lent_of, block_after, part_after, refused, join, split}
use Rattle.paper.specs.Machines.{plain_next, plain_block, written_by, TrueFingerprints}
use Rattle.paper.proofs.FaithfulLaws.{at, BlockTrue, Faithful}
use Rattle.paper.proofs.PlainDiskLaws.{clean-is-plain}
use Rattle.paper.proofs.FewWrites.{one-if-le, few-by}
use Rattle.paper.proofs.Parts.{length-split, join-split}
use Rattle.hash.specs.LastChunk.{Size}
use Rattle.paper.specs.LentLaws.{Lengths, Passes}
use Rattle.paper.proofs.LentLaws.{right-lengths, counters-box, counters-pass, passes-sound, sound-passes, lent_back}
use Rattle.paper.specs.CallLaws.{Grown, In64}
use Rattle.paper.proofs.CallLaws.{seven, about-call, not-over}
use Rattle.paper.specs.Batch.{start, first_read, source, blocks_in}
use Rattle.paper.specs.BatchLent as Folders
use Rattle.paper.specs.BatchLent.{Asking, one, many, report, recount, bad_count, any_outside}
use Rattle.paper.specs.BatchLaws.{GrownBy}
use Rattle.paper.specs.Reports as Reports
use Rattle.arc.specs.Policy.{Served, serve_by}
use Rattle.arc.specs.PlainRows.{Only}
use Rattle.arc.proofs.PromiseLaws.{Promise, inv-read, inv-serve, tally-reads, tally-serves, faithful-serves, flushes-one, all-mem}
use Rattle.arc.specs.Arc.{Sizes, base_numbers, m_of, Lists, no_lists, arc}
use Rattle.arc.specs.ArcStep.{ArcSound}
use Rattle.arc.proofs.ArcSays.{top-has-block, named-once}
use Rattle.arc.proofs.ArcLaws.{arc-promises, arc-fresh}
use Rattle.arc.specs.Folder.{FolderBy, next_read, folder_read, folder, own_read, folder_in_turn}
use Rattle.arc.proofs.FolderLaws.{folder-inv, folder-few-dirty, folder-in-turn, folder-good, folder-blocks}
use Rattle.arc.specs.ArcLent.{ArcLent, word_bytes, end_to_end, list_bytes, list_record, unfit_arc, lists_unsound, top_uncached, tops_in, wrong_arc_buffers}
use Rattle.arc.specs.ArcLent.{arc_refusal, arc_lent_of, arc_served, arc_call, arc_opened, no_sizes}
use Rattle.arc.proofs.ArcLentLaws.{lists_back, lists-pass, tops-pass, passes-arc, total-end, length-words}
use Rattle.arc.proofs.ArcExactlyLaws.{arc-exactly, arc-exactly-opening, arc-exactly-folder}
use Rattle.arc.specs.ArcFolder.{folder_start, folder_from, folder_lent, arc_folder_refusal, arc_served_folder, arc_folder_call, arc_served_in_turn}
use Rattle.arc.specs.ArcReports.{arc_report_refusal}
use Rattle.arc.specs.ArcDemand.{lists_of, box_of, disk_of, arc_next, arc_plain, ArcThroughout, ArcEachServed, ArcInList, arc_number, arc_refusals}
use Rattle.arc.specs.ArcDemand.{arc_writes, arc_written, ArcShows, ArcAsReads, ArcFlushes, ArcCleanIsPlain, ArcStateLaw, ArcDemand}
use Rattle.arc.specs.ArcDemandLaws.{ArcFits}

pub arc-fits : (Z : Sizes) → unfit_arc Z ≡ false → ArcFits Z
unfolding unfit_arc
arc-fits Z h =
    let a = not (elem Z.B (64 ∷ 128 ∷ 256 ∷ 512 ∷ 1024 ∷ 2048 ∷ 4096 ∷ [])) in
    let b = not (between 1 65536 Z.P) in
    let c = not (between 1 256 Z.C) in
    let d = ltb 1024 (Z.C + Z.C + Z.X) in
    let h₃ = or-false-left (a || b || c) d h in
    let p = not-false (between 1 65536 Z.P) (or-false-right a b (or-false-left (a || b) c h₃)) in
    let m = not-false (between 1 256 Z.C) (or-false-right (a || b) c h₃) in
    record {
      B-size = seven Z.B (not-false _ (or-false-left a b (or-false-left (a || b) c h₃)));
      P-most = leb-true Z.P 65536 (and_right (leb 1 Z.P) (leb Z.P 65536) p);
      C-least = leb-true 1 Z.C (and_left (leb 1 Z.C) (leb Z.C 256) m);
      C-most = leb-true Z.C 256 (and_right (leb 1 Z.C) (leb Z.C 256) m);
      m-most = ltb-false 1024 (Z.C + Z.C + Z.X) (or-false-right (a || b || c) d h);
    }

below : (P : ℕ) (a : Option ℕ) → outside P a ≡ false → Below P a
below P none e = tt
below P (some a) e = leb-false P a e

within : (P B : ℕ) (q : Ask) → outside P (address_of q) ≡ false → Within P (call_of B q)
within P B q e = subst (λ x. Below P x.address) (sym (about-call B q)) (below P (address_of q) e)

module _ (Z : Sizes) where
  abbrev H : Hashing (Fixed 32) (Fixed Z.B)
  H = labelled (base_numbers Z)

  abbrev M : Numbers
  M = base_numbers Z

  -- lent memory that passes 2, 6, 7, 8 and 13
  pub record ArcPasses (t : ArcLent) : Type 0 where
    pub base : Passes M t.base
    pub width : other_length t.lists (m_of Z * 4) ≡ false
    pub six : lists_unsound Z (box_of Z t).rows t.sizes t.lists ≡ false
    pub eight : top_uncached H (box_of Z t) (tops_in t.sizes t.lists) ≡ false
    pub few : FewDirty M (box_of Z t)

  -- what a served call finds
  pub record Found (t : ArcLent) (q : Ask) : Type 0 where
    pub fits : ArcFits Z
    pub passes : ArcPasses t
    pub inside : Within Z.P (call_of Z.B q)
    pub counters : (counts q && over t.base.counters) ≡ false

  pub found : (t : ArcLent) (q : Ask) → arc_refusal Z t (calling q) ≡ 0 → Found t q
  found t q e =
      let b = t.base in
      let x = (arc-exactly Z t q).gives-0.0 e in
      let w = or-false-left (wrong_arc_buffers Z t) (wrong_block Z.B (lent_block q)) x.1.1.0 in
      let a6 = addresses_unsound Z.P (m_of Z) b.n b.addresses in
      let l6 = lists_unsound Z (box_of Z t).rows t.sizes t.lists in
      let d8 = dirty_uncached b.n Z.C b.addresses b.blocks in
      let l8 = top_uncached H (box_of Z t) (tops_in t.sizes t.lists) in
      let y = x.1.1.1.1 in
      record {
        fits = arc-fits Z x.0;
        passes = record {
          base = record {
            lengths = right-lengths M b (or-false-left (wrong_buffers M b) (other_length t.lists (m_of Z * 4)) w);
            addresses = or-false-left a6 l6 y.0;
            blocks = y.1.0;
            dirty = or-false-left d8 l8 y.1.1.0;
          };
          width = or-false-right (wrong_buffers M b) (other_length t.lists (m_of Z * 4)) w;
          six = or-false-right a6 l6 y.0;
          eight = or-false-right d8 l8 y.1.1.0;
          few = ltb-false Z.t (dirty_rows H (box_of Z t).rows) y.1.1.1.0;
        };
        inside = within Z.P Z.B q x.1.1.1.0;
        counters = y.1.1.1.1.0;
      }

  -- memory that passes is right, whatever bytes it has
  pub passes-right : (t : ArcLent) → ArcPasses t → ArcSound H Z (lists_of t) (box_of Z t)
  passes-right t p = passes-arc H Z t.sizes t.lists (box_of Z t) (passes-sound M t.base p.base) p.six p.eight

  -- what right lists and a right box write passes, and is read back
  module _ (l : Lists) (s : Box (Fixed 32) (Fixed Z.B)) (h : ArcSound H Z l s) (k : Counters) (f : ArcFits Z) where
    abbrev out : ArcLent
    out = record { base = lent_of M s k; sizes = list_record l; lists = list_bytes (m_of Z) l }

    low : Z.P ≤ 2 ^ 32
    low = let P1 = f.P-most in omega (arith, P1)

    box-back : box_of Z out ≡ s
    box-back = lent_back M s h.sound k f.P-most f.C-most

    lists-out : lists_of out ≡ l
    lists-out = lists_back H Z low l s h (m_of Z)

    list-width : length (list_bytes (m_of Z) l) ≡ m_of Z * 4
    unfolding list_bytes
    list-width =
        let e = total-end l in
        let w = length-words (end_to_end l) in
        let f = h.fit in
        let g = h.few in
        let n = length-append (word_bytes (end_to_end l)) (zeros ((m_of Z - length (end_to_end l)) * 4)) in
        let z = length-zeros ((m_of Z - length (end_to_end l)) * 4) in
        omega (arith, e, w, f, g, n, z)

    pub right-passes : FewDirty M s → ArcPasses out
    right-passes few =
        record {
          base = sound-passes M s h.sound k f.P-most f.C-most;
          width = ap not (eq-eqb (length (list_bytes (m_of Z) l)) (m_of Z * 4) list-width);
          six = subst (λ b. lists_unsound Z b.rows (list_record l) (list_bytes (m_of Z) l) ≡ false) (sym box-back) (lists-pass H Z low l s h (m_of Z));
          eight = subst (λ b. top_uncached H b (tops_in (list_record l) (list_bytes (m_of Z) l)) ≡ false) (sym box-back) (tops-pass H Z low l s h (m_of Z));
          few = subst (FewDirty M) (sym box-back) few;
        }

  -- the paper's outcome of a call on lent bytes
  abbrev pub arc_outcome : ArcLent → Ask → Served (Fixed 32) (Fixed Z.B) Lists
  arc_outcome t q = serve_by H (arc H Z) (lists_of t) (box_of Z t) (call_of Z.B q)

  pub served-is : (t : ArcLent) (q : Ask) → arc_refusal Z t (calling q) ≡ 0 → arc_call Z t q ≡ arc_served Z t q
  unfolding arc_call
  served-is t q e = rw (e, arc_call) refl

  -- "A refused call returns its number and the box record as given ..; every buffer and counter keeps its bytes"
  pub arc-keeps : (t : ArcLent) (q : Ask) → arc_refusal Z t (calling q) ≢ 0
      → arc_call Z t q ≡ record { answer = refused (arc_refusal Z t (calling q)); lent = t; block = lent_block q; part = [] }
  unfolding arc_call
  arc-keeps t q n = rw (ne_eqb (arc_refusal Z t (calling q)) 0 n, arc_call) refl

  kept-is : (t : ArcLent) (q : Ask) → eqb (arc_refusal Z t (calling q)) 0 ≡ false → (arc_call Z t q).lent ≡ t
  kept-is t q y = ap (λ x. x.lent) (arc-keeps t q (eqb-false (arc_refusal Z t (calling q)) 0 y))

  module _ (t : ArcLent) (q : Ask) (e : arc_refusal Z t (calling q) ≡ 0) where
    outcome-right : ArcSound H Z (arc_outcome t q).kept (arc_outcome t q).outcome.box
    outcome-right =
        let x = found t q e in
        inv-serve H M (arc H Z) (ArcSound H Z) (arc-promises H Z x.fits.C-least) (lists_of t) (box_of Z t) (call_of Z.B q) (passes-right t x.passes)
        x.inside

    outcome-few : FewDirty M (arc_outcome t q).outcome.box
    outcome-few =
        let x = found t q e in
        (tally-serves H M (arc H Z) (ArcSound H Z) (arc-promises H Z x.fits.C-least) (lists_of t) (box_of Z t) (call_of Z.B q)
        (passes-right t x.passes)).few x.passes.few

    abbrev after : Counters
    after = counted t.base.counters (call_of Z.B q) (arc_outcome t q).outcome

    pub served-lent : (arc_call Z t q).lent
        ≡ record {
          base = lent_of M (arc_outcome t q).outcome.box after;
          sizes = list_record (arc_outcome t q).kept;
          lists = list_bytes (m_of Z) (arc_outcome t q).kept;
        }
    unfolding arc_served arc_lent_of
    served-lent = ap (λ x. x.lent) (served-is t q e)

    -- what a served call leaves is the box and the lists of the outcome, and passes
    pub served-box : box_of Z (arc_call Z t q).lent ≡ (arc_outcome t q).outcome.box
    served-box = ap (box_of Z) served-lent ∙ box-back (arc_outcome t q).kept (arc_outcome t q).outcome.box outcome-right after (found t q e).fits

    pub served-lists : lists_of (arc_call Z t q).lent ≡ (arc_outcome t q).kept
    served-lists = ap lists_of served-lent ∙ lists-out (arc_outcome t q).kept (arc_outcome t q).outcome.box outcome-right after (found t q e).fits

    pub served-passes : ArcPasses (arc_call Z t q).lent
    served-passes =
        subst ArcPasses (sym served-lent)
        (right-passes (arc_outcome t q).kept (arc_outcome t q).outcome.box outcome-right after (found t q e).fits outcome-few)

    pub served-counters : (arc_call Z t q).lent.base.counters ≡ after
    unfolding lent_of
    served-counters = ap (λ x. x.base.counters) served-lent

    -- a served call adds at most 1 flash write and m + 1 primary writes, and to reads and hits at most 1
    pub arc-adds-few : Grown (m_of Z) t.base.counters (arc_call Z t q).lent.base.counters
    unfolding counted
    arc-adds-few =
        let x = found t q e in
        let o = (arc_outcome t q).outcome in
        let c = call_of Z.B q in
        let right = passes-right t x.passes in
        let few = few-by H M Z.t (box_of Z t) o right.sound
        (tally-serves H M (arc H Z) (ArcSound H Z) (arc-promises H Z x.fits.C-least) (lists_of t) (box_of Z t) c right) in
        let f : o.flash_writes ≤ 1 = few.0 in
        let p : o.primary_writes ≤ m_of Z + 1 = few.1 in
        let r = one-if-le (is_read c) in
        let h = one-if-le (is_hit o.word) in
        rw served-counters (record {
          reads = (omega arith, omega (arith, r));
          hits = (omega arith, omega (arith, h));
          flash_writes = (omega arith, omega (arith, f));
          primary_writes = (omega arith, omega (arith, p));
        })

    -- so where 9 doesn't apply, every counter after the call has 64 bits
    pub arc-counters-fit : over t.base.counters ≡ false → In64 (arc_call Z t q).lent.base.counters
    arc-counters-fit v =
        let m = (found t q e).fits.m-most in
        let h = not-over t.base.counters v in
        let h₀ = h.0 in
        let h₁ = h.1 in
        let h₂ = h.2 in
        let h₃ = h.3 in
        let g = arc-adds-few in
        let g₀ = g.reads.1 in
        let g₁ = g.hits.1 in
        let g₂ = g.flash_writes.1 in
        let g₃ = g.primary_writes.1 in
        record {
          reads = omega (arith, h₀, g₀);
          hits = omega (arith, h₁, g₁);
          flash_writes = omega (arith, h₂, g₂);
          primary_writes = omega (arith, h₃, g₃, m);
        }

  -- ---- folder reads

  all-within : (P : ℕ) (l : List ℕ) → any_outside P l ≡ false → All (λ a. a < P) l
  all-within P [] e = tt
  all-within P (a ∷ l) e = (leb-false P a (or-false-left (leb P a) (any_outside P l) e), all-within P l (or-false-right (leb P a) (any_outside P l) e))

  pub record FolderFound (t : ArcLent) (l : List ℕ) : Type 0 where
    pub fits : ArcFits Z
    pub passes : ArcPasses t
    pub inside : All (λ a. a < Z.P) l
    pub count : bad_count l ≡ false
    pub counters : over t.base.counters ≡ false

  pub folder-found : (t : ArcLent) (l b : List ℕ) → arc_folder_refusal Z t l b ≡ 0 → FolderFound t l
  folder-found t l buffer e =
      let b = t.base in
      let x = (arc-exactly-folder Z t l buffer).gives-0.0 e in
      let w = or-false-left (wrong_arc_buffers Z t) (other_length buffer (length l * Z.B)) x.1.1.0 in
      let a6 = addresses_unsound Z.P (m_of Z) b.n b.addresses in
      let l6 = lists_unsound Z (box_of Z t).rows t.sizes t.lists in
      let d8 = dirty_uncached b.n Z.C b.addresses b.blocks in
      let l8 = top_uncached H (box_of Z t) (tops_in t.sizes t.lists) in
      let y = x.1.1.1.1.1 in
      record {
        fits = arc-fits Z x.0;
        passes = record {
          base = record {
            lengths = right-lengths M b (or-false-left (wrong_buffers M b) (other_length t.lists (m_of Z * 4)) w);
            addresses = or-false-left a6 l6 y.0;
            blocks = y.1.0;
            dirty = or-false-left d8 l8 y.1.1.0;
          };
          width = or-false-right (wrong_buffers M b) (other_length t.lists (m_of Z * 4)) w;
          six = or-false-right a6 l6 y.0;
          eight = or-false-right d8 l8 y.1.1.0;
          few = ltb-false Z.t (dirty_rows H (box_of Z t).rows) y.1.1.1.0;
        };
        inside = all-within Z.P l x.1.1.1.1.0;
        count = x.1.1.1.0;
        counters = y.1.1.1.1.0;
      }

  pub folder-served : (t : ArcLent) (l b : List ℕ) → arc_folder_refusal Z t l b ≡ 0 → arc_folder_call Z t l b ≡ arc_served_folder Z t l
  unfolding arc_folder_call
  folder-served t l b e = rw (e, arc_folder_call) refl

  -- a refused folder read keeps everything, its buffer too
  pub arc-folder-keeps : (t : ArcLent) (l b : List ℕ) → arc_folder_refusal Z t l b ≢ 0
      → arc_folder_call Z t l b ≡ record { answer = Folders.refused (arc_folder_refusal Z t l b); lent = t; buffer = b }
  unfolding arc_folder_call
  arc-folder-keeps t l b n = rw (ne_eqb (arc_folder_refusal Z t l b) 0 n, arc_folder_call) refl

  folder-kept : (t : ArcLent) (l b : List ℕ) → eqb (arc_folder_refusal Z t l b) 0 ≡ false → (arc_folder_call Z t l b).lent ≡ t
  folder-kept t l b y = ap (λ x. x.lent) (arc-folder-keeps t l b (eqb-false (arc_folder_refusal Z t l b) 0 y))

  module _ (t : ArcLent) (l b : List ℕ) (e : arc_folder_refusal Z t l b ≡ 0) where
    folder-right : ArcSound H Z (folder_from Z t l).kept (folder_from Z t l).batched.box
    folder-right =
        let x = folder-found t l b e in
        folder-inv H M (arc H Z) (ArcSound H Z) (arc-promises H Z x.fits.C-least) (folder_start Z t) l (passes-right t x.passes) x.inside

    folder-few : FewDirty M (folder_from Z t l).batched.box
    folder-few =
        let x = folder-found t l b e in
        folder-few-dirty H M (arc H Z) (ArcSound H Z) (arc-promises H Z x.fits.C-least) (folder_start Z t) l (passes-right t x.passes) x.inside
        x.passes.few

    pub folder-lent : (arc_folder_call Z t l b).lent ≡ folder_lent Z (folder_from Z t l)
    unfolding arc_served_folder
    folder-lent = ap (λ x. x.lent) (folder-served t l b e)

    pub folder-box : box_of Z (arc_folder_call Z t l b).lent ≡ (folder_from Z t l).batched.box
    unfolding arc_lent_of
    folder-box =
        ap (box_of Z) folder-lent
        ∙ box-back (folder_from Z t l).kept (folder_from Z t l).batched.box folder-right (folder_from Z t l).batched.counters
        (folder-found t l b e).fits

    pub folder-lists : lists_of (arc_folder_call Z t l b).lent ≡ (folder_from Z t l).kept
    unfolding arc_lent_of
    folder-lists =
        ap lists_of folder-lent
        ∙ lists-out (folder_from Z t l).kept (folder_from Z t l).batched.box folder-right (folder_from Z t l).batched.counters
        (folder-found t l b e).fits

    pub folder-counters : (arc_folder_call Z t l b).lent.base.counters ≡ (folder_from Z t l).batched.counters
    unfolding arc_lent_of lent_of
    folder-counters = ap (λ x. x.base.counters) folder-lent

    pub folder-passes : ArcPasses (arc_folder_call Z t l b).lent
    unfolding arc_lent_of
    folder-passes =
        subst ArcPasses (sym folder-lent)
        (right-passes (folder_from Z t l).kept (folder_from Z t l).batched.box folder-right (folder_from Z t l).batched.counters
        (folder-found t l b e).fits folder-few)

  -- its counters: n reads add at most n to each of three, and n times 1,025 primary writes
  folder-grows : ArcFits Z → (r : FolderBy (Fixed 32) (Fixed Z.B) Lists) (l : List ℕ) → ArcSound H Z r.kept r.batched.box → All (λ a. a < Z.P) l
      → GrownBy (length l) r.batched.counters (folder H (arc H Z) r l).batched.counters
  unfolding folder folder_read counted
  folder-grows f r [] h w = record { reads = omega arith; hits = omega arith; flash_writes = omega arith; primary_writes = omega arith }
  folder-grows f r (a ∷ l) h w =
      let s = r.batched.box in
      let x = source H s a (first_read a r.batched.filled) in
      let m = f.m-most in
      let o = (next_read H (arc H Z) r a).outcome in
      let few = few-by H M Z.t s o h.sound
      (tally-reads H M (arc H Z) (ArcSound H Z) (arc-promises H Z f.C-least) r.kept s a x (row_with_block H s a) refl h) in
      let f₀ : o.flash_writes ≤ 1 = few.0 in
      let f₁ : o.primary_writes ≤ m_of Z + 1 = few.1 in
      let hit = one-if-le (is_hit o.word) in
      let g = folder-grows f (folder_read H (arc H Z) r a) l
      (inv-read H M (arc H Z) (ArcSound H Z) (arc-promises H Z f.C-least) r.kept s a x (row_with_block H s a) h w.0) w.1 in
      let g₀ = g.reads in
      let g₁ = g.hits in
      let g₂ = g.flash_writes in
      let g₃ = g.primary_writes in
      record { reads = omega (arith, g₀); hits = omega (arith, g₁, hit); flash_writes = omega (arith, g₂, f₀); primary_writes = omega (arith, g₃, f₁, m) }

  -- so a folder read's counters stay in 64 bits
  pub arc-folder-fits : (t : ArcLent) (l b : List ℕ) → arc_folder_refusal Z t l b ≡ 0 → In64 (arc_folder_call Z t l b).lent.base.counters
  unfolding arc_lent_of lent_of
  arc-folder-fits t l b e =
      let x = folder-found t l b e in
      let n : length l ≤ 64 = ltb-false 64 (length l) (or-false-right (eqb (length l) 0) (ltb 64 (length l)) x.count) in
      let h = not-over t.base.counters x.counters in
      let h₀ = h.0 in
      let h₁ = h.1 in
      let h₂ = h.2 in
      let h₃ = h.3 in
      let g = folder-grows x.fits (folder_start Z t) l (passes-right t x.passes) x.inside in
      let g₀ = g.reads in
      let g₁ = g.hits in
      let g₂ = g.flash_writes in
      let g₃ = g.primary_writes in
      subst (λ (y : ArcLent). In64 y.base.counters) (sym (folder-lent t l b e)) (record {
        reads = omega (arith, h₀, g₀, n);
        hits = omega (arith, h₁, g₁, n);
        flash_writes = omega (arith, h₂, g₂, n);
        primary_writes = omega (arith, h₃, g₃, n);
      })

  -- the reads done in turn, each written down and read back
  turns-written : ArcFits Z → (r : FolderBy (Fixed 32) (Fixed Z.B) Lists) (l : List ℕ) → ArcSound H Z r.kept r.batched.box → All (λ a. a < Z.P) l
      → arc_served_in_turn Z (folder_lent Z r) l ≡ folder_lent Z (folder_in_turn H (arc H Z) r l)
  unfolding arc_served_in_turn arc_served folder_in_turn call_of arc_lent_of lent_of
  turns-written f r [] h w = refl
  turns-written f r (a ∷ l) h w =
      let k = r.batched.counters in
      let s = r.batched.box in
      let y : lists_of (folder_lent Z r) ≡ r.kept = lists-out r.kept s h k f in
      let z : box_of Z (folder_lent Z r) ≡ s = box-back r.kept s h k f in
      ap₂ {C = ArcLent} (λ u v. arc_served_in_turn Z (folder_lent Z (own_read H (arc H Z) (record { kept = u; batched = start v k }) a)) l) y z
      ∙ turns-written f (own_read H (arc H Z) r a) l
      (inv-serve H M (arc H Z) (ArcSound H Z) (arc-promises H Z f.C-least) r.kept s (Paper.read a) h w.0) w.1

  in-turn-is : ArcFits Z → (t : ArcLent) (a : ℕ) (l : List ℕ) → ArcPasses t → All (λ a. a < Z.P) (a ∷ l)
      → arc_served_in_turn Z t (a ∷ l) ≡ folder_lent Z (folder_in_turn H (arc H Z) (folder_start Z t) (a ∷ l))
  unfolding arc_served_in_turn arc_served folder_in_turn call_of arc_lent_of
  in-turn-is f t a l p w =
      turns-written f (own_read H (arc H Z) (folder_start Z t) a) l
      (inv-serve H M (arc H Z) (ArcSound H Z) (arc-promises H Z f.C-least) (lists_of t) (box_of Z t) (Paper.read a) (passes-right t p) w.0) w.1

  -- ---- what each call keeps with no premise

  pub passes-next : (t : ArcLent) (q : Asking) → ArcPasses t → ArcPasses (arc_next Z t q)
  passes-next t (one q) p =
      by-test (eqb (arc_refusal Z t (calling q)) 0)
      (λ y. served-passes t q (eqb-true (arc_refusal Z t (calling q)) 0 y))
      (λ y. subst ArcPasses (sym (kept-is t q y)) p)
  passes-next t (many l b) p =
      by-test (eqb (arc_folder_refusal Z t l b) 0)
      (λ y. folder-passes t l b (eqb-true (arc_folder_refusal Z t l b) 0 y))
      (λ y. subst ArcPasses (sym (folder-kept t l b y)) p)
  passes-next t (report w lent) p = p
  passes-next t (recount k) p =
      let e = sym (counters-box M t.base k) in
      record {
        base = counters-pass M t.base k p.base;
        width = p.width;
        six = subst (λ b. lists_unsound Z b.rows t.sizes t.lists ≡ false) e p.six;
        eight = subst (λ b. top_uncached H b (tops_in t.sizes t.lists) ≡ false) e p.eight;
        few = subst (FewDirty M) e p.few;
      }

  state-law : (t : ArcLent) → ArcPasses t → ArcStateLaw Z t
  state-law t p =
      let h = passes-right t p in
      record {
        blocks = top-has-block H Z (lists_of t) (box_of Z t) h;
        fit = h.fit;
        few = h.few;
        names = named-once H Z (lists_of t) (box_of Z t) h;
        p_low = h.p_low;
      }

  -- a claim of each state
  passing-throughout : (Q : ArcLent → Type 0) → ((t : ArcLent) → ArcPasses t → Q t) → (t : ArcLent) (plain : List (Fixed Z.B)) (qs : List Asking)
      → ArcPasses t → ArcThroughout Z (λ x p. Q x) t plain qs
  unfolding ArcThroughout
  passing-throughout Q f t plain [] p = f t p
  passing-throughout Q f t plain (q ∷ qs) p = (f t p, passing-throughout Q f (arc_next Z t q) (arc_plain Z t plain q) qs (passes-next t q p))

  -- the tests of the tables and the lists
  pub no-6 : (t : ArcLent) → ArcPasses t
      → (addresses_unsound Z.P (m_of Z) t.base.n t.base.addresses || lists_unsound Z (box_of Z t).rows t.sizes t.lists) ≡ false
  no-6 t p = or-both (addresses_unsound Z.P (m_of Z) t.base.n t.base.addresses) (lists_unsound Z (box_of Z t).rows t.sizes t.lists)
      p.base.addresses p.six

  pub no-8 : (t : ArcLent) → ArcPasses t
      → (dirty_uncached t.base.n Z.C t.base.addresses t.base.blocks || top_uncached H (box_of Z t) (tops_in t.sizes t.lists)) ≡ false
  no-8 t p = or-both (dirty_uncached t.base.n Z.C t.base.addresses t.base.blocks)
      (top_uncached H (box_of Z t) (tops_in t.sizes t.lists)) p.base.dirty p.eight

  pub no-13 : (t : ArcLent) → ArcPasses t → over_limit M t.base ≡ false
  no-13 t p = le-ltb Z.t (dirty_rows H (box_of Z t).rows) p.few

  in_list : (t : ArcLent) (q : Asking) → unfit_arc Z ≡ false → limit_outside M ≡ false → ArcPasses t → ArcInList (arc_number Z t q)
  unfolding arc_refusal arc_folder_refusal arc_report_refusal
  in_list t (one q) u k p =
      let b = t.base in
      rw (u, k) (by-test (wrong_arc_buffers Z t || wrong_block Z.B (lent_block q))
      (λ e. rw e refl)
      (λ e. rw e (by-test (outside Z.P (address_of q))
      (λ f. rw f refl)
      (λ f. rw (f, no-6 t p, p.base.blocks, no-8 t p, no-13 t p) (by-test (counts q && over b.counters) (λ g. rw g refl) (λ g. rw g refl))))))
  in_list t (many l buffer) u k p =
      let b = t.base in
      rw (u, k) (by-test (wrong_arc_buffers Z t || other_length buffer (length l * Z.B))
      (λ e. rw e refl)
      (λ e. rw e (by-test (bad_count l)
      (λ c. rw c refl)
      (λ c. rw c (by-test (any_outside Z.P l)
      (λ f. rw f refl)
      (λ f. rw (f, no-6 t p, p.base.blocks, no-8 t p, no-13 t p) (by-test (over b.counters) (λ g. rw g refl) (λ g. rw g refl))))))))
  in_list t (report w lent) u k p =
      rw (u, k) (by-test (wrong_arc_buffers Z t || other_length lent (m_of Z * Reports.width w))
      (λ e. rw e refl)
      (λ e. rw (e, no-6 t p, p.base.blocks, no-8 t p, no-13 t p) refl))
  in_list t (recount c) u k p = refl

  numbers-are : (t : ArcLent) (qs : List Asking) → unfit_arc Z ≡ false → limit_outside M ≡ false → ArcPasses t → All ArcInList (arc_refusals Z t qs)
  unfolding arc_refusals
  numbers-are t [] u l p = tt
  numbers-are t (q ∷ qs) u l p = (in_list t q u l p, numbers-are (arc_next Z t q) qs u l (passes-next t q p))

  -- ---- what each call keeps under the premise, over any blocks of which no two different ones share a fingerprint

  module _ (In : Fixed Z.B → Type 0) (only : Only H In) where
    pub record Held (t : ArcLent) (plain : List (Fixed Z.B)) : Type 0 where
      pub passes : ArcPasses t
      pub faithful : Faithful H In Z.P plain (box_of Z t)

    module _ (t : ArcLent) (plain : List (Fixed Z.B)) (q : Ask) (k : Held t plain) (e : arc_refusal Z t (calling q) ≡ 0) where
      kept-promise : Promise H M (arc H Z) (ArcSound H Z)
      kept-promise = arc-promises H Z (found t q e).fits.C-least

      some-rows : 1 ≤ m_of Z
      some-rows = let c = (found t q e).fits.C-least in omega (arith, c)

      faithful-one : All In (written_by (call_of Z.B q))
          → Faithful H In Z.P (plain_next plain (call_of Z.B q)) (arc_outcome t q).outcome.box
          × ((arc_outcome t q).outcome.block ≡ plain_block H.blank plain (call_of Z.B q))
      faithful-one i =
          let x = found t q e in
          faithful-serves H M (arc H Z) (ArcSound H Z) kept-promise some-rows x.fits.C-least In only plain (lists_of t) (box_of Z t) (call_of Z.B q)
          (passes-right t k.passes) k.faithful x.inside i

    good-folder : (t : ArcLent) (plain : List (Fixed Z.B)) (l b : List ℕ) (k : Held t plain) (e : arc_folder_refusal Z t l b ≡ 0)
        → Faithful H In Z.P plain (folder_from Z t l).batched.box × (blocks_in (folder_from Z t l).batched.filled ≡ map (at H plain) l)
    good-folder t plain l b k e =
        let x = folder-found t l b e in
        let pr = arc-promises H Z x.fits.C-least in
        let c = x.fits.C-least in
        let m1 : 1 ≤ m_of Z = omega (arith, c) in
        let g : ArcSound H Z (lists_of t) (box_of Z t) × Faithful H In Z.P plain (box_of Z t) = (passes-right t k.passes, k.faithful) in (
          (folder-good H M (arc H Z) (ArcSound H Z) pr m1 c In only (folder_start Z t) plain l g tt x.inside).0.1,
          folder-blocks H M (arc H Z) (ArcSound H Z) pr m1 c In only (folder_start Z t) plain l refl g x.inside,
        )

    held_next : (t : ArcLent) (plain : List (Fixed Z.B)) (q : Asking) → Held t plain → All In (cond (eqb (arc_number Z t q) 0) (arc_writes Z q) [])
        → Held (arc_next Z t q) (arc_plain Z t plain q)
    held_next t plain (one q) k =
        by-test (eqb (arc_refusal Z t (calling q)) 0)
        (λ y. rw y (λ i.
        let e = eqb-true (arc_refusal Z t (calling q)) 0 y in
        record {
          passes = served-passes t q e;
          faithful = subst (Faithful H In Z.P (plain_next plain (call_of Z.B q))) (sym (served-box t q e)) (faithful-one t plain q k e i).0;
        }))
        (λ y. rw y (λ i. subst (λ u. Held u plain) (sym (kept-is t q y)) k))
    held_next t plain (many l b) k = λ i.
        by-test (eqb (arc_folder_refusal Z t l b) 0)
        (λ y.
        let e = eqb-true (arc_folder_refusal Z t l b) 0 y in
        record {
          passes = folder-passes t l b e;
          faithful = subst (Faithful H In Z.P plain) (sym (folder-box t l b e)) (good-folder t plain l b k e).0;
        })
        (λ y. subst (λ u. Held u plain) (sym (folder-kept t l b y)) k)
    held_next t plain (report w lent) k = λ i. k
    held_next t plain (recount c) k = λ i.
        record {
          passes = passes-next t (recount c) k.passes;
          faithful = subst (Faithful H In Z.P plain) (sym (counters-box M t.base c)) k.faithful;
        }

    -- a claim of each state, and one of each served call
    throughout : (Q : ArcLent → List (Fixed Z.B) → Type 0) → ((t : ArcLent) (plain : List (Fixed Z.B)) → Held t plain → Q t plain)
        → (t : ArcLent) (plain : List (Fixed Z.B)) (qs : List Asking) → Held t plain → All In (arc_written Z t qs) → ArcThroughout Z Q t plain qs
    unfolding ArcThroughout arc_written
    throughout Q f t plain [] k i = f t plain k
    throughout Q f t plain (q ∷ qs) k i =
        let own = cond (eqb (arc_number Z t q) 0) (arc_writes Z q) [] in
        let rest = arc_written Z (arc_next Z t q) qs in
        (f t plain k, throughout Q f (arc_next Z t q) (arc_plain Z t plain q) qs (held_next t plain q k (all_left In own rest i)) (all_right In own rest i))

    each-served : (Q : ArcLent → List (Fixed Z.B) → Asking → Type 0)
        → ((t : ArcLent) (plain : List (Fixed Z.B)) (q : Asking) → Held t plain → arc_number Z t q ≡ 0 → All In (arc_writes Z q) → Q t plain q)
        → (t : ArcLent) (plain : List (Fixed Z.B)) (qs : List Asking) → Held t plain → All In (arc_written Z t qs) → ArcEachServed Z Q t plain qs
    unfolding ArcEachServed arc_written
    each-served Q f t plain [] k i = tt
    each-served Q f t plain (q ∷ qs) k i =
        let own = cond (eqb (arc_number Z t q) 0) (arc_writes Z q) [] in
        let rest = arc_written Z (arc_next Z t q) qs in
        let i₀ = all_left In own rest i in (
          (λ z. f t plain q k z (subst (λ c. All In (cond c (arc_writes Z q) [])) (ap (λ n. eqb n 0) z) i₀)),
          each-served Q f (arc_next Z t q) (arc_plain Z t plain q) qs (held_next t plain q k i₀) (all_right In own rest i),
        )

    -- the claims
    fingerprints : (t : ArcLent) (plain : List (Fixed Z.B)) → Held t plain → TrueFingerprints H (box_of Z t) plain
    fingerprints t plain k = (
      k.faithful.rows_true,
      all_map (BlockTrue H In (box_of Z t).flash) (λ u. u.fingerprint ≡ H.hash (at H (box_of Z t).flash u.slot)) (λ u z. z.0)
          (box_of Z t).used k.faithful.blocks_true,
    )

    shows : (t : ArcLent) (plain : List (Fixed Z.B)) (q : Ask) → arc_refusal Z t (calling q) ≡ 0
        → (arc_outcome t q).outcome.block ≡ plain_block H.blank plain (call_of Z.B q) → ArcShows Z t plain (one q)
    unfolding call_of arc_served
    shows t plain (Ask.read a l) z e = ap (λ x. x.block) (served-is t (Ask.read a l) z) ∙ ap (block_after (Ask.read a l)) e
    shows t plain (Ask.look a) z e =
        ap {B = Option (List ℕ)} (λ x. some x.part) (served-is t (Ask.look a) z) ∙ ap {B = Option (List ℕ)} (λ b. some (part_after (Ask.look a) b)) e
    shows t plain (Ask.through a l x) z e = refl
    shows t plain (Ask.back a l x) z e = refl
    shows t plain (Ask.invalidate a l x) z e = refl
    shows t plain (Ask.flush k) z e = refl

    shown : (t : ArcLent) (plain : List (Fixed Z.B)) (q : Asking) → Held t plain → arc_number Z t q ≡ 0 → All In (arc_writes Z q) → ArcShows Z t plain q
    unfolding arc_served_folder
    shown t plain (one q) k e i = shows t plain q e (faithful-one t plain q k e i).1
    shown t plain (many l b) k e i = ap (λ x. x.buffer) (folder-served t l b e) ∙ ap join (good-folder t plain l b k e).1
    shown t plain (report w lent) k e i = tt
    shown t plain (recount c) k e i = tt

    flushed : (t : ArcLent) (plain : List (Fixed Z.B)) (q : Asking) → Held t plain → arc_number Z t q ≡ 0 → All In (arc_writes Z q) → ArcFlushes Z t plain q
    unfolding call_of lent_of
    flushed t plain q k e i f =
        let full = Ask.flush (m_of Z) in
        let z : arc_refusal Z t (calling full) ≡ 0 = subst (λ x. arc_number Z t x ≡ 0) f e in
        ap (λ x. (arc_next Z t x).base.disk) f
        ∙ ap (λ x. x.base.disk) (served-lent t full z)
        ∙ ap join (flushes-one H M (arc H Z) (ArcSound H Z) (kept-promise t plain full k z) (some-rows t plain full k z) (found t full z).fits.C-least In only
        (lists_of t) (box_of Z t) plain (call_of Z.B full) (passes-right t k.passes, k.faithful) refl)

    as-reads : (t : ArcLent) (plain : List (Fixed Z.B)) (q : Asking) → Held t plain → arc_number Z t q ≡ 0 → All In (arc_writes Z q) → ArcAsReads Z t plain q
    as-reads t plain (one q) k e i = tt
    as-reads t plain (many [] b) k e i = absurd (true≢false (folder-found t [] b e).count)
    as-reads t plain (many (a ∷ l) b) k e i =
        let x = folder-found t (a ∷ l) b e in
        let c = x.fits.C-least in
        let m1 : 1 ≤ m_of Z = omega (arith, c) in
        let s = folder_start Z t in
        let same = folder-in-turn H M (arc H Z) (ArcSound H Z) (arc-promises H Z c) m1 c In only s s plain (a ∷ l) refl
        (passes-right t k.passes, k.faithful) tt x.inside in
        folder-lent t (a ∷ l) b e ∙ ap (folder_lent Z) same ∙ sym (in-turn-is x.fits t a l k.passes x.inside)
    as-reads t plain (report w lent) k e i = tt
    as-reads t plain (recount c) k e i = tt

    -- where the lent memory passes, its disk is that of its box
    clean : (t : ArcLent) (plain : List (Fixed Z.B)) → Held t plain → ArcCleanIsPlain Z t plain
    unfolding box_in
    clean t plain k c =
        sym (join-split Z.B Z.P t.base.disk k.passes.base.lengths.disk)
        ∙ ap join (clean-is-plain H In M plain (box_of Z t) (passes-right t k.passes).sound k.faithful c)

  -- "Fresh: n = 0, counters and address rows zero, block rows free with slots 0 to d − 1 in order; flash and disk keep their bytes."
  module _ (t : ArcLent) (opens : arc_refusal Z t opening ≡ 0) where
    fits-numbers : unfit_arc Z ≡ false
    fits-numbers = ((arc-exactly-opening Z t).gives-0.0 opens).0

    fits-limit : limit_outside M ≡ false
    fits-limit = ((arc-exactly-opening Z t).gives-0.0 opens).1.0

    lengths : Lengths M t.base
    lengths = right-lengths M t.base (or-false-left (wrong_buffers M t.base) (other_length t.lists (m_of Z * 4))
        ((arc-exactly-opening Z t).gives-0.0 opens).1.1.0)

    flash : List (Fixed Z.B)
    flash = split Z.B Z.C t.base.flash

    disk : List (Fixed Z.B)
    disk = split Z.B Z.P t.base.disk

    opened-is : arc_opened Z t ≡ record { base = Base.fresh M t.base; sizes = no_sizes; lists = zeros (m_of Z * 4) }
    unfolding arc_opened
    opened-is = rw (opens, arc_opened) refl

    fresh-lent : arc_opened Z t
        ≡ record { base = lent_of M (Paper.fresh Z.C flash disk) no_counts; sizes = list_record no_lists; lists = list_bytes (m_of Z) no_lists }
    unfolding Base.fresh lent_of fresh_addresses fresh_blocks flash disk list_bytes word_bytes
    fresh-lent =
        let di = sym (join-split Z.B Z.P t.base.disk lengths.disk) in
        let fl = sym (join-split Z.B Z.C t.base.flash lengths.flash) in
        let b = sym (ap block_table (append-nil (map free_row (slots_from 0 Z.C)))) in
        let z : m_of Z ≡ m_of Z - 0 = omega arith in
        opened-is
        ∙ (λ i. record {
          base = record { n = 0; disk = di i; flash = fl i; addresses = address_table (m_of Z) []; blocks = b i; counters = no_counts };
          sizes = no_sizes;
          lists = zeros (z i * 4);
        })

    fresh-right : ArcSound H Z no_lists (Paper.fresh Z.C flash disk)
    unfolding flash disk
    fresh-right = arc-fresh H Z flash disk (length-split Z.B Z.C t.base.flash) (length-split Z.B Z.P t.base.disk)

    fresh-box : box_of Z (arc_opened Z t) ≡ Paper.fresh Z.C flash disk
    fresh-box = ap (box_of Z) fresh-lent ∙ box-back no_lists (Paper.fresh Z.C flash disk) fresh-right no_counts (arc-fits Z fits-numbers)

    pub fresh-passes : ArcPasses (arc_opened Z t)
    fresh-passes = subst ArcPasses (sym fresh-lent) (right-passes no_lists (Paper.fresh Z.C flash disk) fresh-right no_counts (arc-fits Z fits-numbers)
        (omega arith))

    fresh-disk : disk_of Z (arc_opened Z t) ≡ disk
    unfolding Base.fresh disk
    fresh-disk = ap (disk_of Z) opened-is

    fresh-held : (In : Fixed Z.B → Type 0) (only : Only H In) → All In (disk_of Z (arc_opened Z t)) → Held In only (arc_opened Z t) (disk_of Z (arc_opened Z t))
    unfolding flash disk
    fresh-held In only i =
        let f : Faithful H In Z.P disk (Paper.fresh Z.C flash disk)
        = record {
          rows_true = tt;
          blocks_true = tt;
          plain_in = subst (All In) fresh-disk i;
          plain_length = length-split Z.B Z.P t.base.disk;
          current = λ x h. refl;
        } in
        record { passes = fresh-passes; faithful = subst₂ (Faithful H In Z.P) (sym fresh-disk) (sym fresh-box) f }

    arc-demand-from : (qs : List Asking) → ArcDemand Z (arc_opened Z t) qs
    arc-demand-from qs =
        let o = arc_opened Z t in
        let plain = disk_of Z o in
        let all = plain ++ arc_written Z o qs in
        let In : Fixed Z.B → Type 0 = λ b. Memᴰ b all in
        let i₀ = all_left In plain (arc_written Z o qs) (all-mem all) in
        let i₁ = all_right In plain (arc_written Z o qs) (all-mem all) in
        record {
          numbers = numbers-are o qs fits-numbers fits-limit fresh-passes;
          state = passing-throughout (ArcStateLaw Z) state-law o plain qs fresh-passes;
          dirty = passing-throughout (λ x. FewDirty M (box_of Z x)) (λ x p. p.few) o plain qs fresh-passes;
          fingerprints = λ only. throughout In only (λ x p. TrueFingerprints H (box_of Z x) p) (fingerprints In only) o plain qs (fresh-held In only i₀) i₁;
          blocks = λ only. each-served In only (ArcShows Z) (shown In only) o plain qs (fresh-held In only i₀) i₁;
          as_reads = λ only. each-served In only (ArcAsReads Z) (as-reads In only) o plain qs (fresh-held In only i₀) i₁;
          flushes = λ only. each-served In only (ArcFlushes Z) (flushed In only) o plain qs (fresh-held In only i₀) i₁;
          clean = λ only. throughout In only (ArcCleanIsPlain Z) (clean In only) o plain qs (fresh-held In only i₀) i₁;
        }

-- The theorem: demand 3 for every list of calls, from a fresh D-ARC box over any disk and flash bytes, wherever the opening is not refused
pub arc-demand : (Z : Sizes) (t : ArcLent) (qs : List Asking) → arc_refusal Z t opening ≡ 0 → ArcDemand Z (arc_opened Z t) qs
arc-demand Z t qs opens = arc-demand-from Z t opens qs
