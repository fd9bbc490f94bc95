-- A block row made newest, or filled, by what the code finds. Assumes nothing.
use mathlib.Core.Path.{◌≡◌, refl, sym, ap, ◌∙◌, subst}
use mathlib.Core.Bool.{Bool, true, false, cond}
use mathlib.Core.List.{List, [], ◌∷◌, ◌++◌}
use mathlib.Core.Option.{Option, none, some}
use Prim.Native.Nat.{ℕ, zero, suc, ◌+◌, ◌-◌, ◌≤◌, ◌<◌}
use native.Mathlib.Nat.{zero-add}
use native.Mathlib.Omega.{arith}
use lib.Dec.{eqb}
use lib.ListN.{length, get_or, set, length-set, length-append}
use Rattle.tables.specs.Rows.{remove_at}
use Rattle.tables.specs.Operations.{row_newest}
use Rattle.tables.proofs.OperationLaws.{length-remove_at}
use Rattle.paper.specs.KeyedLaws.{All, all_append, all_without, by-test, by-option, clash, Distinct, distinct_snoc, distinct_without, has-without-other, has-without-self}
use Rattle.paper.proofs.SoundLaws.{length-cleaned, all-cleaned, distinct-cleaned, length-copied}
use Rattle.paper.specs.Cache.{AddressRow, BlockRow, Box, Taken, block_row, without_block, slot_of, cached, cleaned, is_lost, taken_used, stored}
use Rattle.paper.specs.Engine.{Fixed, comparing}
use Rattle.paper.specs.Index.{index_where}
use Rattle.paper.proofs.IndexLaws.{has-yes, has_no, without-yes}
use Rattle.paper.specs.Layout.{Blocks, blocks_of}
use Rattle.arc.specs.Arc.{Lists, taken_by, victim_of, stored_in, block_newest, inserted, cleared! }
use Rattle.parts.specs.declared.BoxRecord.{BoxRecord}
use Rattle.parts.specs.Rep.{numbers_of, with_held, engine}
use Rattle.parts.specs.Asked.{no_block}
use Rattle.parts.specs.CopyLaws.{slot_of-below}
use Rattle.step.specs.Steps.{OnceEach, Picked, picked_taken, Out4, out4}
use Rattle.step.specs.Taking.{renewed-at}
use Rattle.arcstep.specs.declared.Running.{Running}
use Rattle.arcstep.specs.Victim.{victim_at}
use Rattle.arcstep.specs.Runs.{Within, Runs}
use Rattle.arcstep.specs.Runs as R
use Rattle.arcstep.proofs.Evicting.{get-all}
use Rattle.arcstep.proofs.Clearing.{victim-picked, victim-taken}

all-removed : {A : Type 0} (Q : A → Type 0) (l : List A) (i : ℕ) → All Q l → All Q (remove_at l i)
all-removed Q [] zero h = tt
all-removed Q [] (suc i) h = tt
all-removed Q (x ∷ l) zero h = h.1
all-removed Q (x ∷ l) (suc i) h = (h.0, all-removed Q l i h.1)

-- the block rows when the one at i is filled
module _ (d : ℕ) (t t' : List ℕ) (used : List (BlockRow (Fixed 32))) (f : Fixed 32) where
  pub filled-blocks : (free : List ℕ) → Blocks d t free used → (i : ℕ) → Picked free used i
      → t' ≡ blocks_of (picked_taken free used i).free ((picked_taken free used i).used ++ (block_row f (picked_taken free used i).slot ∷ []))
      → Blocks d t' (picked_taken free used i).free ((picked_taken free used i).used ++ (block_row f (picked_taken free used i).slot ∷ []))
  unfolding picked_taken
  filled-blocks (k ∷ free) h i p e =
      record {
        count = (let n = length-append used (block_row f k ∷ []) in let c = h.count in omega (arith, n, c));
        free-below = h.free-below.1;
        used-below = all_append (λ u. u.slot < d) used (block_row f k ∷ []) h.used-below (h.free-below.0, tt);
        small = h.small;
        is = e;
      }
  filled-blocks [] h i p e =
      let x = block_row f (get_or used i no_block).slot in
      record {
        count = (let n = length-append (remove_at used i) (x ∷ []) in let m = length-remove_at used i p in let c = h.count in omega (arith, n, m, c, p));
        free-below = tt;
        used-below = all_append (λ u. u.slot < d) (remove_at used i) (x ∷ []) (all-removed (λ u. u.slot < d) used i h.used-below)
            (get-all (λ u. u.slot < d) used i no_block h.used-below p, tt);
        small = h.small;
        is = e;
      }

-- the fingerprints of used rows stay different
module _ (b : BoxRecord) (l : Lists) (s : Box (Fixed 32) (Fixed b.size)) (f : Fixed 32) (k : ℕ) (o : OnceEach s.used)
    (absent : cached (engine b) f s.used ≡ false) where
  snoc : (used : List (BlockRow (Fixed 32))) → OnceEach used → cached (engine b) f used ≡ false → OnceEach (used ++ (block_row f k ∷ []))
  snoc used h a = distinct_snoc comparing.same (λ u. u.fingerprint) comparing.same→≡ comparing.same_refl (block_row f k) used h a

  pub once-taken : (free : List ℕ) → OnceEach ((taken_by (engine b) l s free).used ++ (block_row f k ∷ []))
  unfolding taken_by taken_used
  once-taken (j ∷ free) = snoc s.used o absent
  once-taken [] =
      by-option (victim_of (engine b) l s)
      (λ e. rw e (snoc s.used o absent))
      (λ u e. rw e (snoc (without_block (engine b) u.fingerprint s.used)
      (distinct_without comparing.same (λ u. u.fingerprint) u.fingerprint s.used o)
      (by-test (cached (engine b) f (without_block (engine b) u.fingerprint s.used))
      (λ y. clash (has-without-other comparing.same (λ u. u.fingerprint) comparing.same (λ u. u.fingerprint) f u.fingerprint s.used y) absent)
      (λ n. n))))

module _ (b : BoxRecord) (t : Running) (disk flash addrs blocks lists : List ℕ) (S : Within b) (h : Runs b t disk flash addrs blocks lists S) (f : Fixed 32) where
  abbrev box : Box (Fixed 32) (Fixed b.size)
  box = S.stepped.box

  -- step 4's storing in the row that is taken
  module _ (d0 : 0 < b.slots) (j : ℕ) (tk : R.Taken b j S) where
    pub at-picked : Picked S.stepped.box.free S.stepped.box.used j
    at-picked =
        subst (Picked S.stepped.box.free S.stepped.box.used) (sym tk.0)
        (victim-picked b blocks S.kept S.stepped.box d0 h.box.blocks-are (let e = tk.0 in let l = tk.1 in omega (arith, e, l)))

    taken_is : taken_by (engine b) S.kept S.stepped.box S.stepped.box.free ≡ picked_taken S.stepped.box.free S.stepped.box.used j
    taken_is =
        victim-taken b blocks S.kept S.stepped.box d0 h.box.blocks-are h.once (let e = tk.0 in let l = tk.1 in omega (arith, e, l))
        ∙ ap (picked_taken S.stepped.box.free S.stepped.box.used) (sym tk.0)

    pub store-runs : (absent : cached (engine b) f S.stepped.box.used ≡ false) (x : Fixed b.size) (count : ℕ) (disk' flash' addrs' blocks' : List ℕ)
        → ◌≡◌ {A = Out4} (record { flashed = 1; primary = count; disk = disk'; flash = flash'; addrs = addrs'; blocks = blocks' })
        (out4 (with_held b t.held) (stored (engine b) S.stepped.box.rows S.stepped.box.used S.stepped.box.flash S.stepped.box.disk f x 0
        (picked_taken S.stepped.box.free S.stepped.box.used j)))
        → Runs b (record { held = t.held; sizes = t.sizes; flashed = 1; primary = t.primary + count }) disk' flash' addrs' blocks' lists
        (stored_in (engine b) f x S)
    unfolding stored_in stored out4
    store-runs absent x count disk' flash' addrs' blocks' e =
        let rows = S.stepped.box.rows in
        let T = picked_taken S.stepped.box.free S.stepped.box.used j in
        let lost = is_lost (engine b) T.lost in
        let o = once-taken b S.kept S.stepped.box f
        (taken_by (engine b) S.kept S.stepped.box S.stepped.box.free).slot h.once absent S.stepped.box.free in
        let once = rw taken_is at o in
        rw taken_is (record {
          box = record {
            rows_are = record {
              count = length-cleaned (engine b) lost rows ∙ h.box.rows_are.count;
              few = h.box.rows_are.few;
              below = all-cleaned (engine b) lost (λ r. r.address < b.blocks) (λ r. r.address < b.blocks) (λ r y. y) rows h.box.rows_are.below;
              small = h.box.rows_are.small;
              is = ap (λ (z : Out4). z.addrs) e;
            };
            blocks-are = filled-blocks b.slots blocks blocks' S.stepped.box.used f S.stepped.box.free h.box.blocks-are j at-picked
                (ap (λ (z : Out4). z.blocks) e);
            flash-is = record { count = length-set S.stepped.box.flash T.slot x ∙ h.box.flash-is.count; is = ap (λ (z : Out4). z.flash) e };
            disk-is = record {
              count = length-copied (engine b) lost rows S.stepped.box.used S.stepped.box.flash S.stepped.box.disk ∙ h.box.disk-is.count;
              is = ap (λ (z : Out4). z.disk) e;
            };
          };
          apart = distinct-cleaned (engine b) lost rows h.apart;
          once = once;
          names = h.names;
          low = h.low;
          flashed = refl;
          primary = (let a = h.primary in let c = ap (λ (z : Out4). z.primary) e in omega (arith, a, c));
        })

  -- the block row of f, at j, becomes newest
  module _ (j : ℕ) (ej : j ≡ length S.stepped.box.free + index_where (λ u. comparing.same f u.fingerprint) S.stepped.box.used) where
    pub not-cached : b.slots ≤ j → cached (engine b) f S.stepped.box.used ≡ false
    not-cached l = has_no comparing.same (λ (u : BlockRow (Fixed 32)). u.fingerprint) f S.stepped.box.used (let c = h.box.blocks-are.count in omega (arith, ej, c, l))

    module _ (l : j < b.slots) where
      within : index_where (λ (u : BlockRow (Fixed 32)). comparing.same f u.fingerprint) S.stepped.box.used < length S.stepped.box.used
      within = let c = h.box.blocks-are.count in omega (arith, ej, c, l)

      pub is-cached : cached (engine b) f S.stepped.box.used ≡ true
      is-cached = has-yes comparing.same (λ (u : BlockRow (Fixed 32)). u.fingerprint) f S.stepped.box.used within

      one_less : length (without_block (engine b) f S.stepped.box.used) + 1 ≡ length S.stepped.box.used
      one_less =
          let w = without-yes comparing.same (λ (u : BlockRow (Fixed 32)). u.fingerprint) f comparing.same→≡ S.stepped.box.used h.once within in
          let n = length-remove_at S.stepped.box.used (index_where (λ (u : BlockRow (Fixed 32)). comparing.same f u.fingerprint) S.stepped.box.used) within in
          let e = ap length w in omega (arith, e, n, within)

      pub newest-runs : (d0 : 0 < b.slots) (blocks' : List ℕ) → blocks' ≡ row_newest b.slots j blocks
          → Runs b t disk flash addrs blocks' lists (block_newest (engine b) f S)
      unfolding block_newest
      newest-runs d0 blocks' e =
          let used = S.stepped.box.used in
          let x = block_row f (slot_of (engine b) f used) in
          record {
            box = record {
              rows_are = h.box.rows_are;
              blocks-are = record {
                count = (let n = length-append (without_block (engine b) f used) (x ∷ []) in let c = h.box.blocks-are.count in let o = one_less in omega (arith, n, c, o));
                free-below = h.box.blocks-are.free-below;
                used-below = all_append (λ u. u.slot < b.slots) (without_block (engine b) f used) (x ∷ [])
                    (all_without comparing.same (λ u. u.fingerprint) (λ u. u.slot < b.slots) f used h.box.blocks-are.used-below)
                    (slot_of-below (numbers_of b) b.slots f used d0 h.box.blocks-are.used-below, tt);
                small = h.box.blocks-are.small;
                is = e ∙ renewed-at (numbers_of b) b.slots blocks S.stepped.box.free used h.box.blocks-are h.once f j ej l;
              };
              flash-is = h.box.flash-is;
              disk-is = h.box.disk-is;
            };
            apart = h.apart;
            once = distinct_snoc comparing.same (λ u. u.fingerprint) comparing.same→≡ comparing.same_refl x (without_block (engine b) f used)
                (distinct_without comparing.same (λ u. u.fingerprint) f used h.once) (has-without-self comparing.same (λ u. u.fingerprint) f used);
            names = h.names;
            low = h.low;
            flashed = h.flashed;
            primary = h.primary;
          }

-- INSERTINDATACACHE by whether the fingerprint is cached
module _ (b : BoxRecord) (C : ℕ) (b2 : Bool) (f : Fixed 32) (x : Fixed b.size) (S : Within b) where
  pub inserted-hit : cached (engine b) f S.stepped.box.used ≡ true → inserted (engine b) C b2 f x S ≡ block_newest (engine b) f S
  unfolding inserted
  inserted-hit e = rw e refl

  pub inserted-miss : cached (engine b) f S.stepped.box.used ≡ false → inserted (engine b) C b2 f x S ≡ stored_in (engine b) f x (cleared! (engine b) C b2 S)
  unfolding inserted
  inserted-miss e = rw e refl
