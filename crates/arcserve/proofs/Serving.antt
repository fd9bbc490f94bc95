-- The calls, from their steps. Assumes nothing.
use mathlib.Core.Path.{◌≡◌, refl, ap, ap₂, sym, ◌∙◌}
use mathlib.Core.Bool.{Bool, true, false}
use mathlib.Core.List.{List}
use mathlib.Core.Option.{Option, none, some}
use Prim.Native.Nat.{ℕ, ◌+◌, ◌*◌, ◌^◌, ◌≤◌, ◌<◌}
use native.Mathlib.Omega.{arith}
use native.Mathlib.Nat.{zero-add}
use lib.ListN.{length, get_or}
use Rattle.block.specs.Blocks.{splice}
use Rattle.paper.specs.Cache as Cache
use Rattle.paper.specs.Cache.{Seat, AddressRow, Box, Call, Word, hit, miss, answer, block_of, seat_in, row_of, row_with_block, on_disk, same_or_new, back_request}
use Rattle.paper.specs.Cache.{excess, reach, flushed, without_address, dropped, write_invalidate}
use Rattle.paper.specs.KeyedLaws.{all_map}
use Rattle.paper.specs.Sound.{Sound}
use Rattle.paper.proofs.PartlyLaws.{length-partly}
use Rattle.paper.specs.Layout.{addresses_of}
use Rattle.paper.specs.Engine.{Fixed}
use Rattle.arc.specs.Policy.{read_by, answered_by, through_by, back_by, serve_by}
use Rattle.arc.proofs.PromiseLaws.{inv-on_disk, inv-serve}
use Rattle.arc.specs.Tally.{count, tally-has, tally-some, tally-distinct}
use Rattle.arc.specs.ArcLent.{end_to_end}
use Rattle.arc.proofs.ArcLentLaws.{named_end, in-below, all_in}
use Rattle.arc.specs.ArcStep.{ArcSound}
use Rattle.arc.proofs.ArcLaws.{arc-promises}
use Rattle.arclists.specs.Holding.{Holds, Low}
use Rattle.arc.specs.Arc.{Lists, is_in, left, base_numbers, arc, arc_step}
use Rattle.arclists.specs.declared.ListSizes.{ListSizes}
use Rattle.parts.specs.declared.BoxRecord.{BoxRecord}
use Rattle.parts.specs.Rep.{Rep, Copied, copied_rows, part_box, with_held, engine, no_row}
use Rattle.step.specs.Steps.{Sure, asks, block_bytes}
use Rattle.arcstep.specs.declared.Running.{Running}
use Rattle.arcstep.specs.Runs.{Within, Stands, sizes_for}
use Rattle.serve.specs.Calls.{is_yes, returned_or, HitAt}
use Rattle.serve.specs.ServeLaws.{hit-row, rep-on_disk, sound-rep}
use Rattle.arcserve.specs.ArcCalls.{Serves}

-- an answer with what its step left
pub answers : (b : BoxRecord) (s : ListSizes) (lent : List ℕ) (w : Word) (o : Option (Fixed b.size)) (more : ℕ)
    (R : Within b) (yes : Bool) (r : Running) (q : ℕ) (disk flash addrs blocks lists block : List ℕ)
    → Stands b r disk flash addrs blocks lists R → yes ≡ is_yes w → q ≡ more + r.primary → block ≡ returned_or o lent
    → Serves b (record { yes = yes; running = record { held = r.held; sizes = r.sizes; flashed = r.flashed; primary = q } })
    disk flash addrs blocks lists block lent (answered_by (engine b) (arc (engine b) (sizes_for b s)) w o more R)
unfolding answered_by answer
answers b s lent w o more R y r q disk flash addrs blocks lists block st ey eq eb =
    record {
      word = ey;
      box = st.box;
      names = st.names;
      flashed = st.flashed;
      primary = eq ∙ ap (λ (n : ℕ). more + n) st.primary;
      returned = eb;
    }

-- a read that misses takes y
pub taken-read : (b : BoxRecord) (s : ListSizes) (l : Lists) (x : Box (Fixed 32) (Fixed b.size)) (a : ℕ) (y : Fixed b.size) (lent : List ℕ)
    (r : Running) (z : Seat) (disk flash addrs blocks lists block : List ℕ)
    → Stands b r disk flash addrs blocks lists (arc_step (engine b) (sizes_for b s) l x (asks a ((engine b).hash y) y false z))
    → z ≡ seat_in (row_of a x.rows) → block ≡ y.0
    → Serves b (record { yes = false; running = r }) disk flash addrs blocks lists block lent
    (read_by (engine b) (arc (engine b) (sizes_for b s)) l x a y none)
unfolding read_by
taken-read b s l x a y lent r z disk flash addrs blocks lists block st ez eb =
    let e : Seat → Within b = λ u. arc_step (engine b) (sizes_for b s) l x (asks a ((engine b).hash y) y false u) in
    let go = answers b s lent miss (some y) 0 (e (seat_in (row_of a x.rows))) false r r.primary disk flash addrs blocks lists block in
    go (rw ez at st) refl (sym (zero-add r.primary)) eb

-- a read that hits
pub hit-read : (b : BoxRecord) (s : ListSizes) (l : Lists) (x : Box (Fixed 32) (Fixed b.size)) (a i j : ℕ) (y : Fixed b.size)
    (lent : List ℕ) (r : Running) (z : Seat) (disk flash addrs blocks lists block disk₀ flash₀ addrs₀ blocks₀ : List ℕ)
    → Rep b disk₀ flash₀ addrs₀ blocks₀ x → HitAt b x a i j
    → (let row = get_or x.rows i no_row in
    let k = block_of (engine b) row.fingerprint x.used x.flash in
    Stands b r disk flash addrs blocks lists (arc_step (engine b) (sizes_for b s) l x (asks a row.fingerprint k row.dirty z))
    → z ≡ row.seat → block ≡ k.0
    → Serves b (record { yes = true; running = r }) disk flash addrs blocks lists block lent
    (read_by (engine b) (arc (engine b) (sizes_for b s)) l x a y (row_with_block (engine b) x a)))
unfolding read_by
hit-read b s l x a i j y lent r z disk flash addrs blocks lists block disk₀ flash₀ addrs₀ blocks₀ h q st ez eb =
    let row = get_or x.rows i no_row in
    let k = block_of (engine b) row.fingerprint x.used x.flash in
    let go = answers b s lent hit (some k) 0 (arc_step (engine b) (sizes_for b s) l x (asks a row.fingerprint k row.dirty row.seat)) true r r.primary
    disk flash addrs blocks lists block in
    rw (hit-row b disk₀ flash₀ addrs₀ blocks₀ x h a i j q) (go (rw ez at st) refl (sym (zero-add r.primary)) eb)

-- ---- writes
-- the base's structure, with the record's own numbers
pub sure-of : (b : BoxRecord) (s : ListSizes) (x : Box (Fixed 32) (Fixed b.size)) → b.slots ≡ s.cached → b.rows ≡ s.cached + s.cached + s.extra
    → Sound (engine b) (base_numbers (sizes_for b s)) x → Sure b x
sure-of b s x e1 e2 so =
    record {
      addresses = so.addresses;
      below = so.below;
      few = rw e2 so.few;
      fingerprints = so.fingerprints;
      slots = rw e1 so.slots;
      dirty_cached = so.dirty_cached;
      flash_length = so.flash_length ∙ sym e1;
      disk_length = so.disk_length;
    }

module _ (b : BoxRecord) (s : ListSizes) (l : Lists) (x : Box (Fixed 32) (Fixed b.size)) (so : ArcSound (engine b) (sizes_for b s) l x) where
  -- every name is a number of four bytes, and none is there twice
  pub all-low : b.blocks ≤ 65536 → Low l
  all-low most =
      all_map (λ y. is_in y (end_to_end l) ≡ true) (λ y. y < 2 ^ 32)
      (λ y e.
      let k = tally-has (λ z. z) y (end_to_end l) e in
      let n = named_end y l in
      let t = so.names y in
      let q = tally-some (λ (r : AddressRow (Fixed 32)). r.address) y x.rows (omega (arith, k, n, t)) in
      let o = in-below b.blocks y x.rows so.sound.below q in
      omega (arith, o, most))
      (end_to_end l) (all_in (end_to_end l))

  pub named-once : (a : ℕ) → count a (end_to_end l) ≤ 1
  named-once a =
      let n = named_end a l in
      let t = so.names a in
      let d = tally-distinct (λ (r : AddressRow (Fixed 32)). r.address) a x.rows so.sound.addresses in
      omega (arith, n, t, d)

  module _ (c1 : 1 ≤ s.cached) where
    -- the invariant outlasts a block on the disk, and every call
    pub sound-disk : (a : ℕ) (y : Fixed b.size) → ArcSound (engine b) (sizes_for b s) l (on_disk (engine b) x a y)
    sound-disk a y =
        let Z = sizes_for b s in
        inv-on_disk (engine b) (base_numbers Z) (arc (engine b) Z) (ArcSound (engine b) Z) (arc-promises (engine b) Z c1) l x a y so

    sound-after : (c : Call (Fixed b.size)) → Cache.Within b.blocks c
        → (let o = serve_by (engine b) (arc (engine b) (sizes_for b s)) l x c in ArcSound (engine b) (sizes_for b s) o.kept o.outcome.box)
    sound-after c w =
        let Z = sizes_for b s in
        inv-serve (engine b) (base_numbers Z) (arc (engine b) Z) (ArcSound (engine b) Z) (arc-promises (engine b) Z c1) l x c so w

    module _ (a : ℕ) (la : a < b.blocks) (y : Fixed b.size) (z : Seat) where
      pub through-serves : (lent : List ℕ) (yes : Bool) (r : Running) (disk flash addrs blocks lists : List ℕ)
          → Stands b r disk flash addrs blocks lists
          (arc_step (engine b) (sizes_for b s) l (on_disk (engine b) x a y) (asks a ((engine b).hash y) y false z))
          → yes ≡ is_yes (same_or_new (engine b) x y)
          → Serves b (record { yes = yes; running = record { held = r.held; sizes = r.sizes; flashed = r.flashed; primary = 1 + r.primary } })
          disk flash addrs blocks lists lent lent (serve_by (engine b) (arc (engine b) (sizes_for b s)) l x (Call.through a y z))
      unfolding serve_by through_by
      through-serves lent y0 r disk flash addrs blocks lists st ey =
          answers b s lent (same_or_new (engine b) x y) none 1
          (arc_step (engine b) (sizes_for b s) l (on_disk (engine b) x a y) (asks a ((engine b).hash y) y false z)) y0 r (1 + r.primary)
          disk flash addrs blocks lists lent st ey refl refl

      pub back-serves : (lent : List ℕ) (yes : Bool) (r : Running) (more : ℕ) (disk flash addrs blocks lists disk' addrs' : List ℕ)
          → (let R = arc_step (engine b) (sizes_for b s) l x (back_request (engine b) x a y z) in
          let rows = R.stepped.box.rows in
          Stands b r disk flash addrs blocks lists R
          → ◌≡◌ {A = Copied} (record { count = more; disk = disk'; addrs = addrs' })
          (copied_rows (with_held b r.held) (λ f. true) R.stepped.box (reach (engine b) (excess (engine b) b.limit rows) rows))
          → yes ≡ is_yes (same_or_new (engine b) x y)
          → Serves b (record { yes = yes; running = record { held = r.held; sizes = r.sizes; flashed = r.flashed; primary = r.primary + more } })
          disk' flash addrs' blocks lists lent lent (serve_by (engine b) (arc (engine b) (sizes_for b s)) l x (Call.back a y z)))
      unfolding serve_by back_by answered_by answer flushed copied_rows part_box
      back-serves lent y0 r more disk flash addrs blocks lists disk' addrs' st c ey =
          let R = arc_step (engine b) (sizes_for b s) l x (back_request (engine b) x a y z) in
          let rows = R.stepped.box.rows in
          let i = reach (engine b) (excess (engine b) b.limit rows) rows in
          let after = sound-after (Call.back a y z) la in
          record {
            word = ey;
            box = record {
              rows_are = record {
                count = length-partly (engine b) i rows ∙ st.box.rows_are.count;
                few = st.box.rows_are.few;
                below = after.sound.below;
                small = st.box.rows_are.small;
                is = ap (λ (v : Copied). v.addrs) c;
              };
              blocks-are = st.box.blocks-are;
              flash-is = st.box.flash-is;
              disk-is = record { count = after.sound.disk_length; is = ap (λ (v : Copied). v.disk) c };
            };
            names = st.names;
            flashed = st.flashed;
            primary = ap₂ ◌+◌ (st.primary ∙ sym (zero-add R.stepped.primary_writes)) (ap (λ (v : Copied). v.count) c);
            returned = refl;
          }

      pub invalidate-serves : (disk flash addrs blocks : List ℕ) → Rep b disk flash addrs blocks x → b.slots ≡ s.cached
          → b.rows ≡ s.cached + s.cached + s.extra → (lent : List ℕ) (yes : Bool) (held : ℕ) (sizes : ListSizes) (disk' addrs' blocks' lists' : List ℕ)
          → yes ≡ is_yes (same_or_new (engine b) x y) → disk' ≡ splice (a * b.size) y.0 disk
          → (held ≡ length (without_address a x.rows)) × (addrs' ≡ addresses_of b.rows (without_address a x.rows)) ×
          (blocks' ≡ block_bytes (dropped (engine b) (without_address a x.rows) (record { free = x.free; used = x.used }) (row_of a x.rows)))
          → Holds b.rows sizes lists' (left a l)
          → Serves b (record { yes = yes; running = record { held = held; sizes = sizes; flashed = 0; primary = 1 } })
          disk' flash addrs' blocks' lists' lent lent (serve_by (engine b) (arc (engine b) (sizes_for b s)) l x (Call.invalidate a y z))
      unfolding serve_by write_invalidate
      invalidate-serves disk flash addrs blocks h e1 e2 lent y0 n sizes disk' addrs' blocks' lists' ey ed q k =
          let after = sound-after (Call.invalidate a y z) la in
          let d = rep-on_disk b disk flash addrs blocks x h a la y disk' ed in
          record {
            word = ey;
            box = sound-rep b n disk' flash addrs' blocks' _ (sure-of b s _ e1 e2 after.sound) h.rows_are.small h.blocks-are.small (sym q.0)
                d.disk-is.is h.flash-is.is q.1 q.2;
            names = k;
            flashed = refl;
            primary = refl;
            returned = refl;
          }
