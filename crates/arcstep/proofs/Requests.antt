-- The parts of a step put together. Assumes nothing.
use mathlib.Core.Path.{◌≡◌, refl, sym, subst}
use mathlib.Core.Bool.{Bool, true, false, true≢false}
use mathlib.Core.List.{List}
use Prim.Native.Nat.{ℕ, ◌+◌, ◌≤◌, ◌<◌}
use native.Mathlib.Omega.{arith}
use lib.ListN.{length}
use Rattle.paper.specs.Cache.{Seat, Box, Request}
use Rattle.paper.specs.Engine.{Fixed}
use Rattle.arc.specs.Arc.{Sizes, Lists, Was, in_t1, in_t2, in_b1, in_b2, in_b3, unheld, list_of, left, was_b2, parted, check, checked, inserted, joined, arc_step, arc_step_as}
use Rattle.arc.proofs.ArcFew.{arc-spends}
use Rattle.arc.specs.ArcRuns.{tops}
use Rattle.arc.proofs.ArcRunsLaws.{cleared-ends}
use Rattle.arc.specs.ArcStep.{ArcSound}
use Rattle.arc.proofs.ArcStepLaws.{left-few, mid-parted, up_to, Ready, ready}
use Rattle.arclists.specs.declared.ListSizes.{ListSizes}
use Rattle.arclists.specs.Holding.{total}
use Rattle.parts.specs.declared.BoxRecord.{BoxRecord}
use Rattle.parts.specs.Rep.{engine}
use Rattle.step.specs.Steps.{asks}
use Rattle.arcstep.specs.declared.Running.{Running}
use Rattle.arcstep.proofs.Ways.{told}
use Rattle.arcstep.specs.Runs.{Within, Runs, Stands, Ends, sizes_for, needs_check}

module _ (b : BoxRecord) (Z : Sizes) (R : Within b) where
  pub not-checked : (w : Was) → needs_check w ≡ false → checked (engine b) Z w R ≡ R
  unfolding checked
  not-checked in_t1 e = refl
  not-checked in_t2 e = refl
  not-checked in_b1 e = absurd (true≢false e)
  not-checked in_b2 e = absurd (true≢false e)
  not-checked in_b3 e = refl
  not-checked unheld e = absurd (true≢false e)

  pub is-checked : (w : Was) → needs_check w ≡ true → checked (engine b) Z w R ≡ check (engine b) Z (was_b2 w) R
  unfolding checked
  is-checked in_t1 e = absurd (true≢false (sym e))
  is-checked in_t2 e = absurd (true≢false (sym e))
  is-checked in_b1 e = refl
  is-checked in_b2 e = refl
  is-checked in_b3 e = absurd (true≢false (sym e))
  is-checked unheld e = refl

-- nothing is claimed beside the box
abbrev Any : {A : Type 0} → A → Type 0
Any x = Unit {0}

module _ (b : BoxRecord) (s : ListSizes) (l : Lists) (x : Box (Fixed 32) (Fixed b.size)) (so : ArcSound (engine b) (sizes_for b s) l x) (c1 : 1 ≤ s.cached) (a : ℕ) where
  -- the loop ends with a row
  pub ends_with : (w : Was) → Ends b s.cached (was_b2 w) (parted (engine b) s.cached l x a w)
  unfolding parted
  ends_with w =
      let R = parted (engine b) s.cached l x a w in
      (cleared-ends (engine b) (sizes_for b s) a Any (λ t x r so ab e n h. tt) c1 (tops R.kept) (was_b2 w) R (omega arith)
      (mid-parted (engine b) (sizes_for b s) l x a w so, tt) (let fw = so.few in let lw = left-few a l in omega (arith, fw, lw))).row

  -- and there is room for the address
  module _ (f : Fixed 32) (y : Fixed b.size) where
    abbrev before : Within b
    before = checked (engine b) (sizes_for b s) (list_of a l) (inserted (engine b) s.cached (was_b2 (list_of a l)) f y (parted (engine b) s.cached l x a (list_of a l)))

    is-ready : Ready (engine b) (sizes_for b s) a f y Any (λ t x r so ab e n h. tt) (λ t m c row h. tt) (λ t m c h. tt) c1
        (checked (engine b) (sizes_for b s) (list_of a l) (inserted (engine b) s.cached (was_b2 (list_of a l)) f y (parted (engine b) s.cached l x a (list_of a l))))
    is-ready = ready (engine b) (sizes_for b s) a f y Any (λ t x r so ab e n h. tt) (λ t m c row h. tt) (λ t m c h. tt) c1 l x so (λ w. tt)

    pub has_room : (t : Running) (disk flash addrs blocks lists : List ℕ)
        → Runs b t disk flash addrs blocks lists
        (checked (engine b) (sizes_for b s) (list_of a l) (inserted (engine b) s.cached (was_b2 (list_of a l)) f y (parted (engine b) s.cached l x a (list_of a l))))
        → (t.held + 1 ≤ s.cached + s.cached + s.extra) × (total t.sizes + 1 ≤ s.cached + s.cached + s.extra)
    has_room t disk flash addrs blocks lists h =
        let r = is-ready in
        let room = r.room in
        let few = r.few in
        let n = r.mid.counted in
        let c = h.box.rows_are.count in
        let z = h.names.sized in (
          omega (arith, room, few, n, c),
          omega (arith, room, few, z.t1-is, z.t2-is, z.b1-is, z.b2-is, z.b3-is),
        )

  -- the same, told by the list that the code found, and by its C
  module _ (was : Was) (e : was ≡ list_of a l) (C : ℕ) (k : C ≡ s.cached) where
    pub ends-told : Ends b C (was_b2 was) (parted (engine b) s.cached l x a (list_of a l))
    ends-told = rw (k, e) (ends_with (list_of a l))

    pub settled : {r : Running} {disk flash addrs blocks lists : List ℕ} (f : Fixed 32) (y : Fixed b.size)
        → Runs b r disk flash addrs blocks lists
        (checked (engine b) (sizes_for b s) was (inserted (engine b) C (was_b2 was) f y (parted (engine b) s.cached l x a (list_of a l))))
        → Runs b r disk flash addrs blocks lists
        (checked (engine b) (sizes_for b s) (list_of a l) (inserted (engine b) s.cached (was_b2 (list_of a l)) f y (parted (engine b) s.cached l x a (list_of a l))))
    settled f y h =
        told (λ i. checked (engine b) (sizes_for b s) (sym e i) (inserted (engine b) (sym k i) (was_b2 (sym e i)) f y (parted (engine b) s.cached l x a (list_of a l)))) h

    -- the whole step
    pub whole : {r : Running} {disk flash addrs blocks lists : List ℕ} (f : Fixed 32) (y : Fixed b.size) (d : Bool) (z : Seat)
        → Stands b r disk flash addrs blocks lists (joined (engine b) a f d z was
        (checked (engine b) (sizes_for b s) (list_of a l) (inserted (engine b) s.cached (was_b2 (list_of a l)) f y (parted (engine b) s.cached l x a (list_of a l)))))
        → Stands b r disk flash addrs blocks lists (arc_step (engine b) (sizes_for b s) l x (asks a f y d z))
    unfolding arc_step arc_step_as
    whole {r} {disk} {flash} {addrs} {blocks} {lists} f y d z h =
        subst (λ w. Stands b r disk flash addrs blocks lists (joined (engine b) a f d z w
        (checked (engine b) (sizes_for b s) (list_of a l) (inserted (engine b) s.cached (was_b2 (list_of a l)) f y
        (parted (engine b) s.cached l x a (list_of a l)))))) e h

-- a step stores at most one block
pub stored-once : (b : BoxRecord) (s : ListSizes) (l : Lists) (x : Box (Fixed 32) (Fixed b.size)) → ArcSound (engine b) (sizes_for b s) l x → 1 ≤ s.cached
    → (q : Request (Fixed 32) (Fixed b.size)) (r : Running) (disk flash addrs blocks lists : List ℕ)
    → Stands b r disk flash addrs blocks lists (arc_step (engine b) (sizes_for b s) l x q) → r.flashed ≤ 1
stored-once b s l x so c1 q r disk flash addrs blocks lists h =
    let e = h.flashed in let n = (arc-spends (engine b) (sizes_for b s) c1 l x q so).1 in omega (arith, e, n)
