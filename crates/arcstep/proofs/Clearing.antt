-- The loop that clears a block row, turn by turn, and the block row that is taken then. Assumes nothing.
use mathlib.Core.Path.{◌≡◌, refl, sym, ap, ◌∙◌, subst}
use mathlib.Core.Bool.{Bool, true, false}
use mathlib.Core.List.{List, [], ◌∷◌}
use Prim.Native.Nat.{ℕ, zero, suc, ◌+◌, ◌-◌, ◌<◌}
use native.Mathlib.Nat.{zero-add}
use native.Mathlib.Omega.{arith}
use lib.Dec.{ltb}
use lib.ListN.{length}
use borrow.Author.Tests.{lt-ltb, le-ltb, ltb-true}
use Rattle.paper.specs.KeyedLaws.{by-test}
use Rattle.paper.specs.Cache.{Box}
use Rattle.paper.specs.Engine.{Fixed}
use Rattle.paper.proofs.IndexLaws.{unknown-yes, unknown-no}
use Rattle.paper.specs.Layout.{Blocks}
use Rattle.arc.specs.Arc.{Lists, top_rows, has_row, taken_by, replace, cleared, cleared! }
use Rattle.parts.specs.declared.BoxRecord.{BoxRecord}
use Rattle.parts.specs.Rep.{numbers_of, engine}
use Rattle.parts.specs.Asked.{no_block}
use Rattle.step.specs.Steps.{OnceEach, Picked, picked_taken}
use Rattle.step.specs.Taking.{taken_at}
use Rattle.arcstep.specs.declared.Running.{Running}
use Rattle.arcstep.specs.declared.Cleared.{Cleared}
use Rattle.arcstep.specs.Victim.{oldest_at, victim_at}
use Rattle.arcstep.specs.Runs.{Within, Clears, Taken}

-- there is a row to be taken if its place is below the count of rows
module _ (b : BoxRecord) (t : List ℕ) (l : Lists) (s : Box (Fixed 32) (Fixed b.size)) (d0 : 0 < b.slots) where
  tells : (free : List ℕ) → s.free ≡ free → Blocks b.slots t free s.used → has_row (engine b) l s ≡ ltb (victim_at l s) b.slots
  unfolding has_row victim_at
  tells (k ∷ free) e h = rw (e, lt-ltb 0 b.slots d0) refl
  tells [] e h =
      let n : length s.used ≡ b.slots = sym (zero-add (length s.used)) ∙ h.count in
      by-test (ltb (oldest_at l s) b.slots)
      (λ y. let i = ltb-true (oldest_at l s) b.slots y in
      rw (e, unknown-yes (engine b) (top_rows l s.rows) s.used no_block (omega (arith, i, n)), y) refl)
      (λ y. let i = borrow.Author.Tests.ltb-false (oldest_at l s) b.slots y in
      rw (e, unknown-no (engine b) (top_rows l s.rows) s.used (omega (arith, i, n)), y) refl)

  pub row-tells : Blocks b.slots t s.free s.used → has_row (engine b) l s ≡ ltb (victim_at l s) b.slots
  row-tells h = tells s.free refl h

  -- what is taken then
  picked : (free : List ℕ) → s.free ≡ free → Blocks b.slots t free s.used → victim_at l s < b.slots → Picked free s.used (victim_at l s)
  unfolding victim_at
  picked (k ∷ free) e h = rw e (λ i. refl)
  picked [] e h = rw e (λ i. let n = h.count in omega (arith, i, n))

  pub victim-picked : Blocks b.slots t s.free s.used → victim_at l s < b.slots → Picked s.free s.used (victim_at l s)
  victim-picked h i = picked s.free refl h i

  by-free : (free : List ℕ) → s.free ≡ free → Blocks b.slots t free s.used → OnceEach s.used → victim_at l s < b.slots
      → taken_by (engine b) l s free ≡ picked_taken free s.used (victim_at l s)
  unfolding taken_by picked_taken victim_at
  by-free (k ∷ free) e h o = λ i. refl
  by-free [] e h o = rw e (λ i.
      let n : length s.used ≡ b.slots = sym (zero-add (length s.used)) ∙ h.count in
      let y : oldest_at l s < length s.used = omega (arith, i, n) in
      rw (unknown-yes (engine b) (top_rows l s.rows) s.used no_block y) (taken_at (numbers_of b) s.used o (oldest_at l s) y))

  pub victim-taken : Blocks b.slots t s.free s.used → OnceEach s.used → victim_at l s < b.slots
      → taken_by (engine b) l s s.free ≡ picked_taken s.free s.used (victim_at l s)
  victim-taken h o i = by-free s.free refl h o i

module _ (b : BoxRecord) (C : ℕ) (b2 : Bool) (S : Within b) where
  -- there is a row
  pub stop : (k : ℕ) → has_row (engine b) S.kept S.stepped.box ≡ true → cleared (engine b) k C b2 S ≡ S
  unfolding cleared
  stop zero e = refl
  stop (suc k) e = rw e refl

  -- or there is none yet
  pub on : (k : ℕ) → 0 < k → has_row (engine b) S.kept S.stepped.box ≡ false
      → cleared (engine b) (k - 1) C b2 (replace (engine b) C b2 S) ≡ cleared (engine b) k C b2 S
  unfolding cleared
  on zero l e = absurd (omega (arith, l))
  on (suc k) l e = let q : suc k - 1 ≡ k = omega arith in ap (λ n. cleared (engine b) n C b2 (replace (engine b) C b2 S)) q ∙ rw e refl

-- as often as T1 and T2 have addresses
abbrev pub turns : Running → ℕ
turns r = r.sizes.t1 + r.sizes.t2

-- a box of which k turns are left, from R with K turns
pub record Going (b : BoxRecord) (c : Cleared) (disk flash addrs blocks lists : List ℕ) (C k K : ℕ) (b2 : Bool) (R : Within b) : Type 0 where
  pub now : Within b
  pub clears : Clears b c disk flash addrs blocks lists now
  pub same : cleared (engine b) k C b2 now ≡ cleared (engine b) K C b2 R

-- the loop ends
pub ends : {b : BoxRecord} {c : Cleared} {disk flash addrs blocks lists : List ℕ} {C k K : ℕ} {b2 : Bool} {R : Within b}
    → (g : Going b c disk flash addrs blocks lists C k K b2 R) → cleared (engine b) k C b2 g.now ≡ g.now → K ≡ length R.kept.T1 + length R.kept.T2
    → Clears b c disk flash addrs blocks lists (cleared! (engine b) C b2 R)
ends {b} {c} {disk} {flash} {addrs} {blocks} {lists} {C} {k} {K} {b2} {R} g e n =
    subst (λ x. Clears b c disk flash addrs blocks lists x) (sym e ∙ g.same ∙ ap (λ i. cleared (engine b) i C b2 R) n) g.clears

-- the same, told otherwise
pub cleared-as : {b : BoxRecord} {c : Cleared} {disk flash addrs blocks lists : List ℕ} {R S : Within b} → S ≡ R → Clears b c disk flash addrs blocks lists R
    → Clears b c disk flash addrs blocks lists S
cleared-as {b} {c} {disk} {flash} {addrs} {blocks} {lists} e h = subst (λ x. Clears b c disk flash addrs blocks lists x) (sym e) h

-- there is a row, and its place is the one found
pub has-taken : (b : BoxRecord) (c : Cleared) (disk flash addrs blocks lists : List ℕ) (R : Within b) → Clears b c disk flash addrs blocks lists R → 0 < b.slots
    → has_row (engine b) R.kept R.stepped.box ≡ true → Taken b c.place R
has-taken b c disk flash addrs blocks lists R k d0 e =
    let y = ltb-true (victim_at R.kept R.stepped.box) b.slots (sym (row-tells b blocks R.kept R.stepped.box d0 k.runs.box.blocks-are) ∙ e) in
    let p = k.place_is in (p, omega (arith, p, y))
