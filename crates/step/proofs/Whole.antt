-- The step, from its four parts. Assumes nothing.
use mathlib.Core.Path.{◌≡◌, refl, sym, ap, ap₂, ◌∙◌}
use mathlib.Core.Bool.{Bool, true}
use mathlib.Core.List.Permᴰ
use mathlib.Core.List.{List, [], ◌∷◌, ◌++◌, map, Permᴰ}
use mathlib.Core.Logic.{◌⊎◌, inl, inr}
use Prim.Native.Nat.{ℕ, ◌≤◌, ◌<◌, ◌+◌, ◌-◌}
use native.Mathlib.Nat.{zero-add, add-zero}
use native.Mathlib.Omega.{arith}
use lib.ListN.{length, take, length-append, length-map}
use lib.Seq.{take_at}
use Rattle.parts.specs.declared.BoxRecord.{BoxRecord}
use Rattle.tables.specs.Records.{address_row, address_bytes, slots_from}
use Rattle.paper.specs.KeyedLaws.{All, all_map, all-perm, all_append, by-test, Distinct, all_of_map, all_left, all_right}
use Rattle.paper.specs.Cache.{Seat, Numbers, AddressRow, BlockRow, BlockRows, Box, RowOut, Stepped, newest, block_row, cached, without_block, slot_of, step1, step3, step4, stored, taken, step, copies, is_lost}
use Rattle.paper.specs.Sound.{DirtyCached}
use Rattle.paper.proofs.SoundLaws.{Out, sound-step1, sound-step3, length-perm, length-slots_from, length-cleaned}
use Rattle.paper.proofs.SoundLaws as S
use Rattle.paper.proofs.FaithfulLaws.{slots-below-0}
use Rattle.paper.specs.Engine.{Fixed, labelled, comparing}
use Rattle.paper.specs.Lent.{bit}
use Rattle.paper.specs.Layout.{Addrs, Blocks, blocks_of}
use Rattle.parts.specs.Rep.{numbers_of, Rep, with_held, engine}
use Rattle.step.specs.Steps.{place_of, Out1, out1, block_bytes, Out4, out4, StepLeft, after, asks, Sure}
use Rattle.parts.specs.MoveLaws.{pushed}
use Rattle.tables.specs.Operations.{row_added}

-- block rows whose slots are 0 to d - 1
pub blocks_from : (d : ℕ) (t : List ℕ) (free : List ℕ) (used : List (BlockRow (Fixed 32))) → Permᴰ (free ++ map (λ u. u.slot) used) (slots_from 0 d) → d ≤ 256 → t ≡ blocks_of free used → Blocks d t free used
blocks_from d t free used p s e =
    let sl : All (λ k. k < d) (free ++ map (λ u. u.slot) used) = all-perm (λ k. k < d) (Permᴰ.symm p) (slots-below-0 d) in
    record {
      count = ap (λ (k : ℕ). length free + k) (sym (length-map used (λ u. u.slot))) ∙ sym (length-append free (map (λ u. u.slot) used)) ∙ length-perm p ∙ length-slots_from 0 d;
      free-below = all_left (λ k. k < d) free (map (λ u. u.slot) used) sl;
      used-below = all_of_map (λ u. u.slot) (λ k. k < d) used (all_right (λ k. k < d) free (map (λ u. u.slot) used) sl);
      small = s;
      is = e;
    }

-- the count of blocks copied before step 4 is only added
more : {B : ℕ} → ℕ → Stepped (Fixed 32) (Fixed B) → Stepped (Fixed 32) (Fixed B)
more w t = record { box = t.box; flash_writes = t.flash_writes; primary_writes = w + t.primary_writes }

step4-more : (N : Numbers) (l : List (AddressRow (Fixed 32))) (t : BlockRows (Fixed 32)) (fl di : List (Fixed N.B)) (f : Fixed 32) (x : Fixed N.B) (w : ℕ) → step4 (labelled N) l t fl di f x w ≡ more w (step4 (labelled N) l t fl di f x 0)
unfolding step4 stored more
step4-more N l t fl di f x w =
    by-test (cached (labelled N) f t.used)
    (λ e. rw e (λ j. record { box = record { rows = l; free = t.free; used = without_block (labelled N) f t.used ++ (block_row f (slot_of (labelled N) f t.used) ∷ []); flash = fl; disk = di }; flash_writes = 0; primary_writes = sym (add-zero w) j }))
    (λ e. rw e (λ j. record { box = (stored (labelled N) l t.used fl di f x 0 (taken (labelled N) l t.free t.used)).box; flash_writes = 1; primary_writes = ap (λ (k : ℕ). w + k) (sym (zero-add (copies (labelled N) (is_lost (labelled N) (taken (labelled N) l t.free t.used).lost) l))) j }))

step4-rows : (N : Numbers) (l : List (AddressRow (Fixed 32))) (t : BlockRows (Fixed 32)) (fl di : List (Fixed N.B)) (f : Fixed 32) (x : Fixed N.B) (w : ℕ) → length (step4 (labelled N) l t fl di f x w).box.rows ≡ length l
unfolding step4 stored
step4-rows N l t fl di f x w = by-test (cached (labelled N) f t.used) (λ e. rw e refl) (λ e. rw e (length-cleaned (labelled N) (is_lost (labelled N) (taken (labelled N) l t.free t.used).lost) l))

module _ (b : BoxRecord) (disk flash addrs blocks : List ℕ) (s : Box (Fixed 32) (Fixed b.size)) (h : Rep b disk flash addrs blocks s) (sd : Sure b s) (m1 : 0 < b.rows) (d1 : 0 < b.slots) (a : ℕ) (la : a < b.blocks) (f : Fixed 32) (w : Bool) (z : Seat)
    (n place primary : ℕ) (disk₁ addrs₁ : List ℕ) (e₁ : ◌≡◌ {A = Out1} (record { held = n; place = place; primary = primary; disk = disk₁; addrs = addrs₁ }) (out1 b s (step1 (engine b) b.rows s a)))
    (addrs₂ : List ℕ) (e₂ : addrs₂ ≡ row_added n (address_bytes (address_row a f.0 (bit w) z)) addrs₁) where
  abbrev o : RowOut (Fixed 32) (Fixed b.size)
  o = step1 (engine b) b.rows s a

  out : Out (engine b) (numbers_of b) a s (step1 (engine b) b.rows s a)
  out = sound-step1 (engine b) (numbers_of b) s a sd m1

  n-is : n ≡ length (step1 (engine b) b.rows s a).rows
  unfolding out1
  n-is = ap (λ (x : Out1). x.held) e₁

  addrs₁-are : Addrs b.blocks b.rows n addrs₁ (step1 (engine b) b.rows s a).rows
  unfolding out1
  addrs₁-are = record { count = sym n-is; few = omega (arith, n-is, out.few); below = out.below; small = h.rows_are.small; is = ap (λ (x : Out1). x.addrs) e₁ }

  pub addrs₂-are : Addrs b.blocks b.rows (n + 1) addrs₂ ((step1 (engine b) b.rows s a).rows ++ (newest a f w z ∷ []))
  addrs₂-are =
      record {
        count = length-append (step1 (engine b) b.rows s a).rows (newest a f w z ∷ []) ∙ ap (λ (k : ℕ). k + 1) (sym n-is);
        few = omega (arith, n-is, out.few);
        below = all_append (λ (r : AddressRow (Fixed 32)). r.address < b.blocks) (step1 (engine b) b.rows s a).rows (newest a f w z ∷ []) out.below (la, tt);
        small = h.rows_are.small;
        is = e₂ ∙ pushed b.blocks b.rows n addrs₁ (step1 (engine b) b.rows s a).rows addrs₁-are (omega (arith, n-is, out.few)) a f w z;
      }

  pub place_is : place ≡ place_of (step1 (engine b) b.rows s a).gone s.free s.used
  unfolding out1
  place_is = ap (λ (x : Out1). x.place) e₁

  others : take (n + 1 - 1) ((step1 (engine b) b.rows s a).rows ++ (newest a f w z ∷ [])) ≡ (step1 (engine b) b.rows s a).rows
  others = let e : n + 1 - 1 ≡ n = omega arith in ap (λ (k : ℕ). take k ((step1 (engine b) b.rows s a).rows ++ (newest a f w z ∷ []))) e ∙ take_at (step1 (engine b) b.rows s a).rows (newest a f w z ∷ []) n (sym n-is)

  module _ (blocks₃ : List ℕ) (e₃ : blocks₃ ≡ block_bytes (step3 (engine b) (step1 (engine b) b.rows s a).gone (take (n + 1 - 1) ((step1 (engine b) b.rows s a).rows ++ (newest a f w z ∷ []))) ((step1 (engine b) b.rows s a).rows ++ (newest a f w z ∷ [])) (record { free = s.free; used = s.used }))) where
    abbrev pub t₃ : BlockRows (Fixed 32)
    t₃ = step3 (engine b) (step1 (engine b) b.rows s a).gone (step1 (engine b) b.rows s a).rows ((step1 (engine b) b.rows s a).rows ++ (newest a f w z ∷ [])) (record { free = s.free; used = s.used })

    sound₃ : S.Blocks (engine b) b.slots f ((step1 (engine b) b.rows s a).rows ++ (newest a f w z ∷ [])) t₃
    sound₃ =
        sound-step3 (engine b) b.slots (step1 (engine b) b.rows s a).gone (step1 (engine b) b.rows s a).rows ((step1 (engine b) b.rows s a).rows ++ (newest a f w z ∷ [])) (record { free = s.free; used = s.used }) f
        (record {
          fingerprints = sd.fingerprints;
          slots = sd.slots;
          dirty_cached = all_append (λ (r : AddressRow (Fixed 32)). r.dirty ≡ true → (cached (engine b) r.fingerprint s.used ≡ true) ⊎ (r.fingerprint ≡ f)) (step1 (engine b) b.rows s a).rows (newest a f w z ∷ [])
              (all_map (DirtyCached (engine b) s.used) (λ (r : AddressRow (Fixed 32)). r.dirty ≡ true → (cached (engine b) r.fingerprint s.used ≡ true) ⊎ (r.fingerprint ≡ f)) (λ r y e. inl (y e)) (step1 (engine b) b.rows s a).rows out.dirty_cached)
              ((λ e. inr refl), tt);
        })

    pub distinct₃ : Distinct comparing.same (λ u. u.fingerprint) t₃.used
    distinct₃ = sound₃.fingerprints

    abbrev pub s₃ : Box (Fixed 32) (Fixed b.size)
    s₃ = record { rows = (step1 (engine b) b.rows s a).rows ++ (newest a f w z ∷ []); free = t₃.free; used = t₃.used; flash = s.flash; disk = (step1 (engine b) b.rows s a).disk }

    pub rep₃ : Rep (with_held b (n + 1)) disk₁ flash addrs₂ blocks₃ s₃
    unfolding out1
    rep₃ =
        record {
          rows_are = addrs₂-are;
          blocks-are = blocks_from b.slots blocks₃ t₃.free t₃.used sound₃.slots h.blocks-are.small (e₃ ∙ ap (λ (l : List (AddressRow (Fixed 32))). block_bytes (step3 (engine b) (step1 (engine b) b.rows s a).gone l ((step1 (engine b) b.rows s a).rows ++ (newest a f w z ∷ [])) (record { free = s.free; used = s.used }))) others);
          flash-is = h.flash-is;
          disk-is = record { count = out.disk_length; is = ap (λ (x : Out1). x.disk) e₁ };
        }

    pub step_is : (x : Fixed b.size) (flashed copies : ℕ) (disk₄ flash₄ addrs₄ blocks₄ : List ℕ)
        → ◌≡◌ {A = Out4} (record { flashed = flashed; primary = copies; disk = disk₄; flash = flash₄; addrs = addrs₄; blocks = blocks₄ })
        (out4 (with_held b (n + 1)) (step4 (engine b) s₃.rows (record { free = s₃.free; used = s₃.used }) s₃.flash s₃.disk f x 0))
        → ◌≡◌ {A = StepLeft} (record { held = n + 1; left = (record { flashed = flashed; primary = primary + copies; disk = disk₄; flash = flash₄; addrs = addrs₄; blocks = blocks₄ }) }) (after b (step (engine b) b.rows s (asks a f x w z)))
    unfolding out4 out1 after step more
    step_is x flashed copies disk₄ flash₄ addrs₄ blocks₄ e =
        let P : primary ≡ (step1 (engine b) b.rows s a).primary = ap (λ (x : Out1). x.primary) e₁ in
        let hn : n + 1 ≡ length (step4 (engine b) s₃.rows t₃ s₃.flash s₃.disk f x 0).box.rows = sym addrs₂-are.count ∙ sym (step4-rows (numbers_of b) s₃.rows t₃ s₃.flash s₃.disk f x 0) in
        rw (step4-more (numbers_of b) s₃.rows t₃ s₃.flash s₃.disk f x (step1 (engine b) b.rows s a).primary)
        (λ j. record { held = hn j; left = (record { flashed = ap (λ (y : Out4). y.flashed) e j; primary = ap₂ ◌+◌ P (ap (λ (y : Out4). y.primary) e) j; disk = ap (λ (y : Out4). y.disk) e j; flash = ap (λ (y : Out4). y.flash) e j; addrs = ap (λ (y : Out4). y.addrs) e j; blocks = ap (λ (y : Out4). y.blocks) e j }) })
