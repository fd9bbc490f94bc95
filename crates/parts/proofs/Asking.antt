-- The row that step 4 takes, by what the code finds. Assumes nothing.
use mathlib.Core.Path.{◌≡◌, refl, sym, ◌∙◌}
use mathlib.Core.Bool.{true, false, not}
use mathlib.Core.List.{List, [], ◌∷◌}
use Prim.Native.Nat.{ℕ, ◌≤◌, ◌<◌}
use native.Mathlib.Nat.{zero-add}
use native.Mathlib.Omega.{arith}
use lib.Dec.{ltb}
use lib.ListN.{length}
use borrow.Author.Tests.{lt-ltb, le-ltb}
use Rattle.tables.specs.Rows.{row_at}
use Rattle.paper.specs.KeyedLaws.{clash}
use Rattle.paper.specs.Cache.{AddressRow, BlockRow, known}
use Rattle.paper.specs.Engine.{Fixed, comparing}
use Rattle.paper.specs.Index.{index_where}
use Rattle.paper.specs.Layout.{Blocks}
use Rattle.parts.specs.Asked.{no_block, victim_place}
use Rattle.parts.specs.MoveLaws.{used-flag, first-flag}
use Rattle.tables.specs.Find.{is_used}

-- victim
module _ (d : ℕ) (t : List ℕ) (l : List (AddressRow (Fixed 32))) (used : List (BlockRow (Fixed 32))) where
  pub victim-first : (free : List ℕ) → Blocks d t free used → 0 < d → is_used (row_at t 0) ≡ false → 0 ≡ victim_place l free used
  unfolding victim_place
  victim-first [] h b e = clash (used-flag d t [] used h 0 (omega (arith, h.count)) no_block) e
  victim-first (k ∷ free) h b e = refl

  pub victim-yes : (free : List ℕ) → Blocks d t free used → is_used (row_at t 0) ≡ true → (j : ℕ) → (Blocks d t [] used → j ≡ index_where (λ u. not (known comparing u.fingerprint l)) used) → j < d → j ≡ victim_place l free used
  unfolding victim_place
  victim-yes [] h e j f b =
      let c : length used ≡ d = sym (zero-add (length used)) ∙ h.count in
      let z : ltb (index_where (λ u. not (known comparing u.fingerprint l)) used) (length used) ≡ true = lt-ltb (index_where (λ (u : BlockRow (Fixed 32)). not (known comparing u.fingerprint l)) used) (length used) (omega (arith, f h, c)) in
      f h ∙ rw z refl
  victim-yes (k ∷ free) h e j f b = clash e (first-flag d t k free used h)

  pub victim-no : (free : List ℕ) → Blocks d t free used → is_used (row_at t 0) ≡ true → (j : ℕ) → (Blocks d t [] used → j ≡ index_where (λ u. not (known comparing u.fingerprint l)) used) → d ≤ j → 0 ≡ victim_place l free used
  unfolding victim_place
  victim-no [] h e j f b =
      let c : length used ≡ d = sym (zero-add (length used)) ∙ h.count in
      let z : ltb (index_where (λ u. not (known comparing u.fingerprint l)) used) (length used) ≡ false = le-ltb (index_where (λ (u : BlockRow (Fixed 32)). not (known comparing u.fingerprint l)) used) (length used) (omega (arith, f h, c)) in
      rw z refl
  victim-no (k ∷ free) h e j f b = clash e (first-flag d t k free used h)
