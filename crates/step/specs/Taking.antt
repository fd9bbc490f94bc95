-- The row that step 4 takes, and what is taken with it. Assumes nothing.
use Rattle.std.specs.Prelude.{◌≡◌, ℕ, suc, zero, ◌+◌, ◌<◌, get_or, take, drop}
use Rattle.std.proofs.Math.Path.{refl, sym}
use Rattle.std.proofs.Common.{ap, ap₂, ◌∙◌, le_of_suc-le-suc, zero-add, arith}
use Rattle.std.proofs.Math.Bool.{true, not}
use mathlib.Core.List.{List, [], ◌∷◌, ◌++◌}
use Rattle.std.proofs.Math.Option.{none, some}
use Rattle.std.proofs.Math.Dec.{ltb}
use Rattle.std.proofs.Math.ListN.{length}
use Rattle.paper.specs.KeyedLaws.{by-test, clash, Distinct}
use Rattle.paper.specs.Cache.{Numbers, AddressRow, BlockRow, block_row, without_block, known, slot_of, taken, taken_used, victim}
use Rattle.paper.specs.Engine.{Fixed, labelled, comparing}
use Rattle.paper.specs.Index.{index_where}
use Rattle.paper.proofs.IndexLaws.{index-holds, unknown-yes, unknown-no, has-at, without_at, without-yes, slot_of-yes}
use Rattle.paper.specs.Layout.{Blocks, blocks_of}
use Rattle.parts.specs.Asked.{no_block, victim_place}
use Rattle.parts.specs.MoveLaws.{renewed}
use Rattle.tables.specs.Rows.{remove_at}
use Rattle.tables.specs.Operations.{row_newest}
use Rattle.step.specs.Steps.{Picked, picked_taken}

-- the row that victim gives can be taken
module _ (d : ℕ) (t : List ℕ) (l : List (AddressRow (Fixed 32))) (used : List (BlockRow (Fixed 32))) where
  pub victim-picked : (free : List ℕ) → Blocks d t free used → 0 < d → Picked free used (victim_place l free used)
  unfolding victim_place
  victim-picked [] h b =
      let c : length used ≡ d = sym (zero-add (length used)) ∙ h.count in
      by-test (ltb (index_where (λ u. not (known comparing u.fingerprint l)) used) (length used)) (λ e. rw e (below_of _ _ e)) (λ e. rw e (omega (arith, c)))
    where
      below_of : (i n : ℕ) → ltb i n ≡ true → i < n
      below_of i n e = borrow.Author.Tests.ltb-true i n e
  victim-picked (k ∷ free) h b = refl

-- the row of a fingerprint, where fingerprints are distinct
pub own-slot : (N : Numbers) (used : List (BlockRow (Fixed 32))) (i : ℕ) → Distinct comparing.same (λ u. u.fingerprint) used → i < length used
    → slot_of (labelled N) (get_or used i no_block).fingerprint used ≡ (get_or used i no_block).slot
own-slot N [] i d h = absurd (omega arith)
own-slot N (x ∷ xs) zero d h = rw ((labelled N).same_refl x.fingerprint) refl
own-slot N (x ∷ xs) (suc i) d h =
    by-test ((labelled N).same (get_or xs i no_block).fingerprint x.fingerprint)
    (λ e. clash (has-at comparing.same (λ (u : BlockRow (Fixed 32)). u.fingerprint) x.fingerprint xs i no_block (le_of_suc-le-suc h)
    (ap (λ (f : Fixed 32). comparing.same f (get_or xs i no_block).fingerprint) (sym ((labelled N).same→≡ (get_or xs i no_block).fingerprint x.fingerprint e))
    ∙ comparing.same_refl (get_or xs i no_block).fingerprint)) d.0)
    (λ e. rw e (own-slot N xs i d.1 (le_of_suc-le-suc h)))

-- what is taken with the used row at t
pub taken_at : (N : Numbers) (used : List (BlockRow (Fixed 32))) → Distinct comparing.same (λ u. u.fingerprint) used → (t : ℕ) → t < length used
    → taken_used (labelled N) (some (get_or used t no_block)) used ≡ picked_taken [] used t
unfolding taken_used picked_taken
taken_at N used d t h =
    ap (λ (x : List (BlockRow (Fixed 32))). record { slot = (get_or used t no_block).slot; lost = some (get_or used t no_block).fingerprint; free = []; used = x })
    (without_at comparing.same (λ (u : BlockRow (Fixed 32)). u.fingerprint) comparing.same→≡ (get_or used t no_block).fingerprint used t no_block d h
    (comparing.same_refl (get_or used t no_block).fingerprint))

-- what is taken
pub taken_is : (N : Numbers) (l : List (AddressRow (Fixed 32))) (free : List ℕ) (used : List (BlockRow (Fixed 32)))
    → Distinct comparing.same (λ u. u.fingerprint) used → Picked free used (victim_place l free used)
    → taken (labelled N) l free used ≡ picked_taken free used (victim_place l free used)
unfolding taken picked_taken victim_place taken_used victim
taken_is N l (k ∷ free) used d = λ p. refl
taken_is N l [] used d =
    by-test (ltb (index_where (λ u. not (known comparing u.fingerprint l)) used) (length used))
    (λ e. rw e (λ p. rw (unknown-yes (labelled N) l used no_block p) (taken_at N used d (index_where (λ u. not (known comparing u.fingerprint l)) used) p)))
    (λ e. rw e (λ p. rw (unknown-no (labelled N) l used (borrow.Author.Tests.ltb-false _ _ e)) (oldest used d p)))
  where
    oldest : (us : List (BlockRow (Fixed 32))) → Distinct comparing.same (λ u. u.fingerprint) us → 0 < length us
        → taken_used (labelled N) (victim (labelled N) none us) us ≡ picked_taken [] us 0
    oldest [] d p = absurd (omega arith)
    oldest (u ∷ us) d p = taken_at N (u ∷ us) d 0 p

-- the row of a cached fingerprint becomes newest
pub renewed-at : (N : Numbers) (d : ℕ) (t : List ℕ) (free : List ℕ) (used : List (BlockRow (Fixed 32))) → Blocks d t free used
    → Distinct comparing.same (λ u. u.fingerprint) used → (f : Fixed 32) (j : ℕ)
    → j ≡ length free + index_where (λ u. comparing.same f u.fingerprint) used → j < d
    → row_newest d j t ≡ blocks_of free (without_block (labelled N) f used ++ (block_row f (slot_of (labelled N) f used) ∷ []))
renewed-at N d t free used h ds f j ej l =
    let i : ℕ = index_where (λ (u : BlockRow (Fixed 32)). comparing.same f u.fingerprint) used in
    let ib : i < length used = omega (arith, ej, l, h.count) in
    let fe : (get_or used i no_block).fingerprint ≡ f
    = sym (comparing.same→≡ f (get_or used i no_block).fingerprint
    (index-holds (λ (u : BlockRow (Fixed 32)). comparing.same f u.fingerprint) used no_block ib)) in
    let se : (get_or used i no_block).slot ≡ slot_of (labelled N) f used = sym (slot_of-yes (labelled N) f used no_block ib) in
    let ue : get_or used i no_block ≡ block_row f (slot_of (labelled N) f used) = λ n. record { fingerprint = fe n; slot = se n } in
    let wo : without_block (labelled N) f used ≡ remove_at used i
    = without-yes comparing.same (λ (u : BlockRow (Fixed 32)). u.fingerprint) f comparing.same→≡ used ds ib in
    ap (λ (n : ℕ). row_newest d n t) ej ∙ renewed d t free used h i ib no_block ∙ ap₂ {C = List ℕ} (λ u v. blocks_of free (u ++ (v ∷ []))) (sym wo) ue
