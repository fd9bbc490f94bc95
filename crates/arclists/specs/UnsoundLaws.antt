-- The check for 6 of the lists, test by test. Assumes nothing.
use Rattle.std.specs.Prelude.{◌≡◌, Bool, true, false, ◌||◌, List, [], ◌∷◌, map, min, length, get_or, take, drop}
use Rattle.std.specs.Bool.{MatchBool}
use Rattle.std.specs.List.{AllWithin, HoldsAt}
use Rattle.std.proofs.Math.Path.{refl, sym, ap, ap₂}
use Rattle.std.proofs.Common.{◌∙◌, length-drop, take_all}
use Prim.Native.Nat.{ℕ, zero, suc, ◌+◌, ◌-◌, ◌*◌, ◌≤◌, ◌<◌}
use native.Mathlib.Omega.{arith}
use Rattle.std.proofs.Math.Dec.{ltb}
use borrow.Author.Tests.{lt-ltb, le-ltb, ltb-true, ltb-false, eq-eqb, ne_eqb}
use Rattle.paper.specs.KeyedLaws.{by-test, or_left, or_right, or-false-left, or-false-right}
use Rattle.tables.specs.Find.{any}
use Rattle.tables.specs.Unsound.{nonzero}
use Rattle.paper.specs.Cache.{AddressRow}
use Rattle.paper.specs.Engine.{Fixed}
use Rattle.arc.specs.Arc.{Sizes}
use Rattle.arc.specs.ArcLent.{words, misnamed, oversized, lists_unsound}
use Rattle.arclists.specs.declared.ListSizes.{ListSizes}
use Rattle.arclists.specs.Holding.{total, rec_of, limits_of, Limits}

-- too many addresses in the lists
module _ (s : ListSizes) where
  over-top : s.cached + s.extra < s.t1 + s.t2 + s.b3 → true ≡ oversized (limits_of s) (rec_of s)
  unfolding oversized
  over-top h = rw (lt-ltb (s.cached + s.extra) (s.t1 + s.t2 + s.b3) h) refl

  pub rest-full : s.t1 + s.t2 + s.b3 ≤ s.cached + s.extra → ltb s.cached (s.b1 + s.b2) ≡ oversized (limits_of s) (rec_of s)
  unfolding oversized
  rest-full h = rw (le-ltb (s.cached + s.extra) (s.t1 + s.t2 + s.b3) h) refl

  -- n is the sum, or the largest number where the sum is too large for it
  pub full-top : (n : ℕ) → n ≤ s.t1 + s.t2 + s.b3 → s.cached + s.extra < n → ltb (s.cached + s.extra) n ≡ oversized (limits_of s) (rec_of s)
  full-top n h k = lt-ltb (s.cached + s.extra) n k ∙ over-top (omega (arith, h, k))

  pub full-back : (n : ℕ) → n ≡ min (s.b1 + s.b2) 18446744073709551615 → s.cached < 18446744073709551615 → s.t1 + s.t2 + s.b3 ≤ s.cached + s.extra
      → ltb s.cached n ≡ oversized (limits_of s) (rec_of s)
  full-back n e h k =
      by-test (ltb s.cached (s.b1 + s.b2))
      (λ q. let b = ltb-true s.cached (s.b1 + s.b2) q in lt-ltb s.cached n (omega (arith, b, e, h)) ∙ sym q ∙ rest-full k)
      (λ q. let b = ltb-false s.cached (s.b1 + s.b2) q in le-ltb s.cached n (omega (arith, b, e, h)) ∙ sym q ∙ rest-full k)

  pub fits-total : oversized (limits_of s) (rec_of s) ≡ false → total s ≤ s.cached + s.cached + s.extra
  unfolding oversized
  fits-total e =
      let a = ltb (s.cached + s.extra) (s.t1 + s.t2 + s.b3) in
      let b = ltb s.cached (s.b1 + s.b2) in
      let x = ltb-false (s.cached + s.extra) (s.t1 + s.t2 + s.b3) (or-false-left a b e) in
      let y = ltb-false s.cached (s.b1 + s.b2) (or-false-right a b e) in
      omega (arith, x, y)

-- a search for a byte that isn't zero
nonzero-at : (t : List ℕ) (k : ℕ) → k < length t → (get_or t k 0 ≡ 0 → ⊥) → any nonzero t ≡ true
unfolding any
nonzero-at [] k h e = absurd (omega (arith, h))
nonzero-at (x ∷ xs) zero h e = rw (ne_eqb x 0 e) refl
nonzero-at (x ∷ xs) (suc k) h e = or_right (nonzero x) (any nonzero xs) (nonzero-at xs k (omega (arith, h)) e)

all-zero : (t : List ℕ) → ((k : ℕ) → k < length t → get_or t k 0 ≡ 0) → any nonzero t ≡ false
unfolding any
all-zero [] h = refl
all-zero (x ∷ xs) h = rw (eq-eqb x 0 (h 0 (omega arith))) (all-zero xs (λ k b. h (suc k) (omega (arith, b))))

pub nonzero-found : (t : List ℕ) (r : Bool)
    → MatchBool r ((k : ℕ) × (k < length t) × HoldsAt (λ x. x ≡ 0 → ⊥) t k) (AllWithin (λ x. x ≡ 0) t 0 (length t)) → r ≡ any nonzero t
nonzero-found t true h = sym (nonzero-at t h.0 h.1 (h.2 0))
nonzero-found t false h = sym (all-zero t (λ k b. h k 0 (omega arith) b))

-- the bytes from index `at` on
pub from-on : (t : List ℕ) (at : ℕ) → take (length t - at) (drop at t) ≡ drop at t
from-on t at = take_all (length t - at) (drop at t) (omega (arith, length-drop at t))

-- the four tests: the first decides where the others don't hold
alone : (a b c d : Bool) → b ≡ false → c ≡ false → d ≡ false → a ≡ a || b || c || d
alone true b c d e f g = refl
alone false b c d e f g = rw (e, f, g) refl

module _ (s : ListSizes) (rs : List (AddressRow (Fixed 32))) (t : List ℕ) where
  abbrev M : Bool
  M = misnamed (map (λ a. a.address) rs) (words (total s) t)

  abbrev O : Bool
  O = oversized (limits_of s) (rec_of s)

  abbrev N : Bool
  N = any nonzero (drop (total s * 4) t)

  abbrev P : Bool
  P = ltb s.cached s.p

  pub by_size : true ≡ oversized (limits_of s) (rec_of s) → true ≡ lists_unsound (limits_of s) rs (rec_of s) t
  unfolding lists_unsound
  by_size e = sym (or_left (M || O || N) P (or_left (M || O) N (or_right M O (sym e))))

  pub by-p : s.cached < s.p → true ≡ lists_unsound (limits_of s) rs (rec_of s) t
  unfolding lists_unsound
  by-p h = sym (or_right (M || O || N) P (lt-ltb s.cached s.p h))

  pub by-tail : (n : ℕ) → n ≡ total s → true ≡ any nonzero (drop (n * 4) t) → true ≡ lists_unsound (limits_of s) rs (rec_of s) t
  unfolding lists_unsound
  by-tail n e h = sym (or_left (M || O || N) P (or_right (M || O) N (sym (h ∙ ap (λ x. any nonzero (drop (x * 4) t)) e))))

  pub by_names : (n : ℕ) (held : List ℕ) → n ≡ total s → oversized (limits_of s) (rec_of s) ≡ false → s.p ≤ s.cached → any nonzero (drop (n * 4) t) ≡ false
      → map (λ a. a.address) rs ≡ held
      → misnamed held (words n t) ≡ lists_unsound (limits_of s) rs (rec_of s) t
  unfolding lists_unsound
  by_names n held e o p z q =
      ap₂ {C = Bool} misnamed (sym q) (ap (λ x. words x t) e)
      ∙ alone M O N P o (sym (ap (λ x. any nonzero (drop (x * 4) t)) e) ∙ z) (le-ltb s.cached s.p p)

  -- no more of a box is looked at than C and X
  pub same-limits : (Z : Sizes) (b : Bool) → Limits Z s → b ≡ lists_unsound (limits_of s) rs (rec_of s) t → b ≡ lists_unsound Z rs (rec_of s) t
  unfolding lists_unsound oversized
  same-limits Z b h e = rw (h.0, h.1) e
