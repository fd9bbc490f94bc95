-- What the definitions and the invariant say, in the request's own words.
use Rattle.std.specs.Prelude.{◌≡◌, Bool, true, false, ◌&&◌, cond, []}
use Rattle.std.proofs.Math.Path.{refl, sym}
use Rattle.std.proofs.Common.{ap₂, ◌∙◌, subst, arith, eqb-true}
use Rattle.std.proofs.Math.Option.{some}
use Prim.Native.Nat.{ℕ, zero, suc, ◌≤◌}
use Rattle.std.proofs.Math.Dec.{eqb}
use Rattle.std.proofs.lemmas.Bool.{eqb-false}
use Rattle.paper.specs.Cache.{Hashing, AddressRow, Box, Stepped, held, row_of, if_cached, row_with_block}
use Rattle.paper.specs.KeyedLaws.{by-test, by-option, either, clash, or_cases, eqb→≡, find_none, find-some}
use Rattle.arc.specs.Policy.{Ran}
use Rattle.arc.specs.Arc.{Sizes, Lists, is_nil, is_in, on_top, has_row, replace, again, cleared, cleared! }
use Rattle.arc.specs.Tally.{tally-has, tally-none, tally-distinct}
use Rattle.arc.specs.ArcMid.{named, TopCached, Mid, OutlastsOut}
use Rattle.arc.specs.ArcRuns.{tops, history}
use Rattle.arc.proofs.ArcRunsLaws.{again-sheds, row-at-last}
use Rattle.arc.specs.ArcStep.{ArcSound}

module _ {F X : Type 0} (H : Hashing F X) (Z : Sizes) (a : ℕ) (c1 : 1 ≤ Z.C) where
  abbrev anything : Stepped F X → Type 0
  anything s = Unit {0}

  kept-so : OutlastsOut H Z a anything
  kept-so t x r so ab e n h = tt

  more-than-none : (t : Ran F X Lists) → Mid H Z a t → has_row H t.kept t.stepped.box ≡ false → 1 ≤ tops t.kept
  more-than-none t m e =
      by-test (eqb (tops t.kept) 0)
      (λ z. clash (row-at-last H Z a anything kept-so c1 t.kept t.stepped.box m.sound (eqb-true (tops t.kept) 0 z)) e)
      (λ z. let y = eqb-false (tops t.kept) 0 z in omega (arith, y))

  -- where there is a row, no replacement runs
  cleared-has : (n : ℕ) (b2 : Bool) (t : Ran F X Lists) → has_row H t.kept t.stepped.box ≡ true → cleared H n Z.C b2 t ≡ t
  unfolding cleared
  cleared-has zero b2 t e = refl
  cleared-has (suc n) b2 t e = rw (e, cleared) refl

  -- the number of runs that are allowed doesn't matter from the size of T1 and T2 on
  pub cleared-same : (n k : ℕ) (b2 : Bool) (t : Ran F X Lists) → tops t.kept ≤ n → tops t.kept ≤ k → Mid H Z a t → history t.kept ≤ Z.C
      → cleared H n Z.C b2 t ≡ cleared H k Z.C b2 t
  unfolding cleared
  cleared-same zero k b2 t le lk m few =
      sym (cleared-has k b2 t (row-at-last H Z a anything kept-so c1 t.kept t.stepped.box m.sound (omega (arith, le))))
  cleared-same (suc n) zero b2 t le lk m few = cleared-has (suc n) b2 t (row-at-last H Z a anything kept-so c1 t.kept t.stepped.box m.sound
      (omega (arith, lk)))
  cleared-same (suc n) (suc k) b2 t le lk m few =
      by-test (has_row H t.kept t.stepped.box)
      (λ e. cleared-has (suc n) b2 t e ∙ sym (cleared-has (suc k) b2 t e))
      (λ e. let q = again-sheds H Z a anything kept-so c1 b2 t (m, tt) few (more-than-none t m e) in
      let ql = q.less in
      rw (e, cleared) (cleared-same n k b2 (again H Z.C b2 t) (omega (arith, ql, le)) (omega (arith, ql, lk)) q.both.0 q.few))

  -- "where a row is needed and there is neither that nor a free one, the replacement runs again until there is"
  pub until : (b2 : Bool) (t : Ran F X Lists) → Mid H Z a t → history t.kept ≤ Z.C
      → cleared! H Z.C b2 t ≡ cond (has_row H t.kept t.stepped.box) t (cleared! H Z.C b2 (again H Z.C b2 t))
  unfolding cleared
  until b2 t m few =
      by-test (has_row H t.kept t.stepped.box)
      (λ e. cleared-has (tops t.kept) b2 t e ∙ rw e refl)
      (λ e. let q = again-sheds H Z a anything kept-so c1 b2 t (m, tt) few (more-than-none t m e) in
      let ql = q.less in
      let u = again H Z.C b2 t in
      cleared-same (tops t.kept) (suc (tops u.kept)) b2 t (omega arith) (omega (arith, ql)) m few ∙ rw (e, cleared) refl)

-- "where both are empty it does nothing"
pub both-empty : {F X : Type 0} (H : Hashing F X) (C : ℕ) (b2 : Bool) (t : Ran F X Lists) → t.kept.T1 ≡ [] → t.kept.T2 ≡ [] → replace H C b2 t ≡ t
unfolding replace
both-empty H C b2 t e f = rw (ap₂ {C = Bool} (λ x y. is_nil x && is_nil y) e f, replace) refl

module _ {F X : Type 0} (H : Hashing F X) (Z : Sizes) (l : Lists) (s : Box F X) (h : ArcSound H Z l s) where
  -- the lists name each held address once and no other
  pub named-once : (x : ℕ) → named x l ≡ cond (held x s.rows) 1 0
  named-once x =
      by-test (held x s.rows)
      (λ e. rw e (let n = h.names x in let most = tally-distinct (λ (r : AddressRow F). r.address) x s.rows
      h.sound.addresses in let some1 = tally-has (λ (r : AddressRow F). r.address) x s.rows e in omega (arith, n, most, some1)))
      (λ e. rw e (sym (h.names x) ∙ tally-none (λ (r : AddressRow F). r.address) x s.rows e))

  -- "each address of T1 and T2 has its block"
  pub top-has-block : (x : ℕ) → on_top l x ≡ true → (r : AddressRow F) × (row_with_block H s x ≡ some r)
  unfolding if_cached
  top-has-block x e =
      by-option (row_of x s.rows)
      (λ n. absurd (let z = sym (h.names x) ∙ tally-none (λ (r : AddressRow F). r.address) x s.rows (find_none eqb (λ r. r.address) x s.rows n) in
      either (or_cases (is_in x l.T1) (is_in x l.T2) e)
      (λ y. let k = tally-has (λ x. x) x l.T1 y in omega (arith, z, k))
      (λ y. let k = tally-has (λ x. x) x l.T2 y in omega (arith, z, k))))
      (λ r f. let y = find-some eqb (λ r. r.address) (TopCached H l s.used) x s.rows r f h.top in
      (r, rw (f, y.0 (subst (λ z. on_top l z ≡ true) (eqb→≡ x r.address y.1) e)) refl))
