-- The subroutines of Algorithm 3, way by way, by the sizes of the lists. Assumes nothing.
use mathlib.Core.Path.{◌≡◌, refl, sym, ◌∙◌, subst}
use mathlib.Core.Bool.{Bool, true, false, ◌&&◌, cond}
use mathlib.Core.List.{List}
use Prim.Native.Nat.{ℕ, ◌+◌, ◌≤◌, ◌<◌}
use native.Mathlib.Omega.{arith}
use lib.ListN.{length}
use borrow.Author.Tests.{le-leb, lt-leb, lt-ltb, le-ltb, eq-eqb, ne_eqb}
use Rattle.paper.specs.KeyedLaws.{by-test}
use Rattle.arc.specs.Arc.{Sizes, Lists, is_nil, takes_t1, t1b1, t2b2, t1b3, b1b3, b2b3, listed, room_in_b, replace, manage, check}
use Rattle.arc.specs.Tally.{nil-yes as nil-length}
use Rattle.arclists.specs.declared.ListSizes.{ListSizes}
use Rattle.arclists.specs.declared.ListName.TheVariants.{B1, B2, B3}
use Rattle.arclists.specs.Holding.{Sized, Holds, Limits}
use Rattle.arclists.specs.ReplaceLaws.{nil-yes, nil-no}
use Rattle.parts.specs.declared.BoxRecord.{BoxRecord}
use Rattle.parts.specs.Rep.{engine}
use Rattle.arcstep.specs.declared.Running.{Running}
use Rattle.arcstep.specs.Runs.{Within, Runs, Small, FitsIn, Less, evicted_from, with_sizes}

-- the same, told otherwise
pub told : {b : BoxRecord} {r : Running} {disk flash addrs blocks lists : List ℕ} {R S : Within b} → S ≡ R → Runs b r disk flash addrs blocks lists R
    → Runs b r disk flash addrs blocks lists S
told {b} {r} {disk} {flash} {addrs} {blocks} {lists} e h = subst (λ x. Runs b r disk flash addrs blocks lists x) (sym e) h

-- the lists alone change
pub relisted : {b : BoxRecord} {r : Running} {disk flash addrs blocks lists : List ℕ} {R : Within b} (f : Lists → Lists) (s : ListSizes) (lists' : List ℕ)
    → Runs b r disk flash addrs blocks lists R → Small (f R.kept) → Holds b.rows s lists' (f R.kept)
    → Runs b (with_sizes r s) disk flash addrs blocks lists' (listed (engine b) f R)
relisted f s lists' h q k =
    record { box = h.box; apart = h.apart; once = h.once; names = k; low = q; flashed = h.flashed; primary = h.primary }

module _ (b : BoxRecord) (s : ListSizes) (R : Within b) (z : Sized s R.kept) where
  abbrev l : Lists
  l = R.kept

  -- "Where B1 and B2 would pass C, B1's oldest, or B2's if B1 is empty, is evicted first."
  pub room-there : s.b1 + s.b2 < s.cached → room_in_b (engine b) s.cached R ≡ R
  unfolding room_in_b
  room-there h = rw (lt-leb s.cached (length R.kept.B1 + length R.kept.B2) (omega (arith, h, z.b1-is, z.b2-is))) refl

  pub room-b2 : s.cached ≤ s.b1 + s.b2 → s.b1 ≡ 0 → room_in_b (engine b) s.cached R ≡ evicted_from b B2 R
  unfolding room_in_b
  room-b2 h e =
      rw (le-leb s.cached (length R.kept.B1 + length R.kept.B2) (omega (arith, h, z.b1-is, z.b2-is)), nil-yes s.b1 R.kept.B1 z.b1-is e) refl

  pub room-b1 : s.cached ≤ s.b1 + s.b2 → 1 ≤ s.b1 → room_in_b (engine b) s.cached R ≡ evicted_from b B1 R
  unfolding room_in_b
  room-b1 h e =
      rw (le-leb s.cached (length R.kept.B1 + length R.kept.B2) (omega (arith, h, z.b1-is, z.b2-is)), nil-no s.b1 R.kept.B1 z.b1-is e) refl

  -- REPLACEINMETADATACACHE
  pub replace-none : (C : ℕ) (b2 : Bool) → s.t1 + s.t2 ≡ 0 → replace (engine b) C b2 R ≡ R
  unfolding replace
  replace-none C b2 e =
      rw (nil-yes s.t1 R.kept.T1 z.t1-is (omega (arith, e)), nil-yes s.t2 R.kept.T2 z.t2-is (omega (arith, e))) refl

  pub replace-some : (C : ℕ) (b2 top : Bool) → 1 ≤ s.t1 + s.t2 → top ≡ takes_t1 b2 R.kept
      → replace (engine b) C b2 R ≡ cond top (listed (engine b) t1b1 (room_in_b (engine b) C R)) (listed (engine b) t2b2 (room_in_b (engine b) C R))
  unfolding replace
  replace-some C b2 top g e =
      let q : (is_nil R.kept.T1 && is_nil R.kept.T2) ≡ false =
      by-test (is_nil R.kept.T1) (λ n. rw n (by-test (is_nil R.kept.T2)
      (λ o. absurd (omega (arith, g, z.t1-is, z.t2-is, nil-length R.kept.T1 n, nil-length R.kept.T2 o))) (λ o. o))) (λ n. rw n refl) in
      rw (q, e) refl

  -- MANAGEMETADATACACHE
  pub way-b1 : (b2 : Bool) → s.cached ≤ s.t1 + s.b1 → s.t1 < s.cached → manage (engine b) s.cached b2 R
      ≡ replace (engine b) s.cached b2 (listed (engine b) b1b3 R)
  unfolding manage
  way-b1 b2 g k =
      rw (
        le-leb s.cached (length R.kept.T1 + length R.kept.B1) (omega (arith, g, z.t1-is, z.b1-is)),
        lt-ltb (length R.kept.T1) s.cached (omega (arith, k, z.t1-is)),
      ) refl

  pub way-t1 : (b2 : Bool) → s.cached ≤ s.t1 + s.b1 → s.cached ≤ s.t1 → s.b1 ≡ 0 → manage (engine b) s.cached b2 R ≡ listed (engine b) t1b3 R
  unfolding manage
  way-t1 b2 g k e =
      rw (
        le-leb s.cached (length R.kept.T1 + length R.kept.B1) (omega (arith, g, z.t1-is, z.b1-is)),
        le-ltb (length R.kept.T1) s.cached (omega (arith, k, z.t1-is)),
        nil-yes s.b1 R.kept.B1 z.b1-is e,
      ) refl

  pub way-both : (b2 : Bool) → s.cached ≤ s.t1 + s.b1 → s.cached ≤ s.t1 → 1 ≤ s.b1
      → manage (engine b) s.cached b2 R ≡ listed (engine b) t1b1 (listed (engine b) b1b3 R)
  unfolding manage
  way-both b2 g k e =
      rw (
        le-leb s.cached (length R.kept.T1 + length R.kept.B1) (omega (arith, g, z.t1-is, z.b1-is)),
        le-ltb (length R.kept.T1) s.cached (omega (arith, k, z.t1-is)),
        nil-no s.b1 R.kept.B1 z.b1-is e,
      ) refl

  pub way-b2 : (b2 : Bool) → s.t1 + s.b1 < s.cached → s.cached ≤ s.b1 + s.b2 → manage (engine b) s.cached b2 R
      ≡ replace (engine b) s.cached b2 (listed (engine b) b2b3 R)
  unfolding manage
  way-b2 b2 g k =
      rw (
        lt-leb s.cached (length R.kept.T1 + length R.kept.B1) (omega (arith, g, z.t1-is, z.b1-is)),
        le-leb s.cached (length R.kept.B1 + length R.kept.B2) (omega (arith, k, z.b1-is, z.b2-is)),
      ) refl

  pub way-none : (b2 : Bool) → s.t1 + s.b1 < s.cached → s.b1 + s.b2 < s.cached → manage (engine b) s.cached b2 R
      ≡ replace (engine b) s.cached b2 R
  unfolding manage
  way-none b2 g k =
      rw (
        lt-leb s.cached (length R.kept.T1 + length R.kept.B1) (omega (arith, g, z.t1-is, z.b1-is)),
        lt-leb s.cached (length R.kept.B1 + length R.kept.B2) (omega (arith, k, z.b1-is, z.b2-is)),
      ) refl

  -- CHECKMETADATACACHE
  module _ (Z : Sizes) (e : Limits Z s) (b2 : Bool) where
    pub check-not : (s.t1 + s.t2 + s.b3 ≡ s.cached + s.extra → ⊥) → check (engine b) Z b2 R ≡ R
    unfolding check
    check-not n =
        rw (ne_eqb (length R.kept.T1 + length R.kept.T2 + length R.kept.B3) (Z.C + Z.X)
        (λ q. n (omega (arith, q, e.0, e.1, z.t1-is, z.t2-is, z.b3-is)))) refl

    pub check-none : s.t1 + s.t2 + s.b3 ≡ s.cached + s.extra → s.b3 ≡ 0 → check (engine b) Z b2 R
        ≡ evicted_from b B3 (manage (engine b) s.cached b2 R)
    unfolding check
    check-none q n =
        rw (
          eq-eqb (length R.kept.T1 + length R.kept.T2 + length R.kept.B3) (Z.C + Z.X)
              (omega (arith, q, e.0, e.1, z.t1-is, z.t2-is, z.b3-is)),
          nil-yes s.b3 R.kept.B3 z.b3-is n,
          e.0,
        ) refl

    pub check-some : s.t1 + s.t2 + s.b3 ≡ s.cached + s.extra → 1 ≤ s.b3 → check (engine b) Z b2 R ≡ evicted_from b B3 R
    unfolding check
    check-some q n =
        rw (
          eq-eqb (length R.kept.T1 + length R.kept.T2 + length R.kept.B3) (Z.C + Z.X)
              (omega (arith, q, e.0, e.1, z.t1-is, z.t2-is, z.b3-is)),
          nil-no s.b3 R.kept.B3 z.b3-is n,
        ) refl

-- the replacement's move
pub topped : {b : BoxRecord} {r : Running} {disk flash addrs blocks lists : List ℕ} {R : Within b} (top : Bool) (s : ListSizes) (lists' : List ℕ)
    → Runs b r disk flash addrs blocks lists R → Small (t1b1 R.kept) → Small (t2b2 R.kept)
    → Holds b.rows s lists' (cond top (t1b1 R.kept) (t2b2 R.kept))
    → Runs b (with_sizes r s) disk flash addrs blocks lists' (cond top (listed (engine b) t1b1 R) (listed (engine b) t2b2 R))
topped true s lists' h q1 q2 k = relisted t1b1 s lists' h q1 k
topped false s lists' h q1 q2 k = relisted t2b2 s lists' h q2 k

-- tables and lists that had room still have
pub fits-less : (b : BoxRecord) (r t : Running) {addrs blocks lists addrs' lists' : ℕ} → FitsIn b t addrs blocks lists → Less r t → addrs' ≡ addrs → lists' ≡ lists
    → FitsIn b r addrs' blocks lists'
fits-less b r t p l ea el = (
  p.0,
  p.1,
  p.2,
  omega (arith, p.3, l.1),
  ea ∙ p.4,
  p.5,
  omega (arith, p.6, l.2, el),
  omega (arith, p.7, l.3.0, l.3.1),
  omega (arith, p.8, l.0),
)

pub less-less : (r s t : Running) → Less r s → Less s t → Less r t
less-less r s t p q = (omega (arith, p.0, q.0), omega (arith, p.1, q.1), omega (arith, p.2, q.2), (p.3.0 ∙ q.3.0, p.3.1 ∙ q.3.1))
