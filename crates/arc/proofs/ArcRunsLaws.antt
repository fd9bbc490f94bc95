-- REPLACE, MANAGE, CHECK and the loop: what they keep, what they do to the sizes, and that the loop ends with a row.
use Rattle.std.specs.Prelude.{◌≡◌, Bool, true, not, ◌&&◌, ◌||◌, eqb, leb, ltb, drop}
use Rattle.std.proofs.Math.Path.{refl, ap, subst}
use Rattle.std.proofs.Common.{sym, ◌∙◌, true≢false, arith, length-append}
use Rattle.std.proofs.Math.Bool.{false}
use mathlib.Core.List.{List, [], ◌∷◌, ◌++◌}
use Prim.Native.Nat.{ℕ, zero, suc, ◌+◌, ◌≤◌}
use Rattle.std.proofs.Math.ListN.{length, take}
use borrow.Author.Tests.{leb-true, leb-false, ltb-true, ltb-false, eqb-true, eqb-false, not-true}
use Rattle.paper.specs.Cache.{Hashing, AddressRow, BlockRow, Box, Stepped, oldest_unknown}
use Rattle.paper.specs.KeyedLaws.{by-test, clash, and_left, and_right}
use Rattle.paper.specs.Sound.{Sound}
use Rattle.paper.proofs.SoundLaws.{some-slot}
use Rattle.arc.specs.Policy.{Ran}
use Rattle.arc.specs.Arc.{Sizes, base_numbers, Lists, is_nil, is_in, on_top, top_rows, takes_t1, listed, b1b3, b2b3, room_in_b, replace, manage, check}
use Rattle.arc.specs.Arc.{is_some, has_row, again, cleared}
use Rattle.arc.specs.Tally.{length-first, first_one, nil-no, nil-yes, length_none}
use Rattle.arc.specs.ArcMid.{OutlastsOut}
use Rattle.arc.proofs.ArcMidLaws.{Both, mid-t1b1, mid-t2b2, mid-t1b3, mid-b1b3, mid-b2b3, mid-b1_out, mid-b2_out, mid-b3_out}
use Rattle.arc.specs.ArcRuns.{history, tops}

-- what is left of a list of which the oldest goes
gone : (l : List ℕ) → 1 ≤ length l → length (drop 1 l) + 1 ≡ length l
gone l h = let e = length-first (λ (x : ℕ). x) l in let f = first_one l h in omega (arith, e, f)

came : (from to : List ℕ) → 1 ≤ length from → length (to ++ take 1 from) ≡ length to + 1
came from to h = let e = length-append to (take 1 from) in let f = first_one from h in omega (arith, e, f)

-- the replacement takes from T2 only where there is one
pub from-t2 : (b2 : Bool) (l : Lists) → takes_t1 b2 l ≡ false → (is_nil l.T1 && is_nil l.T2) ≡ false → is_nil l.T2 ≡ false
unfolding takes_t1
from-t2 b2 l e f =
    by-test (is_nil l.T2)
    (λ y. by-test (is_nil l.T1)
    (λ x. absurd (true≢false (rw (x, y) at f)))
    (λ x. absurd (true≢false (rw (x, y) at e))))
    (λ y. y)

pub from-t1 : (b2 : Bool) (l : Lists) → takes_t1 b2 l ≡ true → is_nil l.T1 ≡ false
unfolding takes_t1
from-t1 b2 l e = not-true (is_nil l.T1) (and_left (not (is_nil l.T1)) (is_nil l.T2 ||
    (ltb l.p (length l.T1) || (b2 && eqb (length l.T1) l.p))) e)

module _ {F X : Type 0} (H : Hashing F X) (Z : Sizes) (a : ℕ) (G : Stepped F X → Type 0) (g_out : OutlastsOut H Z a G) (c1 : 1 ≤ Z.C) where
  -- room in B1 and B2
  pub record Room (l : Lists) (u : Ran F X Lists) : Type 0 where
    pub both : Both H Z a G g_out u
    pub t1 : u.kept.T1 ≡ l.T1
    pub t2 : u.kept.T2 ≡ l.T2
    pub b3 : u.kept.B3 ≡ l.B3
    pub room : history u.kept + 1 ≤ Z.C

  pub room-made : (t : Ran F X Lists) → Both H Z a G g_out t → history t.kept ≤ Z.C → Room t.kept (room_in_b H Z.C t)
  unfolding room_in_b
  room-made t h few =
      let l = t.kept in
      by-test (leb Z.C (length l.B1 + length l.B2))
      (λ e. rw (e, room_in_b) (let full = leb-true Z.C (length l.B1 + length l.B2) e in by-test (is_nil l.B1)
      (λ n. rw n (record {
        both = mid-b2_out H Z a G g_out t h;
        t1 = refl;
        t2 = refl;
        b3 = refl;
        room = (let z = nil-yes l.B1 n in let g = gone l.B2 (omega (arith, full, z, c1)) in omega (arith, g, few));
      }))
      (λ n. rw n (record {
        both = mid-b1_out H Z a G g_out t h;
        t1 = refl;
        t2 = refl;
        b3 = refl;
        room = (let g = gone l.B1 (nil-no l.B1 n) in omega (arith, g, few));
      }))))
      (λ e. rw (e, room_in_b)
      (record {
        both = h;
        t1 = refl;
        t2 = refl;
        b3 = refl;
        room = (let f = leb-false Z.C (length l.B1 + length l.B2) e in omega (arith, f));
      }))

  -- One run of the replacement, where T1 and T2 aren't both empty: it takes exactly one address out of them, B3 stays as long as it was, and B1 and B2
  -- keep to C.
  pub record Less (l : Lists) (u : Ran F X Lists) : Type 0 where
    pub both : Both H Z a G g_out u
    pub less : tops u.kept + 1 ≡ tops l
    pub b3 : u.kept.B3 ≡ l.B3
    pub few : history u.kept ≤ Z.C

  pub replaced : (b2 : Bool) (t : Ran F X Lists) → Both H Z a G g_out t → history t.kept ≤ Z.C → 1 ≤ tops t.kept → Less t.kept (replace H Z.C b2 t)
  unfolding replace
  replaced b2 t h few some1 =
      let l = t.kept in
      let r = room-made t h few in
      let u = room_in_b H Z.C t in
      let rt1 = ap length r.t1 in
      let rt2 = ap length r.t2 in
      let rr = r.room in
      by-test (is_nil l.T1 && is_nil l.T2)
      (λ e. absurd (let x = nil-yes l.T1 (and_left (is_nil l.T1) (is_nil l.T2) e) in let y = nil-yes l.T2
      (and_right (is_nil l.T1) (is_nil l.T2) e) in omega (arith, x, y, some1)))
      (λ e. rw (e, replace) (by-test (takes_t1 b2 l)
      (λ f. rw f (let g = nil-no l.T1 (from-t1 b2 l f) in
      let k = gone u.kept.T1 (omega (arith, g, rt1)) in
      let n = came u.kept.T1 u.kept.B1 (omega (arith, g, rt1)) in
      record {
        both = (mid-t1b1 H Z a u r.both.0, r.both.1);
        less = omega (arith, k, rt1, rt2);
        b3 = r.b3;
        few = omega (arith, n, rr);
      }))
      (λ f. rw f (let g = nil-no l.T2 (from-t2 b2 l f e) in
      let k = gone u.kept.T2 (omega (arith, g, rt2)) in
      let n = came u.kept.T2 u.kept.B2 (omega (arith, g, rt2)) in
      record {
        both = (mid-t2b2 H Z a u r.both.0, r.both.1);
        less = omega (arith, k, rt1, rt2);
        b3 = r.b3;
        few = omega (arith, n, rr);
      }))))

  -- MANAGE, where B3 is empty and T1 and T2 aren't: afterwards, B3's oldest not counted, T1, T2 and B3 have one address less
  pub record Managed (l : Lists) (u : Ran F X Lists) : Type 0 where
    pub both : Both H Z a G g_out u
    pub less : tops u.kept + length (drop 1 u.kept.B3) + 1 ≡ tops l
    pub few : history u.kept ≤ Z.C

  one_more : (from : List ℕ) → drop 1 ([] ++ take 1 from) ≡ []
  one_more [] = refl
  one_more (x ∷ xs) = refl

  pub managed : (b2 : Bool) (t : Ran F X Lists) → Both H Z a G g_out t → history t.kept ≤ Z.C → 1 ≤ tops t.kept → t.kept.B3 ≡ []
      → Managed t.kept (manage H Z.C b2 t)
  unfolding manage
  managed b2 t h few some1 nob3 =
      let l = t.kept in
      by-test (leb Z.C (length l.T1 + length l.B1))
      (λ e. rw (e, manage) (let full = leb-true Z.C (length l.T1 + length l.B1) e in by-test (ltb (length l.T1) Z.C)
      (λ f. rw f (let lt = ltb-true (length l.T1) Z.C f in
      let g = gone l.B1 (omega (arith, full, lt)) in
      let q = replaced b2 (listed H b1b3 t) (mid-b1b3 H Z a t h.0, h.1) (omega (arith, g, few)) some1 in
      let ql = q.less in
      record {
        both = q.both;
        less = (let z = ap (λ x. length (drop 1 x)) (q.b3 ∙ ap (λ x. x ++ take 1 l.B1) nob3) ∙ ap length (one_more l.B1) in omega (arith, ql, z));
        few = q.few;
      }))
      (λ f. rw f (let ge = ltb-false (length l.T1) Z.C f in
      let g1 = gone l.T1 (omega (arith, ge, c1)) in
      by-test (is_nil l.B1)
      (λ n. rw n (record {
        both = (mid-t1b3 H Z a t h.0, h.1);
        less = (let z = ap (λ x. length (drop 1 (x ++ take 1 l.T1))) nob3 ∙ ap length (one_more l.T1) in omega (arith, g1, z));
        few = few;
      }))
      (λ n. rw n (let g2 = gone l.B1 (nil-no l.B1 n) in
      let g3 = came l.T1 (drop 1 l.B1) (omega (arith, ge, c1)) in
      record {
        both = (mid-t1b1 H Z a (listed H b1b3 t) (mid-b1b3 H Z a t h.0), h.1);
        less = (let z = ap (λ x. length (drop 1 (x ++ take 1 l.B1))) nob3 ∙ ap length (one_more l.B1) in omega (arith, g1, z));
        few = omega (arith, g2, g3, few);
      }))))))
      (λ e. rw (e, manage) (let low = leb-false Z.C (length l.T1 + length l.B1) e in by-test (leb Z.C (length l.B1 + length l.B2))
      (λ f. rw f (let full = leb-true Z.C (length l.B1 + length l.B2) f in
      let g = gone l.B2 (omega (arith, full, low)) in
      let q = replaced b2 (listed H b2b3 t) (mid-b2b3 H Z a t h.0, h.1) (omega (arith, g, few)) some1 in
      let ql = q.less in
      record {
        both = q.both;
        less = (let z = ap (λ x. length (drop 1 x)) (q.b3 ∙ ap (λ x. x ++ take 1 l.B2) nob3) ∙ ap length (one_more l.B2) in omega (arith, ql, z));
        few = q.few;
      }))
      (λ f. rw f (let q = replaced b2 t h few some1 in
      let ql = q.less in
      record { both = q.both; less = (let z = ap (λ x. length (drop 1 x)) (q.b3 ∙ nob3) in omega (arith, ql, z)); few = q.few }))))

  -- CHECK leaves room for one address in T1, T2 and B3
  pub record Checked (u : Ran F X Lists) : Type 0 where
    pub both : Both H Z a G g_out u
    pub room : tops u.kept + length u.kept.B3 + 1 ≤ Z.C + Z.X
    pub few : history u.kept ≤ Z.C

  pub check_done : (b2 : Bool) (t : Ran F X Lists) → Both H Z a G g_out t → history t.kept ≤ Z.C → tops t.kept + length t.kept.B3 ≤ Z.C + Z.X
      → Checked (check H Z b2 t)
  unfolding check
  check_done b2 t h few fit =
      let l = t.kept in
      by-test (eqb (length l.T1 + length l.T2 + length l.B3) (Z.C + Z.X))
      (λ e. rw (e, check) (let eq = eqb-true (length l.T1 + length l.T2 + length l.B3) (Z.C + Z.X) e in by-test (is_nil l.B3)
      (λ n. rw n (let z = nil-yes l.B3 n in
      let m = managed b2 t h few (omega (arith, eq, z, c1)) (length_none l.B3 z) in
      let ml = m.less in
      let mf = m.few in
      record { both = mid-b3_out H Z a G g_out (manage H Z.C b2 t) m.both; room = omega (arith, ml, eq, z); few = mf }))
      (λ n. rw n (let g = gone l.B3 (nil-no l.B3 n) in
      record { both = mid-b3_out H Z a G g_out t h; room = omega (arith, g, fit); few = few }))))
      (λ e. rw (e, check) (let ne = eqb-false (length l.T1 + length l.T2 + length l.B3) (Z.C + Z.X) e in
      record { both = h; room = omega (arith, ne, fit); few = few }))

  -- without an address in T1 or T2 any block is a victim
  no_rows : (l : Lists) (rows : List (AddressRow F)) → l.T1 ≡ [] → l.T2 ≡ [] → top_rows l rows ≡ []
  unfolding top_rows
  no_rows l [] e f = refl
  no_rows l (r ∷ rs) e f =
      let no : on_top l r.address ≡ false = subst (λ x. (is_in r.address x || is_in r.address l.T2) ≡ false) (sym e) (ap (is_in r.address) f) in
      rw no (no_rows l rs e f)

  some-victim : (rows : List (AddressRow F)) (used : List (BlockRow F)) → rows ≡ [] → (used ≡ [] → ⊥) → is_some H (oldest_unknown H rows used) ≡ true
  unfolding oldest_unknown
  some-victim rows [] e n = absurd (n refl)
  some-victim rows (u ∷ us) e n = rw e refl

  is-nil : (l : List ℕ) → is_nil l ≡ true → l ≡ []
  is-nil l e = length_none l (nil-yes l e)

  pub row-at-last : (l : Lists) (s : Box F X) → Sound H (base_numbers Z) s → tops l ≡ 0 → has_row H l s ≡ true
  unfolding has_row
  row-at-last l s h z =
      by-test (is_nil s.free)
      (λ e. rw e (some-victim (top_rows l s.rows) s.used
      (no_rows l s.rows (length_none l.T1 (omega (arith, z))) (length_none l.T2 (omega (arith, z))))
      (λ q. some-slot H Z.C s.free s.used c1 h.slots (is-nil s.free e) q)))
      (λ e. rw e refl)

  -- What the loop needs of what it runs: one address less in T1 and T2, no more in T1, T2 and B3, and B1 and B2 within C.
  pub record Shed (l : Lists) (u : Ran F X Lists) : Type 0 where
    pub both : Both H Z a G g_out u
    pub less : tops u.kept + 1 ≡ tops l
    pub fit : tops u.kept + length u.kept.B3 ≤ tops l + length l.B3
    pub few : history u.kept ≤ Z.C

  pub replace-sheds : (b2 : Bool) (t : Ran F X Lists) → Both H Z a G g_out t → history t.kept ≤ Z.C → 1 ≤ tops t.kept
      → Shed t.kept (replace H Z.C b2 t)
  replace-sheds b2 t h few some1 =
      let q = replaced b2 t h few some1 in
      let ql = q.less in
      let qb = ap length q.b3 in
      record { both = q.both; less = ql; fit = omega (arith, ql, qb); few = q.few }

  -- so does MANAGE, whatever B3 has
  pub manage-sheds : (b2 : Bool) (t : Ran F X Lists) → Both H Z a G g_out t → history t.kept ≤ Z.C → 1 ≤ tops t.kept
      → Shed t.kept (manage H Z.C b2 t)
  unfolding manage
  manage-sheds b2 t h few some1 =
      let l = t.kept in
      by-test (leb Z.C (length l.T1 + length l.B1))
      (λ e. rw (e, manage) (let full = leb-true Z.C (length l.T1 + length l.B1) e in by-test (ltb (length l.T1) Z.C)
      (λ f. rw f (let lt = ltb-true (length l.T1) Z.C f in
      let some2 : 1 ≤ length l.B1 = omega (arith, full, lt) in
      let g = gone l.B1 some2 in
      let n = came l.B1 l.B3 some2 in
      let q = replaced b2 (listed H b1b3 t) (mid-b1b3 H Z a t h.0, h.1) (omega (arith, g, few)) some1 in
      let ql = q.less in
      let qb = ap length q.b3 in
      record { both = q.both; less = ql; fit = omega (arith, ql, qb, n); few = q.few }))
      (λ f. rw f (let ge = ltb-false (length l.T1) Z.C f in
      let some2 : 1 ≤ length l.T1 = omega (arith, ge, c1) in
      let g1 = gone l.T1 some2 in
      by-test (is_nil l.B1)
      (λ n. rw n (let k = came l.T1 l.B3 some2 in
      record { both = (mid-t1b3 H Z a t h.0, h.1); less = omega (arith, g1); fit = omega (arith, g1, k); few = few }))
      (λ n. rw n (let some3 = nil-no l.B1 n in
      let g2 = gone l.B1 some3 in
      let g3 = came l.T1 (drop 1 l.B1) some2 in
      let k = came l.B1 l.B3 some3 in
      record {
        both = (mid-t1b1 H Z a (listed H b1b3 t) (mid-b1b3 H Z a t h.0), h.1);
        less = omega (arith, g1);
        fit = omega (arith, g1, k);
        few = omega (arith, g2, g3, few);
      }))))))
      (λ e. rw (e, manage) (let low = leb-false Z.C (length l.T1 + length l.B1) e in by-test (leb Z.C (length l.B1 + length l.B2))
      (λ f. rw f (let full = leb-true Z.C (length l.B1 + length l.B2) f in
      let some2 : 1 ≤ length l.B2 = omega (arith, full, low) in
      let g = gone l.B2 some2 in
      let n = came l.B2 l.B3 some2 in
      let q = replaced b2 (listed H b2b3 t) (mid-b2b3 H Z a t h.0, h.1) (omega (arith, g, few)) some1 in
      let ql = q.less in
      let qb = ap length q.b3 in
      record { both = q.both; less = ql; fit = omega (arith, ql, qb, n); few = q.few }))
      (λ f. rw f (replace-sheds b2 t h few some1))))

  -- what the loop runs
  pub again-sheds : (b2 : Bool) (t : Ran F X Lists) → Both H Z a G g_out t → history t.kept ≤ Z.C → 1 ≤ tops t.kept → Shed t.kept (again H Z.C b2 t)
  again-sheds = replace-sheds

  -- The loop: it ends with a row, and has not raised T1, T2 and B3.
  pub record Ended (l : Lists) (u : Ran F X Lists) : Type 0 where
    pub both : Both H Z a G g_out u
    pub row : has_row H u.kept u.stepped.box ≡ true
    pub fit : tops u.kept + length u.kept.B3 ≤ tops l + length l.B3
    pub few : history u.kept ≤ Z.C

  pub cleared-ends : (n : ℕ) (b2 : Bool) (t : Ran F X Lists) → tops t.kept ≤ n → Both H Z a G g_out t → history t.kept ≤ Z.C
      → Ended t.kept (cleared H n Z.C b2 t)
  unfolding cleared
  cleared-ends zero b2 t le h few =
      record { both = h; row = row-at-last t.kept t.stepped.box h.0.sound (omega (arith, le)); fit = omega arith; few = few }
  cleared-ends (suc n) b2 t le h few =
      by-test (has_row H t.kept t.stepped.box)
      (λ e. rw (e, cleared) (record { both = h; row = e; fit = omega arith; few = few }))
      (λ e. rw (e, cleared)
      (let some1 : 1 ≤ tops t.kept = by-test (eqb (tops t.kept) 0)
      (λ z. clash (row-at-last t.kept t.stepped.box h.0.sound (eqb-true (tops t.kept) 0 z)) e)
      (λ z. let y = eqb-false (tops t.kept) 0 z in omega (arith, y)) in
      let q = again-sheds b2 t h few some1 in
      let ql = q.less in
      let qf = q.fit in
      let r = cleared-ends n b2 (again H Z.C b2 t) (omega (arith, ql, le)) q.both q.few in
      let rf = r.fit in
      record { both = r.both; row = r.row; fit = omega (arith, rf, qf); few = r.few }))
