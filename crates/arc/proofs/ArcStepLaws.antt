-- The whole step of D-ARC: what holds of the box and the lists before it holds after it.
use Rattle.std.specs.Prelude.{◌≡◌, Bool, List, [], ◌∷◌, ◌++◌, ◌⊎◌, ℕ, ◌+◌, ◌/◌, ◌≤◌, ◌<◌, ltb}
use Rattle.std.proofs.Math.Path.{sym, ap, subst}
use Rattle.std.proofs.Common.{◌∙◌, arith, ltb-false}
use Rattle.std.proofs.Math.Bool.{true, false}
use Rattle.std.proofs.Math.Logic.{inl, inr}
use Rattle.std.proofs.Math.Dec.{eqb}
use Rattle.std.proofs.Math.ListN.{length, length-append}
use Rattle.paper.specs.Keyed.{has}
use Rattle.paper.specs.Cache.{Hashing, Seat, AddressRow, Box, Stepped, newest, without_address, cached}
use Rattle.paper.specs.KeyedLaws.{by-test, either, clash, or_cases, or_left, or_right, eqb→≡, eqb-self, All, all_append, all_map, all_both}
use Rattle.paper.specs.KeyedLaws.{all_without, has-without-other, has-without-self, distinct_without, distinct_snoc, has-snoc-cases}
use Rattle.paper.specs.Sound.{Sound, DirtyCached}
use Rattle.paper.proofs.SoundLaws.{length-without-le}
use Rattle.paper.proofs.FaithfulLaws.{all-absent}
use Rattle.arc.specs.Policy.{Ran}
use Rattle.arc.specs.Arc.{Sizes, base_numbers, Lists, is_in, out, on_top, Was, in_t1, in_t2, in_b1, in_b2, in_b3, unheld, list_of, was_b2, left, with_p}
use Rattle.arc.specs.Arc.{new_p, larger, has_row, row_out, stored_in, block_newest, cleared, inserted, parted, check, checked, to_t2, join_t1, join_t2}
use Rattle.arc.specs.Arc.{joined}
use Rattle.arc.specs.Tally.{tally, count, tally-append, tally-has, tally-without-self, tally-without-other, length_without}
use Rattle.arc.specs.ArcMid.{named, total, TopCached, Mid, OutlastsOut}
use Rattle.arc.proofs.ArcMidLaws.{Both}
use Rattle.arc.specs.ArcRuns.{tops, history}
use Rattle.arc.proofs.ArcRunsLaws.{check_done, cleared-ends}
use Rattle.arc.proofs.ArcStore.{mid-stored, mid-newest}
use Rattle.arc.specs.ArcStep.{ArcSound, OutlastsNewest, OutlastsStore}

-- which list held the address
pub by-list_of : (a : ℕ) (l : Lists) (Q : Was → Type 0) → (is_in a l.T1 ≡ true → Q in_t1) → (is_in a l.T2 ≡ true → Q in_t2)
    → (is_in a l.B1 ≡ true → Q in_b1) → (is_in a l.B2 ≡ true → Q in_b2)
    → (is_in a l.B3 ≡ true → Q in_b3) → Q unheld → Q (list_of a l)
unfolding list_of
by-list_of a l Q q1 q2 q3 q4 q5 q6 =
    by-test (is_in a l.T1)
    (λ e. rw (e, list_of) (q1 e))
    (λ e. rw (e, list_of) (by-test (is_in a l.T2)
    (λ f. rw f (q2 f))
    (λ f. rw f (by-test (is_in a l.B1)
    (λ g. rw g (q3 g))
    (λ g. rw g (by-test (is_in a l.B2)
    (λ h. rw h (q4 h))
    (λ h. rw h (by-test (is_in a l.B3) (λ i. rw i (q5 i)) (λ i. rw i q6)))))))))

pub p-low : (C : ℕ) (w : Was) (l : Lists) → l.p ≤ C → new_p C w l ≤ C
unfolding new_p
p-low C in_t1 l h = h
p-low C in_t2 l h = h
p-low C in_b1 l h =
    let n = l.p + larger 1 (length l.B2 / length l.B1) in
    by-test (ltb C n) (λ e. rw e (omega arith)) (λ e. rw e (let z = ltb-false C n e in z))
p-low C in_b2 l h = let n = larger 1 (length l.B1 / length l.B2) in omega (arith, h)
p-low C in_b3 l h = h
p-low C unheld l h = h

-- an address leaves a list
out-length : (a : ℕ) (l : List ℕ) → length (out a l) + count a l ≡ length l
out-length a l = length_without (λ x. x) a l

out_one : (a : ℕ) (l : List ℕ) → is_in a l ≡ true → 1 ≤ count a l
out_one a l e = tally-has (λ x. x) a l e

pub left-names : (a x : ℕ) (l : Lists) → eqb a x ≡ false → named x (left a l) ≡ named x l
left-names a x l n =
    let e1 = tally-without-other (λ x. x) a x l.T1 n in
    let e2 = tally-without-other (λ x. x) a x l.T2 n in
    let e3 = tally-without-other (λ x. x) a x l.B1 n in
    let e4 = tally-without-other (λ x. x) a x l.B2 n in
    let e5 = tally-without-other (λ x. x) a x l.B3 n in
    omega (arith, e1, e2, e3, e4, e5)

pub left-none : (a : ℕ) (l : Lists) → named a (left a l) ≡ 0
left-none a l =
    let e1 = tally-without-self (λ x. x) a l.T1 in
    let e2 = tally-without-self (λ x. x) a l.T2 in
    let e3 = tally-without-self (λ x. x) a l.B1 in
    let e4 = tally-without-self (λ x. x) a l.B2 in
    let e5 = tally-without-self (λ x. x) a l.B3 in
    omega (arith, e1, e2, e3, e4, e5)

pub left-total : (a : ℕ) (l : Lists) → total (left a l) + named a l ≡ total l
left-total a l =
    let e1 = out-length a l.T1 in
    let e2 = out-length a l.T2 in
    let e3 = out-length a l.B1 in
    let e4 = out-length a l.B2 in
    let e5 = out-length a l.B3 in
    omega (arith, e1, e2, e3, e4, e5)

pub left-fit : (a : ℕ) (l : Lists) → tops (left a l) + length (left a l).B3 + (count a l.T1 + count a l.T2 + count a l.B3) ≡ tops l + length l.B3
left-fit a l =
    let e1 = out-length a l.T1 in
    let e2 = out-length a l.T2 in
    let e5 = out-length a l.B3 in
    omega (arith, e1, e2, e5)

pub left-few : (a : ℕ) (l : Lists) → history (left a l) + (count a l.B1 + count a l.B2) ≡ history l
left-few a l =
    let e3 = out-length a l.B1 in
    let e4 = out-length a l.B2 in
    omega (arith, e3, e4)

pub left-top : (a : ℕ) (l : Lists) (x : ℕ) → on_top (left a l) x ≡ true → on_top l x ≡ true
left-top a l x h =
    either (or_cases (is_in x (out a l.T1)) (is_in x (out a l.T2)) h)
    (λ e. or_left (is_in x l.T1) (is_in x l.T2) (has-without-other eqb (λ x. x) eqb (λ x. x) x a l.T1 e))
    (λ e. or_right (is_in x l.T1) (is_in x l.T2) (has-without-other eqb (λ x. x) eqb (λ x. x) x a l.T2 e))

module _ {F X : Type 0} (H : Hashing F X) (Z : Sizes) where
  pub mid-parted : (l : Lists) (s : Box F X) (a : ℕ) (w : Was) → ArcSound H Z l s → Mid H Z a (parted H Z.C l s a w)
  unfolding parted
  mid-parted l s a w h =
      let so = h.sound in
      record {
        sound = record {
          addresses = distinct_without eqb (λ r. r.address) a s.rows so.addresses;
          below = all_without eqb (λ r. r.address) (λ r. r.address < Z.P) a s.rows so.below;
          few = (let fw = so.few in omega (arith, fw, length-without-le eqb (λ (r : AddressRow F). r.address) a s.rows));
          fingerprints = so.fingerprints;
          slots = so.slots;
          dirty_cached = all_without eqb (λ r. r.address) (DirtyCached H s.used) a s.rows so.dirty_cached;
          flash_length = so.flash_length;
          disk_length = so.disk_length;
        };
        absent = has-without-self eqb (λ r. r.address) a s.rows;
        names = λ x. by-test (eqb a x)
            (λ e. subst (λ z. tally (λ r. r.address) z (without_address a s.rows) ≡ named z (left a l)) (eqb→≡ a x e)
            (tally-without-self (λ (r : AddressRow F). r.address) a s.rows ∙ sym (left-none a l)))
            (λ e. tally-without-other (λ (r : AddressRow F). r.address) a x s.rows e ∙ h.names x ∙ sym (left-names a x l e));
        counted = (let e = length_without (λ (r : AddressRow F). r.address) a
            s.rows in let f = left-total a l in let n = h.names a in let c = h.counted in omega (arith, e, f, n, c));
        top = all_without eqb (λ r. r.address) (TopCached H (left a l) s.used) a s.rows
            (all_map (TopCached H l s.used) (TopCached H (left a l) s.used) (λ r y e. y (left-top a l r.address e)) s.rows h.top);
        p_low = p-low Z.C w l h.p_low;
      }

  -- the address joins T1 or T2
  in-joined : (x a : ℕ) (l : List ℕ) → is_in x (l ++ (a ∷ [])) ≡ true → (is_in x l ≡ true) ⊎ (x ≡ a)
  in-joined x a l h = has-snoc-cases eqb (λ x. x) eqb→≡ eqb-self x l a h

  pub mid-joined : (t : Ran F X Lists) (a : ℕ) (g : F) (dy : Bool) (seat : Seat) (w : Was) → Mid H Z a t → cached H g t.stepped.box.used ≡ true
      → tops t.kept + length t.kept.B3 + 1 ≤ Z.C + Z.X → history t.kept ≤ Z.C → a < Z.P
      → ArcSound H Z (joined H a g dy seat w t).kept (joined H a g dy seat w t).stepped.box
  unfolding joined
  mid-joined t a g dy seat w m c room few ap =
      by-test (to_t2 H w)
      (λ e. rw e (go (join_t2 a t.kept) (λ x. let f = tally-append (λ x. x) x t.kept.T2 (a ∷ []) in omega (arith, f))
      (let f = length-append t.kept.T2 (a ∷ []) in omega (arith, f))
      (λ x h. either (or_cases (is_in x t.kept.T1) (is_in x (t.kept.T2 ++ (a ∷ []))) h)
      (λ y. inl (or_left (is_in x t.kept.T1) (is_in x t.kept.T2) y))
      (λ y. either (in-joined x a t.kept.T2 y) (λ z. inl (or_right (is_in x t.kept.T1) (is_in x t.kept.T2) z)) (λ z. inr z)))
      (let f = length-append t.kept.T2 (a ∷ []) in omega (arith, f)) few m.p_low))
      (λ e. rw e (go (join_t1 a t.kept) (λ x. let f = tally-append (λ x. x) x t.kept.T1 (a ∷ []) in omega (arith, f))
      (let f = length-append t.kept.T1 (a ∷ []) in omega (arith, f))
      (λ x h. either (or_cases (is_in x (t.kept.T1 ++ (a ∷ []))) (is_in x t.kept.T2) h)
      (λ y. either (in-joined x a t.kept.T1 y) (λ z. inl (or_left (is_in x t.kept.T1) (is_in x t.kept.T2) z)) (λ z. inr z))
      (λ y. inl (or_right (is_in x t.kept.T1) (is_in x t.kept.T2) y)))
      (let f = length-append t.kept.T1 (a ∷ []) in omega (arith, f)) few m.p_low))
    where
      new : AddressRow F
      new = newest a g dy seat

      box : Box F X
      box =
          record {
            rows = t.stepped.box.rows ++ (new ∷ []);
            free = t.stepped.box.free;
            used = t.stepped.box.used;
            flash = t.stepped.box.flash;
            disk = t.stepped.box.disk;
          }

      go : (l : Lists) → ((x : ℕ) → named x l ≡ named x t.kept + count x (a ∷ [])) → total l ≡ total t.kept + 1
          → ((x : ℕ) → on_top l x ≡ true → (on_top t.kept x ≡ true) ⊎ (x ≡ a))
          → tops l + length l.B3 ≡ tops t.kept + length t.kept.B3 + 1 → history l ≤ Z.C → l.p ≤ Z.C → ArcSound H Z l box
      go l n tt1 o f fw p =
          let so = m.sound in
          let rows = t.stepped.box.rows in
          let used = t.stepped.box.used in
          let la = length-append rows (new ∷ []) in
          let mc = m.counted in
          record {
            sound = record {
              addresses = distinct_snoc eqb (λ r. r.address) eqb→≡ eqb-self new rows so.addresses m.absent;
              below = all_append (λ r. r.address < Z.P) rows (new ∷ []) so.below (ap, tt);
              few = omega (arith, la, mc, room, few);
              fingerprints = so.fingerprints;
              slots = so.slots;
              dirty_cached = all_append (DirtyCached H used) rows (new ∷ []) so.dirty_cached ((λ e. c), tt);
              flash_length = so.flash_length;
              disk_length = so.disk_length;
            };
            names = λ x. let e = tally-append (λ (r : AddressRow F). r.address) x rows (new ∷ []) in let mn = m.names x in let nn
                = n x in omega (arith, e, mn, nn);
            counted = omega (arith, la, mc, tt1);
            top = all_append (TopCached H l used) rows (new ∷ [])
                (all_map (λ r. TopCached H t.kept used r × (eqb a r.address ≡ false)) (TopCached H l used)
                (λ r y e. either (o r.address e) y.0 (λ z. clash (rw z (eqb-self a)) y.1)) rows
                (all_both (TopCached H t.kept used) (λ r. eqb a r.address ≡ false) rows m.top (all-absent eqb (λ r. r.address) a rows m.absent)))
                ((λ e. c), tt);
            fit = omega (arith, f, room);
            few = fw;
            p_low = p;
          }

module _ {F X : Type 0} (H : Hashing F X) (Z : Sizes) (a : ℕ) (g : F) (b : X) (G : Stepped F X → Type 0) (g_out : OutlastsOut H Z a G)
    (g_store : OutlastsStore H Z a g b G) (g_new : OutlastsNewest H Z a g G) (c1 : 1 ≤ Z.C) where
  -- the box also has g cached
  abbrev pub With : Stepped F X → Type 0
  With s = G s × (cached H g s.box.used ≡ true)

  pub with_out : OutlastsOut H Z a With
  unfolding row_out
  with_out t x r so ab e n h = (g_out t x r so ab e n h.0, h.1)

  pub record Inserted (l : Lists) (u : Ran F X Lists) : Type 0 where
    pub both : Both H Z a With with_out u
    pub fit : tops u.kept + length u.kept.B3 ≤ tops l + length l.B3
    pub few : history u.kept ≤ Z.C

  -- or not yet
  abbrev Lacks : Stepped F X → Type 0
  Lacks s = G s × (cached H g s.box.used ≡ false)

  lacks-out : OutlastsOut H Z a Lacks
  unfolding row_out
  lacks-out t x r so ab e n h = (g_out t x r so ab e n h.0, h.1)

  pub inserted-done : (b2 : Bool) (t : Ran F X Lists) → Both H Z a G g_out t → history t.kept ≤ Z.C → Inserted t.kept (inserted H Z.C b2 g b t)
  unfolding inserted
  inserted-done b2 t h few =
      by-test (cached H g t.stepped.box.used)
      (λ e. rw (e, inserted) (let q = mid-newest H Z a g b t h.0 e in
      record {
        both = (q.mid, (g_new t h.0 e h.1, q.has));
        fit = (let z = ap (λ l. tops l + length l.B3) q.same in omega (arith, z));
        few = (let z = ap history q.same in omega (arith, z, few));
      }))
      (λ e. rw (e, inserted) (let n = tops t.kept in
      let v = cleared H n Z.C b2 t in
      let y = cleared-ends H Z a Lacks lacks-out c1 n b2 t (omega arith) (h.0, (h.1, e)) few in
      let q = mid-stored H Z a g b v y.both.0 y.both.1.1 y.row in
      let yf = y.fit in
      let yw = y.few in
      record {
        both = (q.mid, (g_store v y.both.0 y.both.1.1 y.row y.both.1.0, q.has));
        fit = (let z = ap (λ l. tops l + length l.B3) q.same in omega (arith, z, yf));
        few = (let z = ap history q.same in omega (arith, z, yw));
      }))

  -- before the address joins
  pub record Ready (u : Ran F X Lists) : Type 0 where
    pub mid : Mid H Z a u
    pub good : G u.stepped
    pub has : cached H g u.stepped.box.used ≡ true
    pub room : tops u.kept + length u.kept.B3 + 1 ≤ Z.C + Z.X
    pub few : history u.kept ≤ Z.C

  ready-check : (b2 : Bool) (l : Lists) (t : Ran F X Lists) → Inserted l t → tops l + length l.B3 ≤ Z.C + Z.X → Ready (check H Z b2 t)
  ready-check b2 l t i f =
      let fi = i.fit in
      let q = check_done H Z a With with_out c1 b2 t i.both i.few (omega (arith, fi, f)) in
      record { mid = q.both.0; good = q.both.1.0; has = q.both.1.1; room = q.room; few = q.few }

  ready-now : (l : Lists) (t : Ran F X Lists) → Inserted l t → tops l + length l.B3 + 1 ≤ Z.C + Z.X → Ready t
  ready-now l t i f = let fi = i.fit in record { mid = i.both.0; good = i.both.1.0; has = i.both.1.1; room = omega (arith, fi, f); few = i.few }

  -- the step up to there, whichever list held the address
  abbrev pub up_to : Lists → Box F X → Was → Ran F X Lists
  up_to l s w = checked H Z w (inserted H Z.C (was_b2 w) g b (parted H Z.C l s a w))

  parts : (l : Lists) (s : Box F X) (w : Was) → ArcSound H Z l s → G (parted H Z.C l s a w).stepped
      → Inserted (with_p (new_p Z.C w l) (left a l)) (inserted H Z.C (was_b2 w) g b (parted H Z.C l s a w))
  unfolding parted
  parts l s w h gg = inserted-done (was_b2 w) (parted H Z.C l s a w) (mid-parted H Z l s a w h, gg)
      (let fw = h.few in let lw = left-few a l in omega (arith, fw, lw))

  pub ready : (l : Lists) (s : Box F X) → ArcSound H Z l s → ((w : Was) → G (parted H Z.C l s a w).stepped) → Ready (up_to l s (list_of a l))
  unfolding checked
  ready l s h gp =
      let ft = h.fit in
      let fw = h.few in
      let lf = left-fit a l in
      let lw = left-few a l in
      let go : (w : Was) → Inserted (with_p (new_p Z.C w l) (left a l)) (inserted H Z.C (was_b2 w) g b (parted H Z.C l s a w))
      = λ w. parts l s w h (gp w) in
      by-list_of a l (λ w. Ready (up_to l s w))
      (λ e. let o = out_one a l.T1 e in ready-now (with_p (new_p Z.C in_t1 l) (left a l)) (inserted H Z.C false g b (parted H Z.C l s a in_t1))
      (go in_t1) (omega (arith, o, ft, lf)))
      (λ e. let o = out_one a l.T2 e in ready-now (with_p (new_p Z.C in_t2 l) (left a l)) (inserted H Z.C false g b (parted H Z.C l s a in_t2))
      (go in_t2) (omega (arith, o, ft, lf)))
      (λ e. ready-check false (with_p (new_p Z.C in_b1 l) (left a l)) (inserted H Z.C false g b (parted H Z.C l s a in_b1)) (go in_b1)
      (omega (arith, ft, lf)))
      (λ e. ready-check true (with_p (new_p Z.C in_b2 l) (left a l)) (inserted H Z.C true g b (parted H Z.C l s a in_b2)) (go in_b2)
      (omega (arith, ft, lf)))
      (λ e. let o = out_one a l.B3 e in ready-now (with_p (new_p Z.C in_b3 l) (left a l)) (inserted H Z.C false g b (parted H Z.C l s a in_b3))
      (go in_b3) (omega (arith, o, ft, lf)))
      (ready-check false (with_p (new_p Z.C unheld l) (left a l)) (inserted H Z.C false g b (parted H Z.C l s a unheld)) (go unheld)
      (omega (arith, ft, lf)))
