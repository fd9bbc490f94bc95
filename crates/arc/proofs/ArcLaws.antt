-- D-ARC keeps what a policy must promise; the laws of every list of calls from a fresh D-ARC box.
use Rattle.std.specs.Prelude.{◌≡◌, true, cond, List, [], ◌∷◌, ℕ, suc, ◌≤◌, ◌<◌, length}
use Rattle.std.proofs.Math.Path.{refl, sym, ap, subst}
use Rattle.std.proofs.Common.{◌∙◌, arith}
use Rattle.std.proofs.Math.Bool.{false}
use Rattle.std.proofs.Math.Option.{Option, none, some}
use Rattle.std.proofs.Math.Dec.{eqb}
use Rattle.paper.specs.Cache.{Hashing, AddressRow, BlockRow, BlockRows, Box, Stepped, Request, known, row_of, without_address, cached, dropped, freed}
use Rattle.paper.specs.Cache.{invalidate, write_invalidate, serve, Call, Within, fresh}
use Rattle.paper.specs.KeyedLaws.{by-test, eqb→≡, All, all_map, all_both, all_without, has-without}
use Rattle.paper.specs.Sound.{Sound}
use Rattle.paper.proofs.SoundLaws.{all_known, sound-serve, sound-fresh}
use Rattle.paper.proofs.Orphans.{apart}
use Rattle.paper.proofs.FaithfulLaws.{at, dirty-without, RowTrue, Faithful, FaithfulBut}
use Rattle.arc.specs.PlainRows.{Only}
use Rattle.arc.specs.Promise.{Alike, OnCalls}
use Rattle.arc.proofs.PromiseLaws.{True, Promise, on-calls}
use Rattle.arc.specs.Arc.{Sizes, base_numbers, Lists, no_lists, on_top, Was, list_of, left, parted, joined, arc_step_as, arc_step, arc}
use Rattle.arc.specs.Tally.{tally, tally-without-self, tally-without-other, length_without}
use Rattle.arc.specs.ArcMid.{named, TopCached}
use Rattle.arc.specs.ArcStep.{ArcSound}
use Rattle.arc.proofs.ArcStepLaws.{left-names, left-none, left-total, left-fit, left-few, left-top, mid-joined, up_to, ready}
use Rattle.arc.proofs.ArcFew.{arc-spends}
use Rattle.arc.proofs.ArcFair.{Fair, fair-out, fair-newest, fair-store, fair-joins}

module _ {F X : Type 0} (H : Hashing F X) (Z : Sizes) where
  alike-tally : (x : ℕ) (rows rows' : List (AddressRow F)) → Alike rows rows' → tally (λ r. r.address) x rows' ≡ tally (λ r. r.address) x rows
  alike-tally x [] [] al = refl
  alike-tally x [] (y ∷ ys) al = absurd al
  alike-tally x (r ∷ rs) [] al = absurd al
  alike-tally x (r ∷ rs) (y ∷ ys) al = rw al.0 (ap (λ n. cond (eqb x y.address) (suc n) n) (alike-tally x rs ys al.2))

  alike-length : (rows rows' : List (AddressRow F)) → Alike rows rows' → length rows' ≡ length rows
  alike-length [] [] al = refl
  alike-length [] (y ∷ ys) al = absurd al
  alike-length (r ∷ rs) [] al = absurd al
  alike-length (r ∷ rs) (y ∷ ys) al = ap suc (alike-length rs ys al.2)

  alike-top : (l : Lists) (used : List (BlockRow F)) (rows rows' : List (AddressRow F)) → Alike rows rows' → All (TopCached H l used) rows
      → All (TopCached H l used) rows'
  alike-top l used [] [] al h = tt
  alike-top l used [] (y ∷ ys) al h = absurd al
  alike-top l used (r ∷ rs) [] al h = absurd al
  alike-top l used (r ∷ rs) (y ∷ ys) al h = (
    (λ e. subst (λ f. cached H f used ≡ true) al.1 (h.0 (subst (λ n. on_top l n ≡ true) (sym al.0) e))),
    alike-top l used rs ys al.2 h.1,
  )

  pub arc-shape : (l : Lists) (s s' : Box F X) → Alike s.rows s'.rows → s'.free ≡ s.free → s'.used ≡ s.used → Sound H (base_numbers Z) s'
      → ArcSound H Z l s → ArcSound H Z l s'
  arc-shape l s s' al fr us h' h =
      record {
        sound = h';
        names = λ x. alike-tally x s.rows s'.rows al ∙ h.names x;
        counted = alike-length s.rows s'.rows al ∙ h.counted;
        top = subst (λ u. All (TopCached H l u) s'.rows) (sym us) (alike-top l s.used s.rows s'.rows al h.top);
        fit = h.fit;
        few = h.few;
        p_low = h.p_low;
      }

  -- a block that no row has any more is freed: the others keep theirs
  top-dropped : (l : Lists) (rows : List (AddressRow F)) (t : BlockRows F) (o : Option (AddressRow F)) → All (TopCached H l t.used) rows
      → All (TopCached H l (dropped H rows t o).used) rows
  unfolding dropped freed
  top-dropped l rows t none h = h
  top-dropped l rows t (some r) h =
      let q = r.fingerprint in
      by-test (known H q rows)
      (λ k. rw k h)
      (λ k. rw k (by-test (cached H q t.used)
      (λ c. rw c (all_map (λ x. TopCached H l t.used x × (known H x.fingerprint rows ≡ true)) (λ x. TopCached H l (freed H q t).used x)
      (λ x y e. has-without H.same (λ u. u.fingerprint) H.same→≡ H.same_refl x.fingerprint q t.used
      (apart H q x.fingerprint rows y.1 k) ∙ y.0 e)
      rows (all_both (TopCached H l t.used) (λ x. known H x.fingerprint rows ≡ true) rows h (all_known H rows))))
      (λ c. rw c h)))

  pub arc-invalidated : 1 ≤ Z.C → (l : Lists) (s : Box F X) (a : ℕ) (b : X) → ArcSound H Z l s → a < Z.P
      → ArcSound H Z (left a l) (write_invalidate H s a b).box
  unfolding serve write_invalidate
  arc-invalidated c1 l s a b h w =
      let ft = h.fit in
      let fw = h.few in
      let lf = left-fit a l in
      let lw = left-few a l in
      record {
        sound = sound-serve H (base_numbers Z) s (invalidate a b (0, 0)) h.sound (omega arith) c1 w;
        names = λ x. by-test (eqb a x)
            (λ e. subst (λ z. tally (λ r. r.address) z (without_address a s.rows) ≡ named z (left a l)) (eqb→≡ a x e)
            (tally-without-self (λ (r : AddressRow F). r.address) a s.rows ∙ sym (left-none a l)))
            (λ e. tally-without-other (λ (r : AddressRow F). r.address) a x s.rows e ∙ h.names x ∙ sym (left-names a x l e));
        counted = (let e = length_without (λ (r : AddressRow F). r.address) a
            s.rows in let f = left-total a l in let n = h.names a in let c = h.counted in omega (arith, e, f, n, c));
        top = top-dropped (left a l) (without_address a s.rows) (record { free = s.free; used = s.used }) (row_of a s.rows)
            (all_without eqb (λ r. r.address) (TopCached H (left a l) s.used) a s.rows
            (all_map (TopCached H l s.used) (TopCached H (left a l) s.used) (λ r y e. y (left-top a l r.address e)) s.rows h.top));
        fit = omega (arith, ft, lf);
        few = omega (arith, fw, lw);
        p_low = h.p_low;
      }

  pub arc-steps : 1 ≤ Z.C → (l : Lists) (s : Box F X) (q : Request F X) → ArcSound H Z l s → q.address < Z.P
      → ArcSound H Z (arc_step H Z l s q).kept (arc_step H Z l s q).stepped.box
  unfolding arc_step arc_step_as
  arc-steps c1 l s q h w =
      let a = q.address in
      let g = q.fingerprint in
      let b = q.block in
      let n = list_of a l in
      let r = ready H Z a g b (λ s. Unit {0}) (λ t x r so ab e n h. tt) (λ t m c row h. tt) (λ t m c h. tt) c1 l s h (λ w. tt) in
      mid-joined H Z (up_to H Z a g b (λ s. Unit {0}) (λ t x r so ab e n h. tt) (λ t m c row h. tt) (λ t m c h. tt) c1 l s n) a g q.dirty q.seat n r.mid
      r.has r.room r.few w

  fair-parted : (In : X → Type 0) (plain : List X) (l : Lists) (s : Box F X) (a : ℕ) (w : Was) → FaithfulBut H In a Z.P plain s
      → Fair H In a Z.P plain (at H s.disk a) (parted H Z.C l s a w).stepped.box
  unfolding parted
  fair-parted In plain l s a w f = (
    record {
      rows_true = all_without eqb (λ r. r.address) (λ r. eqb a r.address ≡ false → RowTrue H In plain r) a s.rows f.rows_true;
      blocks_true = f.blocks_true;
      plain_in = f.plain_in;
      plain_length = f.plain_length;
      current = λ x n dy. f.current x n (dirty-without H a x s.rows n dy);
    },
    refl,
  )

  pub arc-faithful : 1 ≤ Z.C → (In : X → Type 0) (only : Only H In) (plain : List X) (l : Lists) (s : Box F X) (q : Request F X) → ArcSound H Z l s
      → FaithfulBut H In q.address Z.P plain s → True H In plain s q
      → Faithful H In Z.P plain (arc_step H Z l s q).stepped.box
  unfolding arc_step arc_step_as joined
  arc-faithful c1 In only plain l s q h f t =
      let a = q.address in
      let g = q.fingerprint in
      let b = q.block in
      let v = at H s.disk a in
      let n = list_of a l in
      let G : Stepped F X → Type 0 = λ t. Fair H In a Z.P plain v t.box in
      let o = fair-out H In only Z a plain v in
      let st = fair-store H In only Z a plain v g b t.print t.in_set in
      let nw = fair-newest H In only Z a plain v g in
      let r = ready H Z a g b G o st nw c1 l s h (λ w. fair-parted In plain l s a w f) in
      fair-joins H In only Z a plain v (up_to H Z a g b G o st nw c1 l s n).stepped.box g q.dirty q.seat r.mid.absent
      (t.print ∙ ap H.hash t.plainly) t.clean r.good

  -- D-ARC promises what a policy must
  pub arc-promises : 1 ≤ Z.C → Promise H (base_numbers Z) (arc H Z) (ArcSound H Z)
  arc-promises c1 =
      record {
        sound = λ l s h. h.sound;
        shape = arc-shape;
        invalidates = arc-invalidated c1;
        steps = arc-steps c1;
        spends = arc-spends H Z c1;
        faithful = λ In only plain l s q h f w t. arc-faithful c1 In only plain l s q h f t;
      }

  pub arc-fresh : (flash disk : List X) → length flash ≡ Z.C → length disk ≡ Z.P → ArcSound H Z no_lists (fresh Z.C flash disk)
  arc-fresh flash disk fl dl =
      record {
        sound = sound-fresh H (base_numbers Z) flash disk fl dl;
        names = λ x. refl;
        counted = refl;
        top = tt;
        fit = omega arith;
        few = omega arith;
        p_low = omega arith;
      }

  -- Every list of calls from a fresh D-ARC box: `inv` is the structure, with no premise; the other laws are under the premise.
  pub arc-laws : 1 ≤ Z.C → (flash disk : List X) (cs : List (Call X)) → length flash ≡ Z.C → length disk ≡ Z.P → All (Within Z.P) cs
      → OnCalls H (base_numbers Z) (arc H Z) (ArcSound H Z) no_lists flash disk cs
  arc-laws c1 flash disk cs fl dl w =
      on-calls H (base_numbers Z) (arc H Z) (ArcSound H Z) (arc-promises c1) (omega arith) c1 no_lists flash disk cs (arc-fresh flash disk fl dl) dl w
