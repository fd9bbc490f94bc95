-- What a D-ARC step copies and leaves dirty were dirty rows of other addresses, and its own; it stores at most one block.
use Rattle.std.specs.Prelude.{◌≡◌, ℕ, ◌+◌, ◌≤◌}
use Rattle.std.proofs.Math.Option.{none, some}
use native.Mathlib.Omega.{arith}
use Rattle.paper.specs.Cache.{Hashing, Box, Request, newest, without_address, dirty_rows, is_lost, stored}
use Rattle.paper.proofs.FewWrites.{dirty-out, dirty-one, dirty-added, dirty-cleaned, Spent, may_copy}
use Rattle.arc.specs.Arc.{Sizes, Lists, Was, list_of, row_out, block_newest, parted, joined, arc_step_as, arc_step}
use Rattle.arc.specs.ArcMid.{OutlastsOut}
use Rattle.arc.proofs.ArcStore.{by-stored_in}
use Rattle.arc.specs.ArcStep.{ArcSound, OutlastsStore, OutlastsNewest}
use Rattle.arc.proofs.ArcStepLaws.{up_to, ready}

module _ {F X : Type 0} (H : Hashing F X) (Z : Sizes) (a n : ℕ) where
  spent-out : OutlastsOut H Z a (Spent H n)
  unfolding row_out
  spent-out t x r so ab e nx h = let c = dirty-out H x t.box.rows r e in let k = h.0 in (omega (arith, c, k), h.1)

  spent-newest : (g : F) → OutlastsNewest H Z a g (Spent H n)
  unfolding block_newest
  spent-newest g t m c h = h

  spent-store : (g : F) (b : X) → OutlastsStore H Z a g b (Spent H n)
  unfolding stored
  spent-store g b t m c row h =
      let k = h.0 in
      by-stored_in H g b t (λ u. Spent H n u.stepped) row
      (λ j js p. (let w = dirty-cleaned H (is_lost H none) t.stepped.box.rows in omega (arith, w, k), omega arith))
      (λ u p e. (let w = dirty-cleaned H (is_lost H (some u.fingerprint)) t.stepped.box.rows in omega (arith, w, k), omega arith))

module _ {F X : Type 0} (H : Hashing F X) (Z : Sizes) (c1 : 1 ≤ Z.C) where
  spent-parted : (l : Lists) (s : Box F X) (a : ℕ) (w : Was) → Spent H (dirty_rows H (without_address a s.rows)) (parted H Z.C l s a w).stepped
  unfolding parted
  spent-parted l s a w = (omega arith, omega arith)

  pub arc-spends : (l : Lists) (s : Box F X) (q : Request F X) → ArcSound H Z l s
      → Spent H (may_copy H s.rows q.address q.dirty) (arc_step H Z l s q).stepped
  unfolding arc_step arc_step_as joined
  arc-spends l s q h =
      let a = q.address in
      let g = q.fingerprint in
      let b = q.block in
      let n = dirty_rows H (without_address a s.rows) in
      let o = spent-out H Z a n in
      let st = spent-store H Z a n g b in
      let nw = spent-newest H Z a n g in
      let r = ready H Z a g b (Spent H n) o st nw c1 l s h (spent-parted l s a) in
      let k = r.good.0 in
      let j = dirty-added H (newest a g q.dirty q.seat) (up_to H Z a g b (Spent H n) o st nw c1 l s (list_of a l)).stepped.box.rows in
      (omega (arith, k, j), r.good.1)
