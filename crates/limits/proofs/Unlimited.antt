-- The numbers and the policy of a box without a limit, that is with the limit m: they are those of the box but for the limit, and fit wherever those do.
use Rattle.std.specs.Prelude.{◌≡◌, Bool, [], ◌≤◌}
use Rattle.std.proofs.Math.Path.{refl}
use Rattle.std.proofs.Math.Bool.{true, false}
use Rattle.std.proofs.Common.{arith, le-leb}
use Rattle.tables.specs.Rows.{rows}
use Rattle.tables.specs.Records.{held_rows}
use Rattle.paper.specs.Cache.{Numbers, Hashing}
use Rattle.paper.specs.Lent.{Lent, unfit, limit_outside, wrong_buffers, box_in, fresh}
use Rattle.arc.specs.Policy.{Ran}
use Rattle.arc.specs.Arc.{Sizes, m_of, Lists, Was, in_t1, in_t2, in_b1, in_b2, in_b3, unheld, list_of, was_b2, left, check, checked, inserted, parted, joined}
use Rattle.arc.specs.Arc.{arc_step_as, arc_step, arc}
use Rattle.arc.specs.ArcLent.{unfit_arc}
use Rattle.limits.specs.AsWithout.{unlimited, arc_unlimited}
use Rattle.limits.specs.Beside.{capped}

-- 1, 11, 12 and 2
pub unlimited-unfit : (N : Numbers) → unfit (unlimited N) ≡ unfit N
unfolding unfit
unlimited-unfit N = refl

pub unlimited-unfit-arc : (Z : Sizes) → unfit_arc (arc_unlimited Z) ≡ unfit_arc Z
unfolding unfit_arc
unlimited-unfit-arc Z = refl

pub unlimited-limit : (N : Numbers) → 1 ≤ N.m → limit_outside (unlimited N) ≡ false
unlimited-limit N m1 = rw (le-leb 1 N.m m1, le-leb N.m N.m (omega arith)) refl

pub unlimited-buffers : (N : Numbers) (t : Lent) → wrong_buffers (unlimited N) t ≡ wrong_buffers N t
unfolding wrong_buffers
unlimited-buffers N t = refl

-- the box in lent bytes, and a fresh one
pub unlimited-box : (N : Numbers) (t : Lent) → box_in (unlimited N) t ≡ box_in N t
unfolding box_in
unlimited-box N t = refl

pub unlimited-fresh : (N : Numbers) (t : Lent) → fresh (unlimited N) t ≡ fresh N t
unfolding fresh
unlimited-fresh N t = refl

pub fresh-rows : (N : Numbers) (t : Lent) → (box_in N (fresh N t)).rows ≡ []
unfolding box_in fresh held_rows rows
fresh-rows N t = refl

-- D-ARC's policy (D-LRU's is so by computation)
module _ {F X : Type 0} (H : Hashing F X) (Z : Sizes) where
  check-same : (b2 : Bool) (t : Ran F X Lists) → check H (arc_unlimited Z) b2 t ≡ check H Z b2 t
  unfolding check
  check-same b2 t = refl

  checked-same : (w : Was) (t : Ran F X Lists) → checked H (arc_unlimited Z) w t ≡ checked H Z w t
  unfolding checked
  checked-same in_t1 t = refl
  checked-same in_t2 t = refl
  checked-same in_b1 t = check-same false t
  checked-same in_b2 t = check-same true t
  checked-same in_b3 t = refl
  checked-same unheld t = check-same false t

  pub arc-capped : arc H (arc_unlimited Z) ≡ capped (m_of Z) (arc H Z)
  unfolding arc_step arc_step_as
  arc-capped = λ j. record {
    run = λ l s q.
        let a = q.address in
        let g = q.fingerprint in
        let w = list_of a l in
        joined H a g q.dirty q.seat w (checked-same w (inserted H Z.C (was_b2 w) g q.block (parted H Z.C l s a w)) j);
    leave = left;
    limit = m_of Z;
  }
