-- A limit of m changes nothing: it is a box without one. Assumes nothing.
use Rattle.std.specs.Prelude.{◌≡◌, refl, cond, List, [], ◌∷◌, ℕ, ◌+◌, ◌≤◌, ◌<◌, take}
use Rattle.std.proofs.Math.Path.{ap}
use Rattle.std.proofs.Common.{◌∙◌, le-ltb}
use Rattle.std.proofs.Math.Option.{none}
use native.Mathlib.Omega.{arith}
use Rattle.paper.specs.Cache.{Numbers, Seat, Hashing, AddressRow, Box, Outcome, dirty_rows, reach, clean_to, answer, same_or_new, back_request, write_back, flushed}
use Rattle.paper.specs.Cache.{excess, limited, back, serve}
use Rattle.paper.specs.Sound.{Sound}
use Rattle.paper.proofs.PartlyLaws.{dirty-few}
use Rattle.arc.specs.Policy.{Policy, Served, answered_by, back_by, serve_by, lru}
use Rattle.arc.proofs.PromiseLaws.{Promise, lru-promises}
use Rattle.arc.specs.Arc.{Sizes, base_numbers, Lists, arc}
use Rattle.arc.specs.ArcStep.{ArcSound}
use Rattle.arc.proofs.ArcLaws.{arc-promises}
use Rattle.limits.specs.AsWithout.{unlimited, arc_unlimited}
use Rattle.limits.specs.Beside.{capped}
use Rattle.limits.proofs.Unlimited.{arc-capped}

module _ {F X : Type 0} (H : Hashing F X) where
  -- where no more rows are dirty than the limit, nothing is cleaned
  reach-none : (rows : List (AddressRow F)) → reach H 0 rows ≡ 0
  reach-none [] = refl
  reach-none (r ∷ rs) = refl

  limited-idle : (n : ℕ) (o : Outcome F X) → dirty_rows H o.box.rows ≤ n → limited H n o ≡ o
  unfolding flushed
  limited-idle n o few =
      let s = o.box in
      let e : reach H (excess H n s.rows) s.rows ≡ 0
      = ap (λ c. reach H (cond c 1 0) s.rows) (le-ltb n (dirty_rows H s.rows) few) ∙ reach-none s.rows in
      let z : o.primary_writes + 0 ≡ o.primary_writes = omega arith in
      ap {B = Outcome F X} (λ i. record {
        box = clean_to H i s;
        word = o.word;
        block = o.block;
        flash_writes = o.flash_writes;
        primary_writes = o.primary_writes + dirty_rows H (take i s.rows);
      }) e
      ∙ (λ j. record { box = s; word = o.word; block = o.block; flash_writes = o.flash_writes; primary_writes = z j })

-- a write back of a box that runs a policy under the limit m, which is as many rows as there can be
module _ {F X S : Type 0} (H : Hashing F X) (N : Numbers) (pol : Policy F X S) (Inv : S → Box F X → Type 0) (pr : Promise H N pol Inv) where
  back-idle : (k : S) (s : Box F X) (a : ℕ) (b : X) (z : Seat) → Inv k s → a < N.P
      → serve_by H (capped N.m pol) k s (back a b z) ≡ answered_by H pol (same_or_new H s b) none 0 (pol.run k s (back_request H s a b z))
  unfolding serve_by back_by answered_by answer
  back-idle k s a b z i w =
      let q = back_request H s a b z in
      let r = pol.run k s q in
      let rows = r.stepped.box.rows in
      let few = (pr.sound r.kept r.stepped.box (pr.steps k s q i w)).few in
      ap {B = Served F X S} (λ o. record { kept = r.kept; outcome = o })
      (limited-idle H N.m (answer H (same_or_new H s b) none 0 r.stepped) (omega (arith, few, dirty-few H rows)))

-- D-LRU: a write back under the limit m is document 01's, with no limit
pub limit-m : {F X : Type 0} (H : Hashing F X) (N : Numbers) (s : Box F X) (a : ℕ) (b : X) (z : Seat) → Sound H N s → 1 ≤ N.m → 1 ≤ N.d → a < N.P
    → serve H (unlimited N) s (back a b z) ≡ write_back H N.m s a b z
unfolding answered_by write_back serve serve_by back_by
limit-m H N s a b z h m1 d1 w = ap (λ x. x.outcome) (back-idle H N (lru H N) (λ k s. Sound H N s) (lru-promises H N m1 d1) tt s a b z h w)

-- D-ARC: it is the step's answer
pub arc-limit-m : {F X : Type 0} (H : Hashing F X) (Z : Sizes) (l : Lists) (s : Box F X) (a : ℕ) (b : X) (z : Seat) → ArcSound H Z l s → 1 ≤ Z.C → a < Z.P
    → serve_by H (arc H (arc_unlimited Z)) l s (back a b z)
    ≡ answered_by H (arc H Z) (same_or_new H s b) none 0 ((arc H Z).run l s (back_request H s a b z))
arc-limit-m H Z l s a b z h c1 w =
    ap (λ p. serve_by H p l s (back a b z)) (arc-capped H Z)
    ∙ back-idle H (base_numbers Z) (arc H Z) (ArcSound H Z) (arc-promises H Z c1) l s a b z h w
