-- By the place, whose bytes are there. Assumes nothing.
use Rattle.std.specs.Prelude.{◌≡◌, List, ℕ, Result, Ok}
use Rattle.std.proofs.Common.{arith, refl, sym, ap, ◌∙◌, subst}
use Rattle.paper.specs.Cache.{Counters, no_counts}
use Rattle.paper.specs.Lent.{Ask}
use Rattle.paper.specs.RowBytes.{Bytes}
use Rattle.arc.specs.ArcLent.{arc_call}
use Rattle.look.specs.declared.Place.{Place}
use Rattle.look.specs.declared.Place.TheVariants.{Flash, Disk}
use Rattle.look.specs.Look.{part_at}
use Rattle.look.specs.LookLaws.{PartIn}
use Rattle.policy.specs.CallLaws.{all-bytes}
use Rattle.arcrefusals.specs.declared.ArcRecord.{ArcRecord}
use Rattle.arcrefusals.specs.Given.{sizes_of, base_of, arc_lent}
use Rattle.arccalls.specs.Contract.{arc_where}
use Rattle.arccalls.specs.LookLaws.{arc-where-in, arc-returns}
use Rattle.arccalls.proofs.looks.look_part.Goals as goal

module _ (a : ArcRecord) (disk flash addresses blocks lists : List ℕ) (x : ℕ) (ba : Bytes addresses) (bb : Bytes blocks) (p : Result Place ℕ)
    (e : (k : Counters) → p ≡ arc_where (sizes_of a) (arc_lent a disk flash addresses blocks lists k) x) where
  -- the bytes of the place that was found are there
  in_place : PartIn (base_of a) flash disk x p
  in_place = subst (PartIn (base_of a) flash disk x) (sym (e no_counts)) (arc-where-in a disk flash addresses blocks lists no_counts x ba bb)

  -- the part there is the paper's
  returned : (l : List ℕ) → l ≡ part_at a.size x flash disk p → (k : Counters)
      → l ≡ (arc_call (sizes_of a) (arc_lent a disk flash addresses blocks lists k) (Ask.look x)).part
  returned l h k = h ∙ ap (part_at a.size x flash disk) (e k) ∙ arc-returns a disk flash addresses blocks lists k x ba bb

pub in_slot-requires : goal.in_slot-requires
in_slot-requires c =
    let a = c.args in
    in_place a.a a.disk.now a.flash.now a.addresses.now a.blocks.now a.lists.now a.asked.0 (all-bytes a.addresses.now (λ i. omega
    (arith, c.shared_slice_known-3-1.given i)))
    (all-bytes a.blocks.now (λ i. omega (arith, c.shared_slice_known-4-1.given i)))
    (Ok (Flash c.in-Ok-Flash.s)) (λ k. ap Ok (sym c.in-Ok-Flash.field-0-is) ∙ c.in-Ok-Flash.ensures k)

pub at_address-requires : goal.at_address-requires
at_address-requires c =
    let a = c.args in
    in_place a.a a.disk.now a.flash.now a.addresses.now a.blocks.now a.lists.now a.asked.0 (all-bytes a.addresses.now (λ i. omega
    (arith, c.shared_slice_known-3-1.given i)))
    (all-bytes a.blocks.now (λ i. omega (arith, c.shared_slice_known-4-1.given i)))
    (Ok Disk) (λ k. ap Ok (sym c.in-Ok-Disk.field-0-is) ∙ c.in-Ok-Disk.ensures k)

pub returns-in-Err : goal.returns-in-Err
unfolding part_at
returns-in-Err c =
    let a = c.args in
    returned a.a a.disk.now a.flash.now a.addresses.now a.blocks.now a.lists.now a.asked.0 (all-bytes a.addresses.now (λ i. omega
    (arith, c.shared_slice_known-3-1.given i)))
    (all-bytes a.blocks.now (λ i. omega (arith, c.shared_slice_known-4-1.given i)))
    _ c.in-Err.ensures _ refl

pub returns-in-Ok-Flash : goal.returns-in-Ok-Flash
unfolding part_at
returns-in-Ok-Flash c =
    let a = c.args in
    returned a.a a.disk.now a.flash.now a.addresses.now a.blocks.now a.lists.now a.asked.0 (all-bytes a.addresses.now (λ i. omega
    (arith, c.shared_slice_known-3-1.given i)))
    (all-bytes a.blocks.now (λ i. omega (arith, c.shared_slice_known-4-1.given i)))
    (Ok (Flash c.in-Ok-Flash.s)) (λ k. ap Ok (sym c.in-Ok-Flash.field-0-is) ∙ c.in-Ok-Flash.ensures k) _ c.in_slot.ensures.0

pub returns-in-Ok-Disk : goal.returns-in-Ok-Disk
unfolding part_at
returns-in-Ok-Disk c =
    let a = c.args in
    returned a.a a.disk.now a.flash.now a.addresses.now a.blocks.now a.lists.now a.asked.0 (all-bytes a.addresses.now (λ i. omega
    (arith, c.shared_slice_known-3-1.given i)))
    (all-bytes a.blocks.now (λ i. omega (arith, c.shared_slice_known-4-1.given i)))
    (Ok Disk) (λ k. ap Ok (sym c.in-Ok-Disk.field-0-is) ∙ c.in-Ok-Disk.ensures k) _ c.at_address.ensures.0
