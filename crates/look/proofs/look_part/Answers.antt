-- By the place, whose bytes are there. Assumes nothing.
use Rattle.std.specs.Prelude.{◌≡◌, List, ℕ, Result, Ok, Err}
use Rattle.std.proofs.Common.{rules, arith, refl, sym, ap, ◌∙◌, subst}
use Rattle.paper.specs.Cache.{Counters, no_counts}
use Rattle.paper.specs.Lent.{Ask, call}
use Rattle.paper.specs.RowBytes.{Bytes}
use Rattle.parts.specs.declared.BoxRecord.{BoxRecord}
use Rattle.parts.specs.Rep.{numbers_of}
use Rattle.refusals.specs.Given.{lent}
use Rattle.policy.specs.CallLaws.{all-bytes}
use Rattle.look.specs.declared.Place.{Place}
use Rattle.look.specs.declared.Place.TheVariants.{Flash, Disk}
use Rattle.look.specs.Look.{where_is, part_at}
use Rattle.look.specs.LookLaws.{PartIn, where-in, look-returns}
use Rattle.look.proofs.look_part.Goals as goal

module _ (b : BoxRecord) (disk flash addresses blocks : List ℕ) (x : ℕ) (ba : Bytes addresses) (bb : Bytes blocks) (p : Result Place ℕ)
    (e : (k : Counters) → p ≡ where_is (numbers_of b) (lent b disk flash addresses blocks k) x) where
  -- the bytes of the place that was found are there
  in_place : PartIn b flash disk x p
  in_place = subst (PartIn b flash disk x) (sym (e no_counts)) (where-in b disk flash addresses blocks no_counts x ba bb)

  -- the part there is the paper's
  at_place : (l : List ℕ) → l ≡ part_at b.size x flash disk p → (k : Counters) → l ≡ part_at b.size x flash disk (where_is (numbers_of b) (lent b disk flash addresses blocks k) x)
  at_place l h k = h ∙ ap (part_at b.size x flash disk) (e k)

  returned : (l : List ℕ) → l ≡ part_at b.size x flash disk p → (k : Counters) → l ≡ (call (numbers_of b) (lent b disk flash addresses blocks k) (Ask.look x)).part
  returned l h k = at_place l h k ∙ look-returns b disk flash addresses blocks k x ba bb

pub in_slot-requires : goal.in_slot-requires
in_slot-requires c =
    let a = c.args in
    in_place a.b a.disk.now a.flash.now a.addresses.now a.blocks.now a.a.0 (all-bytes c.args.addresses.now (λ i. omega (arith, c.shared_slice_known-3-1.given i))) (all-bytes c.args.blocks.now (λ i. omega (arith, c.shared_slice_known-4-1.given i))) (Ok (Flash c.in-Ok-Flash.s)) (λ k. ap Ok (sym c.in-Ok-Flash.field-0-is) ∙ c.in-Ok-Flash.ensures k)

pub at_address-requires : goal.at_address-requires
at_address-requires c =
    let a = c.args in
    in_place a.b a.disk.now a.flash.now a.addresses.now a.blocks.now a.a.0 (all-bytes c.args.addresses.now (λ i. omega (arith, c.shared_slice_known-3-1.given i))) (all-bytes c.args.blocks.now (λ i. omega (arith, c.shared_slice_known-4-1.given i))) (Ok Disk) (λ k. ap Ok (sym c.in-Ok-Disk.field-0-is) ∙ c.in-Ok-Disk.ensures k)

pub returns-in-Err-clause-result_value : goal.returns-in-Err-clause-result_value
unfolding part_at
returns-in-Err-clause-result_value c =
    let a = c.args in
    returned a.b a.disk.now a.flash.now a.addresses.now a.blocks.now a.a.0 (all-bytes c.args.addresses.now (λ i. omega (arith, c.shared_slice_known-3-1.given i))) (all-bytes c.args.blocks.now (λ i. omega (arith, c.shared_slice_known-4-1.given i))) _ c.in-Err.ensures _ refl

pub returns-in-Err-clause-result_value_2 : goal.returns-in-Err-clause-result_value_2
unfolding part_at
returns-in-Err-clause-result_value_2 c =
    let a = c.args in
    at_place a.b a.disk.now a.flash.now a.addresses.now a.blocks.now a.a.0 (all-bytes c.args.addresses.now (λ i. omega (arith, c.shared_slice_known-3-1.given i))) (all-bytes c.args.blocks.now (λ i. omega (arith, c.shared_slice_known-4-1.given i))) _ c.in-Err.ensures _ refl

pub returns-in-Ok-Flash-clause-result_value : goal.returns-in-Ok-Flash-clause-result_value
unfolding part_at
returns-in-Ok-Flash-clause-result_value c =
    let a = c.args in
    returned a.b a.disk.now a.flash.now a.addresses.now a.blocks.now a.a.0 (all-bytes c.args.addresses.now (λ i. omega (arith, c.shared_slice_known-3-1.given i))) (all-bytes c.args.blocks.now (λ i. omega (arith, c.shared_slice_known-4-1.given i))) (Ok (Flash c.in-Ok-Flash.s)) (λ k. ap Ok (sym c.in-Ok-Flash.field-0-is) ∙ c.in-Ok-Flash.ensures k) _ c.in_slot.ensures.0

pub returns-in-Ok-Flash-clause-result_value_2 : goal.returns-in-Ok-Flash-clause-result_value_2
unfolding part_at
returns-in-Ok-Flash-clause-result_value_2 c =
    let a = c.args in
    at_place a.b a.disk.now a.flash.now a.addresses.now a.blocks.now a.a.0 (all-bytes c.args.addresses.now (λ i. omega (arith, c.shared_slice_known-3-1.given i))) (all-bytes c.args.blocks.now (λ i. omega (arith, c.shared_slice_known-4-1.given i))) (Ok (Flash c.in-Ok-Flash.s)) (λ k. ap Ok (sym c.in-Ok-Flash.field-0-is) ∙ c.in-Ok-Flash.ensures k) _ c.in_slot.ensures.0

pub returns-in-Ok-Disk-clause-result_value : goal.returns-in-Ok-Disk-clause-result_value
unfolding part_at
returns-in-Ok-Disk-clause-result_value c =
    let a = c.args in
    returned a.b a.disk.now a.flash.now a.addresses.now a.blocks.now a.a.0 (all-bytes c.args.addresses.now (λ i. omega (arith, c.shared_slice_known-3-1.given i))) (all-bytes c.args.blocks.now (λ i. omega (arith, c.shared_slice_known-4-1.given i))) (Ok Disk) (λ k. ap Ok (sym c.in-Ok-Disk.field-0-is) ∙ c.in-Ok-Disk.ensures k) _ c.at_address.ensures.0

pub returns-in-Ok-Disk-clause-result_value_2 : goal.returns-in-Ok-Disk-clause-result_value_2
unfolding part_at
returns-in-Ok-Disk-clause-result_value_2 c =
    let a = c.args in
    at_place a.b a.disk.now a.flash.now a.addresses.now a.blocks.now a.a.0 (all-bytes c.args.addresses.now (λ i. omega (arith, c.shared_slice_known-3-1.given i))) (all-bytes c.args.blocks.now (λ i. omega (arith, c.shared_slice_known-4-1.given i))) (Ok Disk) (λ k. ap Ok (sym c.in-Ok-Disk.field-0-is) ∙ c.in-Ok-Disk.ensures k) _ c.at_address.ensures.0
