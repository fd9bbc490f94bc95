-- What is not refused is the bytes of a paper box, on which the two searches tell a hit from a miss. Assumes nothing.
use native.Mathlib.Omega.{arith}
use Rattle.paper.specs.Cache.{no_counts}
use Rattle.paper.specs.Lent.{Ask, box_in}
use Rattle.paper.specs.RowBytes.{Bytes}
use Rattle.parts.specs.Rep.{numbers_of}
use Rattle.refusals.specs.Given.{lent}
use Rattle.policy.specs.CallLaws.{all-bytes, rep, sized}
use Rattle.look.specs.LookLaws.{found-flash, found-disk}
use Rattle.look.proofs.found.Goals as goal
use Rattle.look.proofs.found.Goals.{After-shared_slice_known-4-1}

bytes_a : (c : After-shared_slice_known-4-1) → Bytes c.args.addresses.now
bytes_a c = all-bytes c.args.addresses.now (λ i. omega (arith, c.shared_slice_known-3-1.given i))

bytes_b : (c : After-shared_slice_known-4-1) → Bytes c.args.blocks.now
bytes_b c = all-bytes c.args.blocks.now (λ i. omega (arith, c.shared_slice_known-4-1.given i))

pub row_of-i-requires : goal.row_of-i-requires
row_of-i-requires c =
    let a = c.args in
    let z = sized a.b a.disk.now a.flash.now a.addresses.now a.blocks.now no_counts (Ask.look a.a.0) (c.requires no_counts) (bytes_a c) (bytes_b c) in
    omega (arith, z.0, z.1)

pub place_of_row-j-requires : goal.place_of_row-j-requires
place_of_row-j-requires c =
    let bytes_a : Bytes c.args.addresses.now = all-bytes c.args.addresses.now (λ i. omega (arith, c.shared_slice_known-3-1.given i)) in
    let bytes_b : Bytes c.args.blocks.now = all-bytes c.args.blocks.now (λ i. omega (arith, c.shared_slice_known-4-1.given i)) in
    let a = c.args in
    let z = sized a.b a.disk.now a.flash.now a.addresses.now a.blocks.now no_counts (Ask.look a.a.0) (c.requires no_counts) bytes_a bytes_b in
    z

pub slot_at-requires : goal.slot_at-requires
slot_at-requires c =
    let bytes_a : Bytes c.args.addresses.now = all-bytes c.args.addresses.now (λ i. omega (arith, c.shared_slice_known-3-1.given i)) in
    let bytes_b : Bytes c.args.blocks.now = all-bytes c.args.blocks.now (λ i. omega (arith, c.shared_slice_known-4-1.given i)) in
    let a = c.args in
    let z = sized a.b a.disk.now a.flash.now a.addresses.now a.blocks.now no_counts (Ask.look a.a.0) (c.requires no_counts) bytes_a bytes_b in
    omega (arith, z.2, c.if-j-b.true)

pub returns-then-j-b : goal.returns-then-j-b
returns-then-j-b c k =
    let bytes_a : Bytes c.args.addresses.now = all-bytes c.args.addresses.now (λ i. omega (arith, c.shared_slice_known-3-1.given i)) in
    let bytes_b : Bytes c.args.blocks.now = all-bytes c.args.blocks.now (λ i. omega (arith, c.shared_slice_known-4-1.given i)) in
    let a = c.args in
    let x = box_in (numbers_of a.b) (lent a.b a.disk.now a.flash.now a.addresses.now a.blocks.now k) in
    let r = rep a.b a.disk.now a.flash.now a.addresses.now a.blocks.now k (Ask.look a.a.0) (c.requires k) bytes_a bytes_b in
    found-flash a.b a.disk.now a.flash.now a.addresses.now a.blocks.now k a.a.0 (c.requires k) bytes_a bytes_b c.row_of-i.result c.place_of_row-j.result
    (c.row_of-i.ensures.by_index a.b.blocks a.b.rows x.rows r.rows_are) (c.place_of_row-j.ensures.by_index a.b.blocks a.b.rows x.rows x.free x.used r.rows_are r.blocks-are) c.if-j-b.true c.slot_at.result.0 c.slot_at.ensures

pub returns : goal.returns
returns c k =
    let bytes_a : Bytes c.args.addresses.now = all-bytes c.args.addresses.now (λ i. omega (arith, c.shared_slice_known-3-1.given i)) in
    let bytes_b : Bytes c.args.blocks.now = all-bytes c.args.blocks.now (λ i. omega (arith, c.shared_slice_known-4-1.given i)) in
    let a = c.args in
    let x = box_in (numbers_of a.b) (lent a.b a.disk.now a.flash.now a.addresses.now a.blocks.now k) in
    let r = rep a.b a.disk.now a.flash.now a.addresses.now a.blocks.now k (Ask.look a.a.0) (c.requires k) bytes_a bytes_b in
    found-disk a.b a.disk.now a.flash.now a.addresses.now a.blocks.now k a.a.0 (c.requires k) bytes_a bytes_b c.row_of-i.result c.place_of_row-j.result
    (c.row_of-i.ensures.by_index a.b.blocks a.b.rows x.rows r.rows_are) (c.place_of_row-j.ensures.by_index a.b.blocks a.b.rows x.rows x.free x.used r.rows_are r.blocks-are) c.if-j-b.false
