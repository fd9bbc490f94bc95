-- The numbers of the record, its label and the two tables are the body. Assumes nothing.
use native.Mathlib.Omega.{arith}
use Rattle.saving.specs.SaveLaws.{body-long}
use Rattle.std.proofs.Common.{rules}
use Rattle.saving.proofs.write_box.Reads as reads
use Rattle.saving.proofs.write_box.Lts as lts
use Rattle.area.proofs.write_image.Reads as write-image-reads
use Rattle.saving.proofs.body_length.Reads as body-length-reads
use Rattle.saving.proofs.write_box.Goals as goal

pub overflow_cast-numbers : goal.overflow_cast-numbers
overflow_cast-numbers c = search rules

pub overflow_cast-numbers-2 : goal.overflow_cast-numbers-2
overflow_cast-numbers-2 c = search rules

pub overflow_cast-numbers-3 : goal.overflow_cast-numbers-3
overflow_cast-numbers-3 c = search rules

pub overflow_cast-numbers-4 : goal.overflow_cast-numbers-4
overflow_cast-numbers-4 c = search rules

pub overflow_cast-numbers-5 : goal.overflow_cast-numbers-5
overflow_cast-numbers-5 c = search rules

pub overflow_cast-numbers-6 : goal.overflow_cast-numbers-6
overflow_cast-numbers-6 c = search rules

pub body_length-n-requires : goal.body_length-n-requires
body_length-n-requires c = search rules

pub slice_bounds-write_image-end : goal.slice_bounds-write_image-end
slice_bounds-write_image-end c = search rules

pub slice_bounds-write_image-end-2 : goal.slice_bounds-write_image-end-2
slice_bounds-write_image-end-2 c = search rules

pub slice_bounds-write_image-end-3 : goal.slice_bounds-write_image-end-3
slice_bounds-write_image-end-3 c = search rules

pub write_image-requires : goal.write_image-requires
write_image-requires c =
    let a = c.args in
    let p = c.requires in
    let l = c.body_length-n.ensures in
    let m = p.rows in
    let d = p.slots in
    (omega arith, omega arith, rw l p.room, rw l (body-long a.b a.addresses.now a.blocks.now a.area.now p))

pub shape_of-area : goal.shape_of-area
shape_of-area c = search rules

pub returns : goal.returns
returns c = search rules
