-- The numbers of the record, its label, the tables and the lists are the body. Assumes nothing.
use mathlib.Core.Path.{sym, ◌∙◌}
use native.Mathlib.Omega.{arith}
use Rattle.arcsaving.proofs.write_arc.Goals as goal

-- each number has 4 bytes
pub overflow_cast-numbers-9 : goal.overflow_cast-numbers-9
overflow_cast-numbers-9 c = let h = c.requires.small.1.1.1.1.1.1.1.1.1.0 in omega (arith, h)

pub overflow_cast-numbers-10 : goal.overflow_cast-numbers-10
overflow_cast-numbers-10 c = let h = c.requires.small.1.1.1.1.1.1.1.1.1.1.0 in omega (arith, h)

pub overflow_cast-numbers-11 : goal.overflow_cast-numbers-11
overflow_cast-numbers-11 c = let h = c.requires.small.1.1.1.1.1.1.1.1.1.1.1.0 in omega (arith, h)

pub overflow_cast-numbers-12 : goal.overflow_cast-numbers-12
overflow_cast-numbers-12 c = let h = c.requires.small.1.1.1.1.1.1.1.1.1.1.1.1.0 in omega (arith, h)

pub write_image-requires : goal.write_image-requires
write_image-requires c =
    let p = c.requires in
    let l = c.body_length-n.ensures in
    let m = p.rows in
    let d = p.cached in
    (omega arith, omega (arith, l, m, d), rw l p.room, l ∙ sym p.long)
