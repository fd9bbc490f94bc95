-- The copy gives the disk, `drop_row` both tables, `leave` the lists, and the place found first the word. Assumes nothing.
use mathlib.Core.Path.{sym, ap, ◌∙◌}
use mathlib.Core.List.{List}
use Prim.Native.Nat.{ℕ, ◌*◌, ◌≤◌}
use native.Mathlib.Omega.{arith}
use Rattle.block.specs.Blocks.{splice}
use Rattle.parts.specs.Rep.{numbers_of, engine}
use Rattle.parts.specs.CopyLaws.{parts-length, block-ends}
use Rattle.serve.specs.ServeLaws.{yes-is}
use Rattle.arcserve.proofs.Serving.{all-low, named-once, invalidate-serves}
use Rattle.arcserve.proofs.writes.serve_invalidate.Goals as goal

pub fingerprint_of-g-requires : goal.fingerprint_of-g-requires
fingerprint_of-g-requires c =
    let p = c.requires.arc_access in
    rw p.2 p.8

pub put_address-requires : goal.put_address-requires
put_address-requires c =
    let a = c.args in
    let p = c.requires.arc_access in
    let q = c.requires.by_index.1 in
    (p.2, rw (parts-length a.b.size a.b.blocks a.disk.now q.1.disk q.2.disk-is) (block-ends a.a.0 a.b.blocks a.b.size p.3))

pub drop_row-held-requires : goal.drop_row-held-requires
drop_row-held-requires c =
    let a = c.args in
    let q = c.requires.by_index.1 in
    record {
      sized = c.requires.arc_access.4;
      by_index = (
        a.a.0,
        q.1.rows,
        q.1.free,
        q.1.used,
        q.2.rows_are,
        q.2.blocks-are,
        q.4.sound.addresses,
        q.4.sound.fingerprints,
        c.row_of-i.ensures.by_index a.b.blocks a.b.rows q.1.rows q.2.rows_are,
      );
    }

pub leave-left-requires : goal.leave-left-requires
leave-left-requires c =
    omega (arith, c.requires.by_index.1.3.room, c.requires.arc_access.7)

pub returns : goal.returns
returns c =
    let a = c.args in
    let p = c.requires.arc_access in
    let j = c.place_of-j in
    let v = c.leave-left in
    let c1 : 1 ≤ a.s.cached = omega (arith, p.0, p.5) in
    record {
      few = (omega arith, omega arith);
      by_index_2 = λ flash z l x y h k so ey.
          let f = (engine a.b).hash y in
          let ef = c.fingerprint_of-g.ensures y ey in
          invalidate-serves a.b a.s l x so c1 a.a.0 p.3 y z a.disk.now flash a.addrs.now a.blocks.now h p.5 p.6 a.block.now _
          c.drop_row-held.result v.result.sizes _ _ _ _
          (yes-is (numbers_of a.b) a.b.slots a.blocks.now x.free x.used h.blocks-are f j.result
          (j.ensures.by_index x.free x.used f h.blocks-are ef))
          (c.put_address.ensures ∙ ap (λ (u : List ℕ). splice (a.a.0 * a.b.size) u a.disk.now) (sym ey))
          (c.drop_row-held.ensures (numbers_of a.b) a.a.0 x.rows x.free x.used h.rows_are h.blocks-are so.sound.addresses
          so.sound.fingerprints (c.row_of-i.ensures.by_index a.b.blocks a.b.rows x.rows h.rows_are))
          (v.ensures.by_index a.b.rows l k (all-low a.b a.s l x so h.rows_are.small) (named-once a.b a.s l x so a.a.0));
    }
