-- The copy gives the disk, `drop_row` both tables, and the place found first the word. Assumes nothing.
use mathlib.Core.Path.{sym, ap, ◌∙◌}
use mathlib.Core.List.{List}
use Prim.Native.Nat.{ℕ, ◌*◌}
use native.Mathlib.Omega.{arith}
use Rattle.std.proofs.Common.{rules}
use Rattle.block.specs.Blocks.{splice}
use Rattle.parts.specs.Rep.{numbers_of, engine}
use Rattle.parts.specs.CopyLaws.{block-ends}
use Rattle.serve.specs.ServeLaws.{yes-is, invalidate-is}
use Rattle.serve.proofs.serve_invalidate.Goals as goal

pub fingerprint_of-g-requires : goal.fingerprint_of-g-requires
fingerprint_of-g-requires c =
    let p = c.requires.disk_len.1 in
    rw p.2 p.6

pub put_address-requires : goal.put_address-requires
put_address-requires c =
    let a = c.args in
    let p = c.requires.disk_len in
    (p.1.2, rw p.0 (block-ends a.a.0 a.b.blocks a.b.size p.1.3))

pub drop_row-held-requires : goal.drop_row-held-requires
drop_row-held-requires c =
    let a = c.args in
    let q = c.requires.by_index.1 in
    record {
      sized = c.requires.disk_len.1.5;
      by_index = (
        a.a.0,
        q.0.rows,
        q.0.free,
        q.0.used,
        q.1.rows_are,
        q.1.blocks-are,
        q.2.addresses,
        q.2.fingerprints,
        c.row_of-i.ensures.by_index a.b.blocks a.b.rows q.0.rows q.1.rows_are,
      );
    }

pub returns : goal.returns
returns c =
    let a = c.args in
    let p = c.requires.disk_len in
    record {
      flashed_bound = (omega arith, omega arith);
      by_index_2 = λ flash z t x h sd ex.
          let f = (engine a.b).hash x in
          let ef = c.fingerprint_of-g.ensures x ex in
          invalidate-is a.b a.block.now a.disk.now flash a.addrs.now a.blocks.now t h a.a.0 p.1.3 x z _ c.drop_row-held.result _ _ _
          (yes-is (numbers_of a.b) a.b.slots a.blocks.now t.free t.used h.blocks-are f c.place_of-j.result (c.place_of-j.ensures.by_index t.free t.used f h.blocks-are ef))
          (c.put_address.ensures ∙ ap (λ (y : List ℕ). splice (a.a.0 * a.b.size) y a.disk.now) (sym ex))
          (c.drop_row-held.ensures (numbers_of a.b) a.a.0 t.rows t.free t.used h.rows_are h.blocks-are sd.addresses sd.fingerprints (c.row_of-i.ensures.by_index a.b.blocks a.b.rows t.rows h.rows_are));
    }
