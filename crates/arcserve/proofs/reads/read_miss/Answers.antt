-- The block copied is that of the disk; the read takes it. Assumes nothing.
use mathlib.Core.Path.{sym, ◌∙◌}
use lib.ListN.{get_or}
use Rattle.parts.specs.Rep.{engine}
use Rattle.parts.specs.CopyLaws.{parts-length, block-ends, part-block}
use Rattle.arcserve.proofs.reads.read_miss.Goals as goal

pub at_address-requires : goal.at_address-requires
at_address-requires c =
    let a = c.args in
    let q = c.requires.lent_arc in
    rw (parts-length a.b.size a.b.blocks a.disk.now q.1.disk q.2.disk-is)
    (block-ends a.a.0 a.b.blocks a.b.size c.requires.arc_access.3)

pub read_taken-requires : goal.read_taken-requires
read_taken-requires c =
    let p = c.requires.arc_access in
    record {
      arc_access = (p.0, p.1, c.copy_from_slice.auto.self ∙ p.2, p.3, p.4, p.5, p.6, p.7, p.8);
      lent_arc = c.requires.lent_arc;
      indexed = c.requires.indexed;
    }

pub returns : goal.returns
returns c =
    let a = c.args in
    let w = c.read_taken in
    record {
      few = w.ensures.few;
      serves = λ l x lent h k so.
          let y = get_or x.disk a.a.0 (engine a.b).blank in
          let ey = sym (c.copy_from_slice.ensures.after ∙ c.at_address.ensures.0
          ∙ part-block a.b.size a.b.blocks a.disk.now x.disk h.disk-is a.a.0 (engine a.b).blank c.requires.arc_access.3) in
          w.ensures.serves l x y lent h k so ey;
    }
