-- The block copied is that of the disk; the read takes it. Assumes nothing.
use mathlib.Core.Path.{sym, ◌∙◌}
use lib.ListN.{get_or}
use Rattle.parts.specs.Rep.{engine}
use Rattle.parts.specs.CopyLaws.{parts-length, block-ends, part-block}
use Rattle.std.proofs.Common.{rules}
use Rattle.serve.proofs.read_miss.Goals as goal

pub at_address-requires : goal.at_address-requires
at_address-requires c =
    let a = c.args in
    let q = c.requires.lent_sound in
    rw (parts-length a.b.size a.b.blocks a.disk.now q.0.disk q.1.disk-is)
    (block-ends a.a.0 a.b.blocks a.b.size c.requires.access.3)

pub read_taken-requires : goal.read_taken-requires
read_taken-requires c =
    let p = c.requires.access in
    record {
      access = (p.0, p.1, c.copy_from_slice.auto.self ∙ p.2, p.3, p.4, p.5, p.6);
      lent_sound = c.requires.lent_sound;
      indexed = c.requires.indexed;
    }

pub returns : goal.returns
returns c =
    let a = c.args in
    let w = c.read_taken in
    record {
      flashed_bound = w.ensures.flashed_bound;
      block_after = λ s lent h sd.
          let x = get_or s.disk a.a.0 (engine a.b).blank in
          let ex = sym (c.copy_from_slice.ensures.after ∙ c.at_address.ensures.0
          ∙ part-block a.b.size a.b.blocks a.disk.now s.disk h.disk-is a.a.0 (engine a.b).blank c.requires.access.3) in
          w.ensures.block_after s x lent h sd ex;
    }
