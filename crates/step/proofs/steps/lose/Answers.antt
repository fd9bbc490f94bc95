-- By whether the row taken is used. Assumes nothing.
use mathlib.Core.Path.{sym, ap, ◌∙◌}
use mathlib.Core.Option.{Option}
use native.Mathlib.Omega.{arith}
use lib.ListN.{get_or}
use Rattle.paper.specs.Cache.{is_lost}
use Rattle.paper.specs.Engine.{Fixed}
use Rattle.parts.specs.Rep.{numbers_of, copied_rows, engine}
use borrow.Author.Tests.{not-true, not-false}
use Rattle.parts.specs.Asked.{no_block}
use Rattle.step.proofs.Stepping.{none-lost, picked-free, picked-used}
use Rattle.std.proofs.Common.{rules}
use Rattle.step.proofs.steps.lose.Goals as goal

pub returns-then-not-is_used : goal.returns-then-not-is_used
returns-then-not-is_used c =
    let a = c.args in
    record {
      upper_bound = omega arith;
      addrs_after = λ s h ds p e. none-lost a.b a.disk.now a.flash.now a.addrs.now a.blocks.now s h a.b.held ∙ ap (λ (o : Option (Fixed 32)). copied_rows a.b (is_lost (engine a.b) o) s a.b.held) (sym (picked-free a.b.slots a.blocks.now s.free s.used a.t h.blocks-are p (sym c.is_used.ensures ∙ c.if-not-is_used.true)));
    }

pub clean_rows-requires : goal.clean_rows-requires
clean_rows-requires c =
    let a = c.args in
    let q = c.requires.rep in
    let u = picked-used (numbers_of a.b) a.b.slots a.blocks.now q.0.free q.0.used a.t q.1.blocks-are q.2 q.3 (sym c.is_used.ensures ∙ c.if-not-is_used.false) in
    let g = c.block_fingerprint-g.ensures in
    record {
      slot_lt_slots = (c.requires.t_lt_slots.1, g.1, c.requires.t_lt_slots.2.0, c.requires.t_lt_slots.2.1);
      lent_with = (q.0, (get_or q.0.used a.t no_block).fingerprint, q.1, u.bytes ∙ sym g.0, u.slot ∙ sym q.4);
    }

pub returns : goal.returns
returns c =
    let a = c.args in
    let f = c.clean_rows in
    record {
      upper_bound = f.ensures.upper_bound;
      addrs_after = λ s h ds p e.
          let u = picked-used (numbers_of a.b) a.b.slots a.blocks.now s.free s.used a.t h.blocks-are ds p (sym c.is_used.ensures ∙ c.if-not-is_used.false) in
          f.ensures.addrs_after s h (get_or s.used a.t no_block).fingerprint (u.bytes ∙ sym c.block_fingerprint-g.ensures.0) (u.slot ∙ sym e)
          ∙ ap (λ (o : Option (Fixed 32)). copied_rows a.b (is_lost (engine a.b) o) s a.b.held) (sym u.lost);
    }
