-- By whether the row is dirty and has the fingerprint. Assumes nothing.
use borrow.Author.Tests.{not-true, not-false}
use mathlib.Core.Path.{sym, ◌∙◌}
use native.Mathlib.Omega.{arith}
use lib.ListN.{get_or}
use Rattle.parts.specs.Rep.{numbers_of, no_row, engine}
use Rattle.tables.specs.Rows.{row_at}
use Rattle.tables.specs.Find.{is_dirty}
use Rattle.parts.specs.CopyLaws.{row-left, copied-chosen, row-fp, same-slot, left-no, right-no}
use Rattle.std.proofs.Common.{rules}
use Rattle.parts.proofs.copy.clean_row.Goals as goal

pub returns-then-not-is_dirty : goal.returns-then-not-is_dirty
returns-then-not-is_dirty c =
    let a = c.args in
    record {
      upper_bound = omega arith;
      addrs_after = λ s h v e k. row-left a.b a.disk.now a.flash.now a.addrs.now a.blocks.now s h ((engine a.b).same v) a.i c.requires.i_lt_held.0 (left-no _ ((engine a.b).same v (get_or s.rows a.i no_row).fingerprint) (sym c.is_dirty.ensures ∙ c.if-not-is_dirty.true));
    }

pub returns-then-not-fingerprint_is : goal.returns-then-not-fingerprint_is
returns-then-not-fingerprint_is c =
    let a = c.args in
    record {
      upper_bound = omega arith;
      addrs_after = λ s h v e k. row-left a.b a.disk.now a.flash.now a.addrs.now a.blocks.now s h ((engine a.b).same v) a.i c.requires.i_lt_held.0 (right-no (is_dirty (row_at a.addrs.now a.i)) ((engine a.b).same v (get_or s.rows a.i no_row).fingerprint) (sym (row-fp a.b a.disk.now a.flash.now a.addrs.now a.blocks.now s h a.i c.requires.i_lt_held.0 a.g.now v e) ∙ sym c.fingerprint_is.ensures ∙ c.if-not-fingerprint_is.true));
    }

pub copy_row-requires : goal.copy_row-requires
copy_row-requires c =
    let p = c.requires in
    record {
      i_lt_held = (p.i_lt_held.0, p.i_lt_held.1, p.i_lt_held.3, p.i_lt_held.4);
      lent_box = p.lent_box;
    }

pub returns : goal.returns
returns c =
    let a = c.args in
    record {
      upper_bound = c.copy_row.ensures.upper_bound;
      addrs_after = λ s h v e k.
          let f = (get_or s.rows a.i no_row).fingerprint in
          let y = sym (row-fp a.b a.disk.now a.flash.now a.addrs.now a.blocks.now s h a.i c.requires.i_lt_held.0 a.g.now v e) ∙ sym c.fingerprint_is.ensures ∙ c.if-not-fingerprint_is.false in
          c.copy_row.ensures.addrs_after s h (sym (same-slot (numbers_of a.b) v f s.used y) ∙ k) ∙ copied-chosen a.b ((engine a.b).same v) s a.i y;
    }
