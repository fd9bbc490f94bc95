-- By whether the first row is free, and whether there is a row that no address has. Assumes nothing.
use mathlib.Core.Path.{refl, sym, ◌∙◌}
use native.Mathlib.Omega.{arith}
use borrow.Author.Tests.{not-true, not-false, lt-ltb, le-ltb}
use Rattle.parts.proofs.Asking.{victim-first, victim-yes, victim-no}
use Rattle.std.proofs.Common.{rules}
use Rattle.parts.proofs.rows.victim.Goals as goal

pub unknown_place-j-requires : goal.unknown_place-j-requires
unknown_place-j-requires c =
    record {
      blocks_len = search rules;
      blocks_value = c.requires.blocks_value;
      indexed = c.requires.indexed (sym c.is_used.ensures ∙ c.if-not-is_used.false);
    }

pub returns-then-not-is_used : goal.returns-then-not-is_used
returns-then-not-is_used c =
    let a = c.args in
    record {
      upper_bound = omega arith;
      value = rw (sym c.is_used.ensures ∙ c.if-not-is_used.true) refl;
      by_index = λ P m l free used h hb. victim-first a.d a.blocks.now l used free hb c.requires.blocks_len.1 (sym c.is_used.ensures ∙ c.if-not-is_used.true);
    }

pub returns-then-j-d : goal.returns-then-j-d
returns-then-j-d c =
    let a = c.args in
    let j = c.unknown_place-j in
    let u = sym c.is_used.ensures ∙ c.if-not-is_used.false in
    record {
      upper_bound = omega arith;
      value = rw (u, sym j.ensures.value, lt-ltb j.result a.d c.if-j-d.true) refl;
      by_index = λ P m l free used h hb. victim-yes a.d a.blocks.now l used free hb u j.result (λ hb0. j.ensures.by_index P m l used h hb0) c.if-j-d.true;
    }

pub returns : goal.returns
returns c =
    let a = c.args in
    let j = c.unknown_place-j in
    let u = sym c.is_used.ensures ∙ c.if-not-is_used.false in
    record {
      upper_bound = omega arith;
      value = rw (u, sym j.ensures.value, le-ltb j.result a.d c.if-j-d.false) refl;
      by_index = λ P m l free used h hb. victim-no a.d a.blocks.now l used free hb u j.result (λ hb0. j.ensures.by_index P m l used h hb0) c.if-j-d.false;
    }
