-- By whether there is such a row; its fingerprint is a part of the table. Assumes nothing.
use Rattle.std.specs.Prelude.{unwrap_or}
use mathlib.Core.Path.{refl, sym, ap, ◌∙◌}
use mathlib.Core.List.{List}
use Prim.Native.Nat.{ℕ}
use lib.ListN.{get_or}
use Rattle.tables.specs.Rows.{rows}
use Rattle.tables.specs.Find.{find_from, caches}
use Rattle.parts.specs.Rep.{no_row}
use borrow.Author.Tests.{lt-ltb, le-ltb}
use Rattle.parts.specs.MoveLaws.{fp-is}
use Rattle.std.proofs.Common.{rules}
use Rattle.parts.proofs.rows.place_of_row.Goals as goal

pub returns-then-i-b : goal.returns-then-i-b
returns-then-i-b c =
    let a = c.args in
    let y = lt-ltb a.i a.b.held c.if-i-b.true in
    let f = c.address_fingerprint.ensures.0 in
    record {
      value = c.place_of.ensures.value ∙ rw y (ap (λ (k : List ℕ). unwrap_or (find_from (caches k) 0 (rows a.b.slots a.blocks.now)) a.b.slots) f);
      by_index = λ P m l free used h hb. rw y (c.place_of.ensures.by_index free used (get_or l a.i no_row).fingerprint hb
          (sym (f ∙ fp-is P m a.b.held a.addrs.now l h a.i c.if-i-b.true no_row)));
    }

pub returns : goal.returns
returns c =
    let a = c.args in
    let y = le-ltb a.i a.b.held c.if-i-b.false in
    record {
      value = rw y refl;
      by_index = λ P m l free used h hb. rw y refl;
    }
