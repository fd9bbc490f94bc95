-- One rotation of the addresses: `holds-moved`. Assumes nothing.
use Rattle.std.specs.Prelude.{◌-◌, ◌+◌}
use Rattle.std.proofs.Common.{rules, ap₂, arith}
use Rattle.arclists.specs.MoveLaws.{holds-moved, holds-moved-none, moved-total, moved-kept, ends-later, resized-by}
use Rattle.arclists.proofs.moves.move_lru.Goals as goal

pub returns-then-size-eq0 : goal.returns-then-size-eq0
returns-then-size-eq0 c =
    let a = c.args in
    record {
      by_index = λ m l h. holds-moved-none h a.from a.to c.requires.later (omega arith);
      result_value = search rules;
    }

pub rotate_words-requires : goal.rotate_words-requires
rotate_words-requires c =
    let a = c.args in
    let e = ends-later a.from a.to a.s c.requires.later in
    let b = resized-by a.to 0 a.s in
    (omega (arith, e), omega (arith, e, b.within))

pub returns : goal.returns
returns c =
    let a = c.args in
    rw (c.with.ensures, c.size-4.ensures, c.with-r.ensures, c.size-3.ensures) (record {
      by_index = λ m l h. holds-moved h a.from a.to c.requires.later _ _ c.start-2.ensures
          (ap₂ (λ x y. x + y - 1) c.start.ensures c.size-2.ensures) (omega arith) c.rotate_words.ensures;
      result_value = (moved-total a.from a.to a.s c.requires.later (omega arith), moved-kept a.from a.to _ _ a.s);
    })
