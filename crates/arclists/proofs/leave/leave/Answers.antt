-- The place found is that of the address in the lists, or the total. Assumes nothing.
use Rattle.std.specs.Prelude.{Some, ◌-◌}
use Rattle.std.proofs.Common.{arith, sym, ◌∙◌}
use Rattle.arclists.specs.Holding.{size_of}
use Rattle.arclists.specs.MoveLaws.{resized-by}
use Rattle.arclists.specs.LeaveLaws.{was-is, found-at, in-some, left-none, left-some}
use Rattle.arclists.proofs.leave.leave.Goals as goal

pub remove_word-requires : goal.remove_word-requires
remove_word-requires c =
    let n = c.total-n.ensures in
    let g = in-some c.args.s _ _ (sym c.in-Some.ensures.value) in
    (omega (arith, n, g), omega arith)

pub returns-in-Some : goal.returns-in-Some
returns-in-Some c =
    let a = c.args in
    let n = c.total-n.ensures in
    let e = found-at _ _ _ c.find_word.ensures ∙ sym c.unwrap_or-i.ensures in
    let w = sym c.in-Some.ensures.value in
    let x = c.in-Some.list in
    let b = resized-by x (size_of x a.s - 1) a.s in
    rw (c.with.ensures, c.size.ensures) (record {
      by_index = λ m l h low once. left-some h low a.a _ _ x n e w c.remove_word.ensures once;
      by_index_2 = λ m l h low. was-is h low a.a _ _ (Some x) n e w;
      sizes_bound = (omega (arith, b.total-is), b.kept);
    })

pub returns-in-None-clause-by_index : goal.returns-in-None-clause-by_index
returns-in-None-clause-by_index c m l h low once =
    let e = found-at _ _ _ c.find_word.ensures ∙ sym c.unwrap_or-i.ensures in
    left-none h low c.args.a _ _ c.total-n.ensures e (sym c.in-None.ensures.value) once

pub returns-in-None-clause-by_index_2 : goal.returns-in-None-clause-by_index_2
returns-in-None-clause-by_index_2 c m l h low =
    let e = found-at _ _ _ c.find_word.ensures ∙ sym c.unwrap_or-i.ensures in
    was-is h low c.args.a _ _ _ c.total-n.ensures e (sym c.which-was.ensures.value)
