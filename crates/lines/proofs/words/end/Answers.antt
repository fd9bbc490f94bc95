-- At the first space from there on, or at the end. Assumes nothing.
use Rattle.std.proofs.Common.{◌≡◌, ◌+◌, ◌-◌, sym, ◌∙◌, drop, length-drop, arith, rules, tests}
use Rattle.std.proofs.lemmas.Iterator.{YieldsList-from_slice}
use Rattle.std.proofs.lemmas.Iterator.Search.{position_from_yields_List}
use Rattle.lines.proofs.Bytewise.{space, first-ended, first-whole, to-end}
use Rattle.lines.proofs.words.end.Goals as goal

pub returns-in-Some : goal.returns-in-Some
returns-in-Some c =
    let l = drop c.args.from c.args.line.now in
    let whole = c.iter.ensures.rest ∙ to-end c.args.from c.args.line.now in
    let e = sym c.in-Some.is ∙ position_from_yields_List space _ _ c.position.result c.position.ensures.ran (YieldsList-from_slice l whole) (λ x b q k. search (rules, tests)) in
    let f = first-ended l c.in-Some.k e in
    let n : c.args.from + c.in-Some.k - c.args.from ≡ c.in-Some.k = omega arith in
    (omega arith, omega (arith, f.0, length-drop c.args.from c.args.line.now), rw n f.1)

pub returns-in-None : goal.returns-in-None
returns-in-None c =
    let l = drop c.args.from c.args.line.now in
    let back = to-end c.args.from c.args.line.now in
    let e = sym c.in-None.is ∙ position_from_yields_List space _ _ c.position.result c.position.ensures.ran (YieldsList-from_slice l (c.iter.ensures.rest ∙ back)) (λ x b q k. search (rules, tests)) in
    (omega arith, omega arith, first-whole l e ∙ sym back)
