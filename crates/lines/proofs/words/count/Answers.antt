-- The spaces counted, and one. Assumes nothing.
use Rattle.std.proofs.Common.{sym, ap, ◌∙◌, ◌+◌, rules, tests}
use Rattle.std.proofs.lemmas.Iterator.{YieldsList-from_slice}
use Rattle.std.proofs.lemmas.Iterator.Consumers.{count_from_yields_List, YieldsList-from_filter}
use Rattle.lines.proofs.Bytewise.{space, words-length}
use Rattle.lines.proofs.words.count.Goals as goal

pub returns : goal.returns
returns c =
    let l = c.args.line.now in
    ap (λ n. n + 1) (count_from_yields_List c.filter.result _ c.count.ensures.ran (YieldsList-from_filter _ space (YieldsList-from_slice l cc) c.filter.ensures.closure (λ x b q k. search (rules, tests))))
    ∙ sym (words-length l)
