-- Each turn leaves the word that is looked for where it was, counted from the index. Assumes nothing.
use mathlib.Core.Path.{◌≡◌}
use mathlib.Core.List.{[]}
use lib.ListN.{drop, get_or}
use Rattle.lines.specs.Lines.{words}
use Rattle.lines.proofs.words.start.Given as goal

abbrev pub invariant-loop-i : goal.invariant-loop-i
invariant-loop-i l = get_or (words l.line) l.k [] ≡ get_or (words (drop l.i l.line)) l.left []
