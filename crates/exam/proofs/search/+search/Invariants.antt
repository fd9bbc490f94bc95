-- The measure is the number of reads left. The invariant: the sum over the addresses before a.
-- Assumes nothing.
use Rattle.std.specs.Prelude.{◌≡◌}
use Rattle.exam.specs.Scores.{summed}
use Rattle.exam.proofs.Searching.{branch}
use Rattle.exam.proofs.search.+search.Given as goal

abbrev pub decreases-search : goal.decreases-search
decreases-search l = l.k

abbrev pub invariant-loop-a : goal.invariant-loop-a
invariant-loop-a l = l.sum ≡ summed (branch l.q l.s l.k) l.a
