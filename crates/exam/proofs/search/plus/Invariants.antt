-- The places below h have their sums, the others are the first's. Assumes nothing.
use Rattle.std.specs.Prelude.{◌≡◌, ℕ, ◌+◌, ◌≤◌, ◌<◌, get_or, length}
use Rattle.exam.proofs.search.plus.Given as goal

abbrev pub invariant-loop-h : goal.invariant-loop-h
invariant-loop-h l = record {
  long : length l.sum ≡ 9;
  summed : (i : ℕ) → i < l.h → get_or l.sum i 0 ≡ get_or l.fn.s i 0 + get_or l.t i 0;
  rest : (i : ℕ) → l.h ≤ i → get_or l.sum i 0 ≡ get_or l.fn.s i 0;
}
