-- The invariants of the loops of `hash::rounds`: t rounds are done.
-- Assumes nothing.
use Rattle.std.proofs.Common.{◌≡◌, ◌%◌, ◌≤◌, ◌-◌}
use Rattle.hash.specs.Done.{Done}
use Rattle.hash.specs.Words.{words}
use Rattle.hash.proofs.rounds.Given as goal

abbrev pub invariant-first : goal.invariant-first
invariant-first l = (l.t % 8 ≡ 0) × (l.t ≤ 16) × Done l.block (words l.fn.hash) l.t l.w (words l.s)

abbrev pub decreases-first : goal.decreases-first
decreases-first l = 16 - l.t

abbrev pub invariant-later : goal.invariant-later
invariant-later l = (l.t % 8 ≡ 0) × (l.t ≤ 64) × Done l.block (words l.fn.hash) l.t l.w (words l.s)

abbrev pub decreases-later : goal.decreases-later
decreases-later l = 64 - l.t
