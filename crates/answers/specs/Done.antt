-- What the code gives back, as the definition says it. Assumes nothing.
use Rattle.std.specs.Prelude.{List, ℕ}
use Rattle.parts.specs.declared.BoxRecord.{BoxRecord}
use Rattle.refusals.specs.Given.{counters_of, lent}
use Rattle.policy.specs.Contract.{answer_of}
use Rattle.policy.specs.declared.Answered.{Answered}
use Rattle.outcome.specs.declared.Outcome.{Outcome}
use Rattle.paper.specs.Cache.{Numbers}
use Rattle.answers.specs.Replay.{Done}

-- what a call of the code answers, and what is lent after it
abbrev pub done_of : Outcome Answered BoxRecord → (disk flash addresses blocks : List ℕ) → Done
done_of r disk flash addresses blocks
    = record { answer = answer_of r.answer; lent = lent r.box_record disk flash addresses blocks (counters_of r.counters) }

-- the box record of a box's numbers, label and limit and its n
abbrev pub record_of : Numbers → ℕ → BoxRecord
record_of N n = record { size = N.B; blocks = N.P; rows = N.m; slots = N.d; held = n; label = N.label; limit = N.t }
