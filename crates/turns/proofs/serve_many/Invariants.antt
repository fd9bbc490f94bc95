-- One turn more. Assumes nothing.
use Rattle.std.specs.Prelude.{take}
use Rattle.paper.specs.Cache.{Box, Counters}
use Rattle.paper.specs.Engine.{Fixed}
use Rattle.paper.specs.Batch.{batch, start}
use Rattle.parts.specs.Rep.{numbers_of, Rep, engine}
use Rattle.step.specs.Steps.{Sure}
use Rattle.turns.specs.Turns.{Turned}
use Rattle.turns.proofs.serve_many.Given as goal

abbrev pub invariant-loop-k : goal.invariant-loop-k
invariant-loop-k l =
    (s : Box (Fixed 32) (Fixed l.b.size)) (z : Counters) → Rep l.b l.initial.disk l.initial.flash l.initial.addrs l.initial.blocks s → Sure l.b s
    → Turned l.b (take l.k l.asked) z (batch (engine l.b) (numbers_of l.b) (start s z) (take l.k l.asked)) l.t l.disk l.flash l.addrs l.blocks l.buffer
