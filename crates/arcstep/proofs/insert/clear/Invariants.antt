-- Each turn leaves what is to be reached as it was. Assumes nothing.
use mathlib.Core.Path.{◌≡◌}
use Prim.Native.Nat.{◌-◌}
use lib.ListN.{length}
use Rattle.arcstep.specs.Runs.{Within, Runs, Less}
use Rattle.arcstep.proofs.Clearing.{Going, turns}
use Rattle.arcstep.proofs.insert.clear.Given as goal

abbrev pub invariant-loop-i : goal.invariant-loop-i
invariant-loop-i l = record {
  less : Less l.c.running l.initial.c.running;
  disk : length l.disk ≡ length l.initial.disk;
  addrs : length l.addrs ≡ length l.initial.addrs;
  lists : length l.lists ≡ length l.initial.lists;
  going : (R : Within l.b) → Runs l.b l.initial.c.running l.initial.disk l.flash l.initial.addrs l.blocks l.initial.lists R
      → Going l.b l.c l.disk l.flash l.addrs l.blocks l.lists l.initial.c.running.sizes.cached (turns l.initial.c.running - l._i)
      (turns l.initial.c.running) l.b2 R;
}
