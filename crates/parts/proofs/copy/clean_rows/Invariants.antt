-- the rows before row i are done: each turn is `part_step`
use mathlib.Core.Path.{◌≡◌, refl, ap, ◌∙◌}
use Prim.Native.Nat.{◌≤◌, ◌-◌}
use native.Mathlib.Omega.{arith}
use lib.ListN.{length}
use Rattle.paper.specs.Cache.{Box, slot_of}
use Rattle.paper.specs.Engine.{Fixed}
use Rattle.parts.specs.Rep.{Rep, Copied, copied_rows, part_box, engine}
use native.Mathlib.Nat.{le_antisymm}
use native.Mathlib.Numerals.{add-one}
use Rattle.parts.proofs.Looped.{rep-part, part_step, part_none, used-part}
use Rattle.parts.proofs.copy.clean_rows.Given as goal

abbrev pub invariant-loop-i : goal.invariant-loop-i
invariant-loop-i l =
    (l.i ≤ l.b.held) × (l.count ≤ l.i) × (length l.disk ≡ length l.initial.disk) × (length l.addrs ≡ length l.initial.addrs) × ((s : Box (Fixed 32) (Fixed l.b.size)) → Rep l.b l.initial.disk l.flash l.initial.addrs l.blocks s → (v : Fixed 32) → v.0 ≡ l.g → slot_of (engine l.b) v s.used ≡ l.slot.0 → ◌≡◌ {A = Copied} (record { count = l.count; disk = l.disk; addrs = l.addrs }) (copied_rows l.b ((engine l.b).same v) s l.i))
