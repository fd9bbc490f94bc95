-- the rows before row i are done, and no more than k of them were dirty: each turn is `part_step`
use mathlib.Core.Path.{◌≡◌, refl, sym, ap, ◌∙◌}
use mathlib.Core.Bool.{true}
use mathlib.Core.List.{List}
use Prim.Native.Nat.{ℕ, ◌≤◌, ◌<◌, ◌-◌}
use native.Mathlib.Omega.{arith}
use native.Mathlib.Nat.{le_antisymm}
use native.Mathlib.Numerals.{add-one}
use lib.ListN.{length, take}
use Rattle.paper.specs.Cache.{Box, dirty_rows, reach}
use Rattle.paper.specs.Engine.{Fixed}
use Rattle.paper.proofs.PartlyLaws.{reach-le, reach-more, reach-stop}
use Rattle.parts.specs.declared.BoxRecord.{BoxRecord}
use Rattle.parts.specs.Rep.{Rep, Copied, copied_rows, part_box, engine}
use Rattle.parts.proofs.Looped.{rep-part, part_step, part_none}
use Rattle.parts.proofs.copy.flush_rows.Given as goal

abbrev pub invariant-loop-i : goal.invariant-loop-i
invariant-loop-i l =
    (l.i ≤ l.b.held) × (l.count ≤ l.i) × (length l.disk ≡ length l.initial.disk) × (length l.addrs ≡ length l.initial.addrs)
    × ((s : Box (Fixed 32) (Fixed l.b.size)) → Rep l.b l.initial.disk l.flash l.initial.addrs l.blocks s
    → ◌≡◌ {A = Copied} (record { count = l.count; disk = l.disk; addrs = l.addrs }) (copied_rows l.b (λ f. true) s l.i))
    × ((s : Box (Fixed 32) (Fixed l.b.size)) → Rep l.b l.initial.disk l.flash l.initial.addrs l.blocks s → l.i ≤ reach (engine l.b) l.k s.rows) × (l.count ≤ l.k)
