-- The byte is byte i of the strings that are left. Assumes nothing.
use Rattle.std.specs.Prelude.{◌≡◌, map, drop, get_or}
use Rattle.tables.specs.Rows.{flat}
use Rattle.area.proofs.string_byte.Given as goal

abbrev pub invariant-loop-s : goal.invariant-loop-s
invariant-loop-s l =
    get_or (flat (map (λ s. s.now) l.strings)) l.initial.i 0 ≡ get_or (flat (map (λ s. s.now) (drop l.s-index l.strings))) l.i 0
