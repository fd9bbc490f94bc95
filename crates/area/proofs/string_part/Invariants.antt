-- The bytes from i on are those of the strings that are left. Assumes nothing.
use Rattle.std.specs.Prelude.{◌≡◌, drop}
use Rattle.area.specs.ByteLaws.{bytes_from}
use Rattle.area.proofs.string_part.Given as goal

abbrev pub invariant-loop-s : goal.invariant-loop-s
invariant-loop-s l = bytes_from l.strings l.initial.i ≡ bytes_from (drop l.s-index l.strings) l.i
