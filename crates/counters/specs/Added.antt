-- The counters with a call's own counts. Assumes nothing.
use Rattle.std.specs.Prelude.{ℕ, ◌+◌}
use Rattle.counters.specs.declared.Counters.{Counters}

abbrev pub added : Counters → ℕ → ℕ → ℕ → ℕ → Counters
added c r h f p = record { reads = c.reads + r; hits = c.hits + h; flash = c.flash + f; primary = c.primary + p }
