-- What a call is given: the code's types in the paper's words. Assumes nothing.
use Rattle.std.specs.Prelude.{List, ℕ}
use Rattle.counters.specs.declared.Counters as Code
use Rattle.parts.specs.declared.BoxRecord.{BoxRecord}
use Rattle.paper.specs.Cache.{Counters}
use Rattle.paper.specs.Lent.{Lent}

abbrev pub counters_of : Code.Counters → Counters
counters_of c = record { reads = c.reads; hits = c.hits; flash_writes = c.flash; primary_writes = c.primary }

-- what is lent: the box record's n, the buffers and the counters
abbrev pub lent : BoxRecord → (disk flash addresses blocks : List ℕ) → Counters → Lent
lent b disk flash addresses blocks k = record { n = b.held; disk = disk; flash = flash; addresses = addresses; blocks = blocks; counters = k }
