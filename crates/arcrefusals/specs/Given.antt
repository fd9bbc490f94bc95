-- What a call of a D-ARC box is given: the code's record in the paper's words. Assumes nothing.
use Rattle.std.specs.Prelude.{List, ℕ}
use Rattle.paper.specs.Cache.{Counters}
use Rattle.arc.specs.Arc.{Sizes, m_of}
use Rattle.arc.specs.ArcLent.{ArcLent}
use Rattle.arclists.specs.Holding.{rec_of}
use Rattle.parts.specs.declared.BoxRecord.{BoxRecord}
use Rattle.refusals.specs.Given.{lent}
use Rattle.arcrefusals.specs.declared.ArcRecord.{ArcRecord}

-- the numbers of the box
abbrev pub sizes_of : ArcRecord → Sizes
sizes_of a = record { B = a.size; P = a.blocks; C = a.sizes.cached; X = a.sizes.extra; label = a.label; t = a.limit }

-- "Its own opening call takes C (cached blocks, its d) and X (extra addresses); its m is 2 × C + X.": the base's record
abbrev pub base_of : ArcRecord → BoxRecord
base_of a =
    record { size = a.size; blocks = a.blocks; rows = m_of (sizes_of a); slots = a.sizes.cached; held = a.held; label = a.label; limit = a.limit }

-- "Beside the tables .. lie its lists": what is lent
abbrev pub arc_lent : ArcRecord → (disk flash addresses blocks lists : List ℕ) → Counters → ArcLent
arc_lent a disk flash addresses blocks lists k =
    record { base = lent (base_of a) disk flash addresses blocks k; sizes = rec_of a.sizes; lists = lists }
