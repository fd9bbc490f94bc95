-- What the definitions and the claims mean: each call by its name, the machines and the claims by example, computed, and the case of reads alone.
-- Assumes nothing.
use Rattle.std.specs.Prelude.{◌≡◌, true, false, ℕ, eqb}
use Rattle.std.proofs.Math.Path.{refl, ap}
use Rattle.std.proofs.Common.{◌∙◌, sym, true≢false, arith}
use Rattle.std.proofs.lemmas.Bool.{false≢true}
use Rattle.std.proofs.Math.Bool.{not}
use mathlib.Core.List.Memᴰ
use mathlib.Core.List.{List, [], ◌∷◌, map}
use Rattle.std.proofs.Math.Option.{Option, none, some}
use Rattle.tables.specs.Records.{bytes2}
use Rattle.paper.specs.KeyedLaws.{All, eqb→≡, eqb-self}
use Rattle.paper.specs.Cache.{Numbers, Hashing, Box, Call, newest, block_row, Word, hit, miss}
use Rattle.paper.specs.Worked.{labels}
use Rattle.paper.specs.Engine.{Fixed, fit, labelled}
use Rattle.paper.specs.Lent.{Lent, Ask, After, opening, calling, refusal, call_of, lent_block, block_after, part_after, box_in, call, opened}
use Rattle.paper.specs.BatchLent.{one}
use Rattle.paper.specs.Machines.{plain_next, plain_block, NoWrite, Read, Compared, seen_in, printed_next, printed_hit, put, printed_trace, content_of}
use Rattle.paper.specs.Machines.{OrphanLaw, TrueFingerprints, NoTwoShare}
use Rattle.paper.specs.Demand3.{next, first_plain, InList, returned, said_word, reads_of, seen_after}

-- ---- reads alone
-- a read as it is asked: its address, and the block lent to it
abbrev pub as_read : (ℕ × List ℕ) → Ask
as_read r = Ask.read r.0 r.1

-- after each read of a list: the held addresses in order, the cached fingerprints in order, and hit or miss
unfoldable pub shown_by : (N : Numbers) → Lent → List (ℕ × List ℕ) → List (Compared (Fixed 32))
shown_by N t [] = []
shown_by N t (r ∷ rs) = seen_in (box_in N (next N t (one (as_read r)))) (said_word (call N t (as_read r)).answer) ∷ shown_by N (next N t (one (as_read r))) rs

-- what printed D-LRU is fed: each read's address, and whether it is refused
unfoldable pub fed_by : (N : Numbers) → Lent → List (ℕ × List ℕ) → List Read
fed_by N t [] = []
fed_by N t (r ∷ rs) = record { address = r.0; refused = not (eqb (refusal N t (calling (as_read r))) 0) } ∷ fed_by N (next N t (one (as_read r))) rs
