-- Demand 3, proved: for every list of calls from a fresh box over any bytes.
use Rattle.std.specs.Prelude.{◌≡◌, Bool, true, false, not, ◌&&◌, ◌||◌, ℕ, ◌<◌, ◌*◌, length, take, drop}
use Rattle.std.proofs.Math.Path.{refl, sym, ap, ap₂, subst, subst₂}
use Rattle.std.proofs.Common.{◌∙◌, inl, arith, take-append-drop, eqb-true, le-ltb}
use Rattle.std.proofs.lemmas.Bool.{false≢true, eqb-false, not-false}
use Rattle.std.proofs.Math.Bool.{cond}
use mathlib.Core.List.{List, [], ◌∷◌, ◌++◌, map, append-nil, Memᴰ}
use Rattle.std.proofs.Math.Option.{Option, none, some}
use Rattle.std.proofs.Math.Dec.{eqb}
use Rattle.tables.specs.Records.{address_table, block_table, free_row, slots_from, fresh_addresses, fresh_blocks}
use Rattle.paper.specs.Cache as Paper
use Rattle.paper.specs.Cache.{Numbers, Hashing, Box, Counters, dirty_rows, no_counts}
use Rattle.paper.specs.KeyedLaws.{All, all_left, all_right, all_map, by-test}
use Rattle.paper.specs.Engine.{Fixed, labelled}
use Rattle.paper.specs.Lent.{Lent, Ask, opening, calling, call_of, lent_block, address_of, wrong_buffers, wrong_block, other_length, outside, counts}
use Rattle.paper.specs.Lent.{over, unfit, limit_outside, over_limit, FewDirty, refusal}
use Rattle.paper.specs.Lent.{served, call, box_in, lent_of, join, split, fresh, with_counters, opened, block_after, part_after}
use Rattle.paper.specs.Batch.{Batched, start}
use Rattle.paper.specs.BatchLent.{Asking, one, many, report, recount, bad_count, any_outside, batch_refusal, batched_from, served_batch, call_batch}
use Rattle.paper.specs.Machines.{plain_next, plain_block, written_by, NoWrite, Compared, if_read, seen_in, printed_trace, content_of, OrphanLaw}
use Rattle.paper.specs.Machines.{TrueFingerprints}
use Rattle.paper.specs.Demand3.{number_of, next, plain_step, Throughout, EachServed, InList, refusals, written_in, written, ShowsPlain, AsReads}
use Rattle.paper.specs.Demand3.{OrphansWithin}
use Rattle.paper.specs.Demand3.{FlushesWhole, CleanIsPlain, reads_of, said_word, seen_after, first_plain, Demand3}
use Rattle.paper.specs.Events.{Event}
use Rattle.paper.specs.Sound.{Sound}
use Rattle.paper.specs.PlainDisk.{ServedWithin}
use Rattle.paper.specs.Quiet.{trace_of}
use Rattle.paper.specs.LentLaws.{Lengths, Passes}
use Rattle.paper.specs.CallLaws.{outcome, In64}
use Rattle.paper.specs.Reports.{width, report_refusal}

-- lent memory that some sound box writes
abbrev pub Written : (N : Numbers) → Lent → Type 0
Written N t = (s : Box (Fixed 32) (Fixed N.B)) × (k : Counters) × Sound (labelled N) N s × (t ≡ lent_of N s k)

-- the counters that a call brings are of 64 bits
abbrev pub Brings64 : Asking → Type 0
Brings64 (one q) = Unit {0}
Brings64 (many l buffer) = Unit {0}
Brings64 (report w lent) = Unit {0}
Brings64 (recount k) = In64 k
