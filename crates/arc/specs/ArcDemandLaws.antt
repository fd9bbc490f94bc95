-- Demand 3 for D-ARC boxes, proved: for every list of calls from a fresh box over any bytes.
use Rattle.std.specs.Prelude.{◌≡◌, false, not, ◌&&◌, ◌||◌, ◌≢◌, ℕ, ◌+◌, ◌-◌, ◌*◌, ◌^◌, ◌≤◌, ◌<◌, leb, ltb}
use Rattle.std.proofs.Math.Path.{refl, sym, ap, ap₂, subst, subst₂}
use Rattle.std.proofs.Common.{◌∙◌, true≢false}
use Rattle.std.proofs.Math.Bool.{cond}
use mathlib.Core.List.{List, [], ◌∷◌, ◌++◌, map, append-nil, Memᴰ}
use Rattle.std.proofs.Math.Option.{Option, none, some}
use native.Mathlib.Omega.{arith}
use Rattle.std.proofs.Math.Dec.{eqb}
use Rattle.std.proofs.Math.ListN.{length, length-append}
use borrow.Author.Tests.{eqb-true, eqb-false, eq-eqb, leb-true, leb-false, ltb-false, le-ltb, ne_eqb, not-false}
use Rattle.tables.specs.Rows.{zeros}
use Rattle.tables.specs.ShiftLaws.{length-zeros}
use Rattle.tables.specs.Records.{address_table, block_table, free_row, slots_from, fresh_addresses, fresh_blocks}
use Rattle.tables.specs.Unsound.{elem, addresses_unsound, dirty_uncached}
use Rattle.paper.specs.Cache as Paper
use Rattle.paper.specs.Cache.{Numbers, Hashing, Box, Below, Within, dirty_rows, row_with_block, no_counts, Counters, counted, is_read, is_hit}
use Rattle.paper.specs.KeyedLaws.{All, by-test, all_left, all_right, all_map, or-false-left, or-false-right, or-both, and_left, and_right}
use Rattle.paper.specs.Engine.{Fixed, labelled}
use Rattle.paper.specs.Lent as Base
use Rattle.paper.specs.Lent.{Ask, opening, calling, call_of, address_of, lent_block, between, other_length, wrong_buffers, wrong_block, outside, over}
use Rattle.paper.specs.Lent.{limit_outside, over_limit, FewDirty, counts, box_in, lent_of, block_after, part_after, refused, join, split}
use Rattle.paper.specs.Machines.{plain_next, plain_block, written_by, TrueFingerprints}
use Rattle.paper.proofs.FaithfulLaws.{at, BlockTrue, Faithful}
use Rattle.paper.proofs.PlainDiskLaws.{clean-is-plain}
use Rattle.paper.proofs.FewWrites.{one-if-le, few-by}
use Rattle.paper.proofs.Parts.{length-split, join-split}
use Rattle.hash.specs.LastChunk.{Size}
use Rattle.paper.specs.LentLaws.{Lengths, Passes}
use Rattle.paper.proofs.LentLaws.{right-lengths, counters-box, counters-pass, passes-sound, sound-passes, lent_back}
use Rattle.paper.specs.CallLaws.{Grown, In64}
use Rattle.paper.proofs.CallLaws.{seven, about-call, not-over}
use Rattle.paper.specs.Batch.{start, first_read, source, blocks_in}
use Rattle.paper.specs.BatchLent as Folders
use Rattle.paper.specs.BatchLent.{Asking, one, many, report, recount, bad_count, any_outside}
use Rattle.paper.specs.BatchLaws.{GrownBy}
use Rattle.paper.specs.Reports as Reports
use Rattle.arc.specs.Policy.{Served, serve_by}
use Rattle.arc.specs.PlainRows.{Only}
use Rattle.arc.specs.Arc.{Sizes, base_numbers, m_of, Lists, no_lists, arc}
use Rattle.arc.specs.ArcStep.{ArcSound}
use Rattle.arc.specs.Folder.{FolderBy, next_read, folder_read, folder, own_read, folder_in_turn}
use Rattle.arc.specs.ArcLent.{ArcLent, word_bytes, end_to_end, list_bytes, list_record, unfit_arc, lists_unsound, top_uncached, tops_in, wrong_arc_buffers}
use Rattle.arc.specs.ArcLent.{arc_refusal, arc_lent_of, arc_served, arc_call, arc_opened, no_sizes}
use Rattle.arc.specs.ArcFolder.{folder_start, folder_from, folder_lent, arc_folder_refusal, arc_served_folder, arc_folder_call, arc_served_in_turn}
use Rattle.arc.specs.ArcReports.{arc_report_refusal}
use Rattle.arc.specs.ArcDemand.{lists_of, box_of, disk_of, arc_next, arc_plain, ArcThroughout, ArcEachServed, ArcInList, arc_number, arc_refusals}
use Rattle.arc.specs.ArcDemand.{arc_writes, arc_written, ArcShows, ArcAsReads, ArcFlushes, ArcCleanIsPlain, ArcStateLaw, ArcDemand}

-- numbers that pass 11
pub record ArcFits (Z : Sizes) : Type 0 where
  pub B-size : Size Z.B
  pub P-most : Z.P ≤ 65536
  pub C-least : 1 ≤ Z.C
  pub C-most : Z.C ≤ 256
  pub m-most : m_of Z ≤ 1024
