-- Worked states of D-ARC: each a list of calls, its answers, and what is left, lists and p included; a table and one theorem, by computation.
-- Fingerprints and blocks are labels, as in the paper's Worked: the content k is the number k, and it is its own fingerprint. Assumes nothing.
use Rattle.std.specs.Prelude.{◌≡◌, refl, true, false, List, [], ◌∷◌, map, ℕ, ◌+◌, length, replicate}
use Rattle.paper.specs.Cache.{AddressRow, Box, Outcome, newest, block_row, before, Call, read, look, flush, fresh}
use Rattle.paper.specs.Cache.{Word, hit, miss, same_block, new_block, from_cache, from_disk, done}
use Rattle.paper.specs.Cache.{freed, oldest_unknown, taken_used, stored, if_cached, answer, dropped, write_invalidate, look_as, flushed}
use Rattle.paper.specs.Worked.{labels, Said}
use Rattle.paper.specs.Cache.{no_counts}
use Rattle.paper.specs.Batch.{start, blocks_in}
use Rattle.arc.specs.Policy.{serve_by, answered_by, read_by, through_by, back_by}
use Rattle.arc.specs.Folder.{FolderBy, folder_read, folder}
use Rattle.arc.specs.Arc.{Sizes, Lists, no_lists, arc, list_of, new_p, takes_t1, top_rows, row_out, evicted, room_in_b, replace, manage, check, has_row}
use Rattle.arc.specs.Arc.{cleared, taken_by, stored_in, block_newest, inserted, parted, checked, to_t2, joined, arc_step_as, arc_step}
use Rattle.arc.specs.ArcWorked.{folders, play, play_folder, table}

pub worked-states : map play table ≡ map (λ e. e.seen) table
unfolding serve_by answered_by read_by through_by back_by freed oldest_unknown taken_used stored if_cached answer dropped write_invalidate look_as flushed list_of new_p
    takes_t1 top_rows row_out evicted room_in_b replace manage check has_row cleared taken_by stored_in block_newest inserted parted checked to_t2 joined arc_step_as
    arc_step
worked-states = refl

pub worked-folders : map play_folder folders ≡ map (λ e. e.seen) folders
unfolding folder folder_read answered_by read_by freed oldest_unknown taken_used stored if_cached answer list_of new_p takes_t1 top_rows row_out evicted room_in_b replace
    manage check has_row cleared taken_by stored_in block_newest inserted parted checked to_t2 joined arc_step_as arc_step
worked-folders = refl
