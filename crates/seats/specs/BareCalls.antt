-- The calls and the folder read over a policy that is blind to seats alone (`true`: the rest is kept): from a box with every seat 0, carrying 0, each is itself
-- but for the seats.
-- Assumes nothing.
use Rattle.std.specs.Prelude.{◌≡◌, false, not, ◌&&◌, cond, ℕ, zero, suc, ◌+◌, ltb, get_or, take}
use Rattle.std.proofs.Math.Path.{refl, ap}
use Rattle.std.proofs.Common.{ap₂, ◌∙◌}
use Rattle.std.proofs.Math.Bool.{true}
use mathlib.Core.List.{List, [], ◌∷◌}
use Rattle.std.proofs.Math.Option.{Option, none, some, map}
use Rattle.paper.specs.Cache.{Hashing, AddressRow, Box, Request, newest, row_of, seat_in, block_of, copied, copies, dirty_rows}
use Rattle.paper.specs.Cache.{reach, partly, clean_to, Call, read, through, back, invalidate, look, flush, Word, hit, miss, done, Outcome, row_with_block, answer}
use Rattle.paper.specs.Cache.{same_or_new, on_disk, dirtied, back_request, look_as, flushed, excess, limited, Counters, counted}
use Rattle.paper.specs.Batch.{seen, first_read, source, added}
use Rattle.arc.specs.Policy.{Ran, Policy, Served, answered_by, read_by, through_by, back_by, serve_by}
use Rattle.arc.specs.Folder.{FolderBy, next_read, folder_read, folder}
use Rattle.blind.specs.Blind.{no_seat, bare, bares, bare_box, bare_request, bare_outcome, bare_batched, bare_served, bare_folder, Blind, row-bare}
use Rattle.blind.specs.Blind.{copied-bare, copies-bare, row-with-block-bare, invalidate-bare}

-- calls but for the seat numbers that they carry
abbrev pub bare_call : {X : Type 0} → Call X → Call X
bare_call (read a) = read a
bare_call (through a b z) = through a b no_seat
bare_call (back a b z) = back a b no_seat
bare_call (invalidate a b z) = invalidate a b no_seat
bare_call (look a) = look a
bare_call (flush k) = flush k
