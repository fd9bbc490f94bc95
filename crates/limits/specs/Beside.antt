-- A box under a limit beside one under another: what a policy must promise, and that then every call of the two answers the same and they stay beside each
-- other. The two show the same blocks, with no premise on fingerprints, and are the same but for dirty rows, the disk and seats (bare with `false`).
use Rattle.std.specs.Prelude.{◌≡◌, Bool, true, not, ◌||◌, cond, ℕ, zero, suc, ◌<◌, length, set}
use Rattle.std.proofs.Math.Path.{refl, sym, ap, subst}
use Rattle.std.proofs.Common.{◌∙◌, true≢false, length-set}
use Rattle.std.proofs.Math.Bool.{false}
use mathlib.Core.List.{List, [], ◌∷◌}
use Rattle.std.proofs.Math.Option.{Option, none, some, map, none-ne-some, some-ne-none, some-injective}
use Rattle.std.proofs.Math.Dec.{eqb}
use Rattle.paper.specs.Cache.{Numbers, Seat, Hashing, AddressRow, BlockRow, Box, BlockRows, Request, Word, hit, miss, from_cache, from_disk, done, Outcome, row_of}
use Rattle.paper.specs.Cache.{seat_in, without_address, known, cached, block_of, reach, clean_to, freed, Call, read, through, back, invalidate, look, flush, Within}
use Rattle.paper.specs.Cache.{row_with_block, answer, same_or_new, on_disk, dirtied, back_request, dropped, write_invalidate, look_as, flushed, excess, limited}
use Rattle.paper.specs.Cache.{partly, no_counts}
use Rattle.paper.specs.KeyedLaws.{by-test, clash, or-false-left, or-false-right, eqb→≡, eqb_swap, All, all_map, all_both, find-some}
use Rattle.paper.specs.Sound.{DirtyCached}
use Rattle.paper.proofs.SoundLaws.{all_known}
use Rattle.paper.proofs.Orphans.{apart}
use Rattle.paper.specs.Faithful.{any}
use Rattle.paper.proofs.FaithfulLaws.{at, at_set_same, at_set_other, dirty-without, CopyTrue, all-without-strict}
use Rattle.paper.proofs.PlainDiskLaws.{if_cached-some}
use Rattle.paper.specs.Batch.{seen, first_read, source, added}
use Rattle.arc.proofs.PlainRowsLaws.{row-clean, miss-clean}
use Rattle.arc.specs.Policy.{Policy, Served, answered_by, read_by, through_by, back_by, serve_by}
use Rattle.arc.proofs.PromiseLaws.{Promise, inv-on_disk, inv-read, inv-serve}
use Rattle.arc.specs.Folder.{FolderBy, folder_read, folder}
use Rattle.blind.specs.Blind.{no_seat, bare, bares, bare_box, bare_request, kept_outcome, bare_outcome, bare_ran, bare_served, bare_folder, Blind}
use Rattle.blind.specs.Blind.{row-bare, row-with-block-bare, invalidate-bare}
use Rattle.limits.specs.Sees.{Everywhere, But}

-- the policy under another limit: it promises the same
abbrev pub capped : {F X S : Type 0} → ℕ → Policy F X S → Policy F X S
capped n pol = record { run = pol.run; leave = pol.leave; limit = n }
