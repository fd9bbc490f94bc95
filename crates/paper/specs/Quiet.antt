-- Lists with no write: looks and flushes among the reads change nothing, so that what is compared after each read is printed D-LRU's there too.
use Rattle.std.specs.Prelude.{◌≡◌, Bool, true, false, cond, ℕ, ◌≤◌, ◌<◌, length, take}
use Rattle.std.proofs.Math.Path.{refl}
use Rattle.std.proofs.Common.{sym, ap, ◌∙◌, subst, inl}
use mathlib.Core.List.{List, [], ◌∷◌}
use Rattle.std.proofs.Math.Option.{Option, none, some, map, some-ne-none}
use Rattle.paper.specs.Cache.{Numbers, Hashing, AddressRow, Box, Call, read, through, back, invalidate, look, flush, about, before, Below, Within, serve}
use Rattle.paper.specs.Cache.{fresh}
use Rattle.paper.specs.Cache.{look_as, flushed, reach, row_with_block}
use Rattle.paper.specs.KeyedLaws.{All, by-test}
use Rattle.paper.specs.Machines.{content_of, NoWrite, Read, Compared, if_read, seen_in, printed_trace}
use Rattle.paper.specs.Events.{Event, cache_trace}
use Rattle.paper.specs.Sound.{Sound}
use Rattle.paper.specs.PlainDisk.{ServedWithin}

abbrev pub reads_of : {X : Type 0} → List (Event X) → List Read
reads_of [] = []
reads_of (e ∷ es) = if_read e.call (λ a. record { address = a; refused = e.refused }) (reads_of es)

-- the box and the answer after each read of a list of calls
unfoldable pub trace_of : {F X : Type 0} (H : Hashing F X) → Numbers → Box F X → List (Event X) → List (Compared F)
trace_of H N s [] = []
trace_of H N s (e ∷ es) =
    let s' = cond e.refused s (serve H N s e.call).box in
    if_read e.call (λ a. seen_in s' (cond e.refused none (some (serve H N s e.call).word))) (trace_of H N s' es)
