-- After every call the tables have the fingerprints of the plain disk's blocks, and what it returns is the plain disk's.
use Rattle.std.specs.Prelude.{◌≡◌, true, false, not, ◌&&◌, cond, List, [], ◌∷◌, ◌⊎◌, ℕ, zero, suc, ◌≤◌, ◌<◌, ◌-◌, length, set, take}
use Rattle.std.proofs.Math.Path.{refl, sym, ap, subst}
use Rattle.std.proofs.Common.{ap₂, ◌∙◌, true≢false, arith, ext_get_or}
use Rattle.std.proofs.Math.Bool.{and-false}
use Rattle.std.proofs.Math.Logic.{inl, inr}
use Rattle.std.proofs.Math.Option.{Option, none, some, none-ne-some, some-ne-none, some-injective}
use Rattle.std.proofs.Math.Dec.{eqb}
use Rattle.std.proofs.Math.ListN.{length-set}
use Rattle.std.proofs.lemmas.Bool.{not-false}
use Rattle.paper.specs.Cache.{Numbers, Hashing, AddressRow, BlockRow, Box, BlockRows, held, row_of, without_address, known, cached, block_of, copied, Call}
use Rattle.paper.specs.Cache.{read, through, back, invalidate, look, flush, Within, on_disk, row_with_block, if_cached, answer, read_as, write_through}
use Rattle.paper.specs.Cache.{seat_in, dirtied, back_request, write_back, dropped, write_invalidate, look_as, flushed, excess}
use Rattle.paper.specs.Cache.{step, reach, partly, clean_to, serve, fresh, freed}
use Rattle.paper.specs.KeyedLaws.{by-test, either, clash, or-both, or-false-left, or-false-right, and_left, eqb→≡, eqb_swap, All, Distinct}
use Rattle.paper.specs.KeyedLaws.{all_left, all_right, all_map, all_without, all_both, find-some, find_none}
use Rattle.paper.specs.Machines.{plain_next, plain_block, written_by}
use Rattle.paper.specs.Events.{Event}
use Rattle.paper.specs.Sound.{Sound, DirtyCached}
use Rattle.paper.specs.Faithful.{any, dirty_at}

-- an event whose call is served has an address of the disk's
abbrev pub ServedWithin : {X : Type 0} → ℕ → Event X → Type 0
ServedWithin P e = e.refused ≡ false → Within P e.call
