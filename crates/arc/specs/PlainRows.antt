-- Rows, blocks and the plain disk, for any policy's step: what the paper's own proofs of them use.
use Rattle.std.specs.Prelude.{◌≡◌, refl, Bool, true, false, not, ◌&&◌, List, [], ◌∷◌, ◌++◌, ◌⊎◌, ◌≢◌, ℕ, ◌<◌, eqb, length, set}
use Rattle.std.proofs.Common.{sym, ap, ◌∙◌, subst, true≢false, inl, inr, length-set, get_or-set_other}
use Rattle.std.proofs.Math.Option.{Option, none, some, some-injective}
use Rattle.std.proofs.lemmas.Bool.{not-false}
use Rattle.paper.specs.Cache.{Numbers, Hashing, AddressRow, BlockRow, Box, block_row, held, row_of, block_of, row_with_block, dirtied}
use Rattle.paper.specs.KeyedLaws.{by-test, either, clash, or-both, or-false-left, or-false-right, eqb→≡, eqb_swap, All, Distinct, all_append, all_map}
use Rattle.paper.specs.KeyedLaws.{all_both, find-some, find_none}
use Rattle.paper.specs.Sound.{Sound, DirtyCached}
use Rattle.paper.specs.Faithful.{any, dirty_at}
use Rattle.paper.proofs.FaithfulLaws.{at, at_set_same, at_set_other, all-at, all_set, RowTrue, BlockTrue, Faithful, FaithfulBut, row_block}
use Rattle.paper.proofs.PlainDiskLaws.{if_cached-some, if_cached-none}

-- no two different blocks of a set share a fingerprint
abbrev pub Only : {F X : Type 0} (H : Hashing F X) → (X → Type 0) → Type 0
Only {X = X} H In = (b c : X) → In b → In c → H.hash b ≡ H.hash c → b ≡ c
