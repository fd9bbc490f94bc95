-- The tables' bytes of the paper's lists of rows and blocks, and when lent bytes are those.
use Rattle.std.specs.Prelude.{◌≡◌, List, ◌++◌, map, ℕ, ◌≤◌, ◌<◌, ◌+◌, length}
use Rattle.std.proofs.Math.Path.{refl}
use Rattle.std.proofs.Common.{subst}
use Rattle.tables.specs.Records.{address_table, block_table, free_row}
use Rattle.paper.specs.Cache.{Numbers, AddressRow, BlockRow, Box, Counters}
use Rattle.paper.specs.KeyedLaws.{All}
use Rattle.paper.specs.Engine.{Fixed, labelled}
use Rattle.paper.specs.Lent.{Lent, join, held_row, used_row, lent_of, box_in}
use Rattle.paper.specs.Sound.{Sound}
use Rattle.paper.specs.RowBytes.{Bytes}
use Rattle.paper.specs.LentLaws.{Passes}

-- the bytes of the two tables
unfoldable pub addresses_of : ℕ → List (AddressRow (Fixed 32)) → List ℕ
addresses_of m rows = address_table m (map held_row rows)

unfoldable pub blocks_of : List ℕ → List (BlockRow (Fixed 32)) → List ℕ
blocks_of free used = block_table (map free_row free ++ map used_row used)

-- lent bytes are those of a list of held rows, of block rows, of c blocks
pub record Addrs (P m n : ℕ) (t : List ℕ) (rows : List (AddressRow (Fixed 32))) : Type 0 where
  pub count : length rows ≡ n
  pub few : n ≤ m
  pub below : All (λ r. r.address < P) rows
  pub small : P ≤ 65536
  pub is : t ≡ addresses_of m rows

pub record Blocks (d : ℕ) (t : List ℕ) (free : List ℕ) (used : List (BlockRow (Fixed 32))) : Type 0 where
  pub count : length free + length used ≡ d
  pub free-below : All (λ k. k < d) free
  pub used-below : All (λ u. u.slot < d) used
  pub small : d ≤ 256
  pub is : t ≡ blocks_of free used

pub record Parts (B c : ℕ) (t : List ℕ) (bs : List (Fixed B)) : Type 0 where
  pub count : length bs ≡ c
  pub is : t ≡ join bs
