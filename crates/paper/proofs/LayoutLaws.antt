-- The tables' bytes of the paper's lists of rows and blocks, and when lent bytes are those.
use Rattle.std.specs.Prelude.{◌≡◌, List, ◌++◌, map, ℕ, ◌≤◌, ◌<◌, ◌+◌, length}
use Rattle.std.proofs.Math.Path.{refl}
use Rattle.std.proofs.Common.{subst}
use Rattle.tables.specs.Records.{address_table, block_table, free_row}
use Rattle.paper.specs.Cache.{Numbers, AddressRow, BlockRow, Box, Counters}
use Rattle.paper.specs.KeyedLaws.{All}
use Rattle.paper.specs.Engine.{Fixed, labelled}
use Rattle.paper.specs.Lent.{Lent, join, held_row, used_row, lent_of, box_in}
use Rattle.paper.specs.Sound.{Sound}
use Rattle.paper.specs.RowBytes.{Bytes}
use Rattle.paper.specs.LentLaws.{Passes}
use Rattle.paper.proofs.LentLaws.{free-below, used-below, block-count, passes-sound}
use Rattle.paper.proofs.LentForth.{lent-forth}
use Rattle.paper.specs.Layout.{Addrs, Blocks, Parts, addresses_of, blocks_of}

-- what a sound box writes is so
module _ (N : Numbers) (s : Box (Fixed 32) (Fixed N.B)) (k : Counters) (h : Sound (labelled N) N s) where
  pub sound-addrs : N.P ≤ 65536 → Addrs N.P N.m (lent_of N s k).n (lent_of N s k).addresses s.rows
  unfolding lent_of addresses_of
  sound-addrs P1 = record { count = refl; few = h.few; below = h.below; small = P1; is = refl }

  pub sound-blocks : N.d ≤ 256 → Blocks N.d (lent_of N s k).blocks s.free s.used
  unfolding lent_of blocks_of
  sound-blocks d1 = record { count = block-count N s h; free-below = free-below N s h; used-below = used-below N s h; small = d1; is = refl }

  pub sound-flash : Parts N.B N.d (lent_of N s k).flash s.flash
  unfolding lent_of
  sound-flash = record { count = h.flash_length; is = refl }

  pub sound-disk : Parts N.B N.P (lent_of N s k).disk s.disk
  unfolding lent_of
  sound-disk = record { count = h.disk_length; is = refl }

-- and so are lent bytes that pass, for the box in them
module _ (N : Numbers) (t : Lent) (p : Passes N t) (bytes_a : Bytes t.addresses) (bytes_b : Bytes t.blocks) where
  written : lent_of N (box_in N t) t.counters ≡ t
  written = lent-forth N t p.lengths bytes_a bytes_b p.addresses p.blocks

  sound : Sound (labelled N) N (box_in N t)
  sound = passes-sound N t p

  pub passes-addrs : N.P ≤ 65536 → Addrs N.P N.m t.n t.addresses (box_in N t).rows
  passes-addrs P1 = subst (λ x. Addrs N.P N.m x.n x.addresses (box_in N t).rows) written (sound-addrs N (box_in N t) t.counters sound P1)

  pub passes-blocks : N.d ≤ 256 → Blocks N.d t.blocks (box_in N t).free (box_in N t).used
  passes-blocks d1 = subst (λ x. Blocks N.d x.blocks (box_in N t).free (box_in N t).used) written (sound-blocks N (box_in N t) t.counters sound d1)

  pub passes-flash : Parts N.B N.d t.flash (box_in N t).flash
  passes-flash = subst (λ x. Parts N.B N.d x.flash (box_in N t).flash) written (sound-flash N (box_in N t) t.counters sound)

  pub passes-disk : Parts N.B N.P t.disk (box_in N t).disk
  passes-disk = subst (λ x. Parts N.B N.P x.disk (box_in N t).disk) written (sound-disk N (box_in N t) t.counters sound)
