-- The calls over a policy are, for D-LRU, the paper's own.
use Rattle.std.specs.Prelude.{◌≡◌, ℕ, get_or}
use Rattle.std.proofs.Math.Path.{refl}
use Rattle.std.proofs.Math.Option.{Option, none, some}
use Rattle.paper.specs.Cache.{Numbers, Hashing, AddressRow, Box, Call, read, through, back, invalidate, look, flush}
use Rattle.paper.specs.Cache.{row_with_block, read_as, write_through, write_back, serve}
use Rattle.arc.specs.Policy.{serve_by, read_by, through_by, back_by, answered_by, lru}

module _ {F X : Type 0} (H : Hashing F X) (N : Numbers) (s : Box F X) where
  pub lru-reads : (a : ℕ) (x : X) (o : Option (AddressRow F)) → (read_by H (lru H N) tt s a x o).outcome ≡ read_as H N.m s a x o
  unfolding read_by answered_by read_as
  lru-reads a x (some r) = refl
  lru-reads a x none = refl

  -- every call of a D-LRU box, over its policy, is the call of document 01 with its amendments
  pub lru-serves : (c : Call X) → (serve_by H (lru H N) tt s c).outcome ≡ serve H N s c
  unfolding serve_by through_by back_by answered_by serve write_through write_back
  lru-serves (read a) = lru-reads a (get_or s.disk a H.blank) (row_with_block H s a)
  lru-serves (through a b z) = refl
  lru-serves (back a b z) = refl
  lru-serves (invalidate a b z) = refl
  lru-serves (look a) = refl
  lru-serves (flush k) = refl
