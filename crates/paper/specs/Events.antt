-- Lists of calls on paper, each with the word whether it is refused: the form in which the laws are proved.
-- Assumes nothing.
use Rattle.std.specs.Prelude.{◌≡◌, Bool, false, cond, List, [], ◌∷◌, ◌++◌}
use Rattle.std.proofs.Math.Option.{Option, none, some}
use Rattle.paper.specs.Cache.{Numbers, Hashing, Box, Call, read, flush, serve}
use Rattle.paper.specs.Machines.{plain_next, plain_block, written_by, Read, Compared, seen_in}

-- A call of a list, and whether it is refused
pub record Event (X : Type 0) : Type 0 where
  pub call : Call X
  pub refused : Bool

-- what is compared after each read of a list
unfoldable pub cache_trace : {F X : Type 0} (H : Hashing F X) → Numbers → Box F X → List Read → List (Compared F)
cache_trace H N s [] = []
cache_trace H N s (e ∷ es) =
    cond e.refused
    (seen_in s none ∷ cache_trace H N s es)
    (seen_in (serve H N s (read e.address)).box (some (serve H N s (read e.address)).word)
    ∷ cache_trace H N (serve H N s (read e.address)).box es)
