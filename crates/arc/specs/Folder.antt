-- U2 over a policy. "One call over a list of addresses fills a buffer of as many blocks.": the call on paper, and the reads done in turn.
-- Assumes nothing.
use Rattle.std.specs.Prelude.{true, not, List, [], ◌∷◌, ℕ}
use Rattle.paper.specs.Cache.{Hashing, read, row_with_block}
use Rattle.paper.specs.Batch.{Batched, seen, first_read, source, added}
use Rattle.arc.specs.Policy.{Policy, Served, read_by, serve_by}

-- What the call leaves after some of its reads: the policy's state, and the rest as in the base
pub record FolderBy (F X S : Type 0) : Type 0 where
  pub kept : S
  pub batched : Batched F X

module _ {F X S : Type 0} (H : Hashing F X) (pol : Policy F X S) where
  -- the outcome of the next read: "a repeat that misses takes the block that its address's first read put in the buffer"
  abbrev pub next_read : FolderBy F X S → ℕ → Served F X S
  next_read t a =
      let b = t.batched in
      read_by H pol t.kept b.box a (source H b.box a (first_read a b.filled)) (row_with_block H b.box a)

  -- "A disk fetch is made for the first read of each distinct address in the list exactly where that read is a miss, and for no other read."
  unfoldable pub folder_read : FolderBy F X S → ℕ → FolderBy F X S
  folder_read t a = record { kept = (next_read t a).kept; batched = added H t.batched a (not (seen a t.batched.filled)) (next_read t a).outcome }

  unfoldable pub folder : FolderBy F X S → List ℕ → FolderBy F X S
  folder t [] = t
  folder t (a ∷ l) = folder (folder_read t a) l

  -- "the reads done in turn": each is a read of its own, and fetches where it misses
  abbrev pub own_read : FolderBy F X S → ℕ → FolderBy F X S
  own_read t a =
      let o = serve_by H pol t.kept t.batched.box (read a) in
      record { kept = o.kept; batched = added H t.batched a true o.outcome }

  unfoldable pub folder_in_turn : FolderBy F X S → List ℕ → FolderBy F X S
  folder_in_turn t [] = t
  folder_in_turn t (a ∷ l) = folder_in_turn (own_read t a) l
