-- The calls of a box that runs a policy: D-LRU (the paper's Cache) or D-ARC (Arc). A policy has a state of its own beside the tables.
-- Assumes nothing.
use Rattle.std.specs.Prelude.{◌≡◌, false, List, [], ◌∷◌, ◌++◌, ℕ, get_or}
use Rattle.std.proofs.Math.Option.{Option, none, some}
use Rattle.paper.specs.Cache.{Numbers, Hashing, Seat, AddressRow, Box, Request, Stepped, Outcome, Word, hit, miss, row_of, seat_in, block_of, step}
use Rattle.paper.specs.Cache.{Call, read, through, back, invalidate, look, flush, row_with_block, answer, same_or_new, on_disk, back_request}
use Rattle.paper.specs.Cache.{write_invalidate, look_as, flushed, limited}
use Rattle.paper.specs.Machines.{plain_next, plain_block, written_by}

-- What a step leaves: the policy's state, the box, and the writes
pub record Ran (F X S : Type 0) : Type 0 where
  pub kept : S
  pub stepped : Stepped F X

-- A policy: its step, what it does where a write invalidate takes an address's row out, and U8's limit, which the calls keep
pub record Policy (F X S : Type 0) : Type 0 where
  pub run : S → Box F X → Request F X → Ran F X S
  pub leave : ℕ → S → S
  pub limit : ℕ

-- What a call leaves and answers
pub record Served (F X S : Type 0) : Type 0 where
  pub kept : S
  pub outcome : Outcome F X

module _ {F X S : Type 0} (H : Hashing F X) (pol : Policy F X S) where
  unfoldable pub answered_by : Word → Option X → ℕ → Ran F X S → Served F X S
  answered_by w b more t = record { kept = t.kept; outcome = answer H w b more t.stepped }

  -- "Read a: if a is held and its fingerprint cached, that block is the answer, a hit; g is the row's own fingerprint, nothing is hashed,
  -- and its dirty value stays. Otherwise a miss: the block is fetched from disk and the row is clean. The step runs in both"
  -- `x` is the block that a miss takes. U7: "reads keep it, a read of an address not held sets 0"
  unfoldable pub read_by : S → Box F X → ℕ → X → Option (AddressRow F) → Served F X S
  read_by k s a x (some r) =
      let b = block_of H r.fingerprint s.used s.flash in
      answered_by hit (some b) 0 (pol.run k s (record { address = a; fingerprint = r.fingerprint; block = b; dirty = r.dirty; seat = r.seat }))
  read_by k s a x none =
      answered_by miss (some x) 0
      (pol.run k s (record { address = a; fingerprint = H.hash x; block = x; dirty = false; seat = seat_in (row_of a s.rows) }))

  -- "Write through: the block goes to disk address a; the step runs, clean."
  unfoldable pub through_by : S → Box F X → ℕ → X → Seat → Served F X S
  through_by k s a b z =
      answered_by (same_or_new H s b) none 1 (pol.run k (on_disk H s a b) (record { address = a; fingerprint = H.hash b; block = b; dirty = false; seat = z }))

  -- "Write back: the step runs, dirty", but that "a write back to a held, clean address with the same fingerprint leaves the row clean". U8: "After the step
  -- of a write back, if more than t rows are dirty, the oldest dirty one is copied to disk and made clean."
  unfoldable pub back_by : S → Box F X → ℕ → X → Seat → Served F X S
  back_by k s a b z =
      let o = answered_by (same_or_new H s b) none 0 (pol.run k s (back_request H s a b z)) in
      record { kept = o.kept; outcome = limited H pol.limit o.outcome }

  -- "All calls exist for it." Write invalidate, look and flush are those of the base; where a row is taken out, its address leaves the policy's state.
  unfoldable pub serve_by : S → Box F X → Call X → Served F X S
  serve_by k s (read a) = read_by k s a (get_or s.disk a H.blank) (row_with_block H s a)
  serve_by k s (through a b z) = through_by k s a b z
  serve_by k s (back a b z) = back_by k s a b z
  serve_by k s (invalidate a b z) = record { kept = pol.leave a k; outcome = write_invalidate H s a b }
  serve_by k s (look a) = record { kept = k; outcome = look_as H s a (row_with_block H s a) }
  serve_by k s (flush n) = record { kept = k; outcome = flushed H n s }

  -- a claim in every state that a list of calls reaches, the first one included; the plain disk beside it is fed the same calls
  unfoldable pub ThroughoutBy : (Q : S → Box F X → List X → Type 0) → S → Box F X → List X → List (Call X) → Type 0
  ThroughoutBy Q k s plain [] = Q k s plain
  ThroughoutBy Q k s plain (c ∷ cs) =
      Q k s plain × (let o = serve_by k s c in ThroughoutBy Q o.kept o.outcome.box (plain_next plain c) cs)

  -- a claim of each call of a list, in the state that it finds
  unfoldable pub EachBy : (Q : S → Box F X → List X → Call X → Type 0) → S → Box F X → List X → List (Call X) → Type 0
  EachBy Q k s plain [] = Unit {0}
  EachBy Q k s plain (c ∷ cs) =
      Q k s plain c × (let o = serve_by k s c in EachBy Q o.kept o.outcome.box (plain_next plain c) cs)

  -- the block that a call returns is the plain disk's
  abbrev pub ReturnsPlain : S → Box F X → List X → Call X → Type 0
  ReturnsPlain k s plain c = (serve_by k s c).outcome.block ≡ plain_block H.blank plain c

  -- after a full flush the disk is the plain disk; m is the most addresses held
  abbrev pub FlushesPlain : ℕ → S → Box F X → List X → Call X → Type 0
  FlushesPlain m k s plain c = c ≡ flush m → (serve_by k s c).outcome.box.disk ≡ plain

-- the blocks that the calls of a list write
unfoldable pub written_in : {X : Type 0} → List (Call X) → List X
written_in [] = []
written_in (c ∷ cs) = written_by c ++ written_in cs

-- D-LRU: it has no state of its own
abbrev pub lru : {F X : Type 0} (H : Hashing F X) → Numbers → Policy F X (Unit {0})
lru H N = record { run = λ k s q. record { kept = k; stepped = step H N.m s q }; leave = λ a k. k; limit = N.t }
