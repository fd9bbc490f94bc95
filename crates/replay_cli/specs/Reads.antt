-- A run of the program over what it read, the newest read first. Assumes nothing.
use Rattle.std.specs.Prelude.{◌≡◌, Bool, true, ◌&&◌, List, [], ◌∷◌, ◌++◌, ℕ, zero, suc, ◌-◌, ◌^◌, ◌≤◌, ltb, leb, length, take, get_or}
use Rattle.answers.specs.Replay.{replay}
use Rattle.session.specs.Bytewise.{stage_number}
use Rattle.session.specs.Memory.{Memory, FedMemory, fed, ended}
use Rattle.replay.specs.Pieces.{text_of}
use Rattle.replay_cli.specs.Chunks.{fed_first}

-- a read: the buffer that it filled, and the count that it gave
pub record Reading : Type 0 where
  pub buffer : List ℕ
  pub count : ℕ

-- the bytes that were read, in order: of each read as many as it counts, from the start of its buffer
abbrev pub input : List Reading → List ℕ
input [] = []
input (r ∷ rs) = input rs ++ take r.count r.buffer

-- the memory after some reads
abbrev pub after : Memory → List Reading → Memory
after M [] = M
after M (r ∷ rs) = fed_first r.buffer r.count (after M rs)

-- the texts that the first n bytes put out, in order
abbrev pub texts : List ℕ → ℕ → Memory → List ℕ
texts l zero M = []
texts l (suc n) M = texts l n M ++ text_of (fed (get_or l n 0) (fed_first l n M))

-- the texts that some reads put out
abbrev pub handed : Memory → List Reading → List ℕ
handed M [] = []
handed M (r ∷ rs) = handed M rs ++ texts r.buffer r.count (after M rs)

-- whether another read is due: the last one counts some bytes, and the box line isn't refused
abbrev pub due : Memory → List Reading → Bool
due M [] = true
due M (r ∷ rs) = ltb 0 r.count && leb (stage_number (after M (r ∷ rs)).session.stage) 1

-- each read was due, filled a buffer of so many bytes, and counts no more than these
abbrev pub Made : ℕ → Memory → List Reading → Type 0
Made size M [] = Unit {0}
Made size M (r ∷ rs) = (length r.buffer ≡ size) × (r.count ≤ size) × (due M rs ≡ true) × Made size M rs

-- no read is due any more, or as many as a 64-bit number counts were made
abbrev pub Stopped : Memory → List Reading → Type 0
Stopped M rs = due M rs ≡ true → length rs ≡ 2 ^ 64 - 1

-- from one memory to another by reads into a buffer of so many bytes, until no more are due
abbrev pub Ran : ℕ → Memory → Memory → Type 0
Ran size M N = (reads : List Reading) × Made size M reads × Stopped M reads × (N ≡ after M reads)

-- what the end leaves after such reads, and that their texts and the end's are the replay of the bytes read
abbrev pub Replayed : ℕ → Memory → FedMemory → Type 0
Replayed size M a =
    (reads : List Reading) × Made size M reads × Stopped M reads × (a ≡ ended (after M reads)) × (handed M reads ++ text_of a ≡ replay (input reads))
