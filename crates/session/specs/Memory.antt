-- The state of a replay in a session and lent buffers. Assumes nothing.
use Rattle.std.specs.Prelude.{◌≡◌, ℕ, ◌*◌, ◌≤◌, Bool, cond, ◌&&◌, List, length, take, ◌==◌, nat_le}
use Rattle.block.specs.Blocks.{splice}
use Rattle.counters.specs.declared.Counters as Code
use Rattle.parts.specs.declared.BoxRecord.{BoxRecord}
use Rattle.parts.specs.Rep.{numbers_of}
use Rattle.refusals.specs.Given.{counters_of, lent}
use Rattle.paper.specs.Cache.{Counters}
use Rattle.paper.specs.Lent.{Lent}
use Rattle.answers.specs.Done.{record_of}
use Rattle.session.specs.Bytewise.{State, Replied, byte_in, at_end}
use Rattle.session.specs.declared.Session.{Session}
use Rattle.session.specs.declared.Fed.{Fed}
use Rattle.tables.specs.Rows.{table_bytes}

-- ---- the buffers of the box

-- four buffers that hold the box in their first bytes
pub record Buffers : Type 0 where
  pub disk : List ℕ
  pub flash : List ℕ
  pub addresses : List ℕ
  pub blocks : List ℕ

abbrev pub buffers : (disk flash addresses blocks : List ℕ) → Buffers
buffers disk flash addresses blocks = record { disk = disk; flash = flash; addresses = addresses; blocks = blocks }

-- what is lent in them
abbrev pub within : BoxRecord → Buffers → Counters → Lent
within b B k = lent b (take (b.blocks * b.size) B.disk) (take (b.slots * b.size) B.flash) (take (table_bytes b.rows) B.addresses)
    (take (table_bytes b.slots) B.blocks) k

-- a box record's n, the counters and the buffers; those of a box written over the buffers
pub record Held : Type 0 where
  pub n : ℕ
  pub counters : Counters
  pub buffers : Buffers

abbrev pub held : ℕ → Counters → Buffers → Held
held n k B = record { n = n; counters = k; buffers = B }

unfoldable pub over : Lent → Buffers → Held
over t B = held t.n t.counters (buffers (splice 0 t.disk B.disk) (splice 0 t.flash B.flash) (splice 0 t.addresses B.addresses)
    (splice 0 t.blocks B.blocks))

-- ---- all that is lent to a replay

-- a session, the bytes kept of a line, the box's buffers and the output's
pub record Memory : Type 0 where
  pub session : Session
  pub line : List ℕ
  pub buffers : Buffers
  pub out : List ℕ

abbrev pub memory : Session → (line disk flash addresses blocks out : List ℕ) → Memory
memory s line disk flash addresses blocks out = record { session = s; line = line; buffers = buffers disk flash addresses blocks; out = out }

-- The buffers hold every box that replay opens
abbrev pub Sized : (disk flash addresses blocks : List ℕ) → Type 0
Sized disk flash addresses blocks = (length disk ≡ 16384) × (length flash ≡ 16384) × (length addresses ≡ table_bytes 1024) × (length blocks ≡ table_bytes 256)

abbrev pub Holds : BoxRecord → Type 0
Holds b = (b.size ≤ 4096) × (b.blocks ≤ 256) × (b.rows ≤ 1024) × (b.slots ≤ 256) × (b.blocks * b.size ≤ 16384) × (b.slots * b.size ≤ 16384)

-- the same as tests
unfoldable pub lengths_fit : (line disk flash addresses blocks out : ℕ) → Bool
lengths_fit line disk flash addresses blocks out = line == 33 && disk == 16384 && flash == 16384 && addresses == table_bytes 1024
    && blocks == table_bytes 256 && out == 256

unfoldable pub numbers_fit : BoxRecord → Bool
numbers_fit b = nat_le b.size 4096 && nat_le b.blocks 256 && nat_le b.rows 1024 && nat_le b.slots 256 && nat_le (b.blocks * b.size) 16384
    && nat_le (b.slots * b.size) 16384

unfoldable pub fits : Memory → Bool
fits M =
    lengths_fit (length M.line) (length M.buffers.disk) (length M.buffers.flash) (length M.buffers.addresses) (length M.buffers.blocks)
    (length M.out)
    && numbers_fit M.session.box_record
    && nat_le M.session.kept 33

-- the state that is in it
unfoldable pub state_in : Memory → State
state_in M =
    let s = M.session in
    record {
      stage = s.stage;
      kept = take s.kept M.line;
      number = s.number;
      numbers = numbers_of s.box_record;
      lent = within s.box_record M.buffers (counters_of s.counters);
    }

-- a state as the code has it
abbrev pub code_counters : Counters → Code.Counters
code_counters k = record { reads = k.reads; hits = k.hits; flash = k.flash_writes; primary = k.primary_writes }

abbrev pub session_of : State → Session
session_of s = record {
  stage = s.stage;
  kept = length s.kept;
  number = s.number;
  box_record = record_of s.numbers s.lent.n;
  counters = code_counters s.lent.counters;
}

-- what is printed, and the state after it, written over the buffers' first bytes
pub record FedMemory : Type 0 where
  pub memory : Memory
  pub filled : ℕ

unfoldable pub stored : Memory → Replied → FedMemory
stored M o =
    record {
      memory = record {
        session = session_of o.state;
        line = splice 0 o.state.kept M.line;
        buffers = (over o.state.lent M.buffers).buffers;
        out = splice 0 o.text M.out;
      };
      filled = length o.text;
    }

-- a byte, and the end of the input; memory that doesn't fit is left as it is
unfoldable pub fed : ℕ → Memory → FedMemory
fed x M = cond (fits M) (stored M (byte_in x (state_in M))) (record { memory = M; filled = 0 })

unfoldable pub ended : Memory → FedMemory
ended M = cond (fits M) (stored M (at_end (state_in M))) (record { memory = M; filled = 0 })

-- what a function of the code gives back, with the buffers then
abbrev pub after_of : Fed → (line disk flash addresses blocks out : List ℕ) → FedMemory
after_of r line disk flash addresses blocks out = record { memory = memory r.session line disk flash addresses blocks out; filled = r.filled }
