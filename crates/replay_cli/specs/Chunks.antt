-- The bytes of a chunk, one after the other. Assumes nothing.
use Rattle.std.specs.Prelude.{cond, List, [], ◌++◌, ℕ, zero, suc, ◌+◌, leb, length, get_or, replicate}
use Rattle.parts.specs.Rep.{empty_box}
use Rattle.session.specs.Memory.{Memory, fed}
use Rattle.session.specs.declared.Stage.TheVariants.{Before}
use Rattle.session.specs.declared.Session.{Session}

-- the session before the first byte
abbrev pub first : Session
first =
    record {
      stage = Before;
      kept = 0;
      number = 0;
      box_record = empty_box 0 0 0 0 0 (replicate 64 0);
      counters = record { reads = 0; hits = 0; flash = 0; primary = 0 };
    }

-- a memory after the first n bytes of a list
abbrev pub fed_first : List ℕ → ℕ → Memory → Memory
fed_first l zero M = M
fed_first l (suc n) M = (fed (get_or l n 0) (fed_first l n M)).memory

-- what waits in a page of so many bytes when a text is put behind what waited: both; the text alone where both have no room, what waited being written
-- first; nothing where the text alone has none, being written at once
abbrev pub waiting : ℕ → (before text : List ℕ) → List ℕ
waiting size before text = cond (leb (length before + length text) size) (before ++ text) (cond (leb (length text) size) text [])
