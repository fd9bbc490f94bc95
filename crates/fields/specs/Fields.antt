-- Numbers in bytes: the fields of the state and of an answer. Assumes nothing.
use Rattle.std.specs.Prelude.{List, [], ◌∷◌, Bool, ◌&&◌, cond, ℕ, zero, suc, ◌*◌, ◌/◌, ◌%◌, eqb, length, get_or}
use Rattle.tables.specs.Rows.{le8}
use Rattle.block.specs.Blocks.{part, splice}
use Rattle.counters.specs.declared.Counters as Code
use Rattle.paper.specs.Cache.{Counters, Word, hit, miss, same_block, new_block, from_cache, from_disk, done}
use Rattle.parts.specs.declared.BoxRecord.{BoxRecord}
use Rattle.exam.specs.Contract.{counts_bytes}

-- the n bytes of a number, lowest first
abbrev pub low_bytes : ℕ → ℕ → List ℕ
low_bytes zero v = []
low_bytes (suc n) v = v % 256 ∷ low_bytes n (v / 256)

-- the number in the eight bytes of s from index at on, "little-endian"
unfoldable pub get8 : List ℕ → ℕ → ℕ
get8 s at = le8 s at

-- s with the eight bytes of v written over it from index at on
unfoldable pub put8 : (at v : ℕ) → List ℕ → List ℕ
put8 at v s = splice at (low_bytes 8 v) s

-- the state: B, P, m, d, n, then the counters: reads, hits, flash writes, primary writes, then the label, and at last the limit
abbrev pub state_bytes : ℕ
state_bytes = 144

abbrev pub record_in : List ℕ → BoxRecord
record_in s =
    record {
      size = get8 s 0;
      blocks = get8 s 8;
      rows = get8 s 16;
      slots = get8 s 24;
      held = get8 s 32;
      label = part 72 64 s;
      limit = get8 s 136;
    }

abbrev pub counters_in : List ℕ → Code.Counters
counters_in s = record { reads = get8 s 40; hits = get8 s 48; flash = get8 s 56; primary = get8 s 64 }

-- n and the counters written into the state; B, P, m, d, the label and the limit stay
unfoldable pub put_state : ℕ → Counters → List ℕ → List ℕ
put_state n k s = put8 64 k.primary_writes (put8 56 k.flash_writes (put8 48 k.hits (put8 40 k.reads (put8 32 n s))))

-- the label written into the state
unfoldable pub put_label : List ℕ → List ℕ → List ℕ
put_label label s = splice 72 label s

-- the box record written into the state; the counters stay
unfoldable pub put_record : BoxRecord → List ℕ → List ℕ
put_record b s =
    put8 136 b.limit (put_label b.label (put8 32 b.held (put8 24 b.slots (put8 16 b.rows (put8 8 b.blocks (put8 0 b.size s))))))

-- the answer, 24 bytes: the word, then the flash writes and the primary writes; of a look, where its part starts and how long it is
unfoldable pub put_answer : (word second third : ℕ) → List ℕ → List ℕ
put_answer word second third l = put8 16 third (put8 8 second (put8 0 word l))

-- the answer of a folder read, 32 bytes: the hits, the flash writes, the primary writes and the fetches
unfoldable pub put_many : (hits flash primary fetches : ℕ) → List ℕ → List ℕ
put_many hits flash primary fetches l = put8 24 fetches (put8 16 primary (put8 8 flash (put8 0 hits l)))

-- the nine counts of an exam question, one after the other; the first n of them written
unfoldable pub put_counts : ℕ → (counts s : List ℕ) → List ℕ
put_counts zero c s = s
put_counts (suc h) c s = put8 (h * 8) (get_or c h 0) (put_counts h c s)

-- what is lent for the counts with them written; with another length it is left as it is
unfoldable pub counts_after : (counts s : List ℕ) → List ℕ
counts_after c s = cond (eqb (length s) counts_bytes) (put_counts 9 c s) s

-- the numbers of the words
abbrev pub word_number : Word → ℕ
word_number hit = 1
word_number miss = 2
word_number same_block = 3
word_number new_block = 4
word_number from_cache = 5
word_number from_disk = 6
word_number done = 7

-- the state has its bytes, and the answer n: 24, of a folder read 32
unfoldable pub fitting : ℕ → (state answer : List ℕ) → Bool
fitting n s l = eqb (length s) state_bytes && eqb (length l) n
