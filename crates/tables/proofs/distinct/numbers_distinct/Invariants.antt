-- The loop goes down; `seen` marks the numbers behind row k, which all differ. Assumes nothing.
use Rattle.std.specs.Prelude.{◌≡◌, true, map, ◌*◌, length, drop}
use Rattle.tables.specs.Bits.{bit_at}
use Rattle.tables.specs.Rows.{le4, rows}
use Rattle.tables.specs.Sound.{distinct}
use Rattle.tables.specs.SoundLaws.{Marked}
use Rattle.tables.proofs.distinct.numbers_distinct.Given as goal

abbrev pub invariant-loop-k : goal.invariant-loop-k
invariant-loop-k g l = record {
  bytes : length l.seen ≡ g.row.BYTES;
  behind : distinct (drop l.k (map (λ r. le4 r l.at) (rows l.n l.t))) ≡ true;
  marked : Marked (bit_at l.seen) (length l.seen * 8) (drop l.k (map (λ r. le4 r l.at) (rows l.n l.t)));
}
