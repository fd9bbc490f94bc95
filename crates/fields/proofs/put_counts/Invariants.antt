-- With another length nothing is written; else, before each turn, the counts below h are. Assumes nothing.
use Rattle.std.specs.Prelude.{◌≡◌, length}
use Rattle.exam.specs.Contract.{counts_bytes}
use Rattle.fields.specs.Fields.{put_counts}
use Rattle.fields.proofs.put_counts.Given as goal

abbrev pub invariant-loop-h : goal.invariant-loop-h
invariant-loop-h l = record {
  long : length l.s ≡ counts_bytes;
  written : l.s ≡ put_counts l.h l.c l.initial.s;
}
