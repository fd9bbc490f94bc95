-- The first k words agree, so the first 8 k bytes do. Assumes nothing.
use Prim.Native.Nat.{◌*◌, ◌≤◌}
use Rattle.tables.proofs.Words.{Agree}
use Rattle.tables.proofs.find.same_words.Given as goal

abbrev pub invariant-loop-k : goal.invariant-loop-k
invariant-loop-k l = (l.k ≤ 4) × Agree l.f l.g (l.k * 8)
