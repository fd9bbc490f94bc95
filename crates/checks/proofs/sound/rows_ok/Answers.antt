use Prim.Native.Nat.{◌≤◌}
use native.Mathlib.Omega.{arith}
use lib.ListN.{length, drop_of_length-le}
use Rattle.std.proofs.lemmas.Grind.{common_steps}
use Rattle.tables.specs.Rows.{rows}
use Rattle.tables.specs.Find.{every, all}
use Rattle.tables.specs.Index.{row_ok}
use Rattle.tables.specs.RowLaws.{rows-length}
use Rattle.tables.specs.SoundLaws.{back-fails, back_more, back-all}
use Rattle.checks.proofs.sound.rows_ok.Goals as goal

pub loop-k-init : goal.loop-k-init
unfolding every all
loop-k-init c =
    let a = c.args in
    let rs = rows a.d a.t.now in
    let h : length rs ≤ a.d = omega (arith, rows-length a.d a.t.now) in
    (rw (drop_of_length-le rs h), rw (drop_of_length-le rs h))

pub returns-then-not-row_ok : goal.returns-then-not-row_ok
returns-then-not-row_ok c =
    let a = c.args in
    grind (arith, common_steps, back-fails (row_ok a.d) a.d a.t.now c.loop-k.k)

pub loop-k-preserved : goal.loop-k-preserved
loop-k-preserved c =
    let a = c.args in
    let k = c.loop-k.k in
    grind (arith, common_steps, back_more (row_ok a.d) a.d a.t.now k, back-all (row_ok a.d) a.d a.t.now k)
