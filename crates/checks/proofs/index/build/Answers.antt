use mathlib.Core.Path.{◌≡◌}
use Prim.Native.Nat.{ℕ, ◌+◌, ◌≤◌, ◌<◌}
use lib.ListN.{drop_of_length-le, length, get_or, set, length-set}
use lib.Seq.{get_or-set_same}
use native.Mathlib.Omega.{arith}
use Rattle.tables.specs.Find.{every}
use Rattle.tables.specs.Index.{choice, unique}
use Rattle.std.proofs.lemmas.Grind.{common_steps}
use Rattle.tables.specs.Rows.{rows}
use Rattle.tables.specs.RowLaws.{rows-length}
use Rattle.tables.specs.SoundLaws.{back-fails, back_more}
use Rattle.checks.proofs.Indexes.{linked-end}
use Rattle.checks.proofs.index.build.Goals as goal

pub loop-k-init : goal.loop-k-init
unfolding every
loop-k-init c =
    let a = c.args in
    let rs = rows a.d a.t.now in
    let h : length rs ≤ a.d = omega (arith, rows-length a.d a.t.now) in
    let o : choice (set a.heads.now 4352 c.choose.result) + 2 ≤ 32 =
    rw (get_or-set_same a.heads.now 4352 c.choose.result 0 (omega (arith, c.requires.blank.0))) c.choose.ensures in
    let z : (x : ℕ) → x < 4352 → get_or (set a.heads.now 4352 c.choose.result) x 0 ≡ 0 = λ x b. grind (arith, common_steps, c.requires.blank.1) in
    (simp length-set c.requires.blank.0, rw (drop_of_length-le rs h), linked-end _ rs a.d h c.requires.t_len.1 o z)

pub returns-then-not-put_row-clause-value : goal.returns-then-not-put_row-clause-value
returns-then-not-put_row-clause-value c =
    let a = c.args in
    grind (arith, common_steps, back-fails unique a.d a.t.now c.loop-k.k)

pub loop-k-preserved : goal.loop-k-preserved
loop-k-preserved c =
    let a = c.args in
    grind (arith, common_steps, back_more unique a.d a.t.now c.loop-k.k)
