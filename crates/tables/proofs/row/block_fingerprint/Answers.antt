-- The part is the row's own bytes. Assumes nothing.
use Prim.Native.Nat.{◌+◌, ◌-◌, ◌*◌}
use mathlib.Core.Path.{◌≡◌}
use native.Mathlib.Omega.{arith}
use Rattle.tables.specs.RowLaws.{part-fp, length_part}
use Rattle.tables.specs.Records.{read_block}
use Rattle.tables.proofs.row.block_fingerprint.Goals as goal

pub returns : goal.returns
unfolding read_block
returns c =
    let a = c.args in
    let e : a.k * 40 + 32 - a.k * 40 ≡ 32 = omega arith in
    (part-fp a.t.now a.k, rw e (length_part a.t.now (a.k * 40) 32 (omega arith)))
