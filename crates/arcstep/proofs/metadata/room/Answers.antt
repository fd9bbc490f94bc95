-- By the sizes of B1 and B2. Assumes nothing.
use mathlib.Core.Path.{refl}
use native.Mathlib.Omega.{arith}
use Rattle.std.proofs.Common.{rules}
use Rattle.arcstep.proofs.Ways.{told, room-there, room-b1, room-b2}
use Rattle.arcstep.proofs.metadata.room.Goals as goal

pub returns-then-t : goal.returns-then-t
returns-then-t c =
    let a = c.args in
    record {
      less = (omega arith, omega arith, omega arith, (refl, refl));
      runs = λ R h. told (room-there a.b a.t.sizes R h.names.sized c.if-t.true) h;
    }

pub returns-then-t-eq0 : goal.returns-then-t-eq0
returns-then-t-eq0 c =
    let a = c.args in
    let e = c.evict.ensures in
    record {
      less = e.less;
      runs = λ R h. told (room-b2 a.b a.t.sizes R h.names.sized c.if-t.false c.if-t-eq0.true) (e.runs R h);
    }

pub returns : goal.returns
returns c =
    let a = c.args in
    let e = c.evict-2.ensures in
    let n = c.if-t-eq0.false in
    record {
      less = e.less;
      runs = λ R h. told (room-b1 a.b a.t.sizes R h.names.sized c.if-t.false (omega (arith, n))) (e.runs R h);
    }
