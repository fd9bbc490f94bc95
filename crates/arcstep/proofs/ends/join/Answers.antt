-- The row is added, and the name. Assumes nothing.
use mathlib.Core.Path.{refl, ap, ◌∙◌}
use Prim.Native.Nat.{ℕ}
use Rattle.tables.specs.Records.{address_row, address_bytes, bytes2}
use Rattle.tables.specs.Operations.{row_added}
use Rattle.parts.specs.Rep.{numbers_of}
use Rattle.arclists.specs.Holding.{was_of}
use Rattle.arcstep.proofs.Parting.{join_stands, joined-to}
use Rattle.arcstep.proofs.ends.join.Goals as goal

pub returns : goal.returns
returns c =
    let a = c.args in
    let p = c.requires in
    let j = c.join-s in
    let u = c.push_address in
    record {
      primary_value = (refl, refl);
      by_index = λ disk flash blocks R f w h ef ed la lt.
          join_stands a.b a.t disk flash a.addrs.now blocks a.lists.now R h a.a.0 f w (bytes2 a.seat) (was_of a.was) a.g.now _ _ j.result
          ef la p.0 (u.ensures ∙ ap (λ (d : ℕ). row_added a.t.held (address_bytes (address_row a.a.0 a.g.now d (bytes2 a.seat))) a.addrs.now) ed)
          (joined-to R.kept a.a.0 _ c.joins.result (c.joins.ensures (numbers_of a.b)) (j.ensures.by_index a.b.rows R.kept h.names lt));
    }
