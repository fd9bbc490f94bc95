use mathlib.Core.Path.{sym, ◌∙◌}
use mathlib.Core.List.{map}
use Prim.Native.Nat.{◌-◌, ◌<◌}
use lib.ListN.{length, get_or, length-set}
use native.Mathlib.Omega.{arith}
use Rattle.std.proofs.lemmas.Grind.{common_steps}
use Rattle.tables.specs.Index.{place_in}
use Rattle.tables.specs.Rows.{rows}
use Rattle.tables.specs.SoundLaws.{Read, marked-none, marks-set, values-at, values_length}
use Rattle.table_laws.specs.Knowns.{place-below}
use Rattle.checks.proofs.known.mark_known.Goals as goal

pub loop-k-init : goal.loop-k-init
loop-k-init c =
    let a = c.args in
    let h = values_length (place_in (rows a.d a.t.now)) a.n a.a.now in
    let l = map (place_in (rows a.d a.t.now)) (rows a.n a.a.now) in
    (c.requires.has_rows.2, marked-none (λ x. get_or a.known.now x 0) (length a.known.now) l a.n (omega (arith, h)) c.requires.by_index)

pub loop-k-preserved : goal.loop-k-preserved
loop-k-preserved c =
    let a = c.args in
    let k = c.loop-k.k in
    let i = c.loop-k.invariant in
    let f = place_in (rows a.d a.t.now) in
    let h : k - 1 < a.n = omega arith in
    let r : Read (map f (rows a.n a.a.now)) (length c.loop-k.known) k c.place_of-x.result =
    record {
      some = omega arith;
      within = omega (arith, values_length f a.n a.a.now);
      is = c.place_of-x.ensures ∙ sym (values-at f a.n a.a.now (k - 1) h);
      has = grind (arith, common_steps, place-below a.d a.t.now);
    } in
    (simp length-set i.0, marks-set c.loop-k.known r i.1)

pub bounds-known-x : goal.bounds-known-x
bounds-known-x c = let a = c.args in grind (arith, common_steps, place-below a.d a.t.now)
