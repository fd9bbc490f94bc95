use Rattle.std.specs.Prelude.{◌≡◌, ◌-◌, ◌<◌, ℕ, map, drop, get_or, length}
use Rattle.std.proofs.Common.{arith, sym, subst, ◌∙◌}
use Rattle.std.proofs.lemmas.List.{length-set}
use Rattle.tables.specs.Rows.{rows, row_at}
use Rattle.tables.specs.SoundLaws.{Read, Marks, marked-none, marks-set, values-at, values_length}
use Rattle.arcstep.specs.Victim.{top_place}
use Rattle.arcstep.proofs.Victims.{top_below}
use Rattle.arcstep.proofs.victim.mark_tops.Goals as goal
use Rattle.arcstep.proofs.victim.mark_tops.Goals.{After-top_place-x}

-- the place is a byte of `known`
below : (c : After-top_place-x) → c.top_place-x.result < length c.loop-k.known
below c =
    let a = c.args in
    let b : c.top_place-x.result < 257 =
    rw c.top_place-x.ensures (top_below a.seen.now a.d a.blocks.now (row_at a.addrs.now (c.loop-k.k - 1)) c.requires.has_rows.2.1) in
    omega (arith, b, c.loop-k.invariant.bytes)

pub loop-k-init : goal.loop-k-init
loop-k-init c =
    let a = c.args in
    let f = top_place a.seen.now (rows a.d a.blocks.now) in
    let h = values_length f a.n a.addrs.now in
    record {
      bytes = c.requires.has_rows.3;
      marked = marked-none (λ x. get_or a.known.now x 0) (length a.known.now) (map f (rows a.n a.addrs.now)) a.n (omega (arith, h)) c.requires.by_index_2;
    }

pub top_place-x-requires : goal.top_place-x-requires
top_place-x-requires c =
    let p = c.requires in
    record {
      has_row = (omega arith, p.has_rows.1, p.has_rows.2);
      k_bound = p.by_index (c.loop-k.k - 1) (omega arith);
      indexed = p.indexed;
    }

pub loop-k-preserved : goal.loop-k-preserved
loop-k-preserved c =
    let a = c.args in
    let k = c.loop-k.k in
    let i = c.loop-k.invariant in
    let f = top_place a.seen.now (rows a.d a.blocks.now) in
    let r : Read (map f (rows a.n a.addrs.now)) (length c.loop-k.known) k c.top_place-x.result =
    record {
      some = c.loop-k-test.true;
      within = omega (arith, values_length f a.n a.addrs.now);
      is = c.top_place-x.ensures ∙ sym (values-at f a.n a.addrs.now (k - 1) (omega arith));
      has = below c;
    } in
    record { bytes = simp length-set i.bytes; marked = marks-set c.loop-k.known r i.marked }

pub returns : goal.returns
returns c =
    let a = c.args in
    let e : c.loop-k.k ≡ 0 = omega arith in
    record {
      known_len = c.loop-k.invariant.bytes;
      by_index_3 = subst (λ (k : ℕ). Marks c.loop-k.known (drop k (map (top_place a.seen.now (rows a.d a.blocks.now)) (rows a.n a.addrs.now)))) e
          c.loop-k.invariant.marked;
    }

pub bounds-known-x : goal.bounds-known-x
bounds-known-x = below
