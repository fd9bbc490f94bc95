use Rattle.std.specs.Prelude.{◌≡◌, true, List, ℕ, ◌+◌, ◌-◌, ◌*◌, ◌≤◌, ◌<◌, map, drop, length}
use Rattle.std.proofs.Common.{arith, sym, refl, subst, ◌∙◌, drop_of_length-le, eqb-true}
use Rattle.std.proofs.lemmas.Bool.{eqb-false}
use Rattle.std.proofs.lemmas.List.{length-replicate}
use Rattle.tables.specs.Bits.{bit_at, no_bits}
use Rattle.tables.specs.Rows.{le4, rows}
use Rattle.tables.specs.Sound.{distinct}
use Rattle.tables.specs.SoundLaws.{marked-none, twice, once, marked, read-row, values_length}
use Rattle.tables.proofs.distinct.numbers_distinct.Goals as goal

pub loop-k-init : goal.loop-k-init
unfolding distinct
loop-k-init g c =
    let a = c.args in
    let ws = map (λ r. le4 r a.at) (rows a.n a.t.now) in
    let h : length ws ≤ a.n = omega (arith, values_length (λ r. le4 r a.at) a.n a.t.now) in
    record {
      bytes = length-replicate g.row.BYTES 0;
      behind = rw (drop_of_length-le ws h) refl;
      marked = marked-none _ _ ws a.n h (no_bits g.row.BYTES);
    }

pub set_bit-requires : goal.set_bit-requires
set_bit-requires g c =
    let a = c.args in
    let e = c.number_at-x.ensures in
    omega (arith, e, c.requires.by_index (c.loop-k.k - 1) (omega arith), c.loop-k.invariant.bytes)

pub returns-then-not-set_bit : goal.returns-then-not-set_bit
returns-then-not-set_bit g c =
    let a = c.args in
    let e = c.number_at-x.ensures in
    let b : c.number_at-x.result < length c.loop-k.seen * 8 = omega (arith, e, c.requires.by_index (c.loop-k.k - 1) (omega arith), c.loop-k.invariant.bytes) in
    let r = read-row (λ r. le4 r a.at) a.n a.t.now _ c.loop-k.k c.number_at-x.result c.loop-k-test.true (omega arith) e b in
    twice r (bit_at c.loop-k.seen) c.loop-k.invariant.marked (eqb-false _ 0 (sym c.set_bit.ensures.value ∙ c.if-not-set_bit.true))

pub loop-k-preserved : goal.loop-k-preserved
loop-k-preserved g c =
    let a = c.args in
    let i = c.loop-k.invariant in
    let s = c.set_bit.ensures in
    let y = c.if-not-set_bit.false in
    let e = c.number_at-x.ensures in
    let b : c.number_at-x.result < length c.loop-k.seen * 8 = omega (arith, e, c.requires.by_index (c.loop-k.k - 1) (omega arith), i.bytes) in
    let r = read-row (λ r. le4 r a.at) a.n a.t.now _ c.loop-k.k c.number_at-x.result c.loop-k-test.true (omega arith) e b in
    record {
      bytes = s.seen_len_unchanged ∙ i.bytes;
      behind = once r (bit_at c.loop-k.seen) i.marked (eqb-true _ 0 (sym s.value ∙ y)) i.behind;
      marked = λ x h. marked r (bit_at c.loop-k.seen) i.marked (bit_at c.set_bit.new.seen) (λ z q. s.y_after y z) x (omega (arith, h, s.seen_len_unchanged));
    }

pub returns : goal.returns
returns g c =
    let e : c.loop-k.k ≡ 0 = omega arith in
    sym (subst (λ (k : ℕ). distinct (drop k (map (λ r. le4 r c.args.at) (rows c.args.n c.args.t.now))) ≡ true) e c.loop-k.invariant.behind)
