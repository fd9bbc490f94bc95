-- The read into its place of the buffer, and the sums. Assumes nothing.
use mathlib.Core.Path.{◌≡◌, sym, ap, ◌∙◌, subst}
use mathlib.Core.List.{List, []}
use Prim.Native.Nat.{ℕ, ◌+◌, ◌-◌, ◌*◌, ◌≤◌}
use native.Mathlib.Nat.{mul-le-mul}
use native.Mathlib.Omega.{arith}
use lib.ListN.{length, take, drop}
use Rattle.hash.proofs.SpecLaws.{size-whole}
use Rattle.block.specs.Blocks.{part}
use Rattle.block.specs.Laws.{product-fits, part-is, length_part, length-splice}
use Rattle.turns.specs.TurnLaws.{put-part, table-lengths, turned-at}
use Rattle.turns.proofs.land.Goals as goal

-- the part of the buffer that is lent has a block's length
lent-long : (k B : ℕ) (buffer : List ℕ) → k * B + B ≤ length buffer → length (take (k * B + B - k * B) (drop (k * B) buffer)) ≡ B
lent-long k B buffer h = ap (length {A = ℕ}) (part-is (k * B) B buffer) ∙ length_part (k * B) B buffer h

pub overflow_mul-at : goal.overflow_mul-at
overflow_mul-at c =
    let p = c.requires.fits in
    product-fits 64 4096 c.args.k c.args.b.size (omega (arith, p.2)) (size-whole c.args.b.size p.0.B-size).1 (omega arith)

pub overflow_add-end : goal.overflow_add-end
overflow_add-end c =
    let p = c.requires.fits in
    let w = (size-whole c.args.b.size p.0.B-size).1 in
    let m : c.args.k * c.args.b.size ≤ 64 * 4096 = mul-le-mul {n₁ = c.args.k} {n₂ = 64} {m₂ = 4096} (omega (arith, p.2)) w in
    record { fits = omega (arith, m, w) }

pub read_one-s-requires : goal.read_one-s-requires
read_one-s-requires c =
    let a = c.args in
    let p = c.requires.fits in
    let q = c.requires.by_index in
    let w = q.4 in
    let t = table-lengths a.b a.t.held a.disk.now a.flash.now a.addrs.now a.blocks.now q.2.box w.box-is w.sure in
    record {
      access = (p.0.m-least, p.0.d-least, lent-long a.k a.b.size a.buffer.now p.3, p.1, p.0.m-most, (w.box-is.rows_are.few, t.0, t.1), p.0.B-size);
      lent_sound = (q.2.box, w.box-is, w.sure);
    }

pub summed-requires : goal.summed-requires
summed-requires c =
    let p = c.requires.fits in
    let q = c.requires.by_index in
    let k = p.2 in
    let m = p.0.m-most in
    let l = q.3 in
    let w0 = q.4.few.0 in
    let w1 = q.4.few.1 in
    let w2 = q.4.few.2 in
    let w3 = q.4.few.3 in
    let f = c.read_one-s.ensures.flashed_bound.0 in
    let g = c.read_one-s.ensures.flashed_bound.1 in
    (omega (arith, k, l, w0), omega (arith, k, l, w1), omega (arith, k, l, w2), omega (arith, k, l, w3), f, omega (arith, g, m))

pub returns : goal.returns
returns c =
    let a = c.args in
    let p = c.requires.fits in
    let at = a.k * a.b.size in
    let B = a.b.size in
    let ro = c.read_one-s in
    let long = ro.auto.block ∙ lent-long a.k B a.buffer.now p.3 in
    let put = put-part at B a.buffer.now _ long in
    record {
      by_index_2 = λ l z T ll w g.
          turned-at a.b l z T a.t a.disk.now a.flash.now a.addrs.now a.blocks.now a.buffer.now w a.a.0 a.first
          (part at B a.buffer.now) g ro.result [] _ _ _ _ _ p.0 p.1
          (subst (λ (j : ℕ). j * B + B ≤ length a.buffer.now) (sym ll) p.3) ro.ensures.flashed_bound.0 ro.ensures.flashed_bound.1
          (ro.ensures.block_after T.box g.0 [] w.box-is w.sure (g.1 ∙ sym (part-is at B a.buffer.now)))
          a.k ll c.summed.result c.summed.ensures _ put;
      buffer_len_unchanged = ap (length {A = ℕ}) put ∙ length-splice at _ a.buffer.now (subst (λ (j : ℕ). at + j ≤ length a.buffer.now) (sym long) p.3);
    }
