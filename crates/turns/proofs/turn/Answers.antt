-- What is lent is brought, then read. Assumes nothing.
use mathlib.Core.Path.{◌≡◌, sym, ◌∙◌, subst}
use mathlib.Core.List.{List}
use Prim.Native.Nat.{ℕ, ◌+◌, ◌*◌, ◌<◌, ◌≤◌}
use native.Mathlib.Omega.{arith}
use lib.ListN.{length, get_or, take}
use lib.Seq.{length-take-le}
use Rattle.hash.proofs.SpecLaws.{size-whole}
use Rattle.parts.specs.CopyLaws.{block-ends}
use Rattle.turns.specs.TurnLaws.{as_long, lends, turned-brought, next_of}
use Rattle.turns.proofs.turn.Goals as goal

-- the end of block k is in the buffer
ends : (k n B : ℕ) (buffer : List ℕ) → k < n → length buffer ≡ n * B → k * B + B ≤ length buffer
ends k n B buffer h e = subst (λ (j : ℕ). k * B + B ≤ j) (sym e) (block-ends k n B h)

pub bring-requires : goal.bring-requires
bring-requires c =
    let a = c.args in
    let p = c.requires.fits in
    (ends a.k _ a.b.size a.buffer.now p.1 p.4, omega arith, (size-whole a.b.size p.0.B-size).1)

pub land-requires : goal.land-requires
land-requires c =
    let a = c.args in
    let p = c.requires.fits in
    let q = c.requires.turned in
    let k = p.1 in
    let n = p.2 in
    let B = a.b.size in
    let ends = ends a.k _ B a.buffer.now p.1 p.4 in
    let ll = length-take-le a.k a.asked.now (omega (arith, k)) in
    let long = as_long B a.k c.first_of-i.result a.buffer.now _ ends c.bring.ensures in
    let stay = turned-brought a.b (take a.k a.asked.now) q.0 q.1 a.t a.disk.now a.flash.now a.addrs.now a.blocks.now
    a.buffer.now a.k c.first_of-i.result ll ends _ c.bring.ensures q.2 in
    record {
      fits = (p.0, p.3, omega (arith, k, n), subst (λ (j : ℕ). a.k * B + B ≤ j) (sym long) ends);
      by_index = (take a.k a.asked.now, q.0, q.1, ll, stay);
    }

pub returns : goal.returns
returns c =
    let a = c.args in
    let p = c.requires.fits in
    let k = p.1 in
    let B = a.b.size in
    let ends = ends a.k _ B a.buffer.now p.1 p.4 in
    let ll = length-take-le a.k a.asked.now (omega (arith, k)) in
    let long = as_long B a.k c.first_of-i.result a.buffer.now _ ends c.bring.ensures in
    record {
      turned_2 = λ z T w.
          let l = take a.k a.asked.now in
          let b = lends a.b l z T a.t a.disk.now a.flash.now a.addrs.now a.blocks.now a.buffer.now w
          (get_or a.asked.now a.k 0) a.k c.first_of-i.result ll ends c.first_of-i.ensures.1 _ c.bring.ensures in
          let v = turned-brought a.b l z T a.t a.disk.now a.flash.now a.addrs.now a.blocks.now a.buffer.now a.k
          c.first_of-i.result ll ends _ c.bring.ensures w in
          next_of a.b a.asked.now a.k z _ _ _ _ _ _ _ k (c.land.ensures.by_index_2 l z T ll v b);
      buffer_len_unchanged = c.land.ensures.buffer_len_unchanged ∙ long;
    }
