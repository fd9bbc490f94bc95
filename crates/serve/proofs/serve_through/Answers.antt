-- The copy leaves the paper box with the block on its disk; the step on that gives the rest. Assumes nothing.
use mathlib.Core.Path.{refl, sym, ap, ◌∙◌}
use mathlib.Core.Bool.{false, cond}
use mathlib.Core.List.{List}
use mathlib.Core.Option.{none}
use Prim.Native.Nat.{ℕ, ◌+◌, ◌*◌}
use native.Mathlib.Omega.{arith}
use Rattle.parts.specs.Rep.{numbers_of, engine}
use Rattle.paper.specs.Cache.{on_disk, cached, same_block, new_block, step}
use Rattle.paper.specs.Engine.{Fixed}
use Rattle.block.specs.Blocks.{splice}
use Rattle.paper.proofs.SoundLaws.{sound-on_disk}
use Rattle.tables.specs.Records.{bytes2}
use Rattle.step.specs.Steps.{asks}
use Rattle.parts.specs.CopyLaws.{block-ends}
use Rattle.serve.specs.ServeLaws.{yes-is, answer-is, through-is, rep-on_disk}
use Rattle.std.proofs.Common.{rules}
use Rattle.serve.proofs.serve_through.Goals as goal

pub fingerprint_of-g-requires : goal.fingerprint_of-g-requires
fingerprint_of-g-requires c =
    let p = c.requires.disk_len.1 in
    rw p.2 p.6

pub put_address-requires : goal.put_address-requires
put_address-requires c =
    let a = c.args in
    let p = c.requires.disk_len in
    (p.1.2, rw p.0 (block-ends a.a.0 a.b.blocks a.b.size p.1.3))

pub step-d-requires : goal.step-d-requires
step-d-requires c =
    let a = c.args in
    let p = c.requires.disk_len in
    let q = c.requires.lent_sound in
    let g = c.fingerprint_of-g.type_inv in
    let x : Fixed a.b.size = (a.block.now, p.1.2) in
    record {
      rows_nonzero = (p.1.0, p.1.1, search rules, p.1.2, p.1.3, p.1.4, p.1.5);
      rep = (on_disk (engine a.b) q.0 a.a.0 x, false, rep-on_disk a.b a.disk.now a.flash.now a.addrs.now a.blocks.now q.0 q.1 a.a.0 p.1.3 x _ c.put_address.ensures, sound-on_disk (engine a.b) (numbers_of a.b) q.0 a.a.0 x q.2, refl);
      indexed = c.requires.indexed;
    }

pub overflow_add-result : goal.overflow_add-result
overflow_add-result c =
    omega (arith, c.step-d.ensures.flashed_bound.1, c.requires.disk_len.1.4)

pub returns : goal.returns
returns c =
    let a = c.args in
    let p = c.place_of-j in
    let w = c.step-d in
    record {
      flashed_bound = (w.ensures.flashed_bound.0, omega (arith, w.ensures.flashed_bound.1));
      wrote = λ s x h sd ex.
          let f = (engine a.b).hash x in
          let ef = c.fingerprint_of-g.ensures x ex in
          let t = on_disk (engine a.b) s a.a.0 x in
          answer-is a.b a.block.now (cond (cached (engine a.b) f s.used) same_block new_block) none 1 (step (engine a.b) a.b.rows t (asks a.a.0 f x false (bytes2 a.seat))) _ w.result.held w.result.flashed w.result.primary (1 + w.result.primary) _ _ _ _ a.block.now
          (w.ensures.blocks_after t f x false (rep-on_disk a.b a.disk.now a.flash.now a.addrs.now a.blocks.now s h a.a.0 c.requires.disk_len.1.3 x _ (c.put_address.ensures ∙ ap (λ (y : List ℕ). splice (a.a.0 * a.b.size) y a.disk.now) (sym ex))) (sound-on_disk (engine a.b) (numbers_of a.b) s a.a.0 x sd) ef ex refl)
          (yes-is (numbers_of a.b) a.b.slots a.blocks.now s.free s.used h.blocks-are f p.result (p.ensures.by_index s.free s.used f h.blocks-are ef)) refl refl
          ∙ through-is a.b a.block.now s a.a.0 x (bytes2 a.seat);
    }
