-- The step gives all but the word, which the place found first gives, and what the limit copies. Assumes nothing.
use mathlib.Core.Path.{◌≡◌, refl, sym, ap, ◌∙◌}
use mathlib.Core.Bool.{cond}
use native.Mathlib.Omega.{arith}
use Rattle.tables.specs.Records.{bytes2}
use Rattle.paper.specs.Cache.{Box, Request, Stepped, cached, dirtied, row_of, same_block, new_block, step}
use Rattle.paper.proofs.SoundLaws.{sound-step}
use Rattle.paper.specs.Engine.{Fixed}
use Rattle.parts.specs.declared.BoxRecord.{BoxRecord}
use Rattle.parts.specs.Rep.{numbers_of, with_held, Rep, engine}
use Rattle.step.specs.Steps.{Sure, StepLeft, after, asks}
use Rattle.serve.specs.ServeLaws.{yes-is, step-rep, limited-is, back_is}
use Rattle.std.proofs.Common.{rules}
use Rattle.serve.proofs.serve_back.Goals as goal

pub fingerprint_of-g-requires : goal.fingerprint_of-g-requires
fingerprint_of-g-requires c =
    let p = c.requires.disk_len.1 in
    rw p.2 p.6

pub step-d-requires : goal.step-d-requires
step-d-requires c =
    let a = c.args in
    let p = c.requires.disk_len in
    let q = c.requires.lent_sound in
    let g = c.fingerprint_of-g.type_inv in
    let x : Fixed a.b.size = (a.block.now, p.1.2) in
    let f = (engine a.b).hash x in
    let v = c.dirty_value-w.ensures (numbers_of a.b) q.0.rows f q.1.rows_are (c.fingerprint_of-g.ensures x refl) in
    record {
      rows_nonzero = (p.1.0, p.1.1, search rules, p.1.2, p.1.3, p.1.4, p.1.5);
      rep = (q.0, dirtied (engine a.b) f (row_of a.a.0 q.0.rows), q.1, q.2, v);
      indexed = c.requires.indexed;
    }

pub limit_rows-more-requires : goal.limit_rows-more-requires
limit_rows-more-requires c =
    let b : BoxRecord = c.args.b in
    let a = c.args in
    let asked : (s : Box (Fixed 32) (Fixed b.size)) → Fixed b.size → Request (Fixed 32) (Fixed b.size)
    = λ s x. let f = (engine b).hash x in asks a.a.0 f x (dirtied (engine b) f (row_of a.a.0 s.rows)) (bytes2 a.seat) in
    let stepped : (s : Box (Fixed 32) (Fixed b.size)) → Fixed b.size → Stepped (Fixed 32) (Fixed b.size) = λ s x. step (engine b) b.rows s (asked s x) in
    let left_is : (s : Box (Fixed 32) (Fixed b.size)) (x : Fixed b.size) → Rep b a.disk.now a.flash.now a.addrs.now a.blocks.now s → Sure b s
    → x.0 ≡ a.block.now → ◌≡◌ {A = StepLeft} (record {
      held = c.step-d.result.held;
      left = (record {
        flashed = c.step-d.result.flashed;
        primary = c.step-d.result.primary;
        disk = c.step-d.new.disk;
        flash = c.step-d.new.flash;
        addrs = c.step-d.new.addrs;
        blocks = c.step-d.new.blocks;
      });
    }) (after b (stepped s x)) = λ s x h sd ex.
    let f = (engine b).hash x in
    let ef = c.fingerprint_of-g.ensures x ex in
    c.step-d.ensures.blocks_after s f x (dirtied (engine b) f (row_of a.a.0 s.rows)) h sd ef ex
    (c.dirty_value-w.ensures (numbers_of b) s.rows f h.rows_are ef) in
    let left-rep : (s : Box (Fixed 32) (Fixed b.size)) (x : Fixed b.size) → Rep b a.disk.now a.flash.now a.addrs.now a.blocks.now s → Sure b s
    → x.0 ≡ a.block.now → Rep (with_held b c.step-d.result.held) c.step-d.new.disk c.step-d.new.flash c.step-d.new.addrs c.step-d.new.blocks
    (stepped s x).box = λ s x h sd ex.
    let p = c.requires.disk_len.1 in
    step-rep b (stepped s x) c.step-d.result.held c.step-d.result.flashed c.step-d.result.primary _ _ _ _
    (sound-step (engine b) (numbers_of b) s (asked s x) sd p.0 p.1 p.3) h.rows_are.small h.blocks-are.small (left_is s x h sd ex) in
    let p = c.requires.disk_len.1 in
    let q = c.requires.lent_sound in
    let x : Fixed a.b.size = (a.block.now, p.2) in
    let r = left-rep q.0 x q.1 q.2 refl in
    let k = c.step-d.auto in
    record {
      slots_nonzero = rw c.with_held-c.ensures (p.1, (r.rows_are.few, k.addrs ∙ p.5.1, k.blocks ∙ p.5.2));
      lent_box = rw c.with_held-c.ensures ((stepped q.0 x).box, r);
    }

pub overflow_add-result : goal.overflow_add-result
overflow_add-result c =
    let few = c.step-d.ensures.flashed_bound.1 in
    let m = c.requires.disk_len.1.4 in
    let one = c.limit_rows-more.ensures.upper_bound in
    omega (arith, few, m, one)

pub returns : goal.returns
returns c =
    let b : BoxRecord = c.args.b in
    let a = c.args in
    let asked : (s : Box (Fixed 32) (Fixed b.size)) → Fixed b.size → Request (Fixed 32) (Fixed b.size)
    = λ s x. let f = (engine b).hash x in asks a.a.0 f x (dirtied (engine b) f (row_of a.a.0 s.rows)) (bytes2 a.seat) in
    let stepped : (s : Box (Fixed 32) (Fixed b.size)) → Fixed b.size → Stepped (Fixed 32) (Fixed b.size) = λ s x. step (engine b) b.rows s (asked s x) in
    let left_is : (s : Box (Fixed 32) (Fixed b.size)) (x : Fixed b.size) → Rep b a.disk.now a.flash.now a.addrs.now a.blocks.now s → Sure b s
    → x.0 ≡ a.block.now → ◌≡◌ {A = StepLeft} (record {
      held = c.step-d.result.held;
      left = (record {
        flashed = c.step-d.result.flashed;
        primary = c.step-d.result.primary;
        disk = c.step-d.new.disk;
        flash = c.step-d.new.flash;
        addrs = c.step-d.new.addrs;
        blocks = c.step-d.new.blocks;
      });
    }) (after b (stepped s x)) = λ s x h sd ex.
    let f = (engine b).hash x in
    let ef = c.fingerprint_of-g.ensures x ex in
    c.step-d.ensures.blocks_after s f x (dirtied (engine b) f (row_of a.a.0 s.rows)) h sd ef ex
    (c.dirty_value-w.ensures (numbers_of b) s.rows f h.rows_are ef) in
    let left-rep : (s : Box (Fixed 32) (Fixed b.size)) (x : Fixed b.size) → Rep b a.disk.now a.flash.now a.addrs.now a.blocks.now s → Sure b s
    → x.0 ≡ a.block.now → Rep (with_held b c.step-d.result.held) c.step-d.new.disk c.step-d.new.flash c.step-d.new.addrs c.step-d.new.blocks
    (stepped s x).box = λ s x h sd ex.
    let p = c.requires.disk_len.1 in
    step-rep b (stepped s x) c.step-d.result.held c.step-d.result.flashed c.step-d.result.primary _ _ _ _
    (sound-step (engine b) (numbers_of b) s (asked s x) sd p.0 p.1 p.3) h.rows_are.small h.blocks-are.small (left_is s x h sd ex) in
    let w = c.step-d in
    let p = c.place_of-j in
    let l = c.limit_rows-more in
    let leaves = l.ensures.addrs_after in
    let left = rw c.with_held-c.ensures at leaves in
    record {
      flashed_bound = (w.ensures.flashed_bound.0, omega (arith, w.ensures.flashed_bound.1, l.ensures.upper_bound));
      wrote = λ s x h sd ex.
          let f = (engine a.b).hash x in
          let ef = c.fingerprint_of-g.ensures x ex in
          limited-is a.b a.block.now (cond (cached (engine a.b) f s.used) same_block new_block) (stepped s x) _ w.result.held
          w.result.flashed w.result.primary l.result _ _ _ _ _ _ (left_is s x h sd ex)
          (left (stepped s x).box (left-rep s x h sd ex))
          (yes-is (numbers_of a.b) a.b.slots a.blocks.now s.free s.used h.blocks-are f p.result
          (p.ensures.by_index s.free s.used f h.blocks-are ef))
          ∙ back_is a.b a.block.now s a.a.0 x (bytes2 a.seat);
    }
