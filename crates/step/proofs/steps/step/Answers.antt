-- The four parts in turn: what each leaves is a paper box again, so that the next can be asked. Assumes nothing.
use mathlib.Core.Path.{refl, sym, ap₂, ◌∙◌}
use mathlib.Core.List.{List, [], ◌∷◌, ◌++◌}
use Prim.Native.Nat.{ℕ}
use native.Mathlib.Omega.{arith}
use Rattle.tables.specs.Records.{address_row, address_bytes, bytes2}
use Rattle.tables.specs.Operations.{row_added}
use Rattle.paper.specs.Cache.{step1, newest}
use Rattle.parts.specs.Rep.{numbers_of, engine}
use Rattle.paper.specs.Engine.{Fixed}
use Rattle.step.proofs.Whole.{addrs₂-are, place_is, distinct₃, s₃, rep₃, step_is}
use Rattle.std.proofs.Common.{rules}
use Rattle.step.proofs.steps.step.Goals as goal

pub step1-o-requires : goal.step1-o-requires
step1-o-requires c =
    let p = c.requires.rows_nonzero in
    let q = c.requires.rep in
    record {
      rows_nonzero = (p.0, p.1, q.2.blocks-are.small, p.6);
      lent_box = (q.0, q.2);
      indexed = c.requires.indexed;
    }

pub push_address-requires : goal.push_address-requires
push_address-requires c =
    let p = c.requires.rows_nonzero in
    let st = c.step1-o in
    (omega (arith, st.ensures.held_lt_rows.0, st.auto.addrs, p.6.1), p.2)

pub overflow_add-n : goal.overflow_add-n
overflow_add-n c =
    omega (arith, c.step1-o.ensures.held_lt_rows.0, c.requires.rows_nonzero.5)

pub step3-requires : goal.step3-requires
step3-requires c =
    let p = c.requires.rows_nonzero in
    let few = c.step1-o.ensures.held_lt_rows.0 in
    record {
      held_nonzero = rw c.with_held-c.ensures (omega arith, c.requires.rep.2.blocks-are.small, (omega (arith, few), c.push_address.auto.t ∙ c.step1-o.auto.addrs ∙ p.6.1, p.6.2));
      indexed = rw c.with_held-c.ensures c.requires.indexed;
    }

pub step4-w-requires : goal.step4-w-requires
step4-w-requires c =
    let a = c.args in
    let p = c.requires.rows_nonzero in
    let q = c.requires.rep in
    let f : Fixed 32 = (a.g.now, p.2) in
    let st = c.step1-o in
    let pu = c.push_address in
    let s3 = c.step3 in
    let eh = c.with_held-c.ensures in
    let s3-leaves = s3.ensures.blocks_after in
    let s3-left = rw eh at s3-leaves in
    let n = st.result.held in
    let e1 = st.ensures.addrs_after q.0 q.2 q.3.addresses in
    let e2 = pu.ensures ∙ ap₂ {C = List ℕ} (λ y d. row_added n (address_bytes (address_row a.a.0 y d (bytes2 a.seat))) st.new.addrs) refl q.4 in
    let X = addrs₂-are a.b a.disk.now a.flash.now a.addrs.now a.blocks.now q.0 q.2 q.3 p.0 p.1 a.a.0 p.4 f q.1 (bytes2 a.seat) n st.result.place st.result.primary _ _ e1 _ e2 in
    let Y = place_is a.b a.disk.now a.flash.now a.addrs.now a.blocks.now q.0 q.2 q.3 p.0 p.1 a.a.0 p.4 f q.1 (bytes2 a.seat) n st.result.place st.result.primary _ _ e1 _ e2 in
    let e3 = s3-left (numbers_of a.b) ((step1 (engine a.b) a.b.rows q.0 a.a.0).rows ++ (newest a.a.0 f q.1 (bytes2 a.seat) ∷ [])) q.0.free q.0.used (step1 (engine a.b) a.b.rows q.0 a.a.0).gone X q.2.blocks-are q.3.fingerprints Y in
    record {
      slots_nonzero = rw eh (p.1, p.2, p.3, q.2.blocks-are.small, (omega (arith, st.ensures.held_lt_rows.0), pu.auto.t ∙ st.auto.addrs ∙ p.6.1, s3.auto.blocks ∙ p.6.2));
      rep = rw eh (s₃ a.b a.disk.now a.flash.now a.addrs.now a.blocks.now q.0 q.2 q.3 p.0 p.1 a.a.0 p.4 f q.1 (bytes2 a.seat) n st.result.place st.result.primary _ _ e1 _ e2 _ e3, rep₃ a.b a.disk.now a.flash.now a.addrs.now a.blocks.now q.0 q.2 q.3 p.0 p.1 a.a.0 p.4 f q.1 (bytes2 a.seat) n st.result.place st.result.primary _ _ e1 _ e2 _ e3, distinct₃ a.b a.disk.now a.flash.now a.addrs.now a.blocks.now q.0 q.2 q.3 p.0 p.1 a.a.0 p.4 f q.1 (bytes2 a.seat) n st.result.place st.result.primary _ _ e1 _ e2 _ e3);
      indexed = rw eh (λ y. rw (s3.ensures.blocks_unchanged y) c.requires.indexed);
    }

pub overflow_add-result : goal.overflow_add-result
overflow_add-result c =
    let eh = c.with_held-c.ensures in
    let leaves = c.step4-w.ensures.flashed_bound in
    let left = rw eh at leaves in
    omega (arith, left.1, c.step1-o.ensures.held_lt_rows.0, c.step1-o.ensures.held_lt_rows.1, c.requires.rows_nonzero.5)

-- each buffer keeps its length through the parts that write it
pub shape_of-disk : goal.shape_of-disk
shape_of-disk c =
    c.step4-w.auto.disk ∙ c.step1-o.auto.disk

pub shape_of-addrs : goal.shape_of-addrs
shape_of-addrs c =
    c.step4-w.auto.addrs ∙ c.push_address.auto.t ∙ c.step1-o.auto.addrs

pub shape_of-blocks : goal.shape_of-blocks
shape_of-blocks c =
    c.step4-w.auto.blocks ∙ c.step3.auto.blocks

pub returns : goal.returns
returns c =
    let a = c.args in
    let p = c.requires.rows_nonzero in
    let st = c.step1-o in
    let pu = c.push_address in
    let s3 = c.step3 in
    let s4 = c.step4-w in
    let eh = c.with_held-c.ensures in
    let s3-leaves = s3.ensures.blocks_after in
    let s3-left = rw eh at s3-leaves in
    let s4-leaves = s4.ensures in
    let s4-left = rw eh at s4-leaves in
    let n = st.result.held in
    record {
      flashed_bound = (s4-left.flashed_bound.0, omega (arith, s4-left.flashed_bound.1, st.ensures.held_lt_rows.0, st.ensures.held_lt_rows.1));
      blocks_after = λ s f x w h sd ef ex ed.
          let e1 = st.ensures.addrs_after s h sd.addresses in
          let e2 = pu.ensures ∙ ap₂ {C = List ℕ} (λ y d. row_added n (address_bytes (address_row a.a.0 y d (bytes2 a.seat))) st.new.addrs) (sym ef) ed in
          let X = addrs₂-are a.b a.disk.now a.flash.now a.addrs.now a.blocks.now s h sd p.0 p.1 a.a.0 p.4 f w (bytes2 a.seat) n st.result.place st.result.primary _ _ e1 _ e2 in
          let Y = place_is a.b a.disk.now a.flash.now a.addrs.now a.blocks.now s h sd p.0 p.1 a.a.0 p.4 f w (bytes2 a.seat) n st.result.place st.result.primary _ _ e1 _ e2 in
          let e3 = s3-left (numbers_of a.b) ((step1 (engine a.b) a.b.rows s a.a.0).rows ++ (newest a.a.0 f w (bytes2 a.seat) ∷ [])) s.free s.used (step1 (engine a.b) a.b.rows s a.a.0).gone X h.blocks-are sd.fingerprints Y in
          step_is a.b a.disk.now a.flash.now a.addrs.now a.blocks.now s h sd p.0 p.1 a.a.0 p.4 f w (bytes2 a.seat) n st.result.place st.result.primary _ _ e1 _ e2 _ e3 x s4.result.flashed s4.result.primary _ _ _ _
          (s4-left.blocks_after (s₃ a.b a.disk.now a.flash.now a.addrs.now a.blocks.now s h sd p.0 p.1 a.a.0 p.4 f w (bytes2 a.seat) n st.result.place st.result.primary _ _ e1 _ e2 _ e3) f x (rep₃ a.b a.disk.now a.flash.now a.addrs.now a.blocks.now s h sd p.0 p.1 a.a.0 p.4 f w (bytes2 a.seat) n st.result.place st.result.primary _ _ e1 _ e2 _ e3) (distinct₃ a.b a.disk.now a.flash.now a.addrs.now a.blocks.now s h sd p.0 p.1 a.a.0 p.4 f w (bytes2 a.seat) n st.result.place st.result.primary _ _ e1 _ e2 _ e3) ef ex);
    }
