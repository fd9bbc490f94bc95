-- By whether the fingerprint is cached; where it isn't, a row is cleared and then filled. Assumes nothing.
use mathlib.Core.Path.{◌≡◌, refl, sym, ◌∙◌}
use mathlib.Core.Bool.{true}
use native.Mathlib.Omega.{arith}
use Rattle.std.proofs.Common.{rules}
use borrow.Author.Tests.{ltb-true}
use Rattle.arc.specs.Arc.{cleared! }
use Rattle.parts.specs.Rep.{engine}
use Rattle.arcstep.specs.Runs.{Within, Taken, Clears, Ends}
use Rattle.arcstep.proofs.Ways.{told}
use Rattle.arcstep.proofs.Clearing.{row-tells, has-taken}
use Rattle.arcstep.proofs.Inserting.{not-cached, is-cached, newest-runs, inserted-hit, inserted-miss}
use Rattle.arcstep.proofs.insert.insert.Goals as goal

pub returns-then-j-b : goal.returns-then-j-b
returns-then-j-b c =
    let a = c.args in
    let j = c.place_of-j in
    let l = c.if-j-b.true in
    record {
      held_le_held = (omega arith, omega arith, c.requires.fits.3, omega arith, (refl, refl));
      runs_2 = λ S f x h e ef ex.
          let ej = j.ensures.by_index S.stepped.box.free S.stepped.box.used f h.box.blocks-are ef in
          told (inserted-hit a.b a.t.sizes.cached a.b2 f x S (is-cached a.b a.t _ _ _ a.blocks.now _ S h f j.result ej l))
          (newest-runs a.b a.t _ _ _ a.blocks.now _ S h f j.result ej l c.requires.fits.0.0 _ c.to_newest.ensures);
    }

pub clear-c-requires : goal.clear-c-requires
clear-c-requires c = let q = c.requires.runs in
    record {
      fits = c.requires.fits.0;
      some_runs = (q.0, q.1);
      indexed = c.requires.indexed;
    }

pub store-requires : goal.store-requires
store-requires c =
    let a = c.args in
    let p = c.requires.fits.0 in
    let q = c.requires.runs in
    let w = c.clear-c in
    let k = w.ensures.clears q.0 q.1 in
    let d = w.ensures.less in
    record {
      g_len = (c.requires.fits.1, c.requires.fits.2, omega (arith, p.3, d.1), p.2, (omega (arith, p.8, d.0), w.auto.addrs ∙ p.4, p.5));
      by_index = (_, _, k.runs, has-taken a.b w.result _ _ _ a.blocks.now _ _ k p.0 q.2);
    }

pub returns : goal.returns
returns c =
    let a = c.args in
    let p = c.requires.fits.0 in
    let j = c.place_of-j in
    let w = c.clear-c in
    let d = w.ensures.less in
    let s = c.store in
    let n = s.ensures.held_value in
    record {
      held_le_held = (omega (arith, n.0, d.0), omega (arith, n.1, d.1), n.2, rw n.3 d.2, rw n.3 d.3);
      runs_2 = λ S f x h e ef ex.
          let k = w.ensures.clears S h in
          let U = cleared! (engine a.b) a.t.sizes.cached a.b2 S in
          let ej = j.ensures.by_index S.stepped.box.free S.stepped.box.used f h.box.blocks-are ef in
          let eu = j.ensures.by_index U.stepped.box.free U.stepped.box.used f k.runs.box.blocks-are ef in
          told (inserted-miss a.b a.t.sizes.cached a.b2 f x S (not-cached a.b a.t _ _ _ a.blocks.now _ S h f j.result ej c.if-j-b.false))
          (s.ensures.by_index_2 _ U f x k.runs (has-taken a.b w.result _ _ _ a.blocks.now _ _ k p.0 e)
          (not-cached a.b w.result.running _ _ _ a.blocks.now _ U k.runs f j.result eu c.if-j-b.false) ef ex);
    }
