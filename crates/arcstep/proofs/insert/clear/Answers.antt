use mathlib.Core.Path.{◌≡◌, refl, sym, ap, ◌∙◌}
use Prim.Native.Nat.{ℕ, ◌+◌, ◌-◌}
use native.Mathlib.Omega.{arith}
use borrow.Author.Tests.{lt-ltb, le-ltb}
use Rattle.arc.specs.Arc.{replace, cleared}
use Rattle.parts.specs.Rep.{engine}
use Rattle.arcstep.proofs.Ways.{fits-less, less-less}
use Rattle.arcstep.proofs.Clearing.{turns, row-tells, stop, on, ends, cleared-as}
use Rattle.arcstep.proofs.insert.clear.Goals as goal

pub victim-requires : goal.victim-requires
victim-requires c = let q = c.requires.some_runs in
    record {
      fits = c.requires.fits;
      by_index = (_, _, _, q.1);
      indexed = c.requires.indexed;
    }

pub loop-i-init : goal.loop-i-init
loop-i-init c = record {
  less = (omega arith, omega arith, omega arith, (refl, refl));
  disk = refl;
  addrs = refl;
  lists = refl;
  going = λ R h.
      let a = c.args in
      let z : turns a.t - 0 ≡ turns a.t = omega arith in
      record {
        now = R;
        clears = record { runs = h; place_is = c.victim.ensures _ _ R h };
        same = ap (λ (m : ℕ). cleared (engine a.b) m a.t.sizes.cached a.b2 R) z;
      };
}

pub returns-then-c-b : goal.returns-then-c-b
returns-then-c-b c =
    let a = c.args in
    let l = c.loop-i in
    record {
      less = l.invariant.less;
      clears = λ R h.
          let g = l.invariant.going R h in
          let s = g.now.stepped.box in
          let y = row-tells a.b a.blocks.now g.now.kept s c.requires.fits.0 g.clears.runs.box.blocks-are
          ∙ lt-ltb _ a.b.slots (omega (arith, g.clears.place_is, c.if-c-b.true)) in
          ends g (stop a.b _ a.b2 g.now (turns a.t - l._i) y) (omega (arith, h.names.sized.t1-is, h.names.sized.t2-is));
    }

pub again-c-requires : goal.again-c-requires
again-c-requires c =
    let q = c.requires.some_runs in
    let l = c.loop-i in
    let g = l.invariant.going q.0 q.1 in
    record {
      fits = fits-less c.args.b l.c.running c.args.t c.requires.fits l.invariant.less l.invariant.addrs l.invariant.lists;
      some_runs = (g.now, g.clears.runs);
      indexed = c.requires.indexed;
    }

pub loop-i-preserved : goal.loop-i-preserved
loop-i-preserved c =
    let a = c.args in
    let l = c.loop-i in
    let w = c.again-c in
    let k : turns a.t - (l._i + 1) ≡ turns a.t - l._i - 1 = omega arith in
    record {
      less = less-less w.result.running l.c.running a.t w.ensures.less l.invariant.less;
      disk = omega (arith, l.invariant.disk);
      addrs = omega (arith, l.invariant.addrs);
      lists = omega (arith, l.invariant.lists);
      going = λ R h.
          let g = l.invariant.going R h in
          let s = g.now.stepped.box in
          let n = row-tells a.b a.blocks.now g.now.kept s c.requires.fits.0 g.clears.runs.box.blocks-are
          ∙ le-ltb _ a.b.slots (omega (arith, g.clears.place_is, c.if-c-b.false)) in
          let e = l.invariant.less.3.0 in
          record {
            now = replace (engine a.b) a.t.sizes.cached a.b2 g.now;
            clears = cleared-as (ap (λ (m : ℕ). replace (engine a.b) m a.b2 g.now) (sym e)) (w.ensures.clears g.now g.clears.runs);
            same = ap (λ (m : ℕ). cleared (engine a.b) m a.t.sizes.cached a.b2 (replace (engine a.b) a.t.sizes.cached a.b2 g.now)) k
                ∙ on a.b a.t.sizes.cached a.b2 g.now (turns a.t - l._i) (omega arith) n ∙ g.same;
          };
    }

pub returns : goal.returns
unfolding cleared
returns c =
    let l = c.loop-i in
    let z : turns c.args.t - l._i ≡ 0 = omega arith in
    record {
      less = l.invariant.less;
      clears = λ R h.
          let g = l.invariant.going R h in
          ends g (ap (λ (m : ℕ). cleared (engine c.args.b) m c.args.t.sizes.cached c.args.b2 g.now) z) (omega (arith, h.names.sized.t1-is, h.names.sized.t2-is));
    }
