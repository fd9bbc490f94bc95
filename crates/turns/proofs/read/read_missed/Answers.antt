-- The index, then the read that takes the disk's block or the lent one. Assumes nothing.
use mathlib.Core.Path.{◌∙◌, ap, sym}
use mathlib.Core.Bool.{cond}
use mathlib.Core.Option.{none}
use Prim.Native.Nat.{ℕ}
use lib.ListN.{length-replicate, get_or}
use Rattle.tables.specs.SoundLaws.{filled-with}
use Rattle.paper.specs.Cache.{read_as}
use Rattle.parts.specs.Rep.{engine}
use Rattle.serve.specs.Calls.{leaves}
use Rattle.turns.proofs.read.read_missed.Goals as goal

pub index_rows-requires : goal.index_rows-requires
index_rows-requires c =
    let a = c.args in
    record {
      blank = (length-replicate {A = ℕ} 4353 0, filled-with 4353 0);
      by_index = (a.disk.now, a.flash.now, a.addrs.now, c.requires.lent_sound);
    }

pub returns-then-first : goal.returns-then-first
returns-then-first c =
    let a = c.args in
    let w = c.read_miss in
    record {
      flashed_bound = w.ensures.flashed_bound;
      block_after = λ s x lent h sd ex.
          w.ensures.block_after s lent h sd
          ∙ ap (λ t. leaves a.b lent (read_as (engine a.b) a.b.rows s a.a.0
          (cond t (get_or s.disk a.a.0 (engine a.b).blank) x) none)) (sym c.if-first.true);
    }

pub returns : goal.returns
returns c =
    let a = c.args in
    let w = c.read_taken in
    record {
      flashed_bound = w.ensures.flashed_bound;
      block_after = λ s x lent h sd ex.
          w.ensures.block_after s x lent h sd ex
          ∙ ap (λ t. leaves a.b lent (read_as (engine a.b) a.b.rows s a.a.0
          (cond t (get_or s.disk a.a.0 (engine a.b).blank) x) none)) (sym c.if-first.false);
    }
