-- The length is the record's or another; then the tables and the lists tell. Assumes nothing.
use mathlib.Core.Path.{ap, ◌∙◌}
use Rattle.restoring.specs.FoundLaws.{err-numbered}
use mathlib.Core.Bool.{not}
use mathlib.Core.List.{[]}
use Prim.Native.Nat.{ℕ}
use lib.Dec.{eqb}
use lib.ListN.{length-replicate}
use Rattle.tables.specs.SoundLaws.{filled-with}
use Rattle.paper.specs.Cache.{no_counts}
use Rattle.restoring.specs.ArcBodyLaws.{parts-fit, arc-long-body, arc-tables-body}
use Rattle.restoring.proofs.arc_body.arc_sized_fails.Goals as goal

pub returns-then-body-end : goal.returns-then-body-end
returns-then-body-end c u w e k =
    let a = c.args in
    arc-long-body a.body.now a.a e k c.if-body-end.true

pub arc_tables-requires : goal.arc_tables-requires
arc_tables-requires c =
    let a = c.args in
    record {
      fits = parts-fit a.a a.body.now c.requires.0 c.requires.1 c.requires.2 c.if-body-end.false;
      blank = (length-replicate {A = ℕ} 4353 0, filled-with 4353 0);
    }

pub returns : goal.returns
returns c u w e k =
    let a = c.args in
    arc-tables-body a.body.now a.a e k u w c.if-body-end.false _
    (c.is_err.ensures.value ∙ err-numbered c.arc_tables.result ∙ ap (λ (n : ℕ). not (eqb n 0)) (c.arc_tables.ensures.by_index [] [] no_counts))
