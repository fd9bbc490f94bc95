-- The length is the record's or another; then the tables tell. Assumes nothing.
use Rattle.restoring.specs.FoundLaws.{long-body, tables-body}
use Rattle.restoring.proofs.sized_fails.Goals as goal

pub returns-then-body-end : goal.returns-then-body-end
returns-then-body-end c u w e k =
    let a = c.args in
    long-body a.body.now a.b e k c.if-body-end.true

pub returns : goal.returns
returns c u w e k =
    let a = c.args in
    tables-body a.body.now a.b e k u w c.if-body-end.false _ (c.tables_fail.ensures u w)
