-- By where the text has room. Assumes nothing.
use Rattle.std.proofs.Common.{ap, ◌∙◌, ◌+◌, length, take}
use Rattle.replay_cli.proofs.Paging.{both-wait, alone_waits}
use Rattle.replay_cli.proofs.collect.Goals as goal

pub returns-then-text-page-clause-page_after : goal.returns-then-text-page-clause-page_after
returns-then-text-page-clause-page_after g c =
    let a = c.args in
    ap (take (a.n + length a.text.now)) c.put.ensures ∙ both-wait a.n a.page.now a.text.now c.requires c.if-text-page.true

pub returns-then-text-page-2-clause-page_after : goal.returns-then-text-page-2-clause-page_after
returns-then-text-page-2-clause-page_after g c =
    let a = c.args in
    ap (take (length a.text.now)) c.put-then-text-page-2.ensures
    ∙ alone_waits a.n a.page.now a.text.now c.requires c.if-text-page.false c.if-text-page-2.true
