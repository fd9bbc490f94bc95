-- A session that is not open prints nothing. Assumes nothing.
use mathlib.Core.Path.{sym, ◌∙◌}
use Rattle.std.proofs.lemmas.Bool.{not-true, not-false}
use Rattle.print.specs.PutLaws.{put-none}
use Rattle.replay.proofs.Feeding.{is-open}
use Rattle.replay.proofs.feed.last_counters.Goals as goal

pub returns-then-ne-clause-put : goal.returns-then-ne-clause-put
returns-then-ne-clause-put c =
    let e = is-open c.args.f.session.stage ∙ not-true _ (sym c.if-ne.ensures) in
    rw e (put-none c.args.f.filled c.args.out.now)

pub returns-clause-put : goal.returns-clause-put
returns-clause-put c =
    let e = is-open c.args.f.session.stage ∙ not-false _ (sym c.ne.ensures ∙ c.if-ne.false) in
    rw e c.counters-filled.ensures.put
