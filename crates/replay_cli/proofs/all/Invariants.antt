-- After each turn one more read is made, its bytes are fed, and the next is due. Assumes nothing.
use Rattle.std.proofs.Common.{◌≡◌, true, List, length}
use Rattle.session.specs.Memory.{Memory, memory}
use Rattle.replay_cli.specs.Chunks.{first}
use Rattle.replay_cli.specs.Reads.{Reading, after, due, Made}
use Rattle.replay_cli.proofs.all.Given as goal

abbrev pub invariant-loop-turn : goal.invariant-loop-turn
invariant-loop-turn g l =
    let r = l.fn in
    let M : Memory = memory first r.line r.disk r.flash r.addresses r.blocks r.out in
    (reads : List Reading)
    × Made (length r.chunk) M reads
    × (due M reads ≡ true)
    × (length reads ≡ l._turn)
    × (memory l.s l.line l.disk l.flash l.addresses l.blocks l.out ≡ after M reads)
