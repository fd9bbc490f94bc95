-- After each byte the memory is that of the definition, and at most a page waits. Assumes nothing.
use Rattle.std.proofs.Common.{◌≡◌, ◌≤◌, length}
use Rattle.session.specs.Memory.{memory}
use Rattle.replay_cli.specs.Chunks.{fed_first}
use Rattle.replay_cli.proofs.run.Given as goal

abbrev pub invariant-loop-x : goal.invariant-loop-x
invariant-loop-x g l =
    let r = l.initial in
    record {
      fed_so_far :
          memory l.t l.line l.disk l.flash l.addresses l.blocks l.out
          ≡ fed_first l.chunk l.x-index (memory r.t r.line r.disk r.flash r.addresses r.blocks r.out);
      page_size : length l.page ≡ 65536;
      page_holds : l.n ≤ 65536;
    }
