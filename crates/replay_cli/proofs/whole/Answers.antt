-- The reads of the loop, and the end after them. Assumes nothing.
use Rattle.std.proofs.Common.{ap, ◌∙◌, ◌++◌}
use Rattle.session.specs.Memory.{Memory, FedMemory, memory, ended}
use Rattle.replay.specs.Pieces.{text_of}
use Rattle.replay_cli.specs.Chunks.{first}
use Rattle.replay_cli.specs.Reads.{handed}
use Rattle.replay_cli.specs.ReadLaws.{run-replays}
use Rattle.replay_cli.proofs.whole.Goals as goal

pub returns : goal.returns
returns g c =
    let a = c.args in
    let M : Memory = memory first a.line.now a.disk.now a.flash.now a.addresses.now a.blocks.now a.out.now in
    let e = c.all-s.ensures in
    let l = c.last.ensures ∙ ap ended e.3 in (
      e.0,
      e.1,
      e.2,
      l,
      ap (λ (x : FedMemory). handed M e.0 ++ text_of x) l ∙ run-replays _ M e.0 c.requires e.1,
    )
