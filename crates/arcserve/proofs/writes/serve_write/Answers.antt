-- By the kind of the write. Assumes nothing.
use Rattle.tables.specs.Records.{bytes2}
use Rattle.arcserve.proofs.writes.serve_write.Goals as goal

pub returns-in-Through : goal.returns-in-Through
returns-in-Through c = rw c.in-Through.is c.serve_through.ensures

pub returns-in-Back : goal.returns-in-Back
returns-in-Back c = rw c.in-Back.is c.serve_back.ensures

pub returns-in-Invalidate : goal.returns-in-Invalidate
returns-in-Invalidate c =
    let e = c.serve_invalidate.ensures in
    record {
      few = e.few;
      arc_wrote = rw c.in-Invalidate.is (e.by_index_2 c.args.flash.now (bytes2 c.args.seat));
    }
