-- By the kind of the write. Assumes nothing.
use Rattle.tables.specs.Records.{bytes2}
use Rattle.std.proofs.Common.{rules}
use Rattle.serve.proofs.serve_write.Goals as goal

pub serve_invalidate-requires : goal.serve_invalidate-requires
serve_invalidate-requires c =
    record {
      disk_len = c.requires.disk_len;
      by_index = (c.args.flash.now, c.requires.lent_sound);
    }

pub returns-in-Through : goal.returns-in-Through
returns-in-Through c =
    rw c.in-Through.is c.serve_through.ensures

pub returns-in-Back : goal.returns-in-Back
returns-in-Back c =
    rw c.in-Back.is c.serve_back.ensures
