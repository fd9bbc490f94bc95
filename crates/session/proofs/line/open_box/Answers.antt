-- The box started in the first parts of the buffers, and those put back. Assumes nothing.
use Rattle.std.proofs.Common.{◌*◌, arith}
use Rattle.parts.specs.Rep.{numbers_of}
use Rattle.refusals.specs.Given.{counters_of}
use Rattle.answers.specs.Replay.{started}
use Rattle.session.proofs.Boxing.{first-length, put_back}
use Rattle.tables.specs.Rows.{table_bytes}
use Rattle.session.proofs.line.open_box.Goals as goal

pub start-requires : goal.start-requires
start-requires c =
    let a = c.args in
    let h = c.requires.holds in
    let z = c.requires.sized in
    record {
      size_bound = (h.0, h.1, c.requires.opening);
      disk_len = (first-length (a.b.blocks * a.b.size) a.disk.now (omega arith), first-length (a.b.slots * a.b.size) a.flash.now (omega arith), first-length (table_bytes a.b.rows) a.addresses.now (omega arith), first-length (table_bytes a.b.slots) a.blocks.now (omega arith));
    }

pub returns : goal.returns
returns c =
    let a = c.args in
    let r = c.start in
    let d = r.new in
    let k = r.auto in
    record {
      box_record_value = r.ensures.box_record_value;
      blocks_after = put_back a.b r.result.box_record (counters_of r.result.counters) (started (numbers_of a.b)) a.disk.now a.flash.now a.addresses.now a.blocks.now
          d.disk d.flash d.addresses d.blocks c.requires.holds c.requires.sized k.disk k.flash k.addresses k.blocks r.ensures.counters_after;
    }
