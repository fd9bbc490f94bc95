-- The disk and the flash filled, and the box opened over them. Assumes nothing.
use mathlib.Core.Path.{◌≡◌, ap, ◌∙◌}
use lib.ListN.{length, replicate}
use Rattle.std.proofs.Common.{rules}
use Rattle.answers.proofs.Starting.{start_is}
use Rattle.answers.proofs.start.start.Goals as goal

pub returns : goal.returns
returns c =
    let label-long : length c.args.b.label ≡ 64 = search rules in
    let a = c.args in
    let d = c.fill_disk in
    let f = c.fill in
    let o = c.«open» in
    let l = c.requires.disk_len in
    let r = start_is o.result a.b d.new.disk f.new.s o.new.addresses o.new.table a.addresses.now
    a.blocks.now _ c.requires.size_bound.2 (d.auto.disk ∙ l.0) (f.auto.s ∙ l.1) l.2 l.3 label-long d.ensures
    (f.ensures ∙ ap (λ k. replicate k 0) l.1) o.ensures in
    record { box_record_value = r.0; counters_after = r.1 }
