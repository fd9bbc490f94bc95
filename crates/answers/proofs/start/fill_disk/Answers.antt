use mathlib.Core.Path.{refl, sym, ap, ◌∙◌, subst}
use Prim.Native.Nat.{◌+◌, ◌-◌, ◌*◌, ◌≤◌}
use native.Mathlib.Nat.{zero-mul}
use native.Mathlib.Omega.{arith}
use lib.ListN.{take}
use Rattle.answers.specs.Replay.{start_disk}
use Rattle.answers.proofs.Filling.{block_in_lem, disk-next, length-mid}
use Rattle.answers.proofs.start.fill_disk.Goals as goal

pub loop-k-init : goal.loop-k-init
unfolding start_disk
loop-k-init c = (refl, ap (λ k. take k c.args.disk.now) (zero-mul c.args.size))

pub loop-k-preserved : goal.loop-k-preserved
loop-k-preserved c =
    let i = c.loop-k.invariant in
    let a = c.args in
    let k = c.loop-k.k in
    let d = c.loop-k.disk in
    let f = c.fill in
    let within = subst (λ n. k * a.size + a.size ≤ n) (sym (i.0 ∙ c.requires.2)) (block_in_lem k a.blocks a.size (omega arith)) in
    (length-mid (k * a.size) (k * a.size + a.size - k * a.size) d f.new.s f.auto.s ∙ i.0, disk-next d f.new.s k a.size within f.ensures i.1)
