-- As many zeros as there are bytes. Assumes nothing.
use Rattle.std.specs.Prelude.{◌≡◌, ◌-◌, ◌*◌, length, replicate}
use Rattle.std.proofs.Common.{rules, arith, ap, ◌∙◌}
use Rattle.tables.specs.Rows.{zeros, flat}
use Rattle.tables.specs.Records.{address_table, fresh_addresses}
use Rattle.tables.proofs.fresh.fresh_addresses.Goals as goal

pub returns : goal.returns
unfolding fresh_addresses address_table flat zeros
returns c =
    let e : length c.args.t.now ≡ (c.args.m - 0) * 40 = omega (arith, c.requires) in
    c.fill.ensures.after (search rules) ∙ ap (λ n. replicate n 0) e
