-- By the check's refusal and the label's length: refused, nothing is touched; else both tables are made fresh, whose lengths the check has seen to.
-- Assumes nothing.
use Rattle.std.specs.Prelude.{◌≡◌, List, ℕ, replicate, Result}
use Rattle.std.proofs.Common.{rules, refl, sym, ap, ◌∙◌}
use Rattle.refusal.specs.Numbers as Refusals
use Rattle.counters.specs.declared.Counters.{Counters}
use Rattle.paper.specs.Lent.{opening, refusal}
use Rattle.parts.specs.declared.BoxRecord.{BoxRecord}
use Rattle.parts.specs.Rep.{numbers_of, empty_box, relabelled}
use Rattle.refusals.specs.Given.{counters_of, lent}
use Rattle.refusals.specs.Sizes.{opens-with}
use Rattle.open.proofs.NewBox.{number-kept, number-two, number-none, opening-refused, opening-done}
use Rattle.open.proofs.open.Goals as goal

-- the check is of the record that was made
of_made : (b x : BoxRecord) (disk flash addresses table : List ℕ) (c : Counters) (n : ℕ) → b ≡ x
    → n ≡ refusal (numbers_of b) (lent b disk flash addresses table (counters_of c)) opening
    → n ≡ refusal (numbers_of x) (lent x disk flash addresses table (counters_of c)) opening
of_made b x disk flash addresses table c n e h =
    h ∙ ap (λ (y : BoxRecord). refusal (numbers_of y) (lent y disk flash addresses table (counters_of c)) opening) e

pub returns-in-Err : goal.returns-in-Err
returns-in-Err c =
    let a = c.args in
    let n = of_made _ _ a.disk.now a.flash.now a.addresses.now a.table.now a.c _ c.empty_box-b.ensures (c.in-Err.ensures (counters_of a.c)) in
    opening-refused a.size a.blocks a.rows a.slots a.limit a.label.now a.disk.now a.flash.now a.addresses.now a.table.now a.c c.empty_box-b.result c.empty_box-b.ensures c.refused.result c.in-Err.r c.refused.ensures
    (number-kept a.size a.blocks a.rows a.slots a.limit a.label.now a.disk.now a.flash.now a.addresses.now a.table.now a.c _ n (λ z. Refusals.refused c.in-Err.r z))

pub returns-then-label-ne64 : goal.returns-then-label-ne64
returns-then-label-ne64 c =
    let a = c.args in
    let n = of_made _ _ a.disk.now a.flash.now a.addresses.now a.table.now a.c _ c.empty_box-b.ensures (c.in_default.ensures (counters_of a.c)) in
    opening-refused a.size a.blocks a.rows a.slots a.limit a.label.now a.disk.now a.flash.now a.addresses.now a.table.now a.c c.empty_box-b.result c.empty_box-b.ensures c.refused-then-label-ne64.result _ c.refused-then-label-ne64.ensures
    (number-two a.size a.blocks a.rows a.slots a.limit a.label.now a.disk.now a.flash.now a.addresses.now a.table.now a.c 0 n refl c.if-label-ne64.true)

pub fresh_addresses-requires : goal.fresh_addresses-requires
fresh_addresses-requires c =
    let a = c.args in
    let n = of_made _ _ a.disk.now a.flash.now a.addresses.now a.table.now a.c _ c.empty_box-b.ensures (c.in_default.ensures (counters_of a.c)) in
    (opens-with (empty_box a.size a.blocks a.rows a.slots a.limit (replicate 64 0)) a.disk.now a.flash.now a.addresses.now a.table.now (counters_of a.c) (sym n)).lengths.addresses

pub fresh_blocks-requires : goal.fresh_blocks-requires
fresh_blocks-requires c =
    let a = c.args in
    let n = of_made _ _ a.disk.now a.flash.now a.addresses.now a.table.now a.c _ c.empty_box-b.ensures (c.in_default.ensures (counters_of a.c)) in
    let o = opens-with (empty_box a.size a.blocks a.rows a.slots a.limit (replicate 64 0)) a.disk.now a.flash.now a.addresses.now a.table.now (counters_of a.c) (sym n) in
    (o.lengths.blocks, o.most.slots)

pub returns : goal.returns
returns c =
    let a = c.args in
    let n = of_made _ _ a.disk.now a.flash.now a.addresses.now a.table.now a.c _ c.empty_box-b.ensures (c.in_default.ensures (counters_of a.c)) in
    let b = c.with_label.ensures ∙ ap (λ (x : BoxRecord). relabelled x a.label.now) c.empty_box-b.ensures in
    opening-done a.size a.blocks a.rows a.slots a.limit a.label.now a.disk.now a.flash.now a.addresses.now a.table.now a.c (number-none a.size a.blocks a.rows a.slots a.limit a.label.now a.disk.now a.flash.now a.addresses.now a.table.now a.c 0 n refl c.if-label-ne64.false) c.with_label.result b c.fresh_addresses.new.t c.fresh_blocks.new.t
    c.no_counts.result c.fresh_addresses.ensures c.fresh_blocks.ensures c.no_counts.ensures
