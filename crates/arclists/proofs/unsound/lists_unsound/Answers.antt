-- The sizes, then p, then the bytes behind, then the names. Assumes nothing.
use Rattle.std.specs.Prelude.{◌+◌, ◌*◌, ◌≤◌}
use Rattle.std.proofs.Common.{arith, sym, ap, ◌∙◌}
use Rattle.tables.specs.Find.{any}
use Rattle.tables.specs.Unsound.{nonzero}
use Rattle.arclists.specs.Holding.{total}
use Rattle.arclists.specs.UnsoundLaws.{fits-total, by_size, by-p, by-tail, by_names, same-limits, from-on}
use Rattle.arclists.proofs.unsound.lists_unsound.Goals as goal
use Rattle.arclists.proofs.unsound.lists_unsound.Goals.{Else-s}

-- the lists have room
small : (c : Else-s) → total c.args.s ≤ c.args.s.cached + c.args.s.cached + c.args.s.extra
small c = fits-total c.args.s (sym c.too_large.ensures ∙ c.if-too_large.false)

pub returns-then-too_large : goal.returns-then-too_large
returns-then-too_large c =
    let a = c.args in
    λ Z rs z q. same-limits a.s rs a.lists.now Z _ z (by_size a.s rs a.lists.now (sym c.if-too_large.true ∙ c.too_large.ensures))

pub returns-then-s : goal.returns-then-s
returns-then-s c =
    let a = c.args in
    λ Z rs z q. same-limits a.s rs a.lists.now Z _ z (by-p a.s rs a.lists.now c.if-s.true)

pub total-total-requires : goal.total-total-requires
total-total-requires c = omega (arith, small c)

pub overflow_mul-total : goal.overflow_mul-total
overflow_mul-total c = let h = fits-total c.args.s (sym c.too_large.ensures ∙ c.if-too_large.false) in omega (arith, h, c.total-total.ensures)

pub slice_bounds-has_nonzero-count : goal.slice_bounds-has_nonzero-count
slice_bounds-has_nonzero-count c =
    let h = fits-total c.args.s (sym c.too_large.ensures ∙ c.if-too_large.false) in omega (arith, h, c.total-total.ensures, c.requires.lists_len.0)

pub slice_bounds-has_nonzero-start : goal.slice_bounds-has_nonzero-start
slice_bounds-has_nonzero-start c =
    let h = fits-total c.args.s (sym c.too_large.ensures ∙ c.if-too_large.false) in omega (arith, h, c.total-total.ensures, c.requires.lists_len.0)

pub returns-then-has_nonzero : goal.returns-then-has_nonzero
returns-then-has_nonzero c =
    let a = c.args in
    λ Z rs z q. same-limits a.s rs a.lists.now Z _ z
    (by-tail a.s rs a.lists.now _ c.total-total.ensures
    (sym c.if-has_nonzero.true ∙ c.has_nonzero.ensures ∙ ap (any nonzero) (from-on a.lists.now (c.total-total.result * 4))))

pub names_wrong-requires : goal.names_wrong-requires
names_wrong-requires c =
    let h = fits-total c.args.s (sym c.too_large.ensures ∙ c.if-too_large.false) in
    record {
      n_in_bounds = (c.requires.lists_len.1, omega (arith, h, c.total-total.ensures));
      by_index = c.requires.by_index;
      addresses_value = c.requires.addresses_value;
    }

pub returns : goal.returns
returns c =
    let a = c.args in
    λ Z rs z q. same-limits a.s rs a.lists.now Z _ z
    (c.names_wrong.ensures
    ∙ by_names a.s rs a.lists.now _ _ c.total-total.ensures (sym c.too_large.ensures ∙ c.if-too_large.false) (omega arith)
    (ap (any nonzero) (sym (from-on a.lists.now (c.total-total.result * 4))) ∙ sym c.has_nonzero.ensures ∙ c.if-has_nonzero.false) q)
