-- The bit of the row's address, and then its block row's place. Assumes nothing.
use Rattle.std.proofs.Common.{arith, refl, sym, ap, ◌∙◌}
use Rattle.std.specs.Prelude.{ℕ, ◌≤◌, ltb, length}
use Rattle.tables.specs.Rows.{rows, row_at}
use Rattle.tables.specs.RowLaws.{rows-length}
use Rattle.arcrefusals.specs.TopLaws.{place-tells}
use Rattle.arcrefusals.proofs.tops.top_ok.Goals as goal

pub returns-then-not-row_named : goal.returns-then-not-row_named
returns-then-not-row_named c = rw (sym c.row_named.ensures ∙ c.if-not-row_named.true, c.if-not-row_named.true) refl

pub returns-else-not-row_named : goal.returns-else-not-row_named
returns-else-not-row_named c =
    let a = c.args in
    let most = c.requires.has_row.2.1 in
    let h : length (rows a.d a.blocks.now) ≤ 256 = omega (arith, rows-length a.d a.blocks.now, most) in
    rw (sym c.row_named.ensures ∙ c.if-not-row_named.false)
    (ap (λ (x : ℕ). ltb x 256) c.place_of.ensures ∙ place-tells (rows a.d a.blocks.now) (row_at a.addresses.now a.k) h)
