-- As many names as rows, each name marked, and each row's address marked: `names-tell`. Assumes nothing.
use mathlib.Core.Path.{◌≡◌, refl, sym, ap, ◌∙◌}
use mathlib.Core.Bool.{not}
use native.Mathlib.Omega.{arith}
use Rattle.tables.specs.Bits.{has-bit, no_bits}
use Rattle.arclists.specs.NameLaws.{wrong-count, wrong_name, rest-tells}
use Rattle.arclists.proofs.names.names_wrong.Goals as goal

pub returns-then-total-n : goal.returns-then-total-n
returns-then-total-n c =
    let a = c.args in
    wrong-count a.n a.total a.addresses.now a.lists.now c.requires.by_index c.requires.addresses_value c.if-total-n.true

pub names_marked-requires : goal.names_marked-requires
names_marked-requires c =
    record {
      n_in_bounds = (omega arith, refl);
      by_index = (λ x h. no_bits 8192 x (has-bit 8192 x h));
    }

pub returns-then-not-names_marked : goal.returns-then-not-names_marked
returns-then-not-names_marked c =
    let a = c.args in
    wrong_name a.n a.total a.addresses.now a.lists.now c.requires.by_index c.requires.addresses_value
    (sym c.names_marked.ensures.value ∙ c.if-not-names_marked.true)

pub returns : goal.returns
returns c =
    let a = c.args in
    let e : a.total ≡ a.n = omega arith in
    let y = c.if-not-names_marked.false in
    ap not c.rows_named.ensures
    ∙ rest-tells a.n a.total a.addresses.now a.lists.now c.requires.by_index c.requires.addresses_value e (sym c.names_marked.ensures.value ∙ y) _
    (c.names_marked.ensures.marked y)
