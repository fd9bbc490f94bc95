-- The fingerprint is that of the row. Assumes nothing.
use mathlib.Core.Path.{ap, ◌∙◌}
use mathlib.Core.List.{List}
use Prim.Native.Nat.{ℕ}
use Rattle.tables.specs.Find.{same}
use Rattle.tables.proofs.find.fingerprint_is.Goals as goal

pub returns : goal.returns
returns c =
    let a = c.args in
    c.same_fingerprint.ensures ∙ ap (λ (f : List ℕ). same f a.g.now) c.address_fingerprint.ensures.0
