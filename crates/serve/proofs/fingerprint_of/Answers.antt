-- The digest is over the record's label and the block. Assumes nothing.
use mathlib.Core.Path.{sym, ap, ◌∙◌}
use mathlib.Core.List.{List, ◌++◌}
use Prim.Native.Nat.{ℕ}
use Rattle.std.proofs.Common.{rules}
use Rattle.hash.specs.Sha256.{sha256}
use Rattle.serve.proofs.fingerprint_of.Goals as goal

pub returns : goal.returns
returns c =
    let a = c.args in
    λ x ex. ap (λ (y : List ℕ). sha256 (a.b.label ++ y)) ex ∙ sym c.labelled_sha256.ensures
