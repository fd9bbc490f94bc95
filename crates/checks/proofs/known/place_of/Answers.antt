-- The row found, or 256. Assumes nothing.
use Rattle.std.proofs.Common.{◌≡◌, ℕ, Option, Some, None, refl, ap, ◌∙◌}
use Rattle.std.specs.Option.{unwrap_or}
use Rattle.tables.specs.Find.{find_from, caches}
use Rattle.tables.specs.Rows.{rows}
use Rattle.tables.specs.Index.{code, place_in}
use Rattle.checks.proofs.known.place_of.Goals as goal

is-code : (o : Option ℕ) → unwrap_or o 256 ≡ code o
is-code (Some i) = refl
is-code None = refl

pub returns : goal.returns
unfolding place_in
returns c =
    let a = c.args in
    c.unwrap_or.ensures ∙ is-code c.find.result
    ∙ ap code (c.find.ensures ∙ ap (λ g. find_from (caches g) 0 (rows a.d a.t.now)) c.address_fingerprint.ensures.0)
