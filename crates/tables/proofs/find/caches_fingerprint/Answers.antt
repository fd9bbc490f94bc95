-- The row is not used, or its fingerprint is compared. Assumes nothing.
use mathlib.Core.Path.{sym, ap, ◌∙◌}
use mathlib.Core.List.{List}
use Prim.Native.Nat.{ℕ}
use Rattle.tables.specs.Find.{same}
use Rattle.tables.proofs.find.caches_fingerprint.Goals as goal

pub returns-then-not-is_used : goal.returns-then-not-is_used
returns-then-not-is_used c = rw (sym c.is_used.ensures ∙ c.if-not-is_used.true)

pub returns : goal.returns
returns c =
    let a = c.args in
    rw (sym c.is_used.ensures ∙ c.if-not-is_used.false)
    (c.same_fingerprint.ensures ∙ ap (λ (f : List ℕ). same f a.g.now) c.block_fingerprint.ensures.0)
