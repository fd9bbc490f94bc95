use Rattle.std.proofs.Common.{◌≡◌, ℕ, ◌≤◌, ◌<◌, refl, sym, ◌∙◌, subst, arith, drop}
use Rattle.std.proofs.lemmas.Grind.{common_steps}
use Rattle.tables.specs.Rows.{rows}
use Rattle.tables.specs.RowLaws.{rows-length, turn-hit, turn-miss, turn_end}
use Rattle.tables.specs.Find.{find_from, caches}
use Rattle.tables.specs.Index.{bucket, choice, onward, Goes}
use Rattle.checks.proofs.index.walk.Goals as goal

pub loop-k-init : goal.loop-k-init
loop-k-init c =
    let a = c.args in
    let x = bucket (choice a.heads.now) a.g.now in
    (refl, omega arith, λ h. c.requires.by_index a.from x (omega arith) (rw rows-length h) (c.requires.fact (rw rows-length h)))

pub returns-then-caches_fingerprint : goal.returns-then-caches_fingerprint
returns-then-caches_fingerprint c =
    let a = c.args in
    grind (arith, common_steps, turn-hit (caches a.g.now) a.d a.t.now c.loop-k.k)

pub loop-k-preserved : goal.loop-k-preserved
loop-k-preserved c =
    let a = c.args in
    let rs = rows a.d a.t.now in
    let x = bucket (choice a.heads.now) a.g.now in
    let k = c.loop-k.k in
    let i = c.loop-k.invariant in
    let p = i.2 c.loop-k-test.true in
    let m = onward a.heads.now k in
    let further : a.from ≤ m = omega (arith, i.1, p.0) in
    let P : ℕ → Type 0 = λ y. (find_from (caches a.g.now) a.from (drop a.from rs) ≡ find_from (caches a.g.now) y (drop y rs))
    × (a.from ≤ y)
    × (y < a.d → Goes (choice a.heads.now) rs x y (onward a.heads.now y)) in
    let missed = sym c.caches_fingerprint.ensures ∙ c.if-caches_fingerprint.false in
    let r : P m = (
      i.0 ∙ turn-miss (caches a.g.now) a.d a.t.now k c.loop-k-test.true missed ∙ p.1.1 a.g.now refl,
      further,
      λ h. c.requires.by_index m x further (rw rows-length h) (p.1.0 (rw rows-length h)),
    ) in
    subst P (sym c.entry-k.ensures) r

pub returns : goal.returns
returns c =
    let a = c.args in
    grind (arith, common_steps, turn_end (caches a.g.now) a.d a.t.now c.loop-k.k)
