use Rattle.std.specs.Prelude.{unwrap_or}
use mathlib.Core.Path.{◌≡◌, refl, sym, ap, ◌∙◌}
use mathlib.Core.Bool.{Bool, true, false, cond}
use mathlib.Core.List.{List}
use Prim.Native.Nat.{ℕ, suc, ◌+◌, ◌-◌, ◌≤◌, ◌<◌}
use native.Mathlib.Omega.{arith}
use native.Mathlib.Numerals.{add-one}
use lib.ListN.{drop, drop_of_length-le}
use borrow.Author.Tests.{lt-ltb, le-ltb}
use Rattle.std.proofs.Common.{rules}
use Rattle.tables.specs.Rows.{rows, row_at}
use Rattle.tables.specs.RowLaws.{rows-length, turn-hit, turn-miss, turn_end}
use Rattle.tables.specs.Find.{find_from, is_dirty}
use Rattle.parts.specs.Limit.{dirty_in}
use Rattle.parts.specs.LimitLaws.{dirty-turn, dirty-most}
use Rattle.parts.proofs.limit.excess_row.Goals as goal

-- a turn is of the row before those from j on, and counts it if it is dirty
turned : (n : ℕ) (t : List ℕ) (j count : ℕ) (x : Bool) → 0 < j → count + j ≤ n → count ≡ dirty_in (drop j (rows n t))
    → is_dirty (row_at t (j - 1)) ≡ x
    → (j - 1 < n) × (j - 1 + 1 ≡ j) × (cond x 1 0 + count ≡ dirty_in (drop (j - 1) (rows n t)))
turned n t j count x more most done y =
    let i = j - 1 in
    let less : i < n = omega (arith, most, more) in
    let back : i + 1 ≡ j = omega (arith, more) in
    let d = dirty-turn n t i less ∙ ap (λ z. cond z 1 0 + dirty_in (drop (suc i) (rows n t))) y in
    let e = ap (λ k. dirty_in (drop k (rows n t))) (sym (add-one i) ∙ back) in
    (less, back, sym (d ∙ ap (λ z. cond x 1 0 + z) (e ∙ sym done)))

-- no more rows are held than may be dirty
pub returns-then-b : goal.returns-then-b
returns-then-b c =
    let a = c.args in
    let rs = rows a.b.held a.addrs.now in
    let m = dirty-most rs in
    rw (le-ltb a.b.limit (dirty_in rs) (omega (arith, m, rows-length a.b.held a.addrs.now, c.if-b.true))) refl

pub loop-i-init : goal.loop-i-init
loop-i-init c =
    let a = c.args in
    let n = a.b.held in
    let none = drop_of_length-le (rows n a.addrs.now) {i = n} (omega (arith, rows-length n a.addrs.now)) in
    (omega arith, sym (ap dirty_in none), sym (ap (λ f. unwrap_or f n) (turn_end is_dirty n a.addrs.now n (omega arith))))

pub is_dirty-requires : goal.is_dirty-requires
is_dirty-requires c =
    let h = c.loop-i.invariant.0 in
    let t = c.loop-i-test.true in
    omega (arith, h, t, c.requires)

pub loop-i-preserved-then-is_dirty : goal.loop-i-preserved-then-is_dirty
loop-i-preserved-then-is_dirty c =
    let a = c.args in
    let n = a.b.held in
    let v = c.loop-i.invariant in
    let v₀ = v.0 in
    let taken = c.loop-i-test.true in
    let y = sym c.is_dirty.ensures ∙ c.if-is_dirty.true in
    let r = turned n a.addrs.now c.loop-i.i c.loop-i.count true taken v₀ v.1 y in
    let d = r.2 in
    (omega (arith, v₀, taken), omega (arith, d), sym (ap (λ f. unwrap_or f n) (turn-hit is_dirty n a.addrs.now (c.loop-i.i - 1) r.0 y)))

pub loop-i-preserved : goal.loop-i-preserved
loop-i-preserved c =
    let a = c.args in
    let n = a.b.held in
    let v = c.loop-i.invariant in
    let v₀ = v.0 in
    let taken = c.loop-i-test.true in
    let y = sym c.is_dirty.ensures ∙ c.if-is_dirty.false in
    let r = turned n a.addrs.now c.loop-i.i c.loop-i.count false taken v₀ v.1 y in
    let d = r.2 in
    let f = turn-miss is_dirty n a.addrs.now (c.loop-i.i - 1) r.0 y ∙ ap (λ k. find_from is_dirty k (drop k (rows n a.addrs.now))) r.1 in
    (omega (arith, v₀, taken), omega (arith, d), v.2 ∙ sym (ap (λ x. unwrap_or x n) f))

pub returns-then-b-count : goal.returns-then-b-count
returns-then-b-count c =
    let a = c.args in
    let n = a.b.held in
    let t = a.addrs.now in
    let i0 : c.loop-i.i ≡ 0 = omega (arith, c.loop-i-test.false) in
    let d = c.loop-i.invariant.1 ∙ ap (λ k. dirty_in (drop k (rows n t))) i0 in
    let f = c.loop-i.invariant.2 ∙ ap (λ k. unwrap_or (find_from is_dirty k (drop k (rows n t))) n) i0 in
    rw (lt-ltb a.b.limit (dirty_in (rows n t)) (omega (arith, d, c.if-b-count.true))) f

pub returns : goal.returns
returns c =
    let a = c.args in
    let n = a.b.held in
    let t = a.addrs.now in
    let i0 : c.loop-i.i ≡ 0 = omega (arith, c.loop-i-test.false) in
    let d = c.loop-i.invariant.1 ∙ ap (λ k. dirty_in (drop k (rows n t))) i0 in
    rw (le-ltb a.b.limit (dirty_in (rows n t)) (omega (arith, d, c.if-b-count.false))) refl
