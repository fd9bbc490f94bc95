-- A report grows by a row. Assumes nothing.
use mathlib.Core.Path.{◌≡◌, sym, ap, ap₂, ◌∙◌, subst}
use mathlib.Core.List.{List, ◌++◌, append_assoc}
use Prim.Native.Nat.{ℕ, suc, ◌+◌, ◌*◌, ◌≤◌, ◌<◌}
use native.Mathlib.Nat.{suc-mul, mul-le-mul, le_refl}
use native.Mathlib.Omega.{arith}
use lib.ListN.{length, take, drop, length-append}
use lib.Seq.{take_at, take_all, length-take-le}
use Rattle.block.specs.Blocks.{splice}
use Rattle.reports.specs.RowByRow.{row_in, rows_in}

one_more : (k : ℕ) → k + 1 ≡ suc k
one_more k = omega arith

-- row k lies within a report of m rows
pub row-in : (k m bytes : ℕ) → k < m → k * bytes + bytes ≤ m * bytes
row-in k m bytes h = subst (λ j. j ≤ m * bytes) (suc-mul k bytes) (mul-le-mul h (le_refl bytes))

pub row_next : (bytes n : ℕ) (t : List ℕ) (k : ℕ) (d s : List ℕ) → k * bytes + bytes ≤ length d → length s ≡ bytes → s ≡ take bytes (row_in n t k)
    → take (k * bytes) d ≡ rows_in bytes n t k → take ((k + 1) * bytes) (splice (k * bytes) s d) ≡ rows_in bytes n t (k + 1)
unfolding splice rows_in
row_next bytes n t k d s h l e i =
    let at = k * bytes in
    let m : length (take at d ++ s) ≡ (k + 1) * bytes =
    length-append (take at d) s ∙ ap₂ ◌+◌ (length-take-le at d (omega arith)) l ∙ sym (ap (λ j. j * bytes) (one_more k) ∙ suc-mul k bytes) in
    let r = drop (at + length s) d in
    ap (take ((k + 1) * bytes)) (sym (append_assoc (take at d) s r))
    ∙ take_at (take at d ++ s) r ((k + 1) * bytes) m
    ∙ ap₂ {C = List ℕ} ◌++◌ i e
    ∙ ap (rows_in bytes n t) (sym (one_more k))

-- the whole report
pub rows-done : (bytes n : ℕ) (t d : List ℕ) (m : ℕ) → length d ≡ m * bytes → take (m * bytes) d ≡ rows_in bytes n t m → d ≡ rows_in bytes n t m
rows-done bytes n t d m l e = sym (take_all (m * bytes) d (subst (λ x. x ≤ m * bytes) (sym l) (le_refl (m * bytes)))) ∙ e
