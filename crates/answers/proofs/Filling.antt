-- A disk grows by a block. By the laws of `take` over a part put back.
use mathlib.Core.Path.{◌≡◌, sym, ap, ap₂, ◌∙◌, subst}
use mathlib.Core.List.{List, ◌++◌, append_assoc}
use Prim.Native.Nat.{ℕ, suc, ◌+◌, ◌-◌, ◌*◌, ◌≤◌, ◌<◌}
use native.Mathlib.Nat.{suc-mul, mul-le-mul, le_refl}
use native.Mathlib.Omega.{arith}
use lib.ListN.{length, take, drop, replicate, length-replicate, length-drop, length-append, take-append-drop}
use lib.Seq.{take_at, length-take-le}
use borrow.Rule.Slice.PartMut.{put_mid}
use Rattle.answers.specs.Replay.{start_disk}

one_more : (k : ℕ) → k + 1 ≡ suc k
one_more k = omega arith

-- block k lies within a disk of so many blocks
pub block_in_lem : (k n size : ℕ) → k < n → k * size + size ≤ n * size
block_in_lem k n size h = subst (λ j. j ≤ n * size) (suc-mul k size) (mul-le-mul h (le_refl size))

-- block k filled with byte k
pub disk-next : (d s : List ℕ) (k size : ℕ) → k * size + size ≤ length d → s ≡ replicate (length (take (k * size + size - k * size) (drop (k * size) d))) k → take (k * size) d ≡ start_disk size k
    → take ((k + 1) * size) (put_mid (k * size) (k * size + size - k * size) d s) ≡ start_disk size (k + 1)
unfolding start_disk
disk-next d s k size h e i =
    let at = k * size in
    let n : at + size - at ≡ size = omega arith in
    let l : length (take (at + size - at) (drop at d)) ≡ size = ap (λ j. length (take j (drop at d))) n ∙ length-take-le size (drop at d) (subst (λ j. size ≤ j) (sym (length-drop at d)) (omega arith)) in
    let f : s ≡ replicate size k = e ∙ ap (λ j. replicate j k) l in
    let m : length (take at d ++ s) ≡ (k + 1) * size =
    length-append (take at d) s ∙ ap₂ ◌+◌ (length-take-le at d (omega arith)) (ap length f ∙ length-replicate size k) ∙ sym (ap (λ j. j * size) (one_more k) ∙ suc-mul k size) in
    let r = drop (at + size - at) (drop at d) in
    ap (take ((k + 1) * size)) (sym (append_assoc (take at d) s r))
    ∙ take_at (take at d ++ s) r ((k + 1) * size) m
    ∙ ap₂ (λ x y. x ++ y) i f
    ∙ ap (start_disk size) (sym (one_more k))

-- a part put back is as long as what it replaces
pub length-mid : (at n : ℕ) (d s : List ℕ) → length s ≡ length (take n (drop at d)) → length (put_mid at n d s) ≡ length d
length-mid at n d s e =
    length-append (take at d) (s ++ drop n (drop at d))
    ∙ ap (λ k. length (take at d) + k) (length-append s (drop n (drop at d)) ∙ ap (λ k. k + length (drop n (drop at d))) e ∙ sym (length-append (take n (drop at d)) (drop n (drop at d))) ∙ ap length (take-append-drop n (drop at d)))
    ∙ sym (length-append (take at d) (drop at d))
    ∙ ap length (take-append-drop at d)
