-- The laws of `splice` and `part` that this crate's proofs and those above cite. Assumes nothing.
use Rattle.std.specs.Prelude.{◌≡◌, ℕ, ◌+◌, ◌-◌, ◌*◌, ◌≤◌, take}
use Rattle.std.proofs.Math.Path.{sym, ap}
use Rattle.std.proofs.Common.{ap₂, ◌∙◌, mul-le-mul, add_assoc, Fits, Fits-le, length-append, length-take, length-drop, drop-drop, length-take-le}
use native.Mathlib.Omega.{arith}
use Rattle.std.specs.Int.{w64}
use mathlib.Core.List.{List, ◌++◌, append_assoc}
use Rattle.std.proofs.Math.ListN.{length, drop}
use Rattle.std.proofs.Math.Seq.{drop_at, drop-append-add, take_at}
use borrow.Rule.Slice.PartMut.{put_mid}
use Rattle.block.specs.Blocks.{part, splice}

within : (a n : ℕ) → a + n - a ≡ n
within a n = omega arith

-- what a call leaves behind `&mut d[a..a + n]`, n being t's length, said of the whole
pub put-mid : (a : ℕ) (d s t : List ℕ) → s ≡ t → put_mid a (a + length t - a) d s ≡ splice a t d
unfolding splice
put-mid a d s t e = rw (e, within a (length t), drop-drop)

-- `&s[a..a + n]` is the part
pub part-is : (a n : ℕ) (s : List ℕ) → take (a + n - a) (drop a s) ≡ part a n s
unfolding part
part-is a n s = rw (within a n)

pub length-splice : (at : ℕ) (s d : List ℕ) → at + length s ≤ length d → length (splice at s d) ≡ length d
unfolding splice
length-splice at s d h = simp (length-append, length-take, length-drop) (omega arith)

-- two that touch are one
pub splice-next : (at : ℕ) (s t d : List ℕ) → at ≤ length d → splice (at + length s) t (splice at s d) ≡ splice at (s ++ t) d
unfolding splice
splice-next at s t d h =
    let p = take at d in
    let r = drop (at + length s) d in
    let e : p ++ (s ++ r) ≡ p ++ s ++ r = sym (append_assoc p s r) in
    let l : length (p ++ s) ≡ at + length s = length-append p s ∙ ap (λ k. k + length s) (length-take-le at d h) in
    let head : take (at + length s) (p ++ (s ++ r)) ≡ p ++ s = ap (take (at + length s)) e ∙ take_at (p ++ s) r (at + length s) l in
    let tail : drop (at + length s + length t) (p ++ (s ++ r)) ≡ drop (at + length (s ++ t)) d =
    ap (drop (at + length s + length t)) e
    ∙ ap (λ k. drop (k + length t) (p ++ s ++ r)) (sym l)
    ∙ drop-append-add (p ++ s) r (length t)
    ∙ drop-drop (length t) (at + length s) d
    ∙ ap (λ k. drop k d) (add_assoc at (length s) (length t) ∙ ap (λ k. at + k) (sym (length-append s t))) in
    ap₂ (λ x y. x ++ (t ++ y)) head tail
    ∙ append_assoc p s (t ++ drop (at + length (s ++ t)) d)
    ∙ ap (λ x. p ++ x) (sym (append_assoc s t (drop (at + length (s ++ t)) d)))

pub length_part : (at n : ℕ) (s : List ℕ) → at + n ≤ length s → length (part at n s) ≡ n
unfolding part
length_part at n s h = simp (length-take, length-drop) (omega arith)

module _ (at n : ℕ) (s d : List ℕ) (ls : length s ≡ n) (h : at + n ≤ length d) where
  front : length (take at d) ≡ at
  front = length-take-le at d (omega arith)

  -- what is written is there, and what is before it and after it stays
  pub part-splice : part at n (splice at s d) ≡ s
  unfolding part splice
  part-splice = ap (take n) (drop_at (take at d) (s ++ drop (at + length s) d) at front) ∙ take_at s (drop (at + length s) d) n ls

  pub take-splice : take at (splice at s d) ≡ take at d
  unfolding splice
  take-splice = take_at (take at d) (s ++ drop (at + length s) d) at front

  pub part-past : (i m : ℕ) → at + n ≤ i → part i m (splice at s d) ≡ part i m d
  unfolding part splice
  part-past i m l =
      let k : at + length s + (i - (at + length s)) ≡ i = omega arith in
      let past : (x : List ℕ) → drop i x ≡ drop (i - (at + length s)) (drop (at + length s) x)
      = λ x. sym (drop-drop (i - (at + length s)) (at + length s) x ∙ ap (λ (j : ℕ). drop j x) k) in
      let seam : drop (at + length s) (take at d ++ (s ++ drop (at + length s) d)) ≡ drop (at + length s) d
      = ap (drop (at + length s)) (sym (append_assoc (take at d) s (drop (at + length s) d)))
      ∙ drop_at (take at d ++ s) (drop (at + length s) d) (at + length s) (length-append (take at d) s ∙ ap (λ (j : ℕ). j + length s) front) in
      ap (take m) (past (take at d ++ (s ++ drop (at + length s) d)) ∙ ap (drop (i - (at + length s))) seam ∙ sym (past d))

-- a product of two numbers that are at most m and n fits, where m times n does
pub product-fits : (m n x y : ℕ) → x ≤ m → y ≤ n → Fits w64 (m * n) → Fits w64 (x * y)
product-fits m n x y h k t = Fits-le (mul-le-mul h k) t
