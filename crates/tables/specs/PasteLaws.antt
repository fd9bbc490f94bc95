-- Laws of `paste`, a run of elements that is replaced, for the loops that move, clear and write bytes. Assumes nothing.
use Rattle.std.specs.Prelude.{◌≡◌, ℕ, suc, ◌+◌, ◌-◌, ◌≤◌, ◌<◌, List, [], ◌∷◌, ◌++◌, length, get_or, set, take, drop}
use Rattle.std.proofs.Common.{sym, ap, ◌∙◌, append_assoc, arith, add-one, length-append, length-take-le, get_or-drop, get_or-take, take-suc, drop-cons}
use Rattle.std.proofs.Math.ListN.{get_or-append}
use Rattle.std.proofs.Math.Seq.{paste, paste-suc, paste-zero}
use Rattle.std.proofs.lemmas.List.Edits.{drop-paste}
use Rattle.std.proofs.lemmas.List.{set_at}

module _ {ℓ} {A : Type ℓ} where
  -- what stands before the run is as it was
  pub get_d-paste-before : (d : List A) (at : ℕ) (s : List A) (n i : ℕ) (z : A) → i < at → at ≤ length d → get_or (paste d at s n) i z ≡ get_or d i z
  get_d-paste-before d at s n i z h hd =
      let e : length (take at d) ≡ at = length-take-le at d hd in
      let h1 : i < length (take at d) = omega arith in
      let h2 : i < length (take at d ++ take n s) = omega (arith, length-append (take at d) (take n s)) in
      get_or-append (take at d ++ take n s) (drop (at + n) d) z i h2
      ∙ get_or-append (take at d) (take n s) z i h1
      ∙ get_or-take at d i z h

  -- what stands after it is as it was
  pub get_d-paste-after : (d : List A) (at : ℕ) (s : List A) (n i : ℕ) (z : A) → at + n ≤ i → at ≤ length d → n ≤ length s
      → get_or (paste d at s n) i z ≡ get_or d i z
  get_d-paste-after d at s n i z h hd hs =
      let e : at + n + (i - (at + n)) ≡ i = omega arith in
      ap (λ (k : ℕ). get_or (paste d at s n) k z) (sym e)
      ∙ sym (get_or-drop (at + n) (paste d at s n) (i - (at + n)) z)
      ∙ ap (λ (l : List A). get_or l (i - (at + n)) z) (drop-paste d at s n hd hs)
      ∙ get_or-drop (at + n) d (i - (at + n)) z
      ∙ ap (λ (k : ℕ). get_or d k z) e

  -- one more element in front of the run: a turn of a loop that goes down
  pub paste-front : (d : List A) (at : ℕ) (s : List A) (b j : ℕ) (z : A) → at < length d → b < length s
      → set (paste d (suc at) (drop (suc b) s) j) at (get_or s b z) ≡ paste d at (drop b s) (suc j)
  paste-front d at s b j z hd hs =
      let x : List A = take j (drop (suc b) s) in
      let y : List A = drop (suc at + j) d in
      let e : suc at + j ≡ at + suc j = omega arith in
      let h : at ≤ length d = omega arith in
      ap (λ (l : List A). set (l ++ x ++ y) at (get_or s b z)) (take-suc d at z hd)
      ∙ ap (λ (l : List A). set l at (get_or s b z)) (append_assoc (take at d ++ (get_or d at z ∷ [])) x y ∙ append_assoc (take at d) (get_or d at z ∷ []) (x ++ y))
      ∙ set_at (take at d) (get_or d at z) (x ++ y) (get_or s b z) at (length-take-le at d h)
      ∙ sym (append_assoc (take at d) (get_or s b z ∷ x) y)
      ∙ rw (drop-cons s b z hs, e)

  -- a turn of a loop that goes up
  pub paste-turn : {t : List A} (d : List A) (at : ℕ) (s : List A) (k : ℕ) (z v : A) → t ≡ paste d at s k → v ≡ get_or s k z → at + k < length d → k < length s
      → set t (at + k) v ≡ paste d at s (k + 1)
  paste-turn d at s k z v e ev hd hs = rw (e, ev, add-one, paste-suc d at s k z hd hs)

  -- the run is whole where the loop ends
  pub paste-done : {t : List A} (d : List A) (at : ℕ) (s : List A) (k n : ℕ) → t ≡ paste d at s k → k ≤ n → n ≤ k → t ≡ paste d at s n
  paste-done d at s k n e h g = let p : k ≡ n = omega arith in rw p at e

  -- a turn of a loop that goes down from k + 1 to k, of n in all
  pub paste-turn-down : {t : List A} (d : List A) (to from k n : ℕ) (z v : A) → t ≡ paste d (to + k) (drop (from + k) d) (n - k)
      → v ≡ get_or d (from + (k - 1)) z → 0 < k → k ≤ n → to + n ≤ length d → from + n ≤ length d
      → set t (to + (k - 1)) v ≡ paste d (to + (k - 1)) (drop (from + (k - 1)) d) (n - (k - 1))
  paste-turn-down d to from k n z v e ev hk hn hd hs =
      let p : to + k ≡ suc (to + (k - 1)) = omega arith in
      let q : from + k ≡ suc (from + (k - 1)) = omega arith in
      let r : n - (k - 1) ≡ suc (n - k) = omega arith in
      rw (e, ev, p, q, r, paste-front d (to + (k - 1)) d (from + (k - 1)) (n - k) z (omega arith) (omega arith))

  -- nothing is replaced yet
  pub paste_none : (d : List A) (at : ℕ) (s : List A) (k : ℕ) → k ≡ 0 → d ≡ paste d at s k
  paste_none d at s k e = rw e (paste-zero d at s)

  -- a loop that goes down is at its end
  pub paste-done-down : {t : List A} (d : List A) (to from k n : ℕ) → t ≡ paste d (to + k) (drop (from + k) d) (n - k) → k ≤ 0 → t ≡ paste d to (drop from d) n
  paste-done-down d to from k n e h =
      let p : to + k ≡ to = omega arith in
      let q : from + k ≡ from = omega arith in
      let r : n - k ≡ n = omega arith in
      rw (p, q, r) at e
