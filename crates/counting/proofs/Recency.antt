-- The list of `put` after a list of keys holds the newest distinct ones: which, by counting.
use Rattle.std.specs.Prelude.{◌≡◌, refl, Bool, true, false, not, ◌&&◌, ◌||◌, ◌⊎◌, ℕ, suc, ◌+◌, ◌≤◌, eqb, ltb, drop}
use Rattle.std.proofs.Math.Path.{sym, ap, subst}
use Rattle.std.proofs.Common.{◌∙◌, arith}
use Rattle.std.proofs.Math.Bool.{and-false, or-false}
use mathlib.Core.List.{List, [], ◌∷◌, ◌++◌, append_assoc}
use Rattle.std.proofs.Math.Logic.{inl, inr}
use Rattle.std.proofs.Math.ListN.{length, length-append}
use borrow.Author.Tests.{eqb-false, ltb-true, ltb-false}
use Rattle.paper.specs.Keyed.{without}
use Rattle.paper.specs.KeyedLaws.{by-test, either, clash, or_right, or-false-right, eqb→≡, Distinct, has-append, without-append, without-absent}
use Rattle.paper.proofs.OrderLaws.{tail-≡, order, has-order}
use Rattle.paper.specs.Machines.{put}
use Rattle.counting.specs.Told.{occurs, since, distinct}

-- of two ends of one list, the shorter is an end of the longer
pub ends : {A : Type 0} (o s p t : List A) → o ++ s ≡ p ++ t → length t ≤ length s → (w : List A) × (s ≡ w ++ t)
ends [] s p t e h = (p, e)
ends (x ∷ o) s [] t e h = absurd (omega (arith, ap length e, length-append o s))
ends (x ∷ o) s (y ∷ p) t e h = ends o s p t (tail-≡ x y (o ++ s) (p ++ t) e) h

module _ {K : Type 0} (same : K → K → Bool) where
  -- s is the newest part of r: n of them, or all where there are not more
  pub record Newest (n : ℕ) (r s : List K) : Type 0 where
    pub older : List K
    pub whole : r ≡ older ++ s
    pub most : length s ≤ n
    pub full : (length s ≡ n) ⊎ (older ≡ [])

  -- the distinct ones of a list are counted by their order
  pub distinct-length : (l : List K) → distinct same l ≡ length (order same l)
  distinct-length [] = refl
  distinct-length (x ∷ xs) = by-test (occurs same x xs) (λ h. rw h (distinct-length xs)) (λ h. rw h (ap suc (distinct-length xs)))

module _ {K : Type 0} (same : K → K → Bool) (same→≡ : (j k : K) → same j k ≡ true → j ≡ k) (same_refl : (k : K) → same k k ≡ true) where
  pub distinct-order : (l : List K) → Distinct same (λ x. x) (order same l)
  distinct-order [] = tt
  distinct-order (x ∷ xs) =
      by-test (occurs same x xs) (λ h. rw h (distinct-order xs)) (λ h. rw h (has-order same same→≡ same_refl x xs ∙ h, distinct-order xs))

  -- what is in the newer part is not in the older
  apart : (k : K) (o s : List K) → Distinct same (λ x. x) (o ++ s) → occurs same k s ≡ true → occurs same k o ≡ false
  apart k [] s d h = refl
  apart k (x ∷ o) s d h =
      by-test (same k x)
      (λ e. clash (has-append same (λ x. x) x o s ∙ or_right (occurs same x o) (occurs same x s) (rw (← same→≡ k x e) h)) d.0)
      (λ e. rw e (apart k o s d.1 h))

  distinct-right : (o s : List K) → Distinct same (λ x. x) (o ++ s) → Distinct same (λ x. x) s
  distinct-right [] s d = d
  distinct-right (x ∷ o) s d = distinct-right o s d.1

  pub one_out : (k : K) (s : List K) → Distinct same (λ x. x) s → occurs same k s ≡ true → suc (length (without same (λ x. x) k s)) ≡ length s
  one_out k [] d = λ h. clash h refl
  one_out k (x ∷ xs) d =
      by-test (same k x)
      (λ e. rw e (λ h. ap suc (ap length (without-absent same (λ x. x) k xs (rw (same→≡ k x e) d.0)))))
      (λ e. rw e (λ h. ap suc (one_out k xs d.1 h)))

  -- the list after one more key
  pub newest-put : (n : ℕ) (k : K) (r s : List K) → 1 ≤ n → Distinct same (λ x. x) r → Newest same n r s
      → Newest same n (without same (λ x. x) k r ++ (k ∷ [])) (put same n k s)
  unfolding put
  newest-put n k r s n1 d v =
      let o = v.older in
      let d' : Distinct same (λ x. x) (o ++ s) = subst (Distinct same (λ x. x)) v.whole d in
      let out : without same (λ x. x) k r ++ (k ∷ []) ≡ without same (λ x. x) k o ++ (without same (λ x. x) k s ++ (k ∷ []))
      = ap (λ l. without same (λ x. x) k l ++ (k ∷ [])) v.whole ∙ ap (λ l. l ++ (k ∷ [])) (without-append same (λ x. x) k o s)
      ∙ append_assoc (without same (λ x. x) k o) (without same (λ x. x) k s) (k ∷ []) in
      by-test (occurs same k s)
      (λ h. rw h (
      let a : without same (λ x. x) k o ≡ o = without-absent same (λ x. x) k o (apart k o s d' h) in
      let l : length (without same (λ x. x) k s ++ (k ∷ [])) ≡ length s
      = omega (arith, length-append (without same (λ x. x) k s) (k ∷ []), one_out k s (distinct-right o s d') h) in
      record {
        older = o;
        whole = out ∙ ap (λ z. z ++ (without same (λ x. x) k s ++ (k ∷ []))) a;
        most = omega (arith, v.most);
        full = either v.full (λ e. inl (l ∙ e)) (λ e. inr e);
      }))
      (λ h. rw h (
      let w : without same (λ x. x) k s ≡ s = without-absent same (λ x. x) k s h in
      let out' : without same (λ x. x) k r ++ (k ∷ []) ≡ without same (λ x. x) k o ++ (s ++ (k ∷ []))
      = out ∙ ap (λ z. without same (λ x. x) k o ++ (z ++ (k ∷ []))) w in
      by-test (eqb (length s) n)
      (λ e. rw e (taken n k (without same (λ x. x) k r ++ (k ∷ [])) (without same (λ x. x) k o) s n1 (eqb→≡ (length s) n e) out'))
      (λ e. rw e (either v.full (λ f. absurd (eqb-false (length s) n e f))
      (λ f. record {
        older = without same (λ x. x) k o;
        whole = out';
        most = let ne = eqb-false (length s) n e in let m = v.most in omega (arith, length-append s (k ∷ []));
        full = inr (ap (without same (λ x. x) k) f);
      })))))
    where
      taken : (n : ℕ) (k : K) (r o s : List K) → 1 ≤ n → length s ≡ n → r ≡ o ++ (s ++ (k ∷ [])) → Newest same n r (drop 1 s ++ (k ∷ []))
      taken n k r o [] n1 l e = absurd (omega arith)
      taken n k r o (x ∷ s) n1 l e =
          let len : length (s ++ (k ∷ [])) ≡ n = omega (arith, length-append s (k ∷ []), l) in
          record { older = o ++ (x ∷ []); whole = e ∙ sym (append_assoc o (x ∷ []) (s ++ (k ∷ []))); most = omega (arith, len); full = inl len }

  -- where k occurs, its place in the order is before what came since
  pub record Placed (k : K) (l : List K) : Type 0 where
    pub before : List K
    pub place : order same l ≡ before ++ (k ∷ order same (since same k l))
    pub others : occurs same k (since same k l) ≡ false

  placed : (k : K) (l : List K) → occurs same k l ≡ true → Placed k l
  placed k [] = λ h. clash h refl
  placed k (x ∷ xs) =
      by-test (occurs same k xs)
      (λ h t.
      let p = placed k xs h in
      let s : since same k (x ∷ xs) ≡ since same k xs = rw h (rw (and-false (same k x)) refl) in
      by-test (occurs same x xs)
      (λ i. record { before = p.before; place = rw i (p.place ∙ ap (λ z. p.before ++ (k ∷ order same z)) (sym s)); others = rw s p.others })
      (λ i. record {
        before = x ∷ p.before;
        place = rw i (ap {B = List K} (λ z. x ∷ z) (p.place ∙ ap (λ z. p.before ++ (k ∷ order same z)) (sym s)));
        others = rw s p.others;
      }))
      (λ h t.
      let e : same k x ≡ true = sym (or-false (same k x)) ∙ ap (λ b. same k x || b) (sym h) ∙ t in
      let s : since same k (x ∷ xs) ≡ xs = rw (e, h) refl in
      let i : occurs same x xs ≡ false = rw (← same→≡ k x e) h in
      record {
        before = [];
        place = rw i (ap {B = List K} (λ z. z ∷ order same xs) (sym (same→≡ k x e)) ∙ ap {B = List K} (λ z. k ∷ order same z) (sym s));
        others = rw s h;
      })

  -- "present": it occurred, with fewer than n distinct others since
  pub present : (n : ℕ) (k : K) (l s : List K) → Newest same n (order same l) s → occurs same k s ≡ (occurs same k l && ltb (distinct same (since same k l)) n)
  present n k l s v =
      by-test (occurs same k l)
      (λ h. rw h (there (placed k l h)))
      (λ h. rw h (or-false-right (occurs same k v.older) (occurs same k s)
      (sym (has-append same (λ x. x) k v.older s) ∙ sym (ap (occurs same k) v.whole) ∙ has-order same same→≡ same_refl k l ∙ h)))
    where
      there : Placed k l → occurs same k s ≡ ltb (distinct same (since same k l)) n
      there p =
          let q = order same (since same k l) in
          let b = p.before in
          let both : v.older ++ s ≡ b ++ (k ∷ q) = sym v.whole ∙ p.place in
          let dq : distinct same (since same k l) ≡ length q = distinct-length same (since same k l) in
          let absent : occurs same k q ≡ false = has-order same same→≡ same_refl k (since same k l) ∙ p.others in
          let long : suc (length q) ≤ length s → occurs same k s ≡ true
          = λ g. let w = ends v.older s b (k ∷ q) both g in
          ap (occurs same k) w.1 ∙ has-append same (λ x. x) k w.0 (k ∷ q)
          ∙ or_right (occurs same k w.0) (occurs same k (k ∷ q)) (rw (same_refl k) refl) in
          by-test (ltb (distinct same (since same k l)) n)
          (λ t. long (either v.full (λ f. omega (arith, ltb-true (distinct same (since same k l)) n t))
          (λ f. omega (arith, ap length (ap (λ z. z ++ s) (sym f) ∙ both), length-append b (k ∷ q)))) ∙ sym t)
          (λ t.
          let g : length s ≤ length q = omega (arith, ltb-false (distinct same (since same k l)) n t, v.most) in
          let w = ends (b ++ (k ∷ [])) q v.older s (append_assoc b (k ∷ []) q ∙ sym both) g in
          or-false-right (occurs same k w.0) (occurs same k s)
          (sym (has-append same (λ x. x) k w.0 s) ∙ sym (ap (occurs same k) w.1) ∙ absent) ∙ sym t)
