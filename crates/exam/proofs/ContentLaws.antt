-- Addresses told by the first with their content.
use mathlib.Core.Path.{◌≡◌, refl, sym, ap, ap₂, ◌∙◌}
use mathlib.Core.Bool.{Bool, true, false}
use mathlib.Core.List.{List, ◌++◌}
use mathlib.Core.Logic.{◌⊎◌, inl, inr}
use Prim.Native.Nat.{ℕ, zero, suc, ◌+◌, ◌*◌, ◌-◌, ◌≤◌, ◌<◌}
use native.Mathlib.Omega.{arith}
use lib.Dec.{eqb, ltb}
use Rattle.std.specs.Prelude.{Option, None, Some, MatchOption}
use Rattle.std.specs.Option.{unwrap_or}
use lib.ListN.{length, take, drop, get_or, length-drop}
use lib.Seq.{take-append-le, drop-drop}
use borrow.Author.Tests.{eqb-true, eqb-false, eq-eqb, ne_eqb, lt-ltb, ltb-true, ltb-false}
use Rattle.hash.specs.Sha256.{sha256}
use Rattle.tables.specs.Rows.{zeros}
use Rattle.tables.specs.Find.{same}
use Rattle.paper.specs.KeyedLaws.{by-test, either, clash}
use Rattle.paper.specs.Engine.{Fixed, fixed-≡, fit, fingerprinting, same_refl, same→≡}
use Rattle.paper.specs.Lent.{split}
use Rattle.paper.specs.Machines.{content_of}
use Rattle.exam.specs.declared.search.Question.{Question}
use Rattle.exam.specs.Small.{pick, print_at, first_from, first_with, contents_of}
use Rattle.exam.proofs.Simulated.{Contents}

-- the first that passes, by its place: x passes, or is the end
first-at : (t : ℕ → Bool) (b left x : ℕ) → b ≤ x → x ≤ b + left → (x < b + left → t x ≡ true) → ((k : ℕ) → b ≤ k → k < x → t k ≡ false)
    → first_from t b left ≡ x
unfolding first_from
first-at t b zero x l m y n = omega arith
first-at t b (suc left) x l m y n =
    by-test (t b)
    (λ e. by-test (eqb b x)
    (λ q. rw e (eqb-true b x q))
    (λ q. let ne = eqb-false b x q in clash e (n b (omega arith) (omega arith))))
    (λ e. by-test (eqb b x)
    (λ q. let is = eqb-true b x q in clash (ap t is ∙ y (omega arith)) e)
    (λ q. let ne = eqb-false b x q in
    rw e (first-at t (suc b) left x (omega arith) (omega arith) (λ h. y (omega arith)) (λ k h i. n k (omega arith) i))))

pub first-found : (t : ℕ → Bool) (a : ℕ) (r : Option ℕ)
    → MatchOption r ((k : ℕ) → 0 ≤ k → k < a → t k ≡ false)
    (λ i. (0 ≤ i) × (i < a) × (t i ≡ true) × ((k : ℕ) → 0 ≤ k → k < i → t k ≡ false))
    → unwrap_or r a ≡ first_from t 0 a
first-found t a None h = sym (first-at t 0 a a (omega arith) (omega arith) (λ l. absurd (omega arith)) h)
first-found t a (Some i) h = sym (first-at t 0 a i (omega arith) (omega (arith, h.1)) (λ l. h.2) h.3)

-- what is found
first_passes : (t : ℕ → Bool) (b left : ℕ) → (t (first_from t b left) ≡ true) ⊎ (first_from t b left ≡ b + left)
unfolding first_from
first_passes t b zero = inr (omega arith)
first_passes t b (suc left) =
    by-test (t b) (λ e. rw e (inl e)) (λ e. rw e (either (first_passes t (suc b) left) (λ p. inl p) (λ p. inr (omega (arith, p)))))

first-most : (t : ℕ → Bool) (b left : ℕ) → first_from t b left ≤ b + left
unfolding first_from
first-most t b zero = omega arith
first-most t b (suc left) = by-test (t b) (λ e. rw e (omega arith)) (λ e. rw e (omega (arith, first-most t (suc b) left)))

first-fails : (t : ℕ → Bool) (b left x : ℕ) → b ≤ x → x < first_from t b left → t x ≡ false
unfolding first_from
first-fails t b zero x l = λ h. absurd (omega arith)
first-fails t b (suc left) x l =
    by-test (t b)
    (λ e. rw e (λ h. absurd (omega arith)))
    (λ e. rw e (λ h. by-test (eqb b x)
    (λ q. ap t (sym (eqb-true b x q)) ∙ e)
    (λ q. first-fails t (suc b) left x (let ne = eqb-false b x q in omega arith) h)))

module _ {K : Type 0} (same : K → K → Bool) (same→≡ : (j k : K) → same j k ≡ true → j ≡ k) (same_refl : (k : K) → same k k ≡ true)
    (content : ℕ → K) where
  pub with-most : (a : ℕ) → first_with same content a ≤ a
  with-most a = omega (arith, first-most (λ b. same (content b) (content a)) 0 a)

  pub with-tells : (a : ℕ) → content (first_with same content a) ≡ content a
  with-tells a =
      either (first_passes (λ b. same (content b) (content a)) 0 a)
      (λ p. same→≡ (content (first_with same content a)) (content a) p)
      (λ p. let e : first_with same content a ≡ a = omega (arith, p) in ap content e)

  -- no earlier address has the content
  with_first : (a x : ℕ) → content x ≡ content a → first_with same content a ≤ x
  with_first a x e =
      by-test (ltb x (first_with same content a))
      (λ l. clash (ap (λ z. same z (content a)) e ∙ same_refl (content a))
      (first-fails (λ b. same (content b) (content a)) 0 a x (omega arith) (ltb-true x (first_with same content a) l)))
      (λ l. ltb-false x (first_with same content a) l)

  pub with-apart : (a b : ℕ) → same (content a) (content b) ≡ eqb (first_with same content a) (first_with same content b)
  with-apart a b =
      by-test (same (content a) (content b))
      (λ e.
      let c : content a ≡ content b = same→≡ (content a) (content b) e in
      let x = with_first a (first_with same content b) (with-tells b ∙ sym c) in
      let y = with_first b (first_with same content a) (with-tells a ∙ c) in
      e ∙ sym (eq-eqb (first_with same content a) (first_with same content b) (omega (arith, x, y))))
      (λ e. e ∙ sym (ne_eqb (first_with same content a) (first_with same content b)
      (λ q. clash (ap (same (content a)) (sym (sym (with-tells a) ∙ ap content q ∙ with-tells b)) ∙ same_refl (content a)) e)))

-- part a of the parts of n bytes is the n bytes from a × n on
part_bytes : (n c a : ℕ) (l : List ℕ) (blank : Fixed n) → a < c → c * n ≤ length l → (get_or (split n c l) a blank).0 ≡ take n (drop (a * n) l)
unfolding split fit
part_bytes n zero a l blank h e = absurd (omega arith)
part_bytes n (suc c) zero l blank h e =
    take-append-le n l (zeros n) (omega arith) ∙ (let z : 0 ≡ 0 * n = omega arith in ap (λ j. take n (drop j l)) z)
part_bytes n (suc c) (suc a) l blank h e =
    let dl : length (drop n l) ≡ length l - n = length-drop n l in
    let s : suc a * n ≡ n + a * n = omega arith in
    part_bytes n c a (drop n l) blank (omega arith) (omega arith) ∙ ap (take n) (drop-drop (a * n) n l ∙ ap (λ j. drop j l) (sym s))

-- the code's contents
module _ (label disk : List ℕ) where
  abbrev print : ℕ → List ℕ
  print = print_at label disk

  pick-contents : (P a : ℕ) → P ≤ 4 → a < P → pick (contents_of label disk P) a ≡ first_with same print a
  unfolding contents_of pick
  pick-contents P zero l h = rw (lt-ltb 0 P (omega arith)) refl
  pick-contents P (suc zero) l h = rw (lt-ltb 1 P (omega arith)) refl
  pick-contents P (suc (suc zero)) l h = rw (lt-ltb 2 P (omega arith)) refl
  pick-contents P (suc (suc (suc zero))) l h = rw (lt-ltb 3 P (omega arith)) refl
  pick-contents P (suc (suc (suc (suc a)))) l h = absurd (omega arith)

  -- the fingerprint of an address's content
  abbrev content : ℕ → ℕ → Fixed 32
  content P = content_of (fingerprinting label 64) (split 64 P disk)

  print-is : (P a : ℕ) → a < P → length disk ≡ P * 64 → (content P a).0 ≡ print a
  unfolding print_at
  print-is P a l e = ap (λ x. sha256 (label ++ x)) (part_bytes 64 P a disk (fingerprinting label 64).blank l (omega arith))

  pub contents-are : (q : Question) → q.blocks ≤ 4 → length disk ≡ q.blocks * 64 → q.contents ≡ contents_of label disk q.blocks
      → Contents (fingerprinting label 64).same (content q.blocks) q
  contents-are q l e c =
      let P = q.blocks in
      let first : ℕ → ℕ = first_with same print in
      let at : (a : ℕ) → a < P → pick q.contents a ≡ first a = λ a h. ap (λ z. pick z a) c ∙ pick-contents P a l h in
      let most = with-most same same→≡ same_refl print in
      record {
        few = l;
        small = λ a h. omega (arith, at a h, most a);
        tells = λ a h. ap (content P) (at a h) ∙ fixed-≡ (content P (first a)) (content P a)
            (print-is P (first a) (omega (arith, most a)) e ∙ with-tells same same→≡ same_refl print a ∙ sym (print-is P a h e));
        apart = λ a b h i. ap₂ same (print-is P a h e) (print-is P b i e) ∙ with-apart same same→≡ same_refl print a b
            ∙ ap₂ eqb (sym (at a h)) (sym (at b i));
      }
