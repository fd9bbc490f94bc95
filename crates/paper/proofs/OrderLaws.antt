-- Lists of keys in the order of their newest use, and two lists of which one is the other's newest part.
use Rattle.std.specs.Prelude.{◌≡◌, refl, Bool, true, false, ◌||◌, cond, List, [], ◌∷◌, ◌++◌, map, ◌⊎◌}
use Rattle.std.proofs.Common.{sym, ap, ◌∙◌, append_assoc, inl, inr}
use Rattle.paper.specs.Keyed.{has, without}
use Rattle.paper.specs.KeyedLaws.{by-test, or_left, or_right, or-both, same-sym-false, has-append, without-append}
use Rattle.paper.specs.Order.{Nested}

pub or-absorb : (a b : Bool) → (a ≡ true → b ≡ true) → b ≡ (a || b)
or-absorb true b h = h refl
or-absorb false b h = refl

-- keys of rows
module _ {K R : Type 0} (same : K → K → Bool) (key : R → K) where
  pub has-map : (k : K) (l : List R) → has same (λ x. x) k (map key l) ≡ has same key k l
  has-map k [] = refl
  has-map k (x ∷ xs) = ap (λ b. same k (key x) || b) (has-map k xs)

  pub without-map : (k : K) (l : List R) → map key (without same key k l) ≡ without same (λ x. x) k (map key l)
  without-map k [] = refl
  without-map k (x ∷ xs) = by-test (same k (key x)) (λ e. rw e (without-map k xs)) (λ e. rw e (ap {B = List K} (λ l. key x ∷ l) (without-map k xs)))

module _ {A : Type 0} where
  pub nested-swap : (D R : List A) → Nested D R → Nested R D
  nested-swap D R (inl p) = inr p
  nested-swap D R (inr p) = inl p

  pub tail-≡ : (x y : A) (l k : List A) → ◌≡◌ {A = List A} (x ∷ l) (y ∷ k) → l ≡ k
  tail-≡ x y l k e = cc

  -- the oldest of one leaves
  pub nested-tail : (x : A) (D R : List A) → Nested (x ∷ D) R → Nested D R
  nested-tail x D R (inl p) = go p.0 p.1
    where
      go : (O : List A) → ◌≡◌ {A = List A} (x ∷ D) (O ++ R) → Nested D R
      go [] e = inr ((x ∷ []), sym e)
      go (y ∷ O) e = inl (O, tail-≡ x y D (O ++ R) e)
  nested-tail x D R (inr p) = inr ((p.0 ++ (x ∷ [])), p.1 ∙ sym (append_assoc p.0 (x ∷ []) D))

module _ {F : Type 0} (same : F → F → Bool) where
  -- the two lists after g becomes newest in both
  pub nested-newest : (g : F) (D R : List F) → Nested D R → Nested (without same (λ x. x) g D ++ (g ∷ [])) (without same (λ x. x) g R ++ (g ∷ []))
  nested-newest g D R (inl p) =
      inl (
        without same (λ x. x) g p.0,
        rw p.1 (rw (without-append same (λ x. x) g p.0 R)
            (append_assoc (without same (λ x. x) g p.0) (without same (λ x. x) g R) (g ∷ []))),
      )
  nested-newest g D R (inr p) =
      inr (
        without same (λ x. x) g p.0,
        rw p.1 (rw (without-append same (λ x. x) g p.0 D)
            (append_assoc (without same (λ x. x) g p.0) (without same (λ x. x) g D) (g ∷ []))),
      )

  -- different fingerprints in the order of their newest use
  abbrev pub order : List F → List F
  order [] = []
  order (f ∷ fs) = cond (has same (λ x. x) f fs) (order fs) (f ∷ order fs)

module _ {F : Type 0} (same : F → F → Bool) (same→≡ : (f g : F) → same f g ≡ true → f ≡ g) (same_refl : (f : F) → same f f ≡ true) where
  pub has-order : (f : F) (l : List F) → has same (λ x. x) f (order same l) ≡ has same (λ x. x) f l
  has-order f [] = refl
  has-order f (x ∷ xs) =
      by-test (has same (λ x. x) x xs)
      (λ h. rw h (has-order f xs ∙ or-absorb (same f x) (has same (λ x. x) f xs) (λ e. rw (same→≡ f x e) h)))
      (λ h. rw h (ap (λ b. same f x || b) (has-order f xs)))

  -- the newest request's fingerprint is newest
  pub order-snoc : (g : F) (l : List F) → order same (l ++ (g ∷ [])) ≡ without same (λ x. x) g (order same l) ++ (g ∷ [])
  order-snoc g [] = refl
  order-snoc g (x ∷ xs) =
      by-test (has same (λ x. x) x xs)
      (λ h. rw (has-append same (λ x. x) x xs (g ∷ []) ∙ or_left (has same (λ x. x) x xs) (same x g || false) h, h) (order-snoc g xs))
      (λ h. by-test (same g x)
      (λ e. rw (
        has-append same (λ x. x) x xs (g ∷ []) ∙ or_right (has same (λ x. x) x xs) (same x g || false)
            (or_left (same x g) false (rw (same→≡ g x e) (same_refl x))),
        h,
        e,
      ) (order-snoc g xs))
      (λ e. rw (
        has-append same (λ x. x) x xs (g ∷ []) ∙ or-both (has same (λ x. x) x xs) (same x g || false) h
            (or-both (same x g) false (same-sym-false same (λ x. x) same→≡ same_refl g x e) refl),
        h,
        e,
      )
      (ap {B = List F} (λ l. x ∷ l) (order-snoc g xs))))

  -- a fingerprint that is taken out anyway
  pub order-skip : (g x : F) (l : List F) → same g x ≡ true → without same (λ x. x) g (order same (x ∷ l)) ≡ without same (λ x. x) g (order same l)
  order-skip g x l e = by-test (has same (λ x. x) x l) (λ h. rw h refl) (λ h. rw (h, e) refl)
