-- Laws of rows found by a key, of tests, and of what every row has (`All`).
use Rattle.std.specs.Prelude.{◌≡◌, refl, Bool, true, false, ◌&&◌, ◌||◌, ◌⊎◌, ℕ, eqb}
use Rattle.std.proofs.Common.{sym, ap, ◌∙◌, subst, true≢false, inl, inr, eqb-true, eq-eqb}
use Rattle.std.proofs.lemmas.Bool.{false≢true}
use Rattle.std.proofs.Math.Bool.{or-false, or_assoc}
use mathlib.Core.List.{List, [], ◌∷◌, ◌++◌, map, Permᴰ}
use Rattle.std.proofs.Math.Option
use Rattle.std.proofs.Math.Option.{Option, none, some, none-ne-some, some-ne-none, some-injective}
use Rattle.paper.specs.Keyed.{has, without, find}

pub or_cases : (a b : Bool) → (a || b) ≡ true → (a ≡ true) ⊎ (b ≡ true)
or_cases true b e = inl refl
or_cases false b e = inr e

pub or_right : (a b : Bool) → b ≡ true → (a || b) ≡ true
or_right true b e = refl
or_right false b e = e

pub or_left : (a b : Bool) → a ≡ true → (a || b) ≡ true
or_left true b e = refl
or_left false b e = absurd (false≢true e)

pub or-both : (a b : Bool) → a ≡ false → b ≡ false → (a || b) ≡ false
or-both true b e f = e
or-both false b e f = f

pub or-false-left : (a b : Bool) → (a || b) ≡ false → a ≡ false
or-false-left true b e = e
or-false-left false b e = refl

pub or-false-right : (a b : Bool) → (a || b) ≡ false → b ≡ false
or-false-right true b e = absurd (true≢false e)
or-false-right false b e = e

pub and_left : (a b : Bool) → (a && b) ≡ true → a ≡ true
and_left true b e = refl
and_left false b e = e

pub and_right : (a b : Bool) → (a && b) ≡ true → b ≡ true
and_right true b e = e
and_right false b e = absurd (false≢true e)

pub clash {ℓ} : {A : Type ℓ} {b : Bool} → b ≡ true → b ≡ false → A
clash p q = absurd (true≢false (sym p ∙ q))

-- by cases, with what the case says
pub by-test {ℓ} : {G : Type ℓ} (b : Bool) → (b ≡ true → G) → (b ≡ false → G) → G
by-test true p q = p refl
by-test false p q = q refl

pub either {ℓ} : {A B : Type 0} {G : Type ℓ} → A ⊎ B → (A → G) → (B → G) → G
either (inl a) f g = f a
either (inr b) f g = g b

pub by-option {ℓ} : {A : Type 0} {G : Type ℓ} (o : Option A) → (o ≡ none → G) → ((a : A) → o ≡ some a → G) → G
by-option none f g = f refl
by-option (some a) f g = g a refl

-- the test of numbers
pub eqb→≡ : (m n : ℕ) → eqb m n ≡ true → m ≡ n
eqb→≡ = eqb-true

pub eqb-self : (n : ℕ) → eqb n n ≡ true
eqb-self n = eq-eqb n n refl

-- every row has a property
abbrev pub All : {R : Type 0} → (R → Type 0) → List R → Type 0
All P [] = Unit {0}
All P (x ∷ xs) = P x × All P xs

module _ {R : Type 0} where
  pub all_append : (P : R → Type 0) (xs ys : List R) → All P xs → All P ys → All P (xs ++ ys)
  all_append P [] ys p q = q
  all_append P (x ∷ xs) ys p q = (p.0, all_append P xs ys p.1 q)

  pub all_left : (P : R → Type 0) (xs ys : List R) → All P (xs ++ ys) → All P xs
  all_left P [] ys p = tt
  all_left P (x ∷ xs) ys p = (p.0, all_left P xs ys p.1)

  pub all_right : (P : R → Type 0) (xs ys : List R) → All P (xs ++ ys) → All P ys
  all_right P [] ys p = p
  all_right P (x ∷ xs) ys p = all_right P xs ys p.1

  pub all_map : (P Q : R → Type 0) → ((r : R) → P r → Q r) → (l : List R) → All P l → All Q l
  all_map P Q f [] p = tt
  all_map P Q f (x ∷ xs) p = (f x p.0, all_map P Q f xs p.1)

  pub all_both : (P Q : R → Type 0) (l : List R) → All P l → All Q l → All (λ r. P r × Q r) l
  all_both P Q [] p q = tt
  all_both P Q (x ∷ xs) p q = ((p.0, q.0), all_both P Q xs p.1 q.1)

  pub all-perm : (P : R → Type 0) {l l' : List R} → Permᴰ l l' → All P l → All P l'
  all-perm P Permᴰ.nil p = tt
  all-perm P (Permᴰ.cons e h) p = (subst P e p.0, all-perm P h p.1)
  all-perm P (Permᴰ.swap e f) p = (subst P f p.1.0, (subst P e p.0, p.1.1))
  all-perm P (Permᴰ.trans h k) p = all-perm P k (all-perm P h p)

pub all_of_map : {A B : Type 0} (f : A → B) (P : B → Type 0) (l : List A) → All P (map f l) → All (λ a. P (f a)) l
all_of_map f P [] p = tt
all_of_map f P (x ∷ xs) p = (p.0, all_of_map f P xs p.1)

module _ {K R : Type 0} (same : K → K → Bool) (key : R → K) where
  -- no two rows have the same key
  abbrev pub Distinct : List R → Type 0
  Distinct [] = Unit {0}
  Distinct (r ∷ rs) = (has same key (key r) rs ≡ false) × Distinct rs

  pub has-append : (k : K) (xs ys : List R) → has same key k (xs ++ ys) ≡ (has same key k xs || has same key k ys)
  has-append k [] ys = refl
  has-append k (x ∷ xs) ys = ap (λ b. same k (key x) || b) (has-append k xs ys) ∙ sym (or_assoc (same k (key x)) (has same key k xs) (has same key k ys))

  pub without-append : (k : K) (xs ys : List R) → without same key k (xs ++ ys) ≡ without same key k xs ++ without same key k ys
  without-append k [] ys = refl
  without-append k (x ∷ xs) ys =
      by-test (same k (key x)) (λ e. rw e (without-append k xs ys)) (λ e. rw e (ap (λ l. x ∷ l) (without-append k xs ys)))

  -- a row that is taken out is gone
  pub has-without-self : (k : K) (l : List R) → has same key k (without same key k l) ≡ false
  has-without-self k [] = refl
  has-without-self k (x ∷ xs) = by-test (same k (key x)) (λ e. rw e (has-without-self k xs)) (λ e. rw (e, e) (has-without-self k xs))

  pub without-absent : (k : K) (l : List R) → has same key k l ≡ false → without same key k l ≡ l
  without-absent k [] h = refl
  without-absent k (x ∷ xs) h =
      rw (or-false-left (same k (key x)) (has same key k xs) h) (ap (λ l. x ∷ l) (without-absent k xs (or-false-right (same k (key x)) (has same key k xs) h)))

  pub all_without : (P : R → Type 0) (k : K) (l : List R) → All P l → All P (without same key k l)
  all_without P k [] p = tt
  all_without P k (x ∷ xs) p = by-test (same k (key x)) (λ e. rw e (all_without P k xs p.1)) (λ e. rw e (p.0, all_without P k xs p.1))

  -- what is not there is not there after a row is taken out, by this key or another
  pub has-without-other : {J : Type 0} (same_j : J → J → Bool) (key_j : R → J) (j : J) (k : K) (l : List R)
      → has same_j key_j j (without same key k l) ≡ true → has same_j key_j j l ≡ true
  has-without-other same_j key_j j k [] = λ h. h
  has-without-other same_j key_j j k (x ∷ xs) =
      by-test (same k (key x))
      (λ e. rw e (λ h. or_right (same_j j (key_j x)) (has same_j key_j j xs) (has-without-other same_j key_j j k xs h)))
      (λ e. rw e (λ h. either (or_cases (same_j j (key_j x)) (has same_j key_j j (without same key k xs)) h)
      (λ t. or_left (same_j j (key_j x)) (has same_j key_j j xs) t)
      (λ t. or_right (same_j j (key_j x)) (has same_j key_j j xs) (has-without-other same_j key_j j k xs t))))

  pub find_none : (k : K) (l : List R) → find same key k l ≡ none → has same key k l ≡ false
  find_none k [] = λ h. refl
  find_none k (x ∷ xs) =
      by-test (same k (key x))
      (λ e. rw e (λ h. absurd (some-ne-none x h)))
      (λ e. rw e (λ h. find_none k xs h))

  -- the row found has the key, and what all rows have
  pub find-some : (P : R → Type 0) (k : K) (l : List R) (r : R) → find same key k l ≡ some r → All P l → P r × (same k (key r) ≡ true)
  find-some P k [] r = λ h p. absurd (none-ne-some r h)
  find-some P k (x ∷ xs) r =
      by-test (same k (key x))
      (λ e. rw e (λ h p. subst (λ y. P y × (same k (key y) ≡ true)) (some-injective x r h) (p.0, e)))
      (λ e. rw e (λ h p. find-some P k xs r h p.1))

  pub find-has : (k : K) (l : List R) (r : R) → find same key k l ≡ some r → has same key k l ≡ true
  find-has k [] r = λ h. absurd (none-ne-some r h)
  find-has k (x ∷ xs) r =
      by-test (same k (key x))
      (λ e. rw e (λ h. refl))
      (λ e. rw e (λ h. find-has k xs r h))

  pub distinct_without : (k : K) (l : List R) → Distinct l → Distinct (without same key k l)
  distinct_without k [] d = tt
  distinct_without k (x ∷ xs) d =
      by-test (same k (key x)) (λ e. rw e (distinct_without k xs d.1))
      (λ e. rw e (
        by-test (has same key (key x) (without same key k xs)) (λ t. clash (has-without-other same key (key x) k xs t) d.0) (λ f. f),
        distinct_without k xs d.1,
      ))

module _ {K R : Type 0} (same : K → K → Bool) (key : R → K) (same→≡ : (j k : K) → same j k ≡ true → j ≡ k) (same_refl : (k : K) → same k k ≡ true) where
  pub same-sym-false : (j k : K) → same j k ≡ false → same k j ≡ false
  same-sym-false j k e = by-test (same k j) (λ t. clash (same_refl k) (rw (← same→≡ k j t) at e)) (λ f. f)

  pub distinct_snoc : (r : R) (l : List R) → Distinct same key l → has same key (key r) l ≡ false → Distinct same key (l ++ (r ∷ []))
  distinct_snoc r [] d h = (refl, tt)
  distinct_snoc r (x ∷ xs) d h = (
    has-append same key (key x) xs (r ∷ [])
        ∙ or-both (has same key (key x) xs) (same (key x) (key r) || false) d.0
        (or-false (same (key x) (key r)) ∙ same-sym-false (key r) (key x) (or-false-left (same (key r) (key x)) (has same key (key r) xs) h)),
    distinct_snoc r xs d.1 (or-false-right (same (key r) (key x)) (has same key (key r) xs) h),
  )

  -- taking out k leaves what has another key
  pub has-without : (j k : K) (l : List R) → same k j ≡ false → has same key j (without same key k l) ≡ has same key j l
  has-without j k [] n = refl
  has-without j k (x ∷ xs) n =
      by-test (same k (key x))
      (λ e. rw e (has-without j k xs n ∙ sym (ap (λ b. b || has same key j xs) (by-test (same j (key x)) (λ t. clash (rw (← same→≡ j (key x) t) at e) n)
      (λ f. f)))))
      (λ e. rw e (ap (λ b. same j (key x) || b) (has-without j k xs n)))

  -- after a row is added as newest
  pub has-snoc-cases : (k : K) (l : List R) (r : R) → has same key k (l ++ (r ∷ [])) ≡ true → (has same key k l ≡ true) ⊎ (k ≡ key r)
  has-snoc-cases k l r h =
      either (or_cases (has same key k l) (same k (key r) || false) (sym (has-append same key k l (r ∷ [])) ∙ h))
      (λ t. inl t) (λ t. inr (same→≡ k (key r) (sym (or-false (same k (key r))) ∙ t)))

  pub has-snoc-left : (k : K) (l : List R) (r : R) → has same key k l ≡ true → has same key k (l ++ (r ∷ [])) ≡ true
  has-snoc-left k l r h = has-append same key k l (r ∷ []) ∙ or_left (has same key k l) (same k (key r) || false) h

  pub has-snoc-self : (l : List R) (r : R) → has same key (key r) (l ++ (r ∷ [])) ≡ true
  has-snoc-self l r = has-append same key (key r) l (r ∷ [])
      ∙ or_right (has same key (key r) l) (same (key r) (key r) || false) (or_left (same (key r) (key r)) false (same_refl (key r)))

  -- where keys are distinct, what is lost with the row of k is the row found
  pub lost-with : {J : Type 0} (same_j : J → J → Bool) (key_j : R → J) (J→≡ : (i j : J) → same_j i j ≡ true → i ≡ j) (j : J) (k : K) (l : List R)
      → Distinct same key l
      → has same_j key_j j l ≡ true → (has same_j key_j j (without same key k l) ≡ true) ⊎ (Option.map key_j (find same key k l) ≡ some j)
  lost-with same_j key_j J→≡ j k [] d h = inl h
  lost-with same_j key_j J→≡ j k (x ∷ xs) d h =
      by-test (same k (key x))
      (λ e. rw e (either (or_cases (same_j j (key_j x)) (has same_j key_j j xs) h)
      (λ t. inr (ap {B = Option _} some (sym (J→≡ j (key_j x) t))))
      (λ t. inl (rw (without-absent same key k xs (rw (← same→≡ k (key x) e) at d.0)) t))))
      (λ e. rw e (either (or_cases (same_j j (key_j x)) (has same_j key_j j xs) h)
      (λ t. inl (or_left (same_j j (key_j x)) (has same_j key_j j (without same key k xs)) t))
      (λ t. either (lost-with same_j key_j J→≡ j k xs d.1 t)
      (λ u. inl (or_right (same_j j (key_j x)) (has same_j key_j j (without same key k xs)) u))
      (λ u. inr u))))

pub eqb_swap : (m n : ℕ) → eqb m n ≡ false → eqb n m ≡ false
eqb_swap m n e = same-sym-false eqb (λ (x : ℕ). x) eqb→≡ eqb-self m n e
