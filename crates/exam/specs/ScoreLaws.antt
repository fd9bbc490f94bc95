-- Laws of the counts: the search finds them, they total P to the power k, and beyond k they are 0.
use Rattle.std.specs.Prelude.{◌≡◌, Bool, cond, length}
use Rattle.std.proofs.Math.Path.{refl, sym, ap}
use Rattle.std.proofs.Common.{ap₂, ◌∙◌, add-zero, suc-mul, length-append}
use Rattle.std.proofs.Math.Bool.{true, false}
use mathlib.Core.List.{List, [], ◌∷◌, ◌++◌, map}
use Prim.Native.Nat.{ℕ, zero, suc, ◌+◌, ◌*◌, ◌^◌, ◌≤◌, ◌<◌}
use native.Mathlib.Omega.{arith}
use Rattle.std.proofs.Math.Nat.{pow-zero, pow-succ'}
use Rattle.std.proofs.Math.Dec.{eqb}
use Rattle.std.proofs.lemmas.List.{length-map}
use borrow.Author.Tests.{eqb-true, eqb-false, eq-eqb, ne_eqb}
use Rattle.paper.specs.KeyedLaws.{All, by-test, all_append, all_map}
use Rattle.paper.specs.Machines.{Printed, printed_next, printed_hit}
use Rattle.exam.specs.Scores.{each_before, lists, how_many, nine, start, hits, with_hits, scores, plus, moved, summed, search}

module _ {A : Type 0} where
  pub many-append : (t : A → Bool) (xs ys : List A) → how_many t (xs ++ ys) ≡ how_many t xs + how_many t ys
  many-append t [] ys = omega arith
  many-append t (x ∷ xs) ys = omega (arith, many-append t xs ys)

  pub many-none : (t : A → Bool) (xs : List A) → All (λ x. t x ≡ false) xs → how_many t xs ≡ 0
  many-none t [] h = refl
  many-none t (x ∷ xs) h = rw h.0 (omega (arith, many-none t xs h.1))

pub many-map : {A B : Type 0} (f : A → B) (t : B → Bool) (xs : List A) → how_many t (map f xs) ≡ how_many (λ x. t (f x)) xs
many-map f t [] = refl
many-map f t (x ∷ xs) = ap (λ n. n + cond (t (f x)) 1 0) (many-map f t xs)

-- a number for each address below n, added
abbrev pub below : (ℕ → ℕ) → ℕ → ℕ
below f zero = 0
below f (suc n) = below f n + f n

pub many-each : (t : List ℕ → Bool) (ls : List (List ℕ)) (P : ℕ) → how_many t (each_before ls P) ≡ below (λ a. how_many (λ l. t (a ∷ l)) ls) P
many-each t ls zero = refl
many-each t ls (suc a) =
    many-append t (each_before ls a) (map (λ l. a ∷ l) ls) ∙ ap₂ ◌+◌ (many-each t ls a) (many-map (λ l. a ∷ l) t ls)

-- one hit more
abbrev pub earlier : (ℕ → ℕ) → ℕ → ℕ
earlier f zero = 0
earlier f (suc h) = f h

many-hit : {A : Type 0} (f : A → ℕ) (ls : List A) (h : ℕ) → how_many (λ l. eqb (f l + 1) h) ls ≡ earlier (λ g. how_many (λ l. eqb (f l) g) ls) h
many-hit f ls zero = many-none (λ l. eqb (f l + 1) 0) ls (never ls)
  where
    never : (ls : List _) → All (λ l. eqb (f l + 1) 0 ≡ false) ls
    never [] = tt
    never (x ∷ xs) = (ne_eqb (f x + 1) 0 (λ e. omega arith), never xs)
many-hit f ls (suc h) = go ls
  where
    go : (ls : List _) → how_many (λ l. eqb (f l + 1) (suc h)) ls ≡ how_many (λ l. eqb (f l) h) ls
    go [] = refl
    go (x ∷ xs) =
        ap₂ (λ b n. n + cond b 1 0)
        (by-test (eqb (f x) h)
        (λ e. eq-eqb (f x + 1) (suc h) (omega (arith, eqb-true (f x) h e)) ∙ sym e)
        (λ e. ne_eqb (f x + 1) (suc h) (λ q. eqb-false (f x) h e (omega arith)) ∙ sym e))
        (go xs)

module _ {F : Type 0} (same : F → F → Bool) (m d : ℕ) (content : ℕ → F) (P : ℕ) where
  abbrev after : Printed F → ℕ → Printed F
  after p a = printed_next same m d content p a

  -- the lists that begin with one read, by their hits
  abbrev starting_with : Bool → Printed F → (k h : ℕ) → ℕ
  starting_with b p k h = how_many (λ l. eqb (hits same m d content p l + cond b 1 0) h) (lists P k)

  moved-is : (b : Bool) (p : Printed F) (k : ℕ) → moved b (map (with_hits same m d content P p k) nine) ≡ map (starting_with b p k) nine
  unfolding with_hits
  moved-is true p k = λ i. map (λ h. sym (many-hit (hits same m d content p) (lists P k) h) i) nine
  moved-is false p k = λ i. map (λ h. how_many (λ l. eqb (sym (add-zero (hits same m d content p l)) i) h) (lists P k)) nine

  summed-is : (G : ℕ → List ℕ) (W : ℕ → ℕ → ℕ) → ((a : ℕ) → G a ≡ map (W a) nine) → (n : ℕ) → summed G n ≡ map (λ h. below (λ a. W a h) n) nine
  summed-is G W e zero = refl
  summed-is G W e (suc n) = ap₂ plus (summed-is G W e n) (e n)

  -- "each equals the number of lists with that many hits in the printed D-LRU"
  pub search-counts : (k : ℕ) (p : Printed F) → search same m d content P p k ≡ map (with_hits same m d content P p k) nine
  unfolding search with_hits lists hits
  search-counts zero p = refl
  search-counts (suc k) p =
      summed-is (λ a. moved (printed_hit same content p a) (search same m d content P (after p a) k))
      (λ a. starting_with (printed_hit same content p a) (after p a) k)
      (λ a. ap (moved (printed_hit same content p a)) (search-counts k (after p a)) ∙ moved-is (printed_hit same content p a) (after p a) k) P
      ∙ (λ i. map (λ h. sym (many-each (λ l. eqb (hits same m d content p l) h) (lists P k) P) i) nine)

  pub search-scores : (k : ℕ) → search same m d content P start k ≡ scores same m d content P k
  unfolding scores
  search-scores k = search-counts k start

-- The sum of counts
abbrev pub total : List ℕ → ℕ
total [] = 0
total (x ∷ xs) = x + total xs

below_none : (n : ℕ) → below (λ h. 0) n ≡ 0
below_none zero = refl
below_none (suc n) = omega (arith, below_none n)

below-add : (f g : ℕ → ℕ) (n : ℕ) → below (λ h. f h + g h) n ≡ below f n + below g n
below-add f g zero = refl
below-add f g (suc n) = omega (arith, below-add f g n)

abbrev one_at : ℕ → ℕ → ℕ
one_at v h = cond (eqb v h) 1 0

before-it : (v n : ℕ) → n ≤ v → below (one_at v) n ≡ 0
before-it v zero l = refl
before-it v (suc n) l = rw (ne_eqb v n (λ e. omega arith)) (omega (arith, before-it v n (omega arith)))

one_of : (v n : ℕ) → v < n → below (one_at v) n ≡ 1
one_of v zero l = absurd (omega arith)
one_of v (suc n) l =
    by-test (eqb v n)
    (λ e. rw e (omega (arith, before-it v n (omega (arith, eqb-true v n e)))))
    (λ e. rw e (omega (arith, one_of v n (let ne = eqb-false v n e in omega arith))))

below-many : {A : Type 0} (f : A → ℕ) (ls : List A) (n : ℕ) → All (λ l. f l < n) ls → below (λ h. how_many (λ l. eqb (f l) h) ls) n ≡ length ls
below-many f [] n w = below_none n
below-many f (x ∷ xs) n w =
    below-add (λ h. how_many (λ l. eqb (f l) h) xs) (one_at (f x)) n ∙ omega (arith, one_of (f x) n w.0, below-many f xs n w.1)

length-each : (ls : List (List ℕ)) (n : ℕ) → length (each_before ls n) ≡ n * length ls
length-each ls zero = omega arith
length-each ls (suc n) =
    length-append (each_before ls n) (map (λ l. n ∷ l) ls) ∙ ap₂ ◌+◌ (length-each ls n) (length-map ls (λ l. n ∷ l)) ∙ sym (suc-mul n (length ls))

pub length-lists : (P k : ℕ) → length (lists P k) ≡ P ^ k
unfolding lists
length-lists P zero = sym (pow-zero P)
length-lists P (suc k) = length-each (lists P k) P ∙ ap (λ n. P * n) (length-lists P k) ∙ sym (pow-succ' P k)

-- each of some lists, after a read of each address below n
each_all : (Q R : List ℕ → Type 0) (P : ℕ) → ((a : ℕ) → a < P → (l : List ℕ) → Q l → R (a ∷ l)) → (ls : List (List ℕ)) → All Q ls → (n : ℕ) → n ≤ P
    → All R (each_before ls n)
each_all Q R P f ls w zero h = tt
each_all Q R P f ls w (suc n) h =
    all_append R (each_before ls n) (map (λ l. n ∷ l) ls) (each_all Q R P f ls w n (omega arith)) (after ls w)
  where
    after : (ls : List (List ℕ)) → All Q ls → All R (map (λ l. n ∷ l) ls)
    after [] w = tt
    after (l ∷ ls) w = (f n (omega arith) l w.0, after ls w.1)

-- only lists of k addresses below P are counted
pub each-list : (P k : ℕ) → All (λ l. (length l ≡ k) × All (λ a. a < P) l) (lists P k)
unfolding lists
each-list P zero = ((refl, tt), tt)
each-list P (suc k) =
    each_all (λ l. (length l ≡ k) × All (λ a. a < P) l) (λ l. (length l ≡ suc k) × All (λ a. a < P) l) P
    (λ a h l p. (ap suc p.0, (h, p.1))) (lists P k) (each-list P k) P (omega arith)

module _ {F : Type 0} (same : F → F → Bool) (m d : ℕ) (content : ℕ → F) (P : ℕ) where
  hits_few : (p : Printed F) (l : List ℕ) → hits same m d content p l ≤ length l
  unfolding hits
  hits_few p [] = omega arith
  hits_few p (a ∷ l) =
      let h = hits_few (printed_next same m d content p a) l in
      by-test (printed_hit same content p a) (λ e. rw e (omega arith)) (λ e. rw e (omega arith))

  hits-most : (p : Printed F) (k : ℕ) → All (λ l. hits same m d content p l ≤ k) (lists P k)
  hits-most p k =
      all_map (λ l. (length l ≡ k) × All (λ a. a < P) l) (λ l. hits same m d content p l ≤ k) (λ l e. omega (arith, hits_few p l, e.0)) (lists P k)
      (each-list P k)

  -- "0 beyond k"
  pub beyond : (p : Printed F) (k h : ℕ) → k < h → with_hits same m d content P p k h ≡ 0
  unfolding with_hits
  beyond p k h l =
      many-none (λ r. eqb (hits same m d content p r) h) (lists P k)
      (all_map (λ r. hits same m d content p r ≤ k) (λ r. eqb (hits same m d content p r) h ≡ false)
      (λ r le. ne_eqb (hits same m d content p r) h (λ e. omega arith)) (lists P k) (hits-most p k))

  -- "The counts total the number of addresses to the power k"
  pub totals : (p : Printed F) (k : ℕ) → k ≤ 8 → total (map (with_hits same m d content P p k) nine) ≡ P ^ k
  unfolding with_hits
  totals p k l =
      let f : ℕ → ℕ = λ h. how_many (λ r. eqb (hits same m d content p r) h) (lists P k) in
      let nine-below : total (map f nine) ≡ below f 9 = omega arith in
      nine-below
      ∙ below-many (hits same m d content p) (lists P k) 9
      (all_map (λ r. hits same m d content p r ≤ k) (λ r. hits same m d content p r < 9) (λ r le. omega arith) (lists P k) (hits-most p k))
      ∙ length-lists P k
