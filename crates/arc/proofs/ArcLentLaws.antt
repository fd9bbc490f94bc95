-- The lists' bytes read back are the lists; what every list of calls leaves passes the tests for 6 and 8; and lists that pass are right.
use Rattle.std.specs.Prelude.{◌≡◌, Bool, ◌&&◌, ◌||◌, get_or}
use Rattle.std.proofs.Math.Path.{refl, sym, ap, ap₂, subst}
use Rattle.std.proofs.Common.{◌∙◌, true≢false, arith, length-append, take-append-drop, get_or-drop}
use Rattle.std.proofs.Math.Bool.{true, false, not, cond}
use Rattle.std.proofs.lemmas.Bool.{false≢true}
use mathlib.Core.List.{List, [], ◌∷◌, ◌++◌, map, append_assoc}
use Prim.Native.Nat.{ℕ, zero, suc, ◌+◌, ◌-◌, ◌*◌, ◌^◌, ◌≤◌, ◌<◌}
use Rattle.std.proofs.Math.Dec.{eqb, ltb}
use Rattle.std.proofs.Math.ListN.{length, take, drop, length-drop}
use Rattle.std.proofs.Math.Seq.{take-append_seam, drop-append_seam, take-append-add}
use borrow.Author.Tests.{ltb-false, le-ltb, eqb-true, eq-eqb, not-false}
use Rattle.tables.specs.Rows.{zeros, le4}
use Rattle.tables.proofs.OperationLaws.{le4-bytes4}
use Rattle.tables.specs.Find.{any}
use Rattle.tables.specs.Unsound.{nonzero}
use Rattle.paper.specs.Keyed.{has, without}
use Rattle.paper.specs.Cache.{Hashing, AddressRow, Box, held, cached}
use Rattle.paper.specs.KeyedLaws.{by-test, either, clash, or_cases, or_left, or_right, or-both, or-false-left, or-false-right, eqb→≡, eqb-self, All}
use Rattle.paper.specs.KeyedLaws.{all_map, has-append}
use Rattle.paper.specs.Sound.{Sound}
use Rattle.arc.specs.Arc.{Sizes, base_numbers, Lists, is_in, out, on_top}
use Rattle.arc.specs.Tally.{tally, count, tally-append, tally-has, tally-none, tally-distinct, tally-without-self, tally-without-other, length_without}
use Rattle.arc.specs.ArcMid.{named, TopCached}
use Rattle.arc.specs.ArcStep.{ArcSound}
use Rattle.arc.proofs.ArcSays.{named-once}
use Rattle.arc.specs.ArcLent.{ListRecord, words, word_bytes, total_of, parts, lists_in, end_to_end, list_bytes, list_record, misnamed, oversized}
use Rattle.arc.specs.ArcLent.{lists_unsound, top_uncached, tops_in}

-- some and none
pub any_none : {A : Type 0} (p : A → Bool) (l : List A) → All (λ x. p x ≡ false) l → any p l ≡ false
unfolding any
any_none p [] h = refl
any_none p (x ∷ xs) h = or-both (p x) (any p xs) h.0 (any_none p xs h.1)

pub none_any : {A : Type 0} (p : A → Bool) (l : List A) → any p l ≡ false → All (λ x. p x ≡ false) l
unfolding any
none_any p [] h = tt
none_any p (x ∷ xs) h = (or-false-left (p x) (any p xs) h, none_any p xs (or-false-right (p x) (any p xs) h))

-- each name of a list is in it
pub all_in : (l : List ℕ) → All (λ x. is_in x l ≡ true) l
all_in [] = tt
all_in (x ∷ xs) = (
  or_left (eqb x x) (is_in x xs) (eqb-self x),
  all_map (λ y. is_in y xs ≡ true) (λ y. is_in y (x ∷ xs) ≡ true)
      (λ y h. or_right (eqb y x) (is_in y xs) h) xs (all_in xs),
)

module _ {F : Type 0} where
  abbrev addresses_of : List (AddressRow F) → List ℕ
  addresses_of rows = map (λ r. r.address) rows

  in_map : (x : ℕ) (rows : List (AddressRow F)) → is_in x (addresses_of rows) ≡ held x rows
  in_map x [] = refl
  in_map x (r ∷ rs) = ap (λ b. eqb x r.address || b) (in_map x rs)

  pub in-below : (P x : ℕ) (rows : List (AddressRow F)) → All (λ r. r.address < P) rows → held x rows ≡ true → x < P
  in-below P x [] b h = absurd (false≢true h)
  in-below P x (r ∷ rs) b h =
      either (or_cases (eqb x r.address) (held x rs) h) (λ e. subst (λ y. y < P) (sym (eqb→≡ x r.address e)) b.0) (λ e. in-below P x rs b.1 e)

-- bytes and words: of a longer row of addresses, the first ones
pub words-first : (n : ℕ) (ws rest : List ℕ) → All (λ a. a < 2 ^ 32) ws → n ≤ length ws → words n (word_bytes ws ++ rest) ≡ take n ws
unfolding words word_bytes
words-first zero ws rest h k = refl
words-first (suc n) [] rest h k = absurd (omega (arith, k))
words-first (suc n) (a ∷ ws) rest h k = ap₂ {C = List ℕ} (λ x l. x ∷ l) (le4-bytes4 a h.0) (words-first n ws rest h.1 (omega (arith, k)))

pub words_back : (ws rest : List ℕ) → All (λ a. a < 2 ^ 32) ws → words (length ws) (word_bytes ws ++ rest) ≡ ws
unfolding words word_bytes
words_back [] rest h = refl
words_back (a ∷ ws) rest h = ap₂ {C = List ℕ} (λ x l. x ∷ l) (le4-bytes4 a h.0) (words_back ws rest h.1)

le4-drop : (t : List ℕ) (k : ℕ) → le4 (drop 4 t) (k * 4) ≡ le4 t (suc k * 4)
le4-drop t k =
    let e0 : 4 + k * 4 ≡ suc k * 4 = omega arith in
    let e1 : 4 + (k * 4 + 1) ≡ suc k * 4 + 1 = omega arith in
    let e2 : 4 + (k * 4 + 2) ≡ suc k * 4 + 2 = omega arith in
    let e3 : 4 + (k * 4 + 3) ≡ suc k * 4 + 3 = omega arith in
    let g : (j n : ℕ) → 4 + j ≡ n → get_or (drop 4 t) j 0 ≡ get_or t n 0 = λ j n e. get_or-drop 4 t j 0 ∙ ap (λ (x : ℕ). get_or t x 0) e in
    rw (g (k * 4) (suc k * 4) e0, g (k * 4 + 1) (suc k * 4 + 1) e1, g (k * 4 + 2) (suc k * 4 + 2) e2, g (k * 4 + 3) (suc k * 4 + 3) e3) refl

-- address k of bytes
pub words-at : (n : ℕ) (t : List ℕ) (k : ℕ) → k < n → get_or (words n t) k 0 ≡ le4 t (k * 4)
unfolding words
words-at zero t k h = absurd (omega (arith, h))
words-at (suc n) t zero h = refl
words-at (suc n) t (suc k) h = words-at n (drop 4 t) k (omega (arith, h)) ∙ le4-drop t k

pub length-words : (ws : List ℕ) → length (word_bytes ws) ≡ length ws * 4
unfolding word_bytes
length-words [] = omega arith
length-words (a ∷ ws) = let ih = length-words ws in omega (arith, ih)

zeros-none : (k : ℕ) → any nonzero (zeros k) ≡ false
unfolding any zeros
zeros-none zero = refl
zeros-none (suc k) = zeros-none k

take_whole : (l : List ℕ) → take (length l) l ≡ l
take_whole [] = refl
take_whole (x ∷ xs) = ap (λ l. x ∷ l) (take_whole xs)

pub parts-back : (l : Lists) → parts (list_record l) (end_to_end l) ≡ l
unfolding parts
parts-back l =
    let b4 = l.B2 ++ l.B3 in
    let b3 = l.B1 ++ b4 in
    let b2 = l.T2 ++ b3 in
    rw (
      drop-append_seam l.T1 b2,
      drop-append_seam l.T2 b3,
      drop-append_seam l.B1 b4,
      drop-append_seam l.B2 l.B3,
      take-append_seam
          l.T1 b2,
      take-append_seam l.T2 b3,
      take-append_seam l.B1 b4,
      take-append_seam l.B2 l.B3,
      take_whole l.B3,
    ) refl

-- the first of some addresses
pub words_take : (k n : ℕ) (u : List ℕ) → k ≤ n → take k (words n u) ≡ words k u
unfolding words
words_take zero n u h = refl
words_take (suc k) zero u h = absurd (omega (arith, h))
words_take (suc k) (suc n) u h = ap (λ l. le4 u 0 ∷ l) (words_take k n (drop 4 u) (omega (arith, h)))

pub total-end : (l : Lists) → length (end_to_end l) ≡ total_of (list_record l)
total-end l =
    let e4 = length-append l.B2 l.B3 in
    let e3 = length-append l.B1 (l.B2 ++ l.B3) in
    let e2 = length-append l.T2 (l.B1 ++ (l.B2 ++ l.B3)) in
    let e1 = length-append l.T1 (l.T2 ++ (l.B1 ++ (l.B2 ++ l.B3))) in
    omega (arith, e1, e2, e3, e4)

pub named_end : (x : ℕ) (l : Lists) → count x (end_to_end l) ≡ named x l
named_end x l =
    let e4 = tally-append (λ z. z) x l.B2 l.B3 in
    let e3 = tally-append (λ z. z) x l.B1 (l.B2 ++ l.B3) in
    let e2 = tally-append (λ z. z) x l.T2 (l.B1 ++ (l.B2 ++ l.B3)) in
    let e1 = tally-append (λ z. z) x l.T1 (l.T2 ++ (l.B1 ++ (l.B2 ++ l.B3))) in
    omega (arith, e1, e2, e3, e4)

module _ {F X : Type 0} (H : Hashing F X) (Z : Sizes) (low : Z.P ≤ 2 ^ 32) (l : Lists) (s : Box F X) (h : ArcSound H Z l s) where
  -- what is named is held
  named-held : (x : ℕ) → is_in x (end_to_end l) ≡ true → held x s.rows ≡ true
  named-held x e =
      by-test (held x s.rows) (λ y. y)
      (λ n. let k = tally-has (λ z. z) x (end_to_end l) e in
      let q = named_end x l ∙ sym (h.names x) ∙ tally-none (λ (r : AddressRow F). r.address) x s.rows n in absurd (omega (arith, k, q)))

  all-low : All (λ a. a < 2 ^ 32) (end_to_end l)
  all-low =
      all_map (λ x. is_in x (end_to_end l) ≡ true) (λ a. a < 2 ^ 32)
      (λ x e. let b = in-below Z.P x s.rows h.sound.below (named-held x e) in lt-low x b) (end_to_end l) (all_in (end_to_end l))
    where
      lt-low : (x : ℕ) → x < Z.P → x < 2 ^ 32
      lt-low x b = omega (arith, b, low)

  pub names-back : (m : ℕ) → words (total_of (list_record l)) (list_bytes m l) ≡ end_to_end l
  unfolding list_bytes
  names-back m = subst (λ n. words n (word_bytes (end_to_end l) ++ zeros ((m - length (end_to_end l)) * 4)) ≡ end_to_end l) (total-end l)
      (words_back (end_to_end l) (zeros ((m - length (end_to_end l)) * 4)) all-low)

  -- the lists in the bytes of the lists
  pub lists_back : (m : ℕ) → lists_in (list_record l) (list_bytes m l) ≡ l
  lists_back m = ap (parts (list_record l)) (names-back m) ∙ parts-back l

  zeros-after : (m : ℕ) → any nonzero (drop (total_of (list_record l) * 4) (list_bytes m l)) ≡ false
  unfolding list_bytes
  zeros-after m =
      let z = zeros ((m - length (end_to_end l)) * 4) in
      let e : total_of (list_record l) * 4 ≡ length (word_bytes (end_to_end l)) = ap (λ n. n * 4) (sym (total-end l)) ∙ sym (length-words (end_to_end l)) in
      ap (any nonzero) (ap (λ n. drop n (word_bytes (end_to_end l) ++ z)) e ∙ drop-append_seam (word_bytes (end_to_end l)) z)
      ∙ zeros-none ((m - length (end_to_end l)) * 4)

  well-named : misnamed (map (λ r. r.address) s.rows) (end_to_end l) ≡ false
  unfolding misnamed
  well-named =
      or-both (any (λ a. not (eqb (count a (end_to_end l)) 1)) (map (λ r. r.address) s.rows))
      (any (λ x. not (is_in x (map (λ r. r.address) s.rows))) (end_to_end l))
      (any_none (λ a. not (eqb (count a (end_to_end l)) 1)) (map (λ r. r.address) s.rows)
      (all_map (λ x. is_in x (map (λ r. r.address) s.rows) ≡ true) (λ a. not (eqb (count a (end_to_end l)) 1) ≡ false)
      (λ x e. ap not (eq-eqb (count x (end_to_end l)) 1 (named_end x l ∙ named-once H Z l s h x ∙ ap (λ b. cond b 1 0) (sym (in_map x s.rows) ∙ e))))
      (map (λ r. r.address) s.rows) (all_in (map (λ r. r.address) s.rows))))
      (any_none (λ x. not (is_in x (map (λ r. r.address) s.rows))) (end_to_end l)
      (all_map (λ x. is_in x (end_to_end l) ≡ true) (λ x. not (is_in x (map (λ r. r.address) s.rows)) ≡ false)
      (λ x e. ap not (in_map x s.rows ∙ named-held x e)) (end_to_end l) (all_in (end_to_end l))))

  -- 6 isn't given for the lists of a state that is right
  pub lists-pass : (m : ℕ) → lists_unsound Z s.rows (list_record l) (list_bytes m l) ≡ false
  unfolding lists_unsound oversized
  lists-pass m =
      let ft = h.fit in
      let fw = h.few in
      let pl = h.p_low in
      rw (
        names-back m,
        well-named,
        zeros-after m,
        le-ltb (Z.C + Z.X) (length l.T1 + length l.T2 + length l.B3) (omega (arith, ft)),
        le-ltb Z.C
            (length l.B1 + length l.B2) fw,
        le-ltb Z.C l.p pl,
      ) refl

  in-append : (x : ℕ) (ws bs : List ℕ) → is_in x (ws ++ bs) ≡ (is_in x ws || is_in x bs)
  in-append x ws bs = has-append eqb (λ z. z) x ws bs

  -- the first names are those of T1 and T2
  tops-back : (m : ℕ) → tops_in (list_record l) (list_bytes m l) ≡ l.T1 ++ l.T2
  unfolding list_bytes
  tops-back m =
      let b3 = l.B1 ++ (l.B2 ++ l.B3) in
      let z = zeros ((m - length (end_to_end l)) * 4) in
      let n = length l.T1 + length l.T2 in
      let e : n ≡ length (l.T1 ++ l.T2) = sym (length-append l.T1 l.T2) in
      let f : end_to_end l ≡ (l.T1 ++ l.T2) ++ b3 = sym (append_assoc l.T1 l.T2 b3) in
      words-first n (end_to_end l) z all-low (let t = total-end l in omega (arith, t)) ∙ ap₂ {C = List ℕ} take e f ∙ take-append_seam (l.T1 ++ l.T2) b3

  -- nor 8
  pub tops-pass : (m : ℕ) → top_uncached H s (tops_in (list_record l) (list_bytes m l)) ≡ false
  unfolding top_uncached
  tops-pass m =
      rw (tops-back m) (any_none (λ r. is_in r.address (l.T1 ++ l.T2) && not (cached H r.fingerprint s.used)) s.rows
      (all_map (TopCached H l s.used) (λ r. (is_in r.address (l.T1 ++ l.T2) && not (cached H r.fingerprint s.used)) ≡ false)
      (λ r y. by-test (is_in r.address (l.T1 ++ l.T2))
      (λ e. rw (e, y (sym (in-append r.address l.T1 l.T2) ∙ e)) refl)
      (λ e. rw e refl)) s.rows h.top))

-- two rows of addresses that name each address equally often are equally long
pub same_length : {R : Type 0} (key : R → ℕ) (n : ℕ) (xs : List R) (ws : List ℕ) → length xs ≤ n → ((x : ℕ) → tally key x xs ≡ count x ws)
    → length xs ≡ length ws
same_length key zero [] [] k h = refl
same_length key zero [] (w ∷ ws) k h =
    let e = h w in
    let f = tally-has (λ z. z) w (w ∷ ws) (or_left (eqb w w) (is_in w ws) (eqb-self w)) in absurd (omega (arith, e, f))
same_length key zero (x ∷ xs) ws k h = absurd (omega (arith, k))
same_length key (suc n) [] [] k h = refl
same_length key (suc n) [] (w ∷ ws) k h =
    let e = h w in
    let f = tally-has (λ z. z) w (w ∷ ws) (or_left (eqb w w) (is_in w ws) (eqb-self w)) in absurd (omega (arith, e, f))
same_length key (suc n) (x ∷ xs) ws k h =
    let a = key x in
    let e1 = length_without key a (x ∷ xs) in
    let e2 = length_without (λ z. z) a ws in
    let t = tally-has key a (x ∷ xs) (or_left (eqb a a) (has eqb key a xs) (eqb-self a)) in
    let ha = h a in
    let ih = same_length key n (without eqb key a (x ∷ xs)) (out a ws) (omega (arith, e1, t, k))
    (λ y. by-test (eqb a y)
    (λ q. subst (λ z. tally key z (without eqb key a (x ∷ xs)) ≡ count z (out a ws)) (eqb→≡ a y q)
    (tally-without-self key a (x ∷ xs) ∙ sym (tally-without-self (λ z. z) a ws)))
    (λ q. tally-without-other key a y (x ∷ xs) q ∙ h y ∙ sym (tally-without-other (λ z. z) a y ws q))) in
    omega (arith, e1, e2, ih, ha)

pub length-words-in : (n : ℕ) (t : List ℕ) → length (words n t) ≡ n
unfolding words
length-words-in zero t = refl
length-words-in (suc n) t = ap suc (length-words-in n (drop 4 t))

split-count : (x n : ℕ) (w : List ℕ) → count x (take n w) + count x (drop n w) ≡ count x w
split-count x n w = sym (tally-append (λ z. z) x (take n w) (drop n w)) ∙ ap (count x) (take-append-drop n w)

count-nil : (x : ℕ) (w : List ℕ) → length w ≡ 0 → count x w ≡ 0
count-nil x [] h = refl
count-nil x (y ∷ ys) h = absurd (omega (arith, h))

split-length : (n : ℕ) (w : List ℕ) → n ≤ length w → length (take n w) ≡ n
split-length zero w h = refl
split-length (suc n) [] h = absurd (omega (arith, h))
split-length (suc n) (x ∷ xs) h = ap suc (split-length n xs (omega (arith, h)))

-- the lists of a record over a row of as many addresses
module _ (r : ListRecord) (w : List ℕ) (e : length w ≡ total_of r) where
  abbrev w1 : List ℕ
  w1 = drop r.t1 w

  abbrev w2 : List ℕ
  w2 = drop r.t2 w1

  abbrev w3 : List ℕ
  w3 = drop r.b1 w2

  abbrev w4 : List ℕ
  w4 = drop r.b2 w3

  l1 : length w1 ≡ r.t2 + r.b1 + r.b2 + r.b3
  l1 = let z = length-drop r.t1 w in omega (arith, z, e)

  l2 : length w2 ≡ r.b1 + r.b2 + r.b3
  l2 = let z = length-drop r.t2 w1 in let y = l1 in omega (arith, z, y)

  l3 : length w3 ≡ r.b2 + r.b3
  l3 = let z = length-drop r.b1 w2 in let y = l2 in omega (arith, z, y)

  l4 : length w4 ≡ r.b3
  l4 = let z = length-drop r.b2 w3 in let y = l3 in omega (arith, z, y)

  pub record PartSizes : Type 0 where
    pub n1 : length (parts r w).T1 ≡ r.t1
    pub n2 : length (parts r w).T2 ≡ r.t2
    pub n3 : length (parts r w).B1 ≡ r.b1
    pub n4 : length (parts r w).B2 ≡ r.b2
    pub n5 : length (parts r w).B3 ≡ r.b3

  pub part-sizes : PartSizes
  unfolding parts
  part-sizes =
      let y1 = l1 in
      let y2 = l2 in
      let y3 = l3 in
      let y4 = l4 in
      record {
        n1 = split-length r.t1 w (omega (arith, e));
        n2 = split-length r.t2 w1 (omega (arith, y1));
        n3 = split-length r.b1 w2 (omega (arith, y2));
        n4 = split-length r.b2 w3 (omega (arith, y3));
        n5 = split-length r.b3 w4 (omega (arith, y4));
      }

  pub part-names : (x : ℕ) → named x (parts r w) ≡ count x w
  unfolding parts
  part-names x =
      let c1 = split-count x r.t1 w in
      let c2 = split-count x r.t2 w1 in
      let c3 = split-count x r.b1 w2 in
      let c4 = split-count x r.b2 w3 in
      let c5 = split-count x r.b3 w4 in
      let y4 = l4 in
      let z = length-drop r.b3 w4 in
      let c6 = count-nil x (drop r.b3 w4) (omega (arith, z, y4)) in
      omega (arith, c1, c2, c3, c4, c5, c6)

part-p-is : (r : ListRecord) (w : List ℕ) {n : ℕ} → r.p ≤ n → (parts r w).p ≤ n
unfolding parts
part-p-is r w h = h

module _ {F X : Type 0} (H : Hashing F X) (Z : Sizes) (r : ListRecord) (t : List ℕ) (s : Box F X) (so : Sound H (base_numbers Z) s)
    (p6 : lists_unsound Z s.rows r t ≡ false) (p8 : top_uncached H s (tops_in r t) ≡ false) where
  abbrev names : List ℕ
  names = words (total_of r) t

  abbrev addresses : List ℕ
  addresses = map (λ r. r.address) s.rows

  wl : length names ≡ total_of r
  wl = length-words-in (total_of r) t

  pub record Read6 : Type 0 where
    pub well : misnamed addresses names ≡ false
    pub sizes : oversized Z r ≡ false
    pub after : any nonzero (drop (total_of r * 4) t) ≡ false
    pub low : ltb Z.C r.p ≡ false

  read6 : Read6
  unfolding lists_unsound
  read6 =
      let a = misnamed addresses names in
      let b = oversized Z r in
      let c = any nonzero (drop (total_of r * 4) t) in
      let d = ltb Z.C r.p in
      record {
        well = or-false-left a b (or-false-left (a || b) c (or-false-left ((a || b) || c) d p6));
        sizes = or-false-right a b (or-false-left (a || b) c (or-false-left ((a || b) || c) d p6));
        after = or-false-right (a || b) c (or-false-left ((a || b) || c) d p6);
        low = or-false-right ((a || b) || c) d p6;
      }

  each-once : (x : ℕ) → tally (λ r. r.address) x s.rows ≡ count x names
  unfolding misnamed
  each-once x =
      let m = read6.well in
      let f = any (λ a. not (eqb (count a names) 1)) addresses in
      let g = any (λ x. not (is_in x addresses)) names in
      by-test (held x s.rows)
      (λ y. let one = find-all (λ a. not (eqb (count a names) 1)) addresses (or-false-left f g m) x (in_map x s.rows ∙ y) in
      let q = eqb-true (count x names) 1 (not-false (eqb (count x names) 1) one) in
      let k = tally-has (λ (r : AddressRow F). r.address) x s.rows y in
      let d = tally-distinct (λ (r : AddressRow F). r.address) x s.rows so.addresses in
      omega (arith, q, k, d))
      (λ y. tally-none (λ (r : AddressRow F). r.address) x s.rows y ∙ sym (by-test (is_in x names)
      (λ z. clash (not-false (is_in x addresses) (find-all (λ x. not (is_in x addresses)) names (or-false-right f g m) x z)) (in_map x s.rows ∙ y))
      (λ z. tally-none (λ z. z) x names z)))
    where
      find-all : (p : ℕ → Bool) (l : List ℕ) → any p l ≡ false → (x : ℕ) → is_in x l ≡ true → p x ≡ false
      find-all p l h x i = go l (none_any p l h) i
        where
          go : (l : List ℕ) → All (λ x. p x ≡ false) l → is_in x l ≡ true → p x ≡ false
          go [] a i = absurd (false≢true i)
          go (y ∷ ys) a i = either (or_cases (eqb x y) (is_in x ys) i) (λ e. subst (λ z. p z ≡ false) (sym (eqb→≡ x y e)) a.0) (λ e. go ys a.1 e)

  tops-in : (x : ℕ) → on_top (lists_in r t) x ≡ true → is_in x (tops_in r t) ≡ true
  unfolding parts
  tops-in x h =
      let a = take r.t1 names in
      let b = drop r.t1 names in
      let n1 : length a ≡ r.t1 = split-length r.t1 names (let z = wl in omega (arith, z)) in
      let e : tops_in r t ≡ a ++ take r.t2 b
      = sym (words_take (r.t1 + r.t2) (total_of r) t (omega arith))
      ∙ ap₂ {C = List ℕ} take (ap (λ n. n + r.t2) (sym n1)) (sym (take-append-drop r.t1 names)) ∙ take-append-add a b r.t2 in
      ap (is_in x) e ∙ has-append eqb (λ z. z) x a (take r.t2 b) ∙ h

  -- Lists and tables that pass 6 and 8 are right: what a served call begins with, from whatever bytes.
  pub passes-arc : ArcSound H Z (lists_in r t) s
  unfolding oversized top_uncached
  passes-arc =
      let q = part-sizes r names wl in
      let k1 = q.n1 in
      let k2 = q.n2 in
      let k3 = q.n3 in
      let k4 = q.n4 in
      let k5 = q.n5 in
      let sz = read6.sizes in
      let o1 = ltb-false (Z.C + Z.X) (r.t1 + r.t2 + r.b3) (or-false-left (ltb (Z.C + Z.X) (r.t1 + r.t2 + r.b3)) (ltb Z.C (r.b1 + r.b2)) sz) in
      let o2 = ltb-false Z.C (r.b1 + r.b2) (or-false-right (ltb (Z.C + Z.X) (r.t1 + r.t2 + r.b3)) (ltb Z.C (r.b1 + r.b2)) sz) in
      let len = same_length (λ (r : AddressRow F). r.address) (length s.rows) s.rows names (omega arith) each-once in
      let wn = wl in
      record {
        sound = so;
        names = λ x. each-once x ∙ sym (part-names r names wl x);
        counted = omega (arith, len, wn, k1, k2, k3, k4, k5);
        top = all_map (λ a. (is_in a.address (tops_in r t) && not (cached H a.fingerprint s.used)) ≡ false) (TopCached H (lists_in r t) s.used)
            (λ a y e. by-test (cached H a.fingerprint s.used) (λ c. c) (λ c. absurd (true≢false (rw (tops-in a.address e, c) at y))))
            s.rows (none_any (λ a. is_in a.address (tops_in r t) && not (cached H a.fingerprint s.used)) s.rows p8);
        fit = omega (arith, o1, k1, k2, k5);
        few = omega (arith, o2, k3, k4);
        p_low = part-p (ltb-false Z.C r.p read6.low);
      }
    where
      part-p : r.p ≤ Z.C → (lists_in r t).p ≤ Z.C
      part-p h = part-p-is r names h
