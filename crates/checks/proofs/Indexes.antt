-- Laws of an index. Assumes nothing.
use Rattle.std.specs.Prelude.{Some, is_none, cond}
use mathlib.Core.Path.{◌≡◌, refl, sym, ap, ◌∙◌, subst}
use mathlib.Core.Bool.{Bool, true, false, and-false, false≢true}
use Prim.Native.Nat.{ℕ, suc, ◌+◌, ◌-◌, ◌≤◌, ◌<◌}
use mathlib.Core.List.{List, [], ◌∷◌}
use native.Mathlib.Omega.{arith}
use native.Mathlib.Numerals.{add-one}
use lib.Dec.{eqb}
use lib.ListN.{length, get_or, set, drop, length-set}
use lib.Seq.{get_or-set_same, get_or-set_other}
use borrow.Author.Tests.{eqb-true, eqb-false}
use Rattle.tables.specs.Rows.{rows, row_at}
use Rattle.tables.specs.Find.{find_from, caches, same, is_used}
use Rattle.tables.specs.Index.{bucket, choice, entry, start, onward, In, Index, First, Goes, Linked, unique}
use Rattle.tables.specs.FindLaws.{find-miss, find-end}
use Rattle.tables.specs.RowLaws.{rows-length, rows_at}
use Rattle.tables.specs.SoundLaws.{same_true, not-true-false}
use Rattle.tables.specs.Records.{read_block}

pub bucket-below : (c : ℕ) (g : List ℕ) → bucket c g < 4096
unfolding bucket
bucket-below c g = omega arith

-- a row of another bucket has another fingerprint
other-bucket : (c : ℕ) (g r : List ℕ) → (bucket c g ≡ bucket c (read_block r).fingerprint → ⊥) → caches g r ≡ false
other-bucket c g r e =
    rw (not-true-false (same (read_block r).fingerprint g) (λ h. e (ap (bucket c) (sym (same_true (read_block r).fingerprint g h))))) (and-false (is_used r))

-- no rows, and every search starts behind the last
pub linked-end : (heads : List ℕ) (rs : List (List ℕ)) (d : ℕ) → length rs ≤ d → d ≤ 256 → choice heads + 2 ≤ 32 → ((x : ℕ) → x < 4352 → get_or heads x 0 ≡ 0) → Linked d heads rs
linked-end heads rs d h e c f = record {
  chosen = c;
  index = λ g.
      (let s : start heads g ≡ 256 = ap (λ (v : ℕ). 256 - v) (f (bucket (choice heads) g) (omega (arith, bucket-below (choice heads) g))) in
      find-end (caches g) rs d [] h ∙ sym (rw s (find-end (caches g) rs 256 [] (omega arith))));
  firsts = λ x b. (let z : get_or heads x 0 ≡ 0 = f x (omega arith) in (omega arith, (omega arith, λ o. absurd (omega arith))));
  links = λ r x b o. absurd (omega arith);
}

-- a free row is in no chain
module _ (heads : List ℕ) (rs : List (List ℕ)) (k : ℕ) (l : k < length rs) (free : is_used (get_or rs k []) ≡ false) (i : Linked (k + 1) heads rs) where
  free-link : (r x : ℕ) → k ≤ r → r < length rs → In (choice heads) rs x r → Goes (choice heads) rs x r (onward heads r)
  free-link r x o c n = elim (eqb r k) as (λ q. eqb r k ≡ q → Goes (choice heads) rs x r (onward heads r)) [
    | true ↦ λ q. (let s = eqb-true r k q in let u : is_used (get_or rs k []) ≡ true = subst (λ (j : ℕ). is_used (get_or rs j []) ≡ true) s n.0 in absurd (false≢true (sym free ∙ u)))
    | false ↦ λ q. (let s = eqb-false r k q in i.links r x (omega arith) c n)
  ] refl

  linked-free : Linked k heads rs
  linked-free = record {
    chosen = i.chosen;
    index = λ g. find-miss (caches g) rs k [] l (rw free refl) ∙ i.index g;
    firsts = λ x b. (let p = i.firsts x b in (p.0, (omega (arith, p.1.0), p.1.1)));
    links = free-link;
  }

-- the entries after `put_row` on row k, of bucket x
module _ (heads : List ℕ) (k x : ℕ) (few : k < 256) (size : length heads ≡ 4353) (b : x < 4096) where
  abbrev turned : List ℕ
  turned = set (set heads (4096 + k) (get_or heads x 0)) x (256 - k)

  turned-here : get_or turned x 0 ≡ 256 - k
  turned-here = get_or-set_same (set heads (4096 + k) (get_or heads x 0)) x (256 - k) 0 (simp length-set (omega arith))

  -- an entry that is neither that of the bucket nor that of the row
  turned-other : (y : ℕ) → (y ≡ x → ⊥) → (y ≡ 4096 + k → ⊥) → get_or turned y 0 ≡ get_or heads y 0
  turned-other y n o = get_or-set_other (set heads (4096 + k) (get_or heads x 0)) x y (256 - k) 0 n ∙ get_or-set_other heads (4096 + k) y (get_or heads x 0) 0 o

  turned-row : get_or turned (4096 + k) 0 ≡ get_or heads x 0
  turned-row =
      get_or-set_other (set heads (4096 + k) (get_or heads x 0)) x (4096 + k) (256 - k) 0 (λ o. omega arith)
      ∙ get_or-set_same heads (4096 + k) (get_or heads x 0) 0 (omega arith)

  same-choice : choice turned ≡ choice heads
  same-choice = turned-other 4352 (λ o. omega arith) (λ o. omega arith)

  -- one row more
  module _ (rs : List (List ℕ)) (l : k < length rs) (m : length rs ≤ 256) (e : In (choice heads) rs x k) (i : Linked (k + 1) heads rs) where
    abbrev c : ℕ
    c = choice heads

    at_row : 256 - get_or turned x 0 ≡ k
    at_row = ap (λ (v : ℕ). 256 - v) turned-here ∙ omega arith

    more-index : Index k turned rs
    more-index g =
        rw same-choice (elim (eqb (bucket c g) x) as (λ q. eqb (bucket c g) x ≡ q → find_from (caches g) k (drop k rs) ≡ find_from (caches g) (entry turned (bucket c g)) (drop (entry turned (bucket c g)) rs)) [
          | true ↦ λ q. (let s : entry turned (bucket c g) ≡ k = ap (entry turned) (eqb-true (bucket c g) x q) ∙ at_row in rw s)
          | false ↦ λ q.
              (let n = eqb-false (bucket c g) x q in
              let s : entry turned (bucket c g) ≡ start heads g = ap (λ (v : ℕ). 256 - v) (turned-other (bucket c g) n (λ o. omega (arith, bucket-below c g))) in
              rw s (find-miss (caches g) rs k [] l (other-bucket c g (get_or rs k []) (λ o. n (o ∙ e.1))) ∙ i.index g))
        ] refl)

    more-first : (y : ℕ) → y < 4096 → First c k rs y (get_or turned y 0)
    more-first y o = elim (eqb y x) as (λ q. eqb y x ≡ q → First c k rs y (get_or turned y 0)) [
      | true ↦ λ q.
          (let s = eqb-true y x q in
          let v : get_or turned y 0 ≡ 256 - k = ap (λ (z : ℕ). get_or turned z 0) s ∙ turned-here in
          let w : 256 - get_or turned y 0 ≡ k = ap (λ (z : ℕ). 256 - get_or turned z 0) s ∙ at_row in
          (omega (arith, v), (omega (arith, w), λ z. subst (In c rs y) (sym w) (e.0, e.1 ∙ sym s))))
      | false ↦ λ q.
          (let p = i.firsts y o in
          let r : First c k rs y (get_or heads y 0) = (p.0, (omega (arith, p.1.0), p.1.1)) in
          subst (First c k rs y) (sym (turned-other y (eqb-false y x q) (λ z. omega arith))) r)
    ] refl

    more-link : (r y : ℕ) → k ≤ r → r < length rs → In c rs y r → Goes c rs y r (onward turned r)
    more-link r y o d n = elim (eqb r k) as (λ q. eqb r k ≡ q → Goes c rs y r (onward turned r)) [
      | true ↦ λ q.
          (let s = eqb-true r k q in
          let p = i.firsts x b in
          let z : x ≡ y = sym e.1 ∙ ap (λ (j : ℕ). bucket c (read_block (get_or rs j [])).fingerprint) (sym s) ∙ n.1 in
          let w : onward turned k ≡ entry heads x = ap (λ (v : ℕ). 256 - v) turned-row in
          let t : Goes c rs x k (entry heads x) = (omega (arith, p.1.0), (p.1.1, λ g v. i.index g ∙ ap (λ (u : ℕ). find_from (caches g) (entry heads u) (drop (entry heads u) rs)) v)) in
          subst (λ (u : ℕ). Goes c rs u r (onward turned r)) z (subst (λ (u : ℕ). Goes c rs x u (onward turned u)) (sym s) (subst (Goes c rs x k) (sym w) t)))
      | false ↦ λ q.
          (let v = eqb-false r k q in
          let w : onward turned r ≡ onward heads r = ap (λ (u : ℕ). 256 - u) (turned-other (4096 + r) (λ z. omega arith) (λ z. v (omega arith))) in
          subst (Goes c rs y r) (sym w) (i.links r y (omega arith) d n))
    ] refl

    linked-more : Linked k turned rs
    linked-more = record {
      chosen = rw same-choice i.chosen;
      index = more-index;
      firsts = rw same-choice more-first;
      links = rw same-choice more-link;
    }

-- whether something is found does not depend on the number of the first
pub absent-from : {A : Type 0} (p : A → Bool) (j k : ℕ) (xs : List A) → is_none (find_from p j xs) ≡ is_none (find_from p k xs)
unfolding find_from
absent-from p j k [] = refl
absent-from p j k (x ∷ xs) = elim (p x) as (λ q. is_none (cond q (Some j) (find_from p (suc j) xs)) ≡ is_none (cond q (Some k) (find_from p (suc k) xs))) [ true ↦ refl | false ↦ absent-from p (suc j) (suc k) xs ]

-- a search for g that starts where the index says, at row w
module _ (heads : List ℕ) (rs : List (List ℕ)) (g : List ℕ) (w k : ℕ) (f : w ≡ start heads g) (i : Linked k heads rs) where
  found-by : find_from (caches g) w (drop w rs) ≡ find_from (caches g) k (drop k rs)
  found-by = sym (i.index g ∙ rw f)

  pub from-links : (r y : ℕ) → w ≤ r → r < length rs → In (choice heads) rs y r → Goes (choice heads) rs y r (onward heads r)
  from-links r y h o n =
      let p = (i.firsts (bucket (choice heads) g) (bucket-below (choice heads) g)).1.0 in
      i.links r y (omega (arith, p, f)) o n

-- the row's fingerprint is in no row behind it, by the search from row w
pub alone-is : (heads t : List ℕ) (d k w : ℕ) → is_used (row_at t k) ≡ true → w ≡ start heads (read_block (row_at t k)).fingerprint → Linked (k + 1) heads (rows d t)
    → is_none (find_from (caches (read_block (row_at t k)).fingerprint) w (drop w (rows d t))) ≡ unique (row_at t k) (drop (suc k) (rows d t))
alone-is heads t d k w u f i =
    let g = (read_block (row_at t k)).fingerprint in
    ap is_none (found-by heads (rows d t) g w (k + 1) f i)
    ∙ absent-from (caches g) (k + 1) 0 (drop (k + 1) (rows d t))
    ∙ ap (λ (j : ℕ). is_none (find_from (caches g) 0 (drop j (rows d t)))) (add-one k)
    ∙ rw u refl

-- row k before the rows behind it
module _ (heads t : List ℕ) (d k : ℕ) (h : k < d) (i : Linked (k + 1) heads (rows d t)) where
  row-below : k < length (rows d t)
  row-below = rw rows-length h

  pub free-row : is_used (row_at t k) ≡ false → Linked k heads (rows d t)
  free-row e = linked-free heads (rows d t) k row-below (ap is_used (rows_at d t k h) ∙ e) i

  pub used-row : (x : ℕ) → d ≤ 256 → length heads ≡ 4353 → is_used (row_at t k) ≡ true → x ≡ bucket (choice heads) (read_block (row_at t k)).fingerprint
      → Linked k (set (set heads (4096 + k) (get_or heads x 0)) x (256 - k)) (rows d t)
  used-row x few size u e =
      linked-more heads k x (omega arith) size (rw e (bucket-below (choice heads) (read_block (row_at t k)).fingerprint)) (rows d t) row-below
      (rw rows-length few) (ap is_used (rows_at d t k h) ∙ u, ap (λ r. bucket (choice heads) (read_block r).fingerprint) (rows_at d t k h) ∙ sym e) i
