-- What keeps an address table sound: the functions of `shift` and `put` on it. `Promises` says it with the test for 6. Assumes nothing.
use Rattle.std.specs.Prelude.{◌≡◌, refl, Bool, true, false, ◌&&◌, List, [], ◌∷◌, ◌++◌, map, ℕ, suc, ◌+◌, ◌-◌, ◌*◌, ◌^◌, ◌≤◌, ◌<◌, eqb, leb, ltb, length, get_or, set, drop, None, Option, Some, cond}
use Rattle.std.proofs.Common.{sym, ap, ◌∙◌, arith, length-append, drop-drop, get_or-set_same, get_or-set_other, eqb-true, leb-true, le-leb, lt-ltb}
use Rattle.std.proofs.Math.Seq.{map-set_same}
use Rattle.tables.specs.Rows.{rows, flat, zeros, row_at, remove_at}
use Rattle.tables.specs.Find.{all, find_from, has_address}
use Rattle.tables.specs.Unsound.{elem}
use Rattle.tables.specs.Sound.{distinct, seated_tail, address_ok, is_zero, sound_addresses, row_address}
use Rattle.tables.specs.Records.{Seat, address_bytes, address_row, address_table, fresh_addresses, read_address}
use Rattle.tables.specs.RowLaws.{rows-length, rows_at, length_part}
use Rattle.tables.specs.SoundLaws.{and_left, and_right, or_left, or_right, all-at, values-at, values_length}
use Rattle.tables.specs.FindLaws.{found_at}
use Rattle.tables.proofs.OperationLaws.{off, le4-bytes4, rows-removed, rest-removed, rows_pushed, rest-pushed, map-remove_at, map-++, rows-set, rest-clean}
use Rattle.table_laws.specs.KeptLists.{both, neither, eqb-sym, all_append, all-remove_at, all_drop, all_set, zeros-zero, elem-remove_at, elem_out}
use Rattle.table_laws.specs.KeptLists.{distinct-remove_at, distinct_snoc}
use Rattle.tables.specs.Operations.{row_out, row_added, row_cleaned}

-- the four parts of an address table's soundness
pub record Addrs (P m n : ℕ) (t : List ℕ) : Type 0 where
  pub few : n ≤ m
  pub each : all (address_ok P) (rows n t) ≡ true
  pub apart : distinct (map row_address (rows n t)) ≡ true
  pub rest : all is_zero (drop (n * 40) t) ≡ true

pub addrs-parts : (P m n : ℕ) (t : List ℕ) → sound_addresses P m n t ≡ true → Addrs P m n t
unfolding sound_addresses
addrs-parts P m n t s =
    let a = leb n m in
    let b = all (address_ok P) (rows n t) in
    let d = distinct (map row_address (rows n t)) in
    let z = all is_zero (drop (n * 40) t) in
    let s1 = and_right a (b && (d && z)) s in
    let s2 = and_right b (d && z) s1 in
    record { few = leb-true n m (and_left a (b && (d && z)) s); each = and_left b (d && z) s1; apart = and_left d z s2; rest = and_right d z s2 }

pub parts-addrs : (P m n : ℕ) (t : List ℕ) → Addrs P m n t → sound_addresses P m n t ≡ true
unfolding sound_addresses
parts-addrs P m n t r = rw (le-leb n m r.few, r.each, r.apart, r.rest)

-- remove_row
pub addrs-removed : (P m n : ℕ) (t : List ℕ) (i : ℕ) → i < n → length t ≡ m * 40 → Addrs P m n t → Addrs P m (n - 1) (row_out n i t)
unfolding row_out
addrs-removed P m n t i h l r =
    let g : n * 40 ≤ length t = omega (arith, r.few) in
    let x : List ℕ = zeros 40 ++ drop (n * 40) t in
    record {
      few = omega (arith, r.few);
      each = rw (rows-removed n t x i h g) (all-remove_at (address_ok P) (rows n t) i r.each);
      apart = rw (rows-removed n t x i h g, map-remove_at row_address (rows n t) i) (distinct-remove_at (map row_address (rows n t)) i r.apart);
      rest = rw (rest-removed n t x i h g) (all_append is_zero (zeros 40) (drop (n * 40) t) (zeros-zero 40) r.rest);
    }

pick-none : (b : Bool) (k : ℕ) (f : Option ℕ) → cond b (Some k) f ≡ None → (b ≡ false) × (f ≡ None)
pick-none true k f e = let z : ◌≡◌ {A = ℕ} 0 1 = cc in absurd (omega arith)
pick-none false k f e = (refl, e)

-- no row has the address
not_found : (a k : ℕ) (rs : List (List ℕ)) → find_from (has_address a) k rs ≡ None → elem a (map row_address rs) ≡ false
unfolding find_from elem
not_found a k [] e = refl
not_found a k (r ∷ rs) e =
    let m = pick-none (eqb (row_address r) a) k (find_from (has_address a) (suc k) rs) e in
    neither (eqb a (row_address r)) (elem a (map row_address rs)) (eqb-sym (row_address r) a m.0) (not_found a (suc k) rs m.1)

-- push_row with a sound row
pub addrs-pushed : (P m n : ℕ) (t r : List ℕ) → n < m → length t ≡ m * 40 → length r ≡ 40 → address_ok P r ≡ true
    → find_from (has_address (row_address r)) 0 (rows n t) ≡ None
    → Addrs P m n t → Addrs P m (n + 1) (row_added n r t)
unfolding all row_added
addrs-pushed P m n t r h l lr ok f s =
    let g : n * 40 ≤ length t = omega (arith, s.few) in
    let x : List ℕ = drop (n * 40 + 40) t in
    record {
      few = omega arith;
      each = rw (rows_pushed n t r x g lr) (all_append (address_ok P) (rows n t) (r ∷ []) s.each (both (address_ok P r) true ok refl));
      apart = rw (rows_pushed n t r x g lr, map-++ row_address (rows n t) (r ∷ []))
          (distinct_snoc (map row_address (rows n t)) (row_address r) s.apart (not_found (row_address r) 0 (rows n t) f));
      rest = rw (rest-pushed n t r x g lr, ← drop-drop 40 (n * 40) t) (all_drop is_zero 40 (drop (n * 40) t) s.rest);
    }

-- set_clean
pub addrs-clean : (P m n : ℕ) (t : List ℕ) (k : ℕ) → k < n → length t ≡ m * 40 → Addrs P m n t → Addrs P m n (row_cleaned k t)
unfolding read_address seated_tail row_cleaned
addrs-clean P m n t k h l s =
    let g : n * 40 ≤ length t = omega (arith, s.few) in
    let r : List ℕ = row_at t k in
    let lr : length r ≡ 40 = length_part t (k * 40) 40 (omega arith) in
    let far : (j : ℕ) → (j ≡ 36 → ⊥) → get_or (set r 36 0) j 0 ≡ get_or r j 0 = λ j q. get_or-set_other r 36 j 0 0 q in
    let w : row_address (set r 36 0) ≡ row_address r = rw (
      far 0 (λ e. omega arith),
      far 1 (λ e. omega arith),
      far 2 (λ e. omega arith),
      far 3
          (λ e. omega arith),
    ) in
    let o : address_ok P r ≡ true = ap (address_ok P) (sym (rows_at n t k h)) ∙ all-at (address_ok P) (rows n t) k [] s.each (rw rows-length h) in
    let z : get_or (set r 36 0) 36 0 ≡ 0 = get_or-set_same r 36 0 0 (omega arith) in
    let tl : seated_tail (set r 36 0) ≡ true = rw (z, far 39 (λ e. omega arith))
    (and_right (leb (get_or r 36 0) 1) (eqb (get_or r 39 0) 0) (and_right (ltb (row_address r) P) (seated_tail r) o)) in
    record {
      few = s.few;
      each = rw (rows-set n t k 36 0 (omega arith)) (all_set (address_ok P) (rows n t) k (set r 36 0) s.each
          (both (ltb (row_address (set r 36 0)) P) (seated_tail (set r 36 0))
          (ap (λ (x : ℕ). ltb x P) w ∙ and_left (ltb (row_address r) P) (seated_tail r) o) tl));
      apart = rw (rows-set n t k 36 0 (omega arith), map-set_same row_address (rows n t) k (set r 36 0) [] (w ∙ ap row_address (sym (rows_at n t k h))))
          s.apart;
      rest = rw (rest-clean n t k h g) s.rest;
    }

-- fresh_addresses
pub addrs-fresh : (P m : ℕ) → Addrs P m 0 (fresh_addresses m)
unfolding fresh_addresses address_table flat rows all distinct
addrs-fresh P m = record { few = omega arith; each = refl; apart = refl; rest = zeros-zero ((m - 0) * 40) }

-- ---- searches and the address list

-- the converse of `not_found`
unseen : (a k : ℕ) (rs : List (List ℕ)) → elem a (map row_address rs) ≡ false → find_from (has_address a) k rs ≡ None
unfolding find_from elem
unseen a k [] e = refl
unseen a k (r ∷ rs) e =
    rw (eqb-sym a (row_address r) (or_left (eqb a (row_address r)) (elem a (map row_address rs)) e))
    (unseen a (suc k) rs (or_right (eqb a (row_address r)) (elem a (map row_address rs)) e))

-- no other row has a held address; and where none has it, none has it when a row is taken out
pub found-out : (n : ℕ) (t : List ℕ) (a i : ℕ) → distinct (map row_address (rows n t)) ≡ true → find_from (has_address a) 0 (rows n t) ≡ Some i
    → find_from (has_address a) 0 (remove_at (rows n t) i) ≡ None
found-out n t a i d e =
    let r = found_at (has_address a) (rows n t) [] i e in
    let h : i < n = omega (arith, r.below, rows-length n t) in
    let q : get_or (map row_address (rows n t)) i 0 ≡ a = values-at row_address n t i h ∙ ap row_address (sym (rows_at n t i h))
    ∙ eqb-true (row_address (get_or (rows n t) i [])) a r.holds in
    unseen a 0 (remove_at (rows n t) i)
    (ap (elem a) (map-remove_at row_address (rows n t) i)
    ∙ ap (λ (x : ℕ). elem x (remove_at (map row_address (rows n t)) i)) (sym q)
    ∙ elem_out (map row_address (rows n t)) i d (rw values_length h))

pub nothing-out : (n : ℕ) (t : List ℕ) (a i : ℕ) → find_from (has_address a) 0 (rows n t) ≡ None → find_from (has_address a) 0 (remove_at (rows n t) i) ≡ None
nothing-out n t a i e = unseen a 0 (remove_at (rows n t) i)
    (ap (elem a) (map-remove_at row_address (rows n t) i) ∙ elem-remove_at a (map row_address (rows n t)) i (not_found a 0 (rows n t) e))

-- the row that push_address writes
pub address_ok-of : (P a : ℕ) (g : List ℕ) (x : ℕ) (z : Seat) → a < P → P ≤ 2 ^ 32 → x ≤ 1 → length g ≡ 32
    → address_ok P (address_bytes (address_row a g x z)) ≡ true
unfolding address_bytes seated_tail read_address
address_ok-of P a g x z h hp hx l =
    let w : List ℕ = x ∷ z.0 ∷ z.1 ∷ 0 ∷ [] in
    let r : List ℕ = address_bytes (address_row a g x z) in
    both (ltb (row_address r) P) (seated_tail r)
    (ap (λ (k : ℕ). ltb k P) (le4-bytes4 a (omega arith)) ∙ lt-ltb a P h)
    (rw (off g w 0 l, off g w 3 l) (both (leb x 1) true (le-leb x 1 hx) refl))

pub length-of_addr : (a : ℕ) (g : List ℕ) (x : ℕ) (z : Seat) → length g ≡ 32 → length (address_bytes (address_row a g x z)) ≡ 40
unfolding address_bytes
length-of_addr a g x z l = omega (arith, length-append g (x ∷ z.0 ∷ z.1 ∷ 0 ∷ []))

pub le4-of_addr : (a : ℕ) (g : List ℕ) (x : ℕ) (z : Seat) → a < 2 ^ 32 → row_address (address_bytes (address_row a g x z)) ≡ a
unfolding address_bytes read_address
le4-of_addr a g x z h = le4-bytes4 a h
