-- What keeps a block table sound: the functions of `shift` and `put` on it. `Promises` says it with the test for 7. Assumes nothing.
use Rattle.std.specs.Prelude.{◌≡◌, Bool, false, not, ◌&&◌, ◌||◌, eqb, take, drop, None, is_none}
use Rattle.std.proofs.Math.Path.{refl, ap}
use Rattle.std.proofs.Common.{sym, ◌∙◌, arith, not-suc-le-zero, le_of_suc-le-suc, length-append, eq-eqb, lt-ltb}
use Rattle.std.proofs.Math.Bool.{true, cond, and-false}
use mathlib.Core.List.{List, [], ◌∷◌, ◌++◌, map}
use Prim.Native.Nat.{ℕ, zero, suc, ◌+◌, ◌-◌, ◌*◌, ◌≤◌, ◌<◌}
use Rattle.std.proofs.Math.Dec.{ltb}
use Rattle.std.proofs.Math.ListN.{length, get_or}
use Rattle.std.proofs.Math.Seq.{take_at}
use Rattle.std.proofs.lemmas.Bool.{not-true}
use Rattle.tables.specs.Rows.{rows, flat, zeros, row_at, remove_at}
use Rattle.tables.specs.Find.{all, every, find_from, caches, same, is_used}
use Rattle.tables.specs.Sound.{distinct, tail_ok, is_zero, sound_blocks, used_ok, block_ok, row_slot}
use Rattle.tables.specs.Records.{block_bytes, free_row, slots_from, block_table, fresh_blocks, read_block}
use Rattle.tables.specs.RowLaws.{rows-length, rows_at, length_part}
use Rattle.tables.specs.SoundLaws.{and_left, and_right, not-true-false, same_true, all-at, every-at, values-at, values_length}
use Rattle.tables.specs.ShiftLaws.{length-zeros, length-freed, length-filled}
use Rattle.tables.specs.FindLaws.{same_refl}
use Rattle.tables.specs.OperationLaws.{Wide}
use Rattle.tables.proofs.OperationLaws.{map-remove_at, map-++, rows_whole, wide_rows, wide-append, wide-remove_at, length-remove_at, slot-parts}
use Rattle.tables.proofs.OperationLaws.{tail-parts, flag-parts, le4-bytes4, free-length}
use Rattle.table_laws.specs.KeptLists.{both, all_append, all-remove_at, all-mono, zeros-zero, absent-all, every-remove_at, every-snoc}
use Rattle.table_laws.specs.KeptLists.{distinct-last, distinct-first, slots-distinct}
use Rattle.tables.specs.Operations.{row_newest, row_freed, row_filled, freed_row, filled}

-- a block row's test looks at the rows behind it only where the row is used
swap-used : (a b c z u v : Bool) → (c ≡ true → u ≡ true → v ≡ true) → a && (b && cond c u z) ≡ true → a && (b && cond c v z) ≡ true
swap-used true true true z u v h e = h refl e
swap-used true true false z u v h e = e
swap-used true false c z u v h e = e
swap-used false b c z u v h e = e

block_ok-swap : (d : ℕ) (r : List ℕ) (rs ss : List (List ℕ)) → (is_used r ≡ true → used_ok r rs ≡ true → used_ok r ss ≡ true) → block_ok d r rs ≡ true
    → block_ok d r ss ≡ true
block_ok-swap d r rs ss h e = swap-used (ltb (row_slot r) d) (tail_ok r) (is_used r) (all is_zero (read_block r).fingerprint) (used_ok r rs) (used_ok r ss) h e

block_ok-remove_at : (d : ℕ) (r : List ℕ) (rs : List (List ℕ)) (j : ℕ) → block_ok d r rs ≡ true → block_ok d r (remove_at rs j) ≡ true
block_ok-remove_at d r rs j e =
    block_ok-swap d r rs (remove_at rs j)
    (λ _ u. let p = caches (read_block r).fingerprint in
    both (all is_used (remove_at rs j)) (is_none (find_from p 0 (remove_at rs j)))
    (all-remove_at is_used rs j (and_left (all is_used rs) (is_none (find_from p 0 rs)) u))
    (absent-all p 0 (remove_at rs j) ∙ all-remove_at (λ s. not (p s)) rs j (sym (absent-all p 0 rs) ∙ and_right (all is_used rs) (is_none (find_from p 0 rs)) u)))
    e

-- x does not have the fingerprint of the row r, if r is used
abbrev pub clear_of : List ℕ → List ℕ → Bool
clear_of x r = not (is_used r) || not (caches (read_block r).fingerprint x)

block_ok-snoc : (d : ℕ) (x : List ℕ) → is_used x ≡ true → (r : List ℕ) (rs : List (List ℕ)) → clear_of x r ≡ true → block_ok d r rs ≡ true
    → block_ok d r (rs ++ (x ∷ [])) ≡ true
unfolding all
block_ok-snoc d x ux r rs c e =
    block_ok-swap d r rs (rs ++ (x ∷ []))
    (λ ur u. let p = caches (read_block r).fingerprint in
    let cl : not (p x) ≡ true = ap (λ b. not b || not (p x)) (sym ur) ∙ c in
    both (all is_used (rs ++ (x ∷ []))) (is_none (find_from p 0 (rs ++ (x ∷ []))))
    (all_append is_used rs (x ∷ []) (and_left (all is_used rs) (is_none (find_from p 0 rs)) u) (both (is_used x) true ux refl))
    (absent-all p 0 (rs ++ (x ∷ [])) ∙ all_append (λ s. not (p s)) rs (x ∷ []) (sym (absent-all p 0 rs)
    ∙ and_right (all is_used rs) (is_none (find_from p 0 rs)) u) (both (not (p x)) true cl refl)))
    e

-- row i out, x in at the end: to_newest and put_block; x in front: to_front
module _ (d : ℕ) (rs : List (List ℕ)) (i : ℕ) (x : List ℕ) (e : every (block_ok d) rs ≡ true) where
  pub every-out : every (block_ok d) (remove_at rs i) ≡ true
  every-out = every-remove_at (block_ok d) (block_ok-remove_at d) rs i e

  pub every-last : is_used x ≡ true → block_ok d x [] ≡ true → all (clear_of x) (remove_at rs i) ≡ true → every (block_ok d) (remove_at rs i ++ (x ∷ [])) ≡ true
  every-last u b c = every-snoc (block_ok d) x (clear_of x) (block_ok-snoc d x u) (remove_at rs i) c every-out b

  pub every_first : block_ok d x (remove_at rs i) ≡ true → every (block_ok d) (x ∷ remove_at rs i) ≡ true
  unfolding every
  every_first b = both (block_ok d x (remove_at rs i)) (every (block_ok d) (remove_at rs i)) b every-out

-- fingerprints that differ, either way round
never : (b : Bool) → b ≡ true → b ≡ false → ◌≡◌ {A = ℕ} 0 1
never b p q = cc

same-sym : (xs ys : List ℕ) → same xs ys ≡ false → same ys xs ≡ false
same-sym xs ys e =
    not-true-false (same ys xs)
    (λ h. let z = never (same xs ys) (ap (λ (l : List ℕ). same xs l) (same_true ys xs h) ∙ same_refl xs) e in omega arith)

not-both : (a b : Bool) → not (a && b) ≡ true → a ≡ true → b ≡ false
not-both true b e h = not-true b e
not-both false b e h = let z : ◌≡◌ {A = ℕ} 0 1 = cc in absurd (omega arith)

cleared-if : (u n : Bool) → (u ≡ true → n ≡ true) → not u || n ≡ true
cleared-if true n h = h refl
cleared-if false n h = refl

-- a row s that does not cache the fingerprint of x is clear of x
turned : (x s : List ℕ) → not (caches (read_block x).fingerprint s) ≡ true → clear_of x s ≡ true
turned x s e =
    cleared-if (is_used s) (not (caches (read_block s).fingerprint x))
    (λ u. ap not (ap (λ b. is_used x && b) (same-sym (read_block s).fingerprint (read_block x).fingerprint
    (not-both (is_used s) (same (read_block s).fingerprint (read_block x).fingerprint) e u)) ∙ and-false (is_used x)))

used-part : (d : ℕ) (r : List ℕ) (rs : List (List ℕ)) → block_ok d r rs ≡ true → is_used r ≡ true → used_ok r rs ≡ true
used-part d r rs e u =
    ap (λ b. cond b (used_ok r rs) (all is_zero (read_block r).fingerprint)) (sym u)
    ∙ and_right (tail_ok r) (cond (is_used r) (used_ok r rs) (all is_zero (read_block r).fingerprint))
    (and_right (ltb (row_slot r) d) (tail_ok r && cond (is_used r) (used_ok r rs) (all is_zero (read_block r).fingerprint)) e)

none-caches : (r : List ℕ) (rs : List (List ℕ)) → used_ok r rs ≡ true → all (λ s. not (caches (read_block r).fingerprint s)) rs ≡ true
none-caches r rs u = sym (absent-all (caches (read_block r).fingerprint) 0 rs)
    ∙ and_right (all is_used rs) (is_none (find_from (caches (read_block r).fingerprint) 0 rs)) u

-- the other rows are clear of a used row
pub clear-out : (d : ℕ) (rs : List (List ℕ)) (i : ℕ) → every (block_ok d) rs ≡ true → i < length rs → is_used (get_or rs i []) ≡ true
    → all (clear_of (get_or rs i [])) (remove_at rs i) ≡ true
unfolding every all
clear-out d [] i e h u = absurd (not-suc-le-zero h)
clear-out d (r ∷ rs) zero e h u = all-mono (λ s. not (caches (read_block r).fingerprint s)) (clear_of r) (turned r) rs
    (none-caches r rs (used-part d r rs (and_left (block_ok d r rs) (every (block_ok d) rs) e) u))
clear-out d (r ∷ rs) (suc i) e h u =
    both (clear_of (get_or rs i []) r) (all (clear_of (get_or rs i [])) (remove_at rs i))
    (cleared-if (is_used r) (not (caches (read_block r).fingerprint (get_or rs i [])))
    (λ ur. all-at (λ s. not (caches (read_block r).fingerprint s)) rs i []
    (none-caches r rs (used-part d r rs (and_left (block_ok d r rs) (every (block_ok d) rs) e) ur)) (le_of_suc-le-suc h)))
    (clear-out d rs i (and_right (block_ok d r rs) (every (block_ok d) rs) e) (le_of_suc-le-suc h) u)

-- rows that do not cache x's fingerprint are clear of x
pub clear-new : (x : List ℕ) (rs : List (List ℕ)) (i : ℕ) → find_from (caches (read_block x).fingerprint) 0 rs ≡ None
    → all (clear_of x) (remove_at rs i) ≡ true
clear-new x rs i e =
    all-remove_at (clear_of x) rs i (all-mono (λ s. not (caches (read_block x).fingerprint s)) (clear_of x) (turned x) rs
    (sym (absent-all (caches (read_block x).fingerprint) 0 rs) ∙ ap is_none e))

pub zeros-four : zeros 4 ≡ 0 ∷ 0 ∷ 0 ∷ 0 ∷ []
unfolding zeros
zeros-four = refl

pub zeros-three : zeros 3 ≡ 0 ∷ 0 ∷ 0 ∷ []
unfolding zeros
zeros-three = refl

-- the two parts of a block table's soundness
pub record Blocks (d : ℕ) (t : List ℕ) : Type 0 where
  pub each : every (block_ok d) (rows d t) ≡ true
  pub apart : distinct (map row_slot (rows d t)) ≡ true

pub blocks-parts : (d : ℕ) (t : List ℕ) → sound_blocks d t ≡ true → Blocks d t
unfolding sound_blocks
blocks-parts d t s =
    record {
      each = and_left (every (block_ok d) (rows d t)) (distinct (map row_slot (rows d t))) s;
      apart = and_right (every (block_ok d) (rows d t)) (distinct (map row_slot (rows d t))) s;
    }

pub parts-blocks : (d : ℕ) (t : List ℕ) → Blocks d t → sound_blocks d t ≡ true
unfolding sound_blocks
parts-blocks d t r = rw (r.each, r.apart)

module _ (d : ℕ) (t : List ℕ) (i : ℕ) (h : i < d) (l : length t ≡ d * 40) (s : Blocks d t) where
  wide-out : Wide (remove_at (rows d t) i)
  wide-out = wide-remove_at (rows d t) i (wide_rows d t (omega arith))

  length-out : length (remove_at (rows d t) i) ≡ d - 1
  length-out = length-remove_at (rows d t) i (rw rows-length h) ∙ rw rows-length

  row-length : length (row_at t i) ≡ 40
  row-length = length_part t (i * 40) 40 (omega arith)

  slots_at : get_or (map row_slot (rows d t)) i 0 ≡ row_slot (row_at t i)
  slots_at = values-at row_slot d t i h

  row-ok : block_ok d (row_at t i) (drop (suc i) (rows d t)) ≡ true
  row-ok = ap (λ (r : List ℕ). block_ok d r (drop (suc i) (rows d t))) (sym (rows_at d t i h))
      ∙ every-at (block_ok d) (rows d t) i [] s.each (rw rows-length h)

  -- row i out, and at the end a used row x with its slot, of which the others are clear
  pub blocks-kept-last : (x : List ℕ) → length x ≡ 40 → is_used x ≡ true → block_ok d x [] ≡ true → row_slot x ≡ row_slot (row_at t i)
      → all (clear_of x) (remove_at (rows d t) i) ≡ true
      → Blocks d (flat (remove_at (rows d t) i ++ (x ∷ [])))
  blocks-kept-last x lx u b w c =
      let e : rows d (flat (remove_at (rows d t) i ++ (x ∷ []))) ≡ remove_at (rows d t) i ++ (x ∷ []) =
      rows_whole d (remove_at (rows d t) i ++ (x ∷ [])) (wide-append (remove_at (rows d t) i) (x ∷ []) wide-out (lx, tt))
      (omega (arith, length-append (remove_at (rows d t) i) (x ∷ []), length-out)) in
      record {
        each = rw e (every-last d (rows d t) i x s.each u b c);
        apart = rw (e, map-++ row_slot (remove_at (rows d t) i) (x ∷ []), map-remove_at row_slot (rows d t) i, w, ← slots_at)
            (distinct-last (map row_slot (rows d t)) i s.apart (rw values_length h));
      }

  -- row i out, and in front a row x with its slot
  pub blocks-kept-first : (x : List ℕ) → length x ≡ 40 → block_ok d x (remove_at (rows d t) i) ≡ true → row_slot x ≡ row_slot (row_at t i)
      → Blocks d (flat (x ∷ remove_at (rows d t) i))
  blocks-kept-first x lx b w =
      let e : rows d (flat (x ∷ remove_at (rows d t) i)) ≡ x ∷ remove_at (rows d t) i
      = rows_whole d (x ∷ remove_at (rows d t) i) (lx, wide-out) (omega (arith, length-out)) in
      record {
        each = rw e (every_first d (rows d t) i x s.each b);
        apart = rw (e, map-remove_at row_slot (rows d t) i, w, ← slots_at) (distinct-first (map row_slot (rows d t)) i s.apart (rw values_length h));
      }

  -- to_newest
  pub kept-newest : is_used (row_at t i) ≡ true → Blocks d (row_newest d i t)
  unfolding all find_from row_newest
  kept-newest u =
      rw (rows_at d t i h)
      (blocks-kept-last (row_at t i) row-length u (block_ok-swap d (row_at t i) (drop (suc i) (rows d t)) [] (λ _ _. refl) row-ok) refl
      (ap (λ (r : List ℕ). all (clear_of r) (remove_at (rows d t) i)) (sym (rows_at d t i h))
      ∙ clear-out d (rows d t) i s.each (rw rows-length h) (rw (rows_at d t i h) u)))

  slot-below : ltb (row_slot (row_at t i)) d ≡ true
  slot-below = and_left (ltb (row_slot (row_at t i)) d) _ row-ok

  -- to_front
  pub kept-front : Blocks d (row_freed d i t)
  unfolding read_block row_freed freed_row
  kept-front =
      let r : List ℕ = row_at t i in
      let z : zeros 4 ≡ 0 ∷ 0 ∷ 0 ∷ 0 ∷ [] = zeros-four in
      let lz : length (zeros 32) ≡ 32 = length-zeros 32 in
      let w : row_slot (freed_row r) ≡ row_slot r = slot-parts (zeros 32) r (zeros 4) lz row-length in
      let tl : tail_ok (freed_row r) ≡ true = ap (λ (v : List ℕ). tail_ok (zeros 32 ++ (take 4 (drop 32 r) ++ v))) z ∙ tail-parts (zeros 32) r 0 lz row-length in
      let fl : get_or (freed_row r) 36 0 ≡ 0 = ap (λ (v : List ℕ). get_or (zeros 32 ++ (take 4 (drop 32 r) ++ v)) 36 0) z
      ∙ flag-parts (zeros 32) r (0 ∷ 0 ∷ 0 ∷ []) 0 lz row-length in
      let tk : (read_block (freed_row r)).fingerprint ≡ zeros 32 = take_at (zeros 32) (take 4 (drop 32 r) ++ zeros 4) 32 lz in
      rw (rows_at d t i h)
      (blocks-kept-first (freed_row r) (length-freed r row-length)
      (both (ltb (row_slot (freed_row r)) d) _ (ap (λ (k : ℕ). ltb k d) w ∙ slot-below)
      (both (tail_ok (freed_row r)) _ tl
      (ap (λ (k : ℕ). cond (eqb k 1) (used_ok (freed_row r) (remove_at (rows d t) i)) (all is_zero (read_block (freed_row r)).fingerprint)) fl ∙ ap (all is_zero) tk
      ∙ zeros-zero 32)))
      w)

  -- put_block with a fingerprint that is not cached
  pub kept_put : (g : List ℕ) → length g ≡ 32 → find_from (caches g) 0 (rows d t) ≡ None → Blocks d (row_filled d i g t)
  unfolding all find_from read_block row_filled filled
  kept_put g lg f =
      let r : List ℕ = row_at t i in
      let z : zeros 3 ≡ 0 ∷ 0 ∷ 0 ∷ [] = zeros-three in
      let w : row_slot (filled g r) ≡ row_slot r = slot-parts g r (1 ∷ zeros 3) lg row-length in
      let tl : tail_ok (filled g r) ≡ true = ap (λ (v : List ℕ). tail_ok (g ++ (take 4 (drop 32 r) ++ (1 ∷ v)))) z ∙ tail-parts g r 1 lg row-length in
      let fl : get_or (filled g r) 36 0 ≡ 1 = flag-parts g r (zeros 3) 1 lg row-length in
      let tk : (read_block (filled g r)).fingerprint ≡ g = take_at g (take 4 (drop 32 r) ++ (1 ∷ zeros 3)) 32 lg in
      rw (rows_at d t i h)
      (blocks-kept-last (filled g r) (length-filled g r lg row-length) (eq-eqb (get_or (filled g r) 36 0) 1 fl)
      (both (ltb (row_slot (filled g r)) d) _ (ap (λ (k : ℕ). ltb k d) w ∙ slot-below)
      (both (tail_ok (filled g r)) _ tl (ap (λ (k : ℕ). cond (eqb k 1) true (all is_zero (read_block (filled g r)).fingerprint)) fl)))
      w
      (clear-new (filled g r) (rows d t) i (ap (λ (k : List ℕ). find_from (caches k) 0 (rows d t)) tk ∙ f)))

-- fresh_blocks: d free rows from the slot a on, where there are e slots
free-words : (a d : ℕ) → a + d ≤ 256 → map row_slot (map block_bytes (map free_row (slots_from a d))) ≡ slots_from a d
unfolding block_bytes zeros read_block
free-words a zero h = refl
free-words a (suc d) h = rw (le4-bytes4 a (omega arith), free-words (suc a) d (omega arith))

pub free-wide : (a d : ℕ) → Wide (map block_bytes (map free_row (slots_from a d)))
free-wide a zero = tt
free-wide a (suc d) = (free-length a, free-wide (suc a) d)

pub free-count : (a d : ℕ) → length (map block_bytes (map free_row (slots_from a d))) ≡ d
free-count a zero = refl
free-count a (suc d) = ap suc (free-count (suc a) d)

free-ok : (a e : ℕ) (rs : List (List ℕ)) → a < e → e ≤ 256 → block_ok e (block_bytes (free_row a)) rs ≡ true
unfolding block_bytes zeros all read_block tail_ok
free-ok a e rs h g = rw (le4-bytes4 a (omega arith), lt-ltb a e h)

free-each : (a d e : ℕ) → a + d ≤ e → e ≤ 256 → every (block_ok e) (map block_bytes (map free_row (slots_from a d))) ≡ true
unfolding every
free-each a zero e h g = refl
free-each a (suc d) e h g =
    let rs : List (List ℕ) = map block_bytes (map free_row (slots_from (suc a) d)) in
    both (block_ok e (block_bytes (free_row a)) rs) (every (block_ok e) rs) (free-ok a e rs (omega arith) g) (free-each (suc a) d e (omega arith) g)

pub kept_fresh : (d : ℕ) → d ≤ 256 → Blocks d (fresh_blocks d)
unfolding fresh_blocks block_table
kept_fresh d h =
    let rs : List (List ℕ) = map block_bytes (map free_row (slots_from 0 d)) in
    let e : rows d (flat rs) ≡ rs = rows_whole d rs (free-wide 0 d) (free-count 0 d) in
    record { each = rw e (free-each 0 d d (omega arith) h); apart = rw (e, free-words 0 d (omega arith)) (slots-distinct 0 d) }
