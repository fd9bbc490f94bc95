-- For the crates above: what the functions of `shift` and `put` leave, said of the rows and of the records. Assumes nothing.
use Rattle.std.specs.Prelude.{◌≡◌, refl, true, ◌&&◌, leb, get_or, set, take, drop}
use Rattle.std.proofs.Math.Path.{sym}
use Rattle.std.proofs.Common.{ap, ◌∙◌, not-suc-le-zero, le_of_suc-le-suc, mod-eq_of_lt, arith, length-drop, take-append-drop, get_or-append-add, take_at, drop_at, length-take-le, drop-drop, get_or-set_same, get_or-set_other}
use mathlib.Core.List.{List, [], ◌∷◌, ◌++◌, map, append_assoc, append-nil}
use Prim.Native.Nat.{ℕ, zero, suc, ◌+◌, ◌-◌, ◌*◌, ◌/◌, ◌%◌, ◌^◌, ◌≤◌, ◌<◌}
use Rattle.std.proofs.Math.Nat.{div-div-eq-div-mul, div-add-mod}
use Rattle.std.proofs.Math.ListN.{length, length-append}
use Rattle.std.proofs.lemmas.List.{get_or_at, take-set-le, drop-set-add}
use Rattle.std.proofs.Math.Seq.{take-set-lt, drop-set-lt}
use Rattle.tables.specs.Rows.{rows, flat, zeros, row_at, remove_at, le4}
use Rattle.tables.specs.Records.{Seat, read_address, address_bytes, read_block, block_bytes, block_rows, address_row, block_row, free_row, slots_from}
use Rattle.tables.specs.Sound.{tail_ok, row_slot}
use Rattle.tables.proofs.RecordLaws.{four}
use Rattle.tables.specs.ShiftLaws.{length-zeros}
use Rattle.tables.specs.RowLaws.{rows-length, flat_rows}
use Rattle.tables.specs.Operations.{row_added, row_cleaned, freed_row, filled}
use Rattle.tables.specs.OperationLaws.{Wide}

pub wide_rows : (n : ℕ) (t : List ℕ) → n * 40 ≤ length t → Wide (rows n t)
unfolding rows
wide_rows zero t h = tt
wide_rows (suc n) t h =
    let g : n * 40 ≤ length (drop 40 t) = simp length-drop (omega arith) in
    (length-take-le 40 t (omega arith), wide_rows n (drop 40 t) g)

pub wide-append : (r s : List (List ℕ)) → Wide r → Wide s → Wide (r ++ s)
wide-append [] s w v = v
wide-append (x ∷ r) s w v = (w.0, wide-append r s w.1 v)

pub wide-remove_at : (rs : List (List ℕ)) (i : ℕ) → Wide rs → Wide (remove_at rs i)
wide-remove_at [] zero w = tt
wide-remove_at [] (suc i) w = tt
wide-remove_at (r ∷ rs) zero w = w.1
wide-remove_at (r ∷ rs) (suc i) w = (w.0, wide-remove_at rs i w.1)

-- rows that are put together come apart again
pub rows-flat : (rs : List (List ℕ)) (x : List ℕ) → Wide rs → rows (length rs) (flat rs ++ x) ≡ rs
unfolding rows flat
rows-flat [] x w = refl
rows-flat (r ∷ rs) x w =
    rw (append_assoc r (flat rs) x, take_at r (flat rs ++ x) 40 w.0, drop_at r (flat rs ++ x) 40 w.0, rows-flat rs x w.1)

pub length-flat : (rs : List (List ℕ)) → Wide rs → length (flat rs) ≡ length rs * 40
unfolding flat
length-flat [] w = refl
length-flat (r ∷ rs) w = omega (arith, length-append r (flat rs), w.0, length-flat rs w.1)

pub drop-flat : (rs : List (List ℕ)) (x : List ℕ) → Wide rs → drop (length rs * 40) (flat rs ++ x) ≡ x
drop-flat rs x w = drop_at (flat rs) x (length rs * 40) (length-flat rs w)

module _ {A B : Type 0} (f : A → B) where
  pub map-++ : (r s : List A) → map f (r ++ s) ≡ map f r ++ map f s
  map-++ [] s = refl
  map-++ (x ∷ r) s = ap (λ (l : List B). f x ∷ l) (map-++ r s)

  pub map-remove_at : (rs : List A) (i : ℕ) → map f (remove_at rs i) ≡ remove_at (map f rs) i
  map-remove_at [] zero = refl
  map-remove_at [] (suc i) = refl
  map-remove_at (r ∷ rs) zero = refl
  map-remove_at (r ∷ rs) (suc i) = ap (λ (l : List B). f r ∷ l) (map-remove_at rs i)

pub length-remove_at : {A : Type 0} (rs : List A) (i : ℕ) → i < length rs → length (remove_at rs i) ≡ length rs - 1
length-remove_at [] i h = absurd (not-suc-le-zero h)
length-remove_at (r ∷ rs) zero h = omega arith
length-remove_at (r ∷ rs) (suc i) h = let g : i < length rs = le_of_suc-le-suc h in omega (arith, length-remove_at rs i g)

-- one slot more
pub slots-snoc : (a d : ℕ) → slots_from a (suc d) ≡ slots_from a d ++ ((a + d) ∷ [])
slots-snoc a zero = let e : a ≡ a + 0 = omega arith in ap {B = List ℕ} (λ k. k ∷ []) e
slots-snoc a (suc d) = let e : suc a + d ≡ a + suc d = omega arith in ap {B = List ℕ} (λ l. a ∷ l) (slots-snoc (suc a) d ∙ rw e)

-- remove_row
module _ (n : ℕ) (t x : List ℕ) (i : ℕ) (h : i < n) (g : n * 40 ≤ length t) where
  removed-length : length (remove_at (rows n t) i) ≡ n - 1
  removed-length = length-remove_at (rows n t) i (rw rows-length h) ∙ rw rows-length

  pub rows-removed : rows (n - 1) (flat (remove_at (rows n t) i) ++ x) ≡ remove_at (rows n t) i
  rows-removed =
      ap (λ (k : ℕ). rows k (flat (remove_at (rows n t) i) ++ x)) (sym removed-length)
      ∙ rows-flat (remove_at (rows n t) i) x (wide-remove_at (rows n t) i (wide_rows n t g))

  pub rest-removed : drop ((n - 1) * 40) (flat (remove_at (rows n t) i) ++ x) ≡ x
  rest-removed =
      ap (λ (k : ℕ). drop (k * 40) (flat (remove_at (rows n t) i) ++ x)) (sym removed-length)
      ∙ drop-flat (remove_at (rows n t) i) x (wide-remove_at (rows n t) i (wide_rows n t g))

-- push_row
module _ (n : ℕ) (t r x : List ℕ) (g : n * 40 ≤ length t) (l : length r ≡ 40) where
  pushed-length : length (rows n t ++ (r ∷ [])) ≡ n + 1
  pushed-length = omega (arith, length-append (rows n t) (r ∷ []), rows-length n t)

  pub rows_pushed : rows (n + 1) (flat (rows n t ++ (r ∷ [])) ++ x) ≡ rows n t ++ (r ∷ [])
  rows_pushed =
      ap (λ (k : ℕ). rows k (flat (rows n t ++ (r ∷ [])) ++ x)) (sym pushed-length)
      ∙ rows-flat (rows n t ++ (r ∷ [])) x (wide-append (rows n t) (r ∷ []) (wide_rows n t g) (l, tt))

  pub rest-pushed : drop ((n + 1) * 40) (flat (rows n t ++ (r ∷ [])) ++ x) ≡ x
  rest-pushed =
      ap (λ (k : ℕ). drop (k * 40) (flat (rows n t ++ (r ∷ [])) ++ x)) (sym pushed-length)
      ∙ drop-flat (rows n t ++ (r ∷ [])) x (wide-append (rows n t) (r ∷ []) (wide_rows n t g) (l, tt))

pub length-pushed : (n : ℕ) (t r : List ℕ) → n * 40 + 40 ≤ length t → length r ≡ 40 → length (row_added n r t) ≡ length t
unfolding row_added
length-pushed n t r g l =
    let w : Wide (rows n t ++ (r ∷ [])) = wide-append (rows n t) (r ∷ []) (wide_rows n t (omega arith)) (l, tt) in
    omega (
      arith,
      length-append (flat (rows n t ++ (r ∷ []))) (drop (n * 40 + 40) t),
      length-flat (rows n t ++ (r ∷ [])) w,
      length-append (rows n t)
          (r ∷ []),
      rows-length n t,
      length-drop (n * 40 + 40) t,
    )

-- a free row's bytes
pub free-length : (k : ℕ) → length (block_bytes (free_row k)) ≡ 40
unfolding block_bytes zeros
free-length k = refl

digits : (a r0 q1 r1 q2 r2 q3 : ℕ) → 256 * q1 + r0 ≡ a → 256 * q2 + r1 ≡ q1 → 256 * q3 + r2 ≡ q2 → r0 + 256 * r1 + 65536 * r2 + 16777216 * q3 ≡ a
digits a r0 q1 r1 q2 r2 q3 e f g = omega arith

-- a number below 2 ^ 32 from its four bytes
pub le4-bytes4 : (a : ℕ) → a < 2 ^ 32 → a % 256 + 256 * (a / 256 % 256) + 65536 * (a / 65536 % 256) + 16777216 * (a / 16777216 % 256) ≡ a
le4-bytes4 a h =
    let e2 : a / 256 / 256 ≡ a / 65536 = div-div-eq-div-mul a 256 256 in
    let e3 : a / 65536 / 256 ≡ a / 16777216 = div-div-eq-div-mul a 65536 256 in
    let d1 : 256 * (a / 65536) + a / 256 % 256 ≡ a / 256 = ap (λ (q : ℕ). 256 * q + a / 256 % 256) (sym e2) ∙ div-add-mod (a / 256) 256 in
    let d2 : 256 * (a / 16777216) + a / 65536 % 256 ≡ a / 65536 = ap (λ (q : ℕ). 256 * q + a / 65536 % 256) (sym e3) ∙ div-add-mod (a / 65536) 256 in
    let b : a / 16777216 < 256 = omega (arith, h) in
    rw (mod-eq_of_lt b) (digits a _ _ _ _ _ _ (div-add-mod a 256) d1 d2)

address_row-eq : {a b x y : ℕ} {g k : List ℕ} {z v : Seat} → a ≡ b → g ≡ k → x ≡ y → z ≡ v → address_row a g x z ≡ address_row b k y v
address_row-eq p q r s = λ i. address_row (p i) (q i) (r i) (s i)

block_row-eq : {a b x y : ℕ} {g k : List ℕ} → g ≡ k → a ≡ b → x ≡ y → block_row g a x ≡ block_row k b y
block_row-eq p q r = rw (p, q, r)

-- what stands behind 32 elements
pub off : (x w : List ℕ) (j : ℕ) → length x ≡ 32 → get_or (x ++ w) (32 + j) 0 ≡ get_or w j 0
off x w j l = ap (λ (k : ℕ). get_or (x ++ w) (k + j) 0) (sym l) ∙ get_or-append-add x w j 0

-- a record's bytes give the record back
pub addr-forth : (a : ℕ) (g : List ℕ) (x : ℕ) (z : Seat) → a < 2 ^ 32 → length g ≡ 32 → read_address (address_bytes (address_row a g x z)) ≡ address_row a g x z
unfolding address_bytes read_address
addr-forth a g x z h l =
    let w : List ℕ = x ∷ z.0 ∷ z.1 ∷ 0 ∷ [] in
    let low = off g w 1 l in
    let high = off g w 2 l in
    address_row-eq (le4-bytes4 a h) (take_at g w 32 l) (get_or_at g x (z.0 ∷ z.1 ∷ 0 ∷ []) 0 32 l) (λ i. (low i, high i))

-- a block row with another fingerprint and used byte
block-parts : (x r ys : List ℕ) (y : ℕ) → length x ≡ 32 → length r ≡ 40 → read_block (x ++ (take 4 (drop 32 r) ++ (y ∷ ys))) ≡ block_row x (read_block r).slot y
unfolding read_block
block-parts x r ys y lx l =
    ap (λ (w : List ℕ). read_block (x ++ (w ++ (y ∷ ys)))) (four r 32 (omega arith))
    ∙ (let w : List ℕ = get_or r 32 0 ∷ get_or r 33 0 ∷ get_or r 34 0 ∷ get_or r 35 0 ∷ y ∷ ys in
    block_row-eq (take_at x w 32 lx) (rw (off x w 0 lx, off x w 1 lx, off x w 2 lx, off x w 3 lx)) (off x w 4 lx))

zeros-4 : zeros 4 ≡ 0 ∷ zeros 3
unfolding zeros
zeros-4 = refl

-- a freed and a filled block row
pub block-freed : (r : List ℕ) → length r ≡ 40 → read_block (freed_row r) ≡ free_row (read_block r).slot
unfolding freed_row
block-freed r l = ap (λ (z : List ℕ). read_block (zeros 32 ++ (take 4 (drop 32 r) ++ z))) zeros-4 ∙ block-parts (zeros 32) r (zeros 3) 0 (length-zeros 32) l

pub block-filled : (g r : List ℕ) → length g ≡ 32 → length r ≡ 40 → read_block (filled g r) ≡ block_row g (read_block r).slot 1
unfolding filled
block-filled g r lg l = block-parts g r (zeros 3) 1 lg l

-- to_newest, to_front, put_block: any list of d rows
pub blocks-flat : (d : ℕ) (rs : List (List ℕ)) → Wide rs → length rs ≡ d → block_rows d (flat rs) ≡ map read_block rs
unfolding block_rows
blocks-flat d rs w l = ap (map read_block) (ap (λ (k : ℕ). rows k (flat rs)) (sym l) ∙ ap (rows (length rs)) (sym (append-nil (flat rs))) ∙ rows-flat rs [] w)

module _ (d : ℕ) (t : List ℕ) (i : ℕ) (h : i < d) (g : d * 40 ≤ length t) where
  left-length : length (remove_at (rows d t) i) ≡ d - 1
  left-length = length-remove_at (rows d t) i (rw rows-length h) ∙ rw rows-length

  -- row i out, x in at the end; the same with x in front
  pub blocks_last : (x : List ℕ) → length x ≡ 40 → block_rows d (flat (remove_at (rows d t) i ++ (x ∷ []))) ≡ remove_at (block_rows d t) i ++ (read_block x ∷ [])
  unfolding block_rows
  blocks_last x l =
      let e : length (remove_at (rows d t) i ++ (x ∷ [])) ≡ d = omega (arith, length-append (remove_at (rows d t) i) (x ∷ []), left-length) in
      blocks-flat d (remove_at (rows d t) i ++ (x ∷ [])) (wide-append (remove_at (rows d t) i) (x ∷ []) (wide-remove_at (rows d t) i (wide_rows d t g)) (l, tt)) e
      ∙ map-++ read_block (remove_at (rows d t) i) (x ∷ [])
      ∙ rw (map-remove_at read_block (rows d t) i)

  pub blocks-first : (x : List ℕ) → length x ≡ 40 → block_rows d (flat (x ∷ remove_at (rows d t) i)) ≡ read_block x ∷ remove_at (block_rows d t) i
  unfolding block_rows
  blocks-first x l =
      let e : length (x ∷ remove_at (rows d t) i) ≡ d = omega (arith, left-length) in
      blocks-flat d (x ∷ remove_at (rows d t) i) (l, wide-remove_at (rows d t) i (wide_rows d t g)) e
      ∙ rw (map-remove_at read_block (rows d t) i)

pub rows_whole : (d : ℕ) (rs : List (List ℕ)) → Wide rs → length rs ≡ d → rows d (flat rs) ≡ rs
rows_whole d rs w l = ap (λ (k : ℕ). rows k (flat rs)) (sym l) ∙ ap (rows (length rs)) (sym (append-nil (flat rs))) ∙ rows-flat rs [] w

-- the slot and the last four bytes of a row made of 32 bytes, the slot of r, and w
pub slot-parts : (x r w : List ℕ) → length x ≡ 32 → length r ≡ 40 → row_slot (x ++ (take 4 (drop 32 r) ++ w)) ≡ row_slot r
unfolding read_block
slot-parts x r w lx l =
    ap (λ (f : List ℕ). le4 (x ++ (f ++ w)) 32) (four r 32 (omega arith))
    ∙ (let v : List ℕ = get_or r 32 0 ∷ get_or r 33 0 ∷ get_or r 34 0 ∷ get_or r 35 0 ∷ w in rw (off x v 0 lx, off x v 1 lx, off x v 2 lx, off x v 3 lx))

pub tail-parts : (x r : List ℕ) (a : ℕ) → length x ≡ 32 → length r ≡ 40 → tail_ok (x ++ (take 4 (drop 32 r) ++ (a ∷ 0 ∷ 0 ∷ 0 ∷ []))) ≡ leb a 1 && true
unfolding tail_ok
tail-parts x r a lx l =
    ap (λ (f : List ℕ). tail_ok (x ++ (f ++ (a ∷ 0 ∷ 0 ∷ 0 ∷ [])))) (four r 32 (omega arith))
    ∙ (let v : List ℕ = get_or r 32 0 ∷ get_or r 33 0 ∷ get_or r 34 0 ∷ get_or r 35 0 ∷ a ∷ 0 ∷ 0 ∷ 0 ∷ [] in rw
    (off x v 4 lx, off x v 5 lx, off x v 6 lx, off x v 7 lx))

pub flag-parts : (x r w : List ℕ) (a : ℕ) → length x ≡ 32 → length r ≡ 40 → get_or (x ++ (take 4 (drop 32 r) ++ (a ∷ w))) 36 0 ≡ a
unfolding read_block
flag-parts x r w a lx l =
    ap (λ (f : List ℕ). get_or (x ++ (f ++ (a ∷ w))) 36 0) (four r 32 (omega arith))
    ∙ off x (get_or r 32 0 ∷ get_or r 33 0 ∷ get_or r 34 0 ∷ get_or r 35 0 ∷ a ∷ w) 4 lx

-- set_clean: one byte of row k changed
pub rows-set : (n : ℕ) (t : List ℕ) (k j v : ℕ) → j < 40 → rows n (set t (k * 40 + j) v) ≡ set (rows n t) k (set (row_at t k) j v)
unfolding rows
rows-set zero t k j v h = refl
rows-set (suc n) t zero j v h = let e : 0 * 40 + j ≡ j = omega arith in rw (e, take-set-lt 40 t j v h, drop-set-lt 40 t j v h)
rows-set (suc n) t (suc k) j v h =
    let e : suc k * 40 + j ≡ 40 + (k * 40 + j) = omega arith in
    let g : 40 ≤ 40 + (k * 40 + j) = omega arith in
    let f : 40 + k * 40 ≡ suc k * 40 = omega arith in
    rw (e, take-set-le 40 t (40 + (k * 40 + j)) v g, drop-set-add 40 t (k * 40 + j) v, rows-set n (drop 40 t) k j v h, drop-drop (k * 40) 40 t, f)

pub map-set : {A B : Type 0} (f : A → B) (rs : List A) (k : ℕ) (x : A) → map f (set rs k x) ≡ set (map f rs) k (f x)
map-set f [] k x = refl
map-set f (r ∷ rs) zero x = refl
map-set f (r ∷ rs) (suc k) x = ap (λ l. f r ∷ l) (map-set f rs k x)

module _ (n : ℕ) (t : List ℕ) (k : ℕ) (h : k < n) (g : n * 40 ≤ length t) where
  pub rest-clean : drop (n * 40) (row_cleaned k t) ≡ drop (n * 40) t
  unfolding row_cleaned
  rest-clean = drop-set-lt (n * 40) t (k * 40 + 36) 0 (omega arith)

  -- the bytes are those of the rows with row k's dirty byte 0
  pub clean-rows : row_cleaned k t ≡ flat (set (rows n t) k (set (row_at t k) 36 0)) ++ drop (n * 40) t
  unfolding row_cleaned
  clean-rows =
      let u : List ℕ = row_cleaned k t in
      sym (take-append-drop (n * 40) u) ∙ rw (← flat_rows n u, rows-set n t k 36 0 (omega arith), rest-clean)

-- an address row made clean
pub address-clean : (r : List ℕ) → length r ≡ 40
    → read_address (set r 36 0) ≡ address_row (read_address r).address (read_address r).fingerprint 0 (read_address r).seat
unfolding read_address
address-clean r l =
    let far : (j : ℕ) → (j ≡ 36 → ⊥) → get_or (set r 36 0) j 0 ≡ get_or r j 0 = λ j n. get_or-set_other r 36 j 0 0 n in
    let low = far 37 (λ e. omega arith) in
    let high = far 38 (λ e. omega arith) in
    address_row-eq
    (rw (far 0 (λ e. omega arith), far 1 (λ e. omega arith), far 2 (λ e. omega arith), far 3 (λ e. omega arith)))
    (ap (take 32) (drop-set-add 4 r 32 0) ∙ take-set-le 32 (drop 4 r) 32 0 (omega arith))
    (get_or-set_same r 36 0 0 (omega arith))
    (λ i. (low i, high i))
