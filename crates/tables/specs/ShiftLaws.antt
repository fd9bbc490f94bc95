-- What the moves of `shift` leave, said of the bytes and of the rows. Assumes nothing.
use Rattle.std.specs.Prelude.{◌≡◌, ℕ, ◌+◌, ◌-◌, ◌*◌, ◌≤◌, ◌<◌, List, [], ◌∷◌, ◌++◌, length, get_or, set, take, drop}
use Rattle.std.proofs.Common.{sym, ap, ◌∙◌, append_assoc, append-nil, arith, length-append, length-drop, drop_of_length-le, drop-drop, take_all, take-take, drop_at, drop-cons, length-take-le}
use Rattle.std.proofs.lemmas.List.{length-replicate, take-append-le, set_at}
use Rattle.std.proofs.Math.Seq.{paste, take-append-add}
use Rattle.std.proofs.lemmas.List.Edits.{take-paste, drop-paste}
use Rattle.tables.specs.Rows.{rows, flat, zeros, remove_at, row_at}
use Rattle.tables.specs.RowLaws.{flat_rows, flat_append, flat-remove_at, rows_at, length_part}
use Rattle.tables.specs.Operations.{row_added, row_freed, freed_row, filled}

pub length-zeros : (n : ℕ) → length (zeros n) ≡ n
unfolding zeros
length-zeros n = length-replicate n 0

-- a run moved down by w to `at`, and x in the place that it leaves at the end
module _ (t x : List ℕ) (at w last : ℕ) (h : at ≤ last) (g : last + w ≤ length t) where
  pub moved_down : paste (paste t at (drop (at + w) t) (last - at)) last x w
      ≡ (take at t ++ take (last - at) (drop (at + w) t)) ++ (take w x ++ drop (last + w) t)
  moved_down =
      let s : List ℕ = drop (at + w) t in
      let p : List ℕ = paste t at s (last - at) in
      let e : at + (last - at) ≡ last = omega arith in
      let hs : last - at ≤ length s = simp length-drop (omega arith) in
      let a : take last p ≡ take at t ++ take (last - at) s = ap (λ (k : ℕ). take k p) (sym e) ∙ take-paste t at s (last - at) (omega arith) hs in
      let b : drop last p ≡ drop last t = ap (λ (k : ℕ). drop k p) (sym e) ∙ drop-paste t at s (last - at) (omega arith) hs ∙ ap (λ (k : ℕ). drop k t) e in
      let d : drop (last + w) p ≡ drop (last + w) t = sym (drop-drop w last p) ∙ ap (drop w) b ∙ drop-drop w last t in
      append_assoc (take last p) (take w x) (drop (last + w) p) ∙ rw (a, d)

-- a run of n moved up by w from `at`, and x in the place that it leaves
pub moved_up : (t x : List ℕ) (at w n : ℕ) → at + w + n ≤ length t
    → paste (paste t (at + w) (drop at t) n) at x w ≡ take at t ++ (take w x ++ (take n (drop at t) ++ drop (at + w + n) t))
moved_up t x at w n g =
    let p : List ℕ = paste t (at + w) (drop at t) n in
    let y : List ℕ = take n (drop at t) ++ drop (at + w + n) t in
    let l : length (take (at + w) t) ≡ at + w = length-take-le (at + w) t (omega arith) in
    let q : p ≡ take (at + w) t ++ y = append_assoc (take (at + w) t) (take n (drop at t)) (drop (at + w + n) t) in
    let a : take at p ≡ take at t = ap (take at) q ∙ take-append-le at (take (at + w) t) y (omega arith) ∙ take-take at (at + w) t (omega arith) in
    let b : drop (at + w) p ≡ y = ap (drop (at + w)) q ∙ drop_at (take (at + w) t) y (at + w) l in
    append_assoc (take at p) (take w x) (drop (at + w) p) ∙ rw (a, b)

-- push_row
pub pushed : (t x : List ℕ) (n : ℕ) → length x ≡ 40 → paste t (n * 40) x (length x) ≡ row_added n x t
unfolding flat row_added
pushed t x n l = rw (flat_append (rows n t) (x ∷ []), flat_rows n t, append-nil x, l, take_all 40 x (omega arith))

-- replace: row i taken out of the first n, and x the last of them
pub replaced : (t x : List ℕ) (n i : ℕ) → i < n → n * 40 ≤ length t → length x ≡ 40
    → paste (paste t (i * 40) (drop (i * 40 + 40) t) (n * 40 - 40 - i * 40)) (n * 40 - 40) x 40 ≡ flat (remove_at (rows n t) i) ++ (x ++ drop (n * 40) t)
replaced t x n i h g z =
    let e : n * 40 - 40 + 40 ≡ n * 40 = omega arith in
    moved_down t x (i * 40) 40 (n * 40 - 40) (omega arith) (omega arith) ∙ rw (flat-remove_at n t i h, take_all 40 x (omega arith), e)

-- the same in a table of d rows
pub replaced-all : (t x : List ℕ) (d i : ℕ) → length t ≡ d * 40
    → flat (remove_at (rows d t) i) ++ (x ++ drop (d * 40) t) ≡ flat (remove_at (rows d t) i ++ (x ∷ []))
unfolding flat
replaced-all t x d i g =
    let k : length t ≤ d * 40 = omega arith in
    rw (flat_append (remove_at (rows d t) i) (x ∷ []), drop_of_length-le t k)

-- a row with its fingerprint and its last four bytes cleared
pub cleared : (r : List ℕ) → length r ≡ 40 → paste (paste r 0 (zeros 32) 32) 36 (zeros 4) 4 ≡ freed_row r
unfolding freed_row
cleared r l =
    let a : take 32 (zeros 32) ≡ zeros 32 = take_all 32 (zeros 32) (omega (arith, length-zeros 32)) in
    let b : take 4 (zeros 4) ≡ zeros 4 = take_all 4 (zeros 4) (omega (arith, length-zeros 4)) in
    let q : List ℕ = zeros 32 ++ drop 32 r in
    let p : paste r 0 (zeros 32) 32 ≡ q = ap (λ (x : List ℕ). x ++ drop 32 r) a in
    let f : take 36 q ≡ zeros 32 ++ take 4 (drop 32 r) = ap (λ (k : ℕ). take (k + 4) q) (sym (length-zeros 32)) ∙ take-append-add (zeros 32) (drop 32 r) 4 in
    let k : length q ≤ 40 = omega (arith, length-append (zeros 32) (drop 32 r), length-zeros 32, length-drop 32 r) in
    let m : drop 40 q ≡ [] = drop_of_length-le q k in
    rw (p, b, f, m, append-nil) (append_assoc (zeros 32) (take 4 (drop 32 r)) (zeros 4))

pub length-freed : (r : List ℕ) → length r ≡ 40 → length (freed_row r) ≡ 40
unfolding freed_row
length-freed r l =
    omega (
      arith,
      length-append (zeros 32) (take 4 (drop 32 r) ++ zeros 4),
      length-append (take 4 (drop 32 r))
          (zeros 4),
      length-zeros 32,
      length-zeros 4,
      length_part r 32 4 (omega arith),
    )

-- to_front
pub fronted : (t : List ℕ) (d i : ℕ) → i < d → length t ≡ d * 40
    → paste (paste t 40 (drop 0 t) (i * 40)) 0 (freed_row (row_at t i)) 40 ≡ row_freed d i t
unfolding flat row_freed
fronted t d i h g =
    let r : length (row_at t i) ≡ 40 = length_part t (i * 40) 40 (omega arith) in
    let k : length (freed_row (row_at t i)) ≤ 40 = omega (arith, length-freed (row_at t i) r) in
    let m : length (drop (i * 40 + 40) t) ≤ d * 40 - 40 - i * 40 = simp length-drop (omega arith) in
    let e : 40 + i * 40 ≡ i * 40 + 40 = omega arith in
    moved_up t (freed_row (row_at t i)) 0 40 (i * 40) (omega arith)
    ∙ rw (e, flat-remove_at d t i h, rows_at d t i h, take_all 40 (freed_row (row_at t i)) k, take_all (d * 40 - 40 - i * 40) (drop (i * 40 + 40) t) m)

-- address_row: the address in front, then the fingerprint, then the dirty byte
pub addr-made : (row w g : List ℕ) (x : ℕ) → length row ≡ 40 → length g ≡ 32 → take 4 row ≡ w → drop 37 row ≡ 0 ∷ 0 ∷ 0 ∷ []
    → set (paste row 4 g (length g)) 36 x ≡ w ++ (g ++ (x ∷ 0 ∷ 0 ∷ 0 ∷ []))
addr-made row w g x l lg e z =
    let y : ℕ = get_or row 36 0 in
    let d : drop 36 row ≡ y ∷ 0 ∷ 0 ∷ 0 ∷ [] = drop-cons row 36 0 (omega arith) ∙ ap (λ (s : List ℕ). y ∷ s) z in
    let lw : length w ≡ 4 = ap length (sym e) ∙ length-take-le 4 row (omega arith) in
    let lp : length (w ++ g) ≡ 36 = omega (arith, length-append w g) in
    ap (λ (n : ℕ). set (take 4 row ++ take n g ++ drop (4 + n) row) 36 x) lg
    ∙ rw (e, take_all 32 g (omega arith), d, set_at (w ++ g) y (0 ∷ 0 ∷ 0 ∷ []) x 36 lp) (append_assoc w g (x ∷ 0 ∷ 0 ∷ 0 ∷ []))

-- .. then the seat
pub seat-made : (w g : List ℕ) (x s t : ℕ) → length w ≡ 4 → length g ≡ 32
    → set (set (w ++ (g ++ (x ∷ 0 ∷ 0 ∷ 0 ∷ []))) 37 s) 38 t ≡ w ++ (g ++ (x ∷ s ∷ t ∷ 0 ∷ []))
seat-made w g x s t lw lg =
    let p : List ℕ = w ++ (g ++ (x ∷ [])) in
    let q : List ℕ = w ++ (g ++ (x ∷ s ∷ [])) in
    let lp : length p ≡ 37 = omega (arith, lw, lg, length-append w (g ++ (x ∷ [])), length-append g (x ∷ [])) in
    let lq : length q ≡ 38 = omega (arith, lw, lg, length-append w (g ++ (x ∷ s ∷ [])), length-append g (x ∷ s ∷ [])) in
    let shape : (u v : List ℕ) → (w ++ (g ++ u)) ++ v ≡ w ++ (g ++ (u ++ v))
    = λ u v. append_assoc w (g ++ u) v ∙ ap (λ (y : List ℕ). w ++ y) (append_assoc g u v) in
    ap (λ (y : List ℕ). set (set y 37 s) 38 t) (sym (shape (x ∷ []) (0 ∷ 0 ∷ 0 ∷ [])))
    ∙ ap (λ (y : List ℕ). set y 38 t) (set_at p 0 (0 ∷ 0 ∷ []) s 37 lp ∙ shape (x ∷ []) (s ∷ 0 ∷ 0 ∷ []) ∙ sym (shape (x ∷ s ∷ []) (0 ∷ 0 ∷ [])))
    ∙ set_at q 0 (0 ∷ []) t 38 lq ∙ shape (x ∷ s ∷ []) (t ∷ 0 ∷ [])

-- filled_row
pub fill-made : (r g : List ℕ) → length r ≡ 40 → length g ≡ 32 → set (paste (paste r 0 g (length g)) 36 (zeros 4) 4) 36 1 ≡ filled g r
unfolding zeros filled
fill-made r g l lg =
    let q : List ℕ = g ++ drop 32 r in
    let p : paste r 0 g (length g) ≡ q = ap (λ (n : ℕ). take n g ++ drop (0 + n) r) lg ∙ rw (take_all 32 g (omega arith)) in
    let e : length g + 4 ≡ 36 = omega arith in
    let f : take 36 q ≡ g ++ take 4 (drop 32 r) = ap (λ (k : ℕ). take k q) (sym e) ∙ take-append-add g (drop 32 r) 4 in
    let k : length q ≤ 40 = omega (arith, length-append g (drop 32 r), length-drop 32 r) in
    let m : drop 40 q ≡ [] = drop_of_length-le q k in
    let lf : length (g ++ take 4 (drop 32 r)) ≡ 36 = omega (arith, length-append g (take 4 (drop 32 r)), length_part r 32 4 (omega arith)) in
    ap (λ (s : List ℕ). set (paste s 36 (0 ∷ 0 ∷ 0 ∷ 0 ∷ []) 4) 36 1) p
    ∙ ap (λ (s : List ℕ). set (s ++ (0 ∷ 0 ∷ 0 ∷ 0 ∷ []) ++ drop 40 q) 36 1) f
    ∙ ap (λ (s : List ℕ). set (g ++ take 4 (drop 32 r) ++ (0 ∷ 0 ∷ 0 ∷ 0 ∷ []) ++ s) 36 1) m
    ∙ ap (λ (s : List ℕ). set s 36 1) (append-nil (g ++ take 4 (drop 32 r) ++ (0 ∷ 0 ∷ 0 ∷ 0 ∷ [])))
    ∙ set_at (g ++ take 4 (drop 32 r)) 0 (0 ∷ 0 ∷ 0 ∷ []) 1 36 lf
    ∙ append_assoc g (take 4 (drop 32 r)) (1 ∷ 0 ∷ 0 ∷ 0 ∷ [])

pub length-filled : (g r : List ℕ) → length g ≡ 32 → length r ≡ 40 → length (filled g r) ≡ 40
unfolding filled
length-filled g r lg l =
    omega (
      arith,
      length-append g (take 4 (drop 32 r) ++ (1 ∷ zeros 3)),
      length-append (take 4 (drop 32 r)) (1 ∷ zeros 3),
      length-zeros 3,
      length_part r 32 4
          (omega arith),
    )

-- all of a list replaced
pub pasted-whole : (t x : List ℕ) (n : ℕ) → length t ≡ n → length x ≡ n → paste t 0 x n ≡ x
pasted-whole t x n e f =
    let z : 0 + n ≡ n = omega arith in
    let h : length t ≤ n = omega arith in
    let d : drop n t ≡ [] = drop_of_length-le t h in
    rw (z, d, append-nil) (take_all n x (omega arith))
