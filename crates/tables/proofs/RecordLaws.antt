-- The tables' bytes and the records: a sound table is the bytes of its records. Assumes nothing.
use Rattle.std.specs.Prelude.{◌≡◌, refl, true, List, [], ◌∷◌, ◌++◌, map, ℕ, zero, suc, ◌+◌, ◌-◌, ◌*◌, ◌/◌, ◌%◌, ◌≤◌, ◌<◌, eqb, leb, ltb, length, get_or, take, drop}
use Rattle.std.proofs.Common.{sym, ap, ◌∙◌, suc-le-suc, zero-lt-suc, mod-eq_of_lt, add-one, arith, length-drop, take-append-drop, drop-cons, drop-drop, take_all, eqb-true, leb-true}
use Rattle.std.proofs.Math.Arith.{digits_div, digits_mod}
use Rattle.std.proofs.lemmas.List.{length-map}
use Rattle.tables.specs.Rows.{rows, zeros, row_at, le4}
use Rattle.tables.specs.Find.{all, every}
use Rattle.tables.specs.Sound.{tail_ok, seated_tail, address_ok, is_zero, distinct, sound_addresses, block_ok, sound_blocks, row_address, row_slot}
use Rattle.tables.specs.Records.{read_address, address_bytes, read_block, block_bytes, bytes4, held_rows, block_rows, address_table, block_table}
use Rattle.tables.specs.RowLaws.{rows-length, rows_at, flat_rows, flat-all, get_d-row_at, length_part}
use Rattle.tables.specs.SoundLaws.{all-at, every-at, and_left, and_right}
use Rattle.tables.specs.RecordLaws.{Bytes}

pub bytes-row_at : (t : List ℕ) (k : ℕ) → Bytes t → (j : ℕ) → j < 40 → get_or (row_at t k) j 0 < 256
bytes-row_at t k b j h = rw (get_d-row_at t k j h) (b (k * 40 + j))

drop-next : (r : List ℕ) (at : ℕ) → at < length r → drop at r ≡ get_or r at 0 ∷ drop (at + 1) r
drop-next r at h = drop-cons r at 0 h ∙ rw add-one

-- four bytes from index at on, written out
pub four : (r : List ℕ) (at : ℕ) → at + 4 ≤ length r → take 4 (drop at r) ≡ get_or r at 0 ∷ get_or r (at + 1) 0 ∷ get_or r (at + 2) 0 ∷ get_or r (at + 3) 0 ∷ []
four r at h =
    let e1 : at + 1 + 1 ≡ at + 2 = omega arith in
    let e2 : at + 2 + 1 ≡ at + 3 = omega arith in
    rw (drop-next r at (omega arith), drop-next r (at + 1) (omega arith), e1, drop-next r (at + 2) (omega arith), e2, drop-next r (at + 3) (omega arith))

rem_is : (n q r m : ℕ) → r < m → n ≡ q * m + r → n % m ≡ r
rem_is n q r m h e = rw e (digits_mod q h)

quot_is : (n q r m : ℕ) → r < m → n ≡ q * m + r → n / m ≡ q
quot_is n q r m h e = rw e (digits_div q h)

-- the bytes of a number that was read from four bytes
bytes4-of : (a b c d : ℕ) → a < 256 → b < 256 → c < 256 → d < 256 → bytes4 (a + 256 * b + 65536 * c + 16777216 * d) ≡ a ∷ b ∷ c ∷ d ∷ []
bytes4-of a b c d ha hb hc hd =
    let n : ℕ = a + 256 * b + 65536 * c + 16777216 * d in
    let e0 : n % 256 ≡ a = rem_is n (b + 256 * c + 65536 * d) a 256 ha (omega arith) in
    let q1 : n / 256 ≡ b + 256 * c + 65536 * d = quot_is n (b + 256 * c + 65536 * d) a 256 ha (omega arith) in
    let e1 : (b + 256 * c + 65536 * d) % 256 ≡ b = rem_is (b + 256 * c + 65536 * d) (c + 256 * d) b 256 hb (omega arith) in
    let q2 : n / 65536 ≡ c + 256 * d = quot_is n (c + 256 * d) (a + 256 * b) 65536 (omega arith) (omega arith) in
    let e2 : (c + 256 * d) % 256 ≡ c = rem_is (c + 256 * d) d c 256 hc (omega arith) in
    let q3 : n / 16777216 ≡ d = quot_is n d (a + 256 * b + 65536 * c) 16777216 (omega arith) (omega arith) in
    let e3 : d % 256 ≡ d = mod-eq_of_lt hd in
    rw (e0, q1, e1, q2, e2, q3, e3)

pub bytes4-le4 : (r : List ℕ) (at : ℕ) → at + 4 ≤ length r → get_or r at 0 < 256 → get_or r (at + 1) 0 < 256 → get_or r (at + 2) 0 < 256 → get_or r (at + 3) 0 < 256
    → bytes4 (le4 r at) ≡ take 4 (drop at r)
bytes4-le4 r at h h0 h1 h2 h3 = bytes4-of _ _ _ _ h0 h1 h2 h3 ∙ sym (four r at h)

-- the last four bytes of a row that passes `tail_ok`
tail-is : (r : List ℕ) → length r ≡ 40 → tail_ok r ≡ true → drop 36 r ≡ get_or r 36 0 ∷ 0 ∷ 0 ∷ 0 ∷ []
unfolding tail_ok
tail-is r l e =
    let p = and_right (leb (get_or r 36 0) 1) _ e in
    let q = and_right (eqb (get_or r 37 0) 0) _ p in
    let e1 : get_or r 37 0 ≡ 0 = eqb-true _ _ (and_left (eqb (get_or r 37 0) 0) _ p) in
    let e2 : get_or r 38 0 ≡ 0 = eqb-true _ _ (and_left (eqb (get_or r 38 0) 0) _ q) in
    let e3 : get_or r 39 0 ≡ 0 = eqb-true _ _ (and_right (eqb (get_or r 38 0) 0) _ q) in
    let k : length (drop 36 r) ≤ 4 = simp length-drop (omega arith) in
    sym (take_all 4 (drop 36 r) k) ∙ four r 36 (omega arith) ∙ rw (e1, e2, e3)

-- .. of a held address row
seated-is : (r : List ℕ) → length r ≡ 40 → seated_tail r ≡ true → drop 36 r ≡ get_or r 36 0 ∷ get_or r 37 0 ∷ get_or r 38 0 ∷ 0 ∷ []
unfolding seated_tail
seated-is r l e =
    let last : get_or r 39 0 ≡ 0 = eqb-true _ _ (and_right (leb (get_or r 36 0) 1) _ e) in
    let k : length (drop 36 r) ≤ 4 = simp length-drop (omega arith) in
    sym (take_all 4 (drop 36 r) k) ∙ four r 36 (omega arith) ∙ rw last

-- a row that is a record's bytes
pub addr_back : (r : List ℕ) → length r ≡ 40 → ((j : ℕ) → j < 40 → get_or r j 0 < 256) → seated_tail r ≡ true → address_bytes (read_address r) ≡ r
unfolding address_bytes read_address
addr_back r l b e =
    ap (λ (x : List ℕ). x ++ (take 32 (drop 4 r) ++ (get_or r 36 0 ∷ get_or r 37 0 ∷ get_or r 38 0 ∷ 0 ∷ [])))
    (bytes4-le4 r 0 (omega arith) (b 0 (omega arith)) (b 1 (omega arith)) (b 2 (omega arith)) (b 3 (omega arith)))
    ∙ ap (λ (x : List ℕ). take 4 r ++ (take 32 (drop 4 r) ++ x)) (sym (seated-is r l e) ∙ sym (drop-drop 32 4 r))
    ∙ ap (λ (x : List ℕ). take 4 r ++ x) (take-append-drop 32 (drop 4 r))
    ∙ take-append-drop 4 r

pub block_back : (r : List ℕ) → length r ≡ 40 → ((j : ℕ) → j < 40 → get_or r j 0 < 256) → tail_ok r ≡ true → block_bytes (read_block r) ≡ r
unfolding block_bytes read_block
block_back r l b e =
    ap (λ (x : List ℕ). take 32 r ++ (x ++ (get_or r 36 0 ∷ 0 ∷ 0 ∷ 0 ∷ [])))
    (bytes4-le4 r 32 (omega arith) (b 32 (omega arith)) (b 33 (omega arith)) (b 34 (omega arith)) (b 35 (omega arith)))
    ∙ ap (λ (x : List ℕ). take 32 r ++ (take 4 (drop 32 r) ++ x)) (sym (tail-is r l e) ∙ sym (drop-drop 4 32 r))
    ∙ ap (λ (x : List ℕ). take 32 r ++ x) (take-append-drop 4 (drop 32 r))
    ∙ take-append-drop 32 r

-- rows that are all records' bytes
map_back : {A : Type 0} (f : A → List ℕ) (g : List ℕ → A) (rs : List (List ℕ)) → ((i : ℕ) → i < length rs → f (g (get_or rs i [])) ≡ get_or rs i [])
    → map f (map g rs) ≡ rs
map_back f g [] h = refl
map_back f g (r ∷ rs) h = rw (h zero (zero-lt-suc (length rs)), map_back f g rs (λ i b. h (suc i) (suc-le-suc b)))

-- bytes that are all zero
pub zeros-all : (l : List ℕ) → all is_zero l ≡ true → l ≡ zeros (length l)
unfolding all zeros
zeros-all [] e = refl
zeros-all (x ∷ l) e = rw (eqb-true x 0 (and_left _ _ e), ← zeros-all l (and_right (is_zero x) _ e))

-- each row of a table passes a test that is part of its soundness
module _ (n : ℕ) (t : List ℕ) (b : Bytes t) (h : n * 40 ≤ length t) where
  row_fits : (k : ℕ) → k < n → length (row_at t k) ≡ 40
  row_fits k g = length_part t (k * 40) 40 (omega arith)

  pub addrs-back : ((k : ℕ) → k < n → seated_tail (row_at t k) ≡ true) → map address_bytes (map read_address (rows n t)) ≡ rows n t
  addrs-back ok = map_back address_bytes read_address (rows n t)
      (λ k g. let g1 : k < n = rw rows-length at g in rw (rows_at n t k g1) (addr_back (row_at t k) (row_fits k g1) (bytes-row_at t k b) (ok k g1)))

  pub blocks-back : ((k : ℕ) → k < n → tail_ok (row_at t k) ≡ true) → map block_bytes (map read_block (rows n t)) ≡ rows n t
  blocks-back ok = map_back block_bytes read_block (rows n t)
      (λ k g. let g1 : k < n = rw rows-length at g in rw (rows_at n t k g1) (block_back (row_at t k) (row_fits k g1) (bytes-row_at t k b) (ok k g1)))

addr-tails : (P n : ℕ) (t : List ℕ) → all (address_ok P) (rows n t) ≡ true → (k : ℕ) → k < n → seated_tail (row_at t k) ≡ true
addr-tails P n t o k g =
    and_right (ltb (row_address (row_at t k)) P) (seated_tail (row_at t k))
    (ap (address_ok P) (sym (rows_at n t k g)) ∙ all-at (address_ok P) (rows n t) k [] o (rw rows-length g))

block-tails : (d : ℕ) (t : List ℕ) → every (block_ok d) (rows d t) ≡ true → (k : ℕ) → k < d → tail_ok (row_at t k) ≡ true
block-tails d t o k g =
    let rs : List (List ℕ) = drop (suc k) (rows d t) in
    and_left (tail_ok (row_at t k)) _
    (and_right (ltb (row_slot (row_at t k)) d) _ (ap (λ (r : List ℕ). block_ok d r rs) (sym (rows_at d t k g))
    ∙ every-at (block_ok d) (rows d t) k [] o (rw rows-length g)))

-- a sound address table is the bytes of the rows that it holds
pub address_table-held : (P m n : ℕ) (t : List ℕ) → Bytes t → length t ≡ m * 40 → sound_addresses P m n t ≡ true → address_table m (held_rows n t) ≡ t
unfolding sound_addresses address_table held_rows
address_table-held P m n t b l s =
    let h : n ≤ m = leb-true n m (and_left (leb n m) _ s) in
    let o = and_left (all (address_ok P) (rows n t)) _ (and_right (leb n m) _ s) in
    let z = and_right (distinct (map row_address (rows n t))) _ (and_right (all (address_ok P) (rows n t)) _ (and_right (leb n m) _ s)) in
    let e : (m - length (map read_address (rows n t))) * 40 ≡ length (drop (n * 40) t)
    = omega (arith, length-map (rows n t) read_address, rows-length n t, length-drop (n * 40) t) in
    rw (addrs-back n t b (omega arith) (addr-tails P n t o), flat_rows n t, e, ← zeros-all (drop (n * 40) t) z) (take-append-drop (n * 40) t)

-- a sound block table is the bytes of its rows
pub block_table-blocks : (d : ℕ) (t : List ℕ) → Bytes t → length t ≡ d * 40 → sound_blocks d t ≡ true → block_table (block_rows d t) ≡ t
unfolding sound_blocks block_table block_rows
block_table-blocks d t b l s =
    let o = and_left (every (block_ok d) (rows d t)) _ s in
    rw (blocks-back d t b (omega arith) (block-tails d t o)) (flat-all d t l)
