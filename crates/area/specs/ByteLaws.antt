-- The bytes of a body by their index, and a write of 64 of them. Assumes nothing.
use Rattle.std.specs.Prelude.{◌≡◌, refl, ◌&&◌, List, [], ◌∷◌, ◌++◌, map, ℕ, zero, suc, ◌+◌, ◌-◌, ◌*◌, ◌/◌, ◌%◌, ◌≤◌, ◌<◌, eqb, ltb, length, take, drop, get_or, set, replicate}
use Rattle.std.proofs.Common.{sym, ap, ap₂, ◌∙◌, arith, length-drop, ltb-true, ltb-false, add-one, get_or-append-add, get_or-drop, length-take-le, take_all, take-suc, take-suc-set, Bor}
use Rattle.std.specs.Cmp.Lexicographic.{pointwise}
use Rattle.std.proofs.lemmas.Bool.Decides.{nat_tests}
use Rattle.std.proofs.lemmas.List.{at_drop_more, at_drop_all, drop-append-le, take-append-le, length-take}
use Rattle.std.proofs.Math.Seq.{drop-append-add}
use Rattle.std.proofs.Math.ListN.{get_or-append, get_or-eq_default}
use Rattle.tables.specs.Rows.{flat, zeros}
use Rattle.tables.specs.Records.{bytes4}
use Rattle.tables.specs.Find.{same}
use Rattle.paper.specs.KeyedLaws.{by-test}
use Rattle.area.specs.declared.Body.{Body}
use Rattle.area.specs.Given.{bytes_of}
use Rattle.arc.specs.ArcLent.{word_bytes}
use Rattle.arc.proofs.ArcLentLaws.{length-words}
use Rattle.image.specs.Body.{body_of}
use borrow.Rule.Slice.PartMut.{put_mid}
use Rattle.block.specs.Blocks.{splice}
use Rattle.block.specs.Laws.{length-splice}
use Rattle.image.specs.Area.{mark, version, header, clearing, heading, save_writes, padded, put, applied, body_write, body_writes, writes_for}
use Rattle.image.proofs.AreaLaws.{applied-append, length-padded}

-- an element behind a list
pub behind : (xs ys : List ℕ) (i : ℕ) → length xs ≤ i → get_or (xs ++ ys) i 0 ≡ get_or ys (i - length xs) 0
behind xs ys i h =
    let e : length xs + (i - length xs) ≡ i = omega arith in
    ap (λ k. get_or (xs ++ ys) k 0) (sym e) ∙ get_or-append-add xs ys (i - length xs) 0

-- the byte strings of a body
pub flat-none : (i : ℕ) → get_or (flat []) i 0 ≡ 0
unfolding flat
flat-none i = refl

pub flat-here : (s : List ℕ) (ss : List (List ℕ)) (i : ℕ) → i < length s → get_or (flat (s ∷ ss)) i 0 ≡ get_or s i 0
unfolding flat
flat-here s ss i h = get_or-append s (flat ss) 0 i h

pub flat_later : (s : List ℕ) (ss : List (List ℕ)) (i : ℕ) → length s ≤ i → get_or (flat (s ∷ ss)) i 0 ≡ get_or (flat ss) (i - length s) 0
unfolding flat
flat_later s ss i h = behind s (flat ss) i h

-- 64 bytes that lie in the first of two lists, and what is left in the second
pub part-first : (xs ys : List ℕ) (i : ℕ) → i + 64 ≤ length xs → take 64 (drop i (xs ++ ys)) ≡ take 64 (drop i xs)
part-first xs ys i h = rw (drop-append-le i xs ys (omega arith)) (take-append-le 64 (drop i xs) ys (omega (arith, length-drop i xs)))

pub drop-behind : (xs ys : List ℕ) (i : ℕ) → length xs ≤ i → drop i (xs ++ ys) ≡ drop (i - length xs) ys
drop-behind xs ys i h =
    let e : length xs + (i - length xs) ≡ i = omega arith in
    ap (λ k. drop k (xs ++ ys)) (sym e) ∙ drop-append-add xs ys (i - length xs)

pub flat-part : (s : List ℕ) (ss : List (List ℕ)) (i : ℕ) → i + 64 ≤ length s → take 64 (drop i (flat (s ∷ ss))) ≡ take 64 (drop i s)
unfolding flat
flat-part s ss i h = part-first s (flat ss) i h

pub flat-behind : (s : List ℕ) (ss : List (List ℕ)) (i : ℕ) → length s ≤ i → drop i (flat (s ∷ ss)) ≡ drop (i - length s) (flat ss)
unfolding flat
flat-behind s ss i h = drop-behind s (flat ss) i h

-- its numbers
pub words-here : (ns rest : List ℕ) (i : ℕ) → i < 4 * length ns → get_or (word_bytes ns ++ rest) i 0 ≡ get_or (bytes4 (get_or ns (i / 4) 0)) (i % 4) 0
unfolding word_bytes
words-here [] rest i h = absurd (omega arith)
words-here (x ∷ xs) rest zero h = refl
words-here (x ∷ xs) rest (suc zero) h = refl
words-here (x ∷ xs) rest (suc (suc zero)) h = refl
words-here (x ∷ xs) rest (suc (suc (suc zero))) h = refl
words-here (x ∷ xs) rest (suc (suc (suc (suc i)))) h =
    let q : suc (suc (suc (suc i))) / 4 ≡ suc (i / 4) = omega arith in
    let r : suc (suc (suc (suc i))) % 4 ≡ i % 4 = omega arith in
    rw (q, r) (words-here xs rest i (omega arith))

pub words-later : (ns rest : List ℕ) (i : ℕ) → 4 * length ns ≤ i → get_or (word_bytes ns ++ rest) i 0 ≡ get_or rest (i - 4 * length ns) 0
words-later ns rest i h =
    let l : length (word_bytes ns) ≡ 4 * length ns = length-words ns ∙ omega arith in
    behind (word_bytes ns) rest i (omega arith) ∙ ap (λ k. get_or rest (i - k) 0) l

-- ---- the code's own cases

-- byte i of the strings from number j on: in that one, in those behind it, or in none
abbrev pub byte_in : List (Bor (List ℕ)) → ℕ → ℕ
byte_in ss i = get_or (flat (map (λ s. s.now) ss)) i 0

-- the bytes from i on of the strings
abbrev pub bytes_from : List (Bor (List ℕ)) → ℕ → List ℕ
bytes_from ss i = drop i (flat (map (λ s. s.now) ss))

module _ (ss : List (Bor (List ℕ))) (j i : ℕ) (z : Bor (List ℕ)) (h : j < length ss) where
  abbrev at-j : List ℕ
  at-j = (get_or ss j z).now

  abbrev rest : List (List ℕ)
  rest = map (λ s. s.now) (drop (j + 1) ss)

  pub string-here : i < length at-j → get_or at-j i 0 ≡ byte_in (drop j ss) i
  string-here g = sym (at_drop_more (λ xs. byte_in xs i) ss j z h ∙ flat-here at-j rest i g)

  pub string-later : length at-j ≤ i → byte_in (drop j ss) i ≡ byte_in (drop (j + 1) ss) (i - length at-j)
  string-later g = at_drop_more (λ xs. byte_in xs i) ss j z h ∙ flat_later at-j rest i g

  -- 64 bytes of that one are those of the strings, `whole` being what was given at first
  pub part-here : (whole : List ℕ) → whole ≡ bytes_from (drop j ss) i → i < length at-j → 64 ≤ length at-j - i
      → (length (take (i + 64 - i) (drop i at-j)) ≡ 64) × (take (i + 64 - i) (drop i at-j) ≡ take 64 whole)
  part-here whole e g l =
      let n : i + 64 - i ≡ 64 = omega arith in
      rw n (
        length-take-le 64 (drop i at-j) (omega (arith, length-drop i at-j)),
        sym (flat-part at-j rest i (omega arith)) ∙ sym (ap (take 64) e ∙ at_drop_more (λ xs. take 64 (bytes_from xs i)) ss j z h),
      )

  pub part-later : length at-j ≤ i → bytes_from (drop j ss) i ≡ bytes_from (drop (j + 1) ss) (i - length at-j)
  part-later g = at_drop_more (λ xs. bytes_from xs i) ss j z h ∙ flat-behind at-j rest i g

pub string-none : (ss : List (Bor (List ℕ))) (j i : ℕ) → length ss ≤ j → byte_in (drop j ss) i ≡ 0
string-none ss j i h = at_drop_all (λ xs. byte_in xs i) ss j h ∙ flat-none i

-- a byte of a number of the body
pub number-here : (b : Body) (i : ℕ) (bs : List ℕ) → i < 4 * length b.numbers.now → bs ≡ bytes4 (get_or b.numbers.now (i / 4) 0)
    → get_or bs (i % 4) 0 ≡ get_or (bytes_of b) i 0
unfolding body_of
number-here b i bs h e = ap (λ x. get_or x (i % 4) 0) e ∙ sym (words-here b.numbers.now (flat (map (λ s. s.now) b.strings)) i h)

-- a byte behind them
pub string_in : (b : Body) (i : ℕ) → 4 * length b.numbers.now ≤ i → byte_in b.strings (i - 4 * length b.numbers.now) ≡ get_or (bytes_of b) i 0
unfolding body_of
string_in b i h = sym (words-later b.numbers.now (flat (map (λ s. s.now) b.strings)) i h)

-- the bytes behind its numbers
pub part_in : (b : Body) (i : ℕ) → 4 * length b.numbers.now ≤ i → bytes_from b.strings (i - 4 * length b.numbers.now) ≡ drop i (bytes_of b)
unfolding body_of
part_in b i h =
    let ns = b.numbers.now in
    let l : length (word_bytes ns) ≡ 4 * length ns = length-words ns ∙ omega arith in
    let all = flat (map (λ s. s.now) b.strings) in
    sym (drop-behind (word_bytes ns) all i (omega arith) ∙ ap (λ k. drop (i - k) all) l)

-- two lists compared, the other one first
eqb-turned : (x y : ℕ) → eqb y x ≡ eqb x y
eqb-turned x y = grind (arith, nat_tests)

pub same-turned : (xs ys : List ℕ) → pointwise eqb ys xs ≡ same xs ys
unfolding same
same-turned [] [] = refl
same-turned [] (y ∷ ys) = refl
same-turned (x ∷ xs) [] = refl
same-turned (x ∷ xs) (y ∷ ys) = ap₂ ◌&&◌ (eqb-turned x y) (same-turned xs ys)

-- a byte of a body is that of the body with its fill
zero-at : (n i : ℕ) → ◌≡◌ {A = ℕ} (get_or (replicate n 0) i 0) 0
zero-at zero i = refl
zero-at (suc n) zero = refl
zero-at (suc n) (suc i) = zero-at n i

pub padded-byte : (body : List ℕ) (i : ℕ) → get_or body i 0 ≡ get_or (padded body) i 0
unfolding padded zeros
padded-byte body i =
    by-test (ltb i (length body))
    (λ y. sym (get_or-append body (replicate (writes_for (length body) * 64 - length body) 0) 0 i (ltb-true i (length body) y)))
    (λ y. let h = ltb-false i (length body) y in
    let fill = writes_for (length body) * 64 - length body in
    get_or-eq_default body 0 {n = i} h ∙ sym (behind body (replicate fill 0) i h ∙ zero-at fill (i - length body)))

-- a turn of the loop over 64 bytes
pub chunk-turn : (body bytes : List ℕ) (k i b : ℕ) → take i bytes ≡ take i (drop (k * 64) (padded body)) → length bytes ≡ 64 → i < 64
    → k < writes_for (length body) → b ≡ get_or body (k * 64 + i) 0
    → take (i + 1) (set bytes i b) ≡ take (i + 1) (drop (k * 64) (padded body))
chunk-turn body bytes k i b e l h g v =
    let lp = length-padded body in
    let rest = drop (k * 64) (padded body) in
    let ld = length-drop (k * 64) (padded body) in
    let v' : b ≡ get_or rest i 0 = v ∙ padded-byte body (k * 64 + i) ∙ sym (get_or-drop (k * 64) (padded body) i 0) in
    rw add-one (take-suc-set bytes i b (omega arith) ∙ ap₂ {C = List ℕ} (λ x y. x ++ (y ∷ [])) e v' ∙ sym (take-suc rest i 0 (omega arith)))

pub chunk-done : (body bytes : List ℕ) (k : ℕ) → take 64 bytes ≡ take 64 (drop (k * 64) (padded body)) → length bytes ≡ 64
    → bytes ≡ (body_write body k).bytes
unfolding body_write
chunk-done body bytes k e l = sym (take_all 64 bytes (omega arith)) ∙ e

-- 64 bytes of the body are a write of it
pub chunk-part : (body part : List ℕ) (k : ℕ) → length part ≡ 64 → part ≡ take 64 (drop (k * 64) body) → part ≡ (body_write body k).bytes
unfolding body_write padded
chunk-part body part k l e =
    let fits : k * 64 + 64 ≤ length body = omega (arith, l, ap length e, length-take 64 (drop (k * 64) body), length-drop (k * 64) body) in
    e ∙ sym (part-first body (zeros (writes_for (length body) * 64 - length body)) (k * 64) fits)

pub chunk-length : (body : List ℕ) (k : ℕ) → k < writes_for (length body) → length (body_write body k).bytes ≡ 64
unfolding body_write
chunk-length body k h =
    let lp = length-padded body in
    length-take-le 64 (drop (k * 64) (padded body)) (omega (arith, length-drop (k * 64) (padded body)))

-- a turn of the loop over the writes
pub body-turn : (body area₀ area bytes : List ℕ) (k : ℕ) → area ≡ applied (body_writes body k) area₀ → bytes ≡ (body_write body k).bytes
    → put area (record { place = 64 + k * 64; bytes = bytes }) ≡ applied (body_writes body (k + 1)) area₀
unfolding body_writes applied body_write
body-turn body area₀ area bytes k e f =
    ap₂ {C = List ℕ} (splice (64 + k * 64)) f e ∙ sym (applied-append (body_writes body k) (body_write body k ∷ []) area₀) ∙ rw add-one refl

pub put-length : (area bytes : List ℕ) (place : ℕ) → place + 64 ≤ length area → length bytes ≡ 64
    → length (put area (record { place = place; bytes = bytes })) ≡ length area
put-length area bytes place h l = length-splice place bytes area (omega arith)

pub none_yet : (body area : List ℕ) → area ≡ applied (body_writes body 0) area
unfolding body_writes applied
none_yet body area = refl

-- ---- the header, and all writes

pub header_made : (h vs bs : List ℕ) (n : ℕ) → h ≡ splice 0 mark (replicate 64 0) → vs ≡ version → bs ≡ bytes4 n
    → put_mid 5 4 (put_mid 3 2 h vs) bs ≡ header n
unfolding splice header zeros
header_made h vs bs n e v f = rw (e, v, f) refl

pub writes_are : (n : ℕ) → writes_for n ≡ (n + 63) / 64
unfolding writes_for
writes_are n = refl

pub image-made : (body area₀ area₁ area₂ area₃ z h : List ℕ) (len n : ℕ) → len ≡ length body → n ≡ writes_for (length body)
    → area₁ ≡ put area₀ (record { place = 0; bytes = z }) → z ≡ replicate 64 0
    → area₂ ≡ applied (body_writes body n) area₁ → area₃ ≡ put area₂ (record { place = 0; bytes = h }) → h ≡ header len
    → area₃ ≡ applied (save_writes body) area₀
unfolding save_writes applied zeros
image-made body area₀ area₁ area₂ area₃ z h len n el en e₁ ez e₂ e₃ eh =
    let filled = e₂ ∙ ap₂ {C = List ℕ} (λ k x. applied (body_writes body k) x) en (e₁ ∙ ap (λ x. splice 0 x area₀) ez) in
    e₃ ∙ ap₂ {C = List ℕ} (splice 0) (eh ∙ ap header el) filled
    ∙ sym (applied-append (body_writes body (writes_for (length body))) (heading (length body) ∷ []) (put area₀ clearing))
