-- What is written into the state and the answer is what is read there, and nothing else is changed. Assumes nothing.
use Rattle.std.specs.Prelude.{◌≡◌, List, ◌++◌, eqb, take}
use Rattle.std.proofs.Math.Path.{refl, sym, ap}
use Rattle.std.proofs.Common.{◌∙◌, length-take-le}
use Prim.Native.Nat.{ℕ, zero, suc, ◌+◌, ◌-◌, ◌*◌, ◌/◌, ◌%◌, ◌^◌, ◌≤◌, ◌<◌}
use Rattle.std.proofs.Math.Nat.{div-add-mod}
use native.Mathlib.Omega.{arith}
use Rattle.std.proofs.Math.ListN.{length, drop, get_or, get_or-append}
use Rattle.std.proofs.Math.Seq.{get_or-append-add, get_or-take, get_or-drop}
use borrow.Author.Tests.{eqb-true, eqb-false, eq-eqb, ne_eqb}
use Rattle.tables.specs.Rows.{le8}
use Rattle.tables.specs.RowLaws.{drop-take}
use Rattle.block.specs.Blocks.{part, splice}
use Rattle.block.specs.Laws.{length-splice, part-splice, take-splice, part-past}
use Rattle.paper.specs.KeyedLaws.{by-test}
use Rattle.paper.specs.Cache.{Counters}
use Rattle.exam.specs.Contract.{counts_bytes}
use Rattle.parts.specs.declared.BoxRecord.{BoxRecord}
use Rattle.parts.specs.Rep.{with_held}
use Rattle.refusals.specs.Given.{counters_of}
use Rattle.fields.specs.Fields.{low_bytes, get8, put8, state_bytes, record_in, counters_in, put_state, put_label, put_record, put_answer, put_counts}
use Rattle.fields.specs.Fields.{counts_after}

-- ---- a list written over another

module _ (at : ℕ) (x d : List ℕ) (h : at + length x ≤ length d) where
  front : length (take at d) ≡ at
  front = length-take-le at d (omega arith)

  in-splice : (j : ℕ) → j < length x → get_or (splice at x d) (at + j) 0 ≡ get_or x j 0
  unfolding splice
  in-splice j l =
      ap (λ (k : ℕ). get_or (take at d ++ (x ++ drop (at + length x) d)) (k + j) 0) (sym front)
      ∙ get_or-append-add (take at d) (x ++ drop (at + length x) d) j 0
      ∙ get_or-append x (drop (at + length x) d) 0 j l

  before-splice : (i : ℕ) → i < at → get_or (splice at x d) i 0 ≡ get_or d i 0
  unfolding splice
  before-splice i l = get_or-append (take at d) (x ++ drop (at + length x) d) 0 i (omega (arith, front)) ∙ get_or-take at d i 0 l

  after-splice : (j : ℕ) → get_or (splice at x d) (at + (length x + j)) 0 ≡ get_or d (at + (length x + j)) 0
  unfolding splice
  after-splice j =
      ap (λ (k : ℕ). get_or (take at d ++ (x ++ drop (at + length x) d)) (k + (length x + j)) 0) (sym front)
      ∙ get_or-append-add (take at d) (x ++ drop (at + length x) d) (length x + j) 0
      ∙ get_or-append-add x (drop (at + length x) d) j 0
      ∙ get_or-drop (at + length x) d j 0
      ∙ ap (λ (k : ℕ). get_or d k 0) (omega arith)

-- ---- the eight bytes of a number

half : (a r0 q1 r1 q2 r2 q3 r3 q4 : ℕ) → 256 * q1 + r0 ≡ a → 256 * q2 + r1 ≡ q1 → 256 * q3 + r2 ≡ q2 → 256 * q4 + r3 ≡ q3
    → r0 + 256 * r1 + 65536 * r2 + 16777216 * r3 + 4294967296 * q4 ≡ a
half a r0 q1 r1 q2 r2 q3 r3 q4 e0 e1 e2 e3 = omega arith

halves : (a x q r4 r5 r6 r7 z : ℕ) → x + 4294967296 * q ≡ a → r4 + 256 * r5 + 65536 * r6 + 16777216 * r7 + 4294967296 * z ≡ q → a < 18446744073709551616
    → x + 4294967296 * r4 + 1099511627776 * r5 + 281474976710656 * r6 + 72057594037927936 * r7 ≡ a
halves a x q r4 r5 r6 r7 z e f h =
    let none : z ≡ 0 = omega arith in
    omega arith

-- a number below 2 ^ 64 is read from its eight bytes
pub low_read : (v : ℕ) → v < 2 ^ 64 → le8 (low_bytes 8 v) 0 ≡ v
low_read v h =
    let step : (q : ℕ) → 256 * (q / 256) + q % 256 ≡ q = λ q. div-add-mod q 256 in
    let q = v / 256 / 256 / 256 / 256 in
    let low = half v _ _ _ _ _ _ _ _ (step v) (step (v / 256)) (step (v / 256 / 256)) (step (v / 256 / 256 / 256)) in
    let high = half q _ _ _ _ _ _ _ _ (step q) (step (q / 256)) (step (q / 256 / 256)) (step (q / 256 / 256 / 256)) in
    halves v _ q _ _ _ _ _ low high h

-- eight bytes make a number below 2 ^ 64
pub get8-below : (s : List ℕ) (at : ℕ) → ((i : ℕ) → get_or s i 0 < 256) → get8 s at < 2 ^ 64
unfolding get8
get8-below s at h = omega (arith, h at, h (at + 1), h (at + 2), h (at + 3), h (at + 4), h (at + 5), h (at + 6), h (at + 7))

-- two lists with the same eight bytes
same_read : (s t : List ℕ) (at to : ℕ) → ((j : ℕ) → j < 8 → get_or s (at + j) 0 ≡ get_or t (to + j) 0) → le8 s at ≡ le8 t to
same_read s t at to f =
    let plus : (n : ℕ) → n ≡ n + 0 = λ n. omega arith in
    let e0 : get_or s at 0 ≡ get_or t to 0 = ap (λ (k : ℕ). get_or s k 0) (plus at) ∙ f 0 (omega arith) ∙ ap (λ (k : ℕ). get_or t k 0) (sym (plus to)) in
    let e1 = f 1 (omega arith) in
    let e2 = f 2 (omega arith) in
    let e3 = f 3 (omega arith) in
    let e4 = f 4 (omega arith) in
    let e5 = f 5 (omega arith) in
    let e6 = f 6 (omega arith) in
    let e7 = f 7 (omega arith) in
    λ i. e0 i + 256 * e1 i + 65536 * e2 i + 16777216 * e3 i + 4294967296 * e4 i + 1099511627776 * e5 i + 281474976710656 * e6 i + 72057594037927936 * e7 i

zero-plus : (s : List ℕ) (j : ℕ) → get_or s j 0 ≡ get_or s (0 + j) 0
zero-plus s j = ap (λ (k : ℕ). get_or s k 0) (omega arith)

module _ (at v : ℕ) (s : List ℕ) (h : at + 8 ≤ length s) where
  pub length-put8 : length (put8 at v s) ≡ length s
  unfolding put8
  length-put8 = length-splice at (low_bytes 8 v) s h

  -- what is written is read
  pub get8-put8 : v < 2 ^ 64 → get8 (put8 at v s) at ≡ v
  unfolding get8 put8
  get8-put8 l = same_read (splice at (low_bytes 8 v) s) (low_bytes 8 v) at 0 (λ j k. in-splice at (low_bytes 8 v) s h j k ∙ zero-plus (low_bytes 8 v) j)
      ∙ low_read v l

  -- the numbers before it and after it stay
  pub get8-before : (i : ℕ) → i + 8 ≤ at → get8 (put8 at v s) i ≡ get8 s i
  unfolding get8 put8
  get8-before i l = same_read (splice at (low_bytes 8 v) s) s i i (λ j k. before-splice at (low_bytes 8 v) s h (i + j) (omega arith))

  pub get8-after : (i : ℕ) → at + 8 ≤ i → get8 (put8 at v s) i ≡ get8 s i
  unfolding get8 put8
  get8-after i l =
      same_read (splice at (low_bytes 8 v) s) s i i
      (λ j k.
      let e : i + j ≡ at + (8 + (i + j - at - 8)) = omega arith in
      ap (λ (n : ℕ). get_or (splice at (low_bytes 8 v) s) n 0) e ∙ after-splice at (low_bytes 8 v) s h (i + j - at - 8) ∙ ap (λ (n : ℕ). get_or s n 0) (sym e))

-- ---- the state

module _ (n : ℕ) (k : Counters) (s : List ℕ) (h : length s ≡ state_bytes) where
  abbrev s₁ : List ℕ
  s₁ = put8 32 n s

  abbrev s₂ : List ℕ
  s₂ = put8 40 k.reads s₁

  abbrev s₃ : List ℕ
  s₃ = put8 48 k.hits s₂

  abbrev s₄ : List ℕ
  s₄ = put8 56 k.flash_writes s₃

  l₁ : length s₁ ≡ state_bytes
  l₁ = length-put8 32 n s (omega arith) ∙ h

  l₂ : length s₂ ≡ state_bytes
  l₂ = length-put8 40 k.reads s₁ (omega (arith, l₁)) ∙ l₁

  l₃ : length s₃ ≡ state_bytes
  l₃ = length-put8 48 k.hits s₂ (omega (arith, l₂)) ∙ l₂

  l₄ : length s₄ ≡ state_bytes
  l₄ = length-put8 56 k.flash_writes s₃ (omega (arith, l₃)) ∙ l₃

  pub length-put_state : length (put_state n k s) ≡ state_bytes
  unfolding put_state
  length-put_state = length-put8 64 k.primary_writes s₄ (omega (arith, l₄)) ∙ l₄

  -- a number before n's place stays
  kept : (i : ℕ) → i + 8 ≤ 32 → get8 (put_state n k s) i ≡ get8 s i
  unfolding put_state
  kept i l =
      get8-before 64 k.primary_writes s₄ (omega (arith, l₄)) i (omega arith)
      ∙ get8-before 56 k.flash_writes s₃ (omega (arith, l₃)) i (omega arith)
      ∙ get8-before 48 k.hits s₂ (omega (arith, l₂)) i (omega arith)
      ∙ get8-before 40 k.reads s₁ (omega (arith, l₁)) i (omega arith)
      ∙ get8-before 32 n s (omega arith) i l

  -- so does the label
  label_kept : part 72 64 (put_state n k s) ≡ part 72 64 s
  unfolding put_state put8
  label_kept =
      part-past 64 8 (low_bytes 8 k.primary_writes) s₄ refl (omega (arith, l₄)) 72 64 (omega arith)
      ∙ part-past 56 8 (low_bytes 8 k.flash_writes) s₃ refl (omega (arith, l₃)) 72 64 (omega arith)
      ∙ part-past 48 8 (low_bytes 8 k.hits) s₂ refl (omega (arith, l₂)) 72 64 (omega arith)
      ∙ part-past 40 8 (low_bytes 8 k.reads) s₁ refl (omega (arith, l₁)) 72 64 (omega arith)
      ∙ part-past 32 8 (low_bytes 8 n) s refl (omega arith) 72 64 (omega arith)

  -- and the limit
  limit-kept : get8 (put_state n k s) 136 ≡ get8 s 136
  unfolding put_state
  limit-kept =
      get8-after 64 k.primary_writes s₄ (omega (arith, l₄)) 136 (omega arith)
      ∙ get8-after 56 k.flash_writes s₃ (omega (arith, l₃)) 136 (omega arith)
      ∙ get8-after 48 k.hits s₂ (omega (arith, l₂)) 136 (omega arith)
      ∙ get8-after 40 k.reads s₁ (omega (arith, l₁)) 136 (omega arith)
      ∙ get8-after 32 n s (omega arith) 136 (omega arith)

  held-read : n < 2 ^ 64 → get8 (put_state n k s) 32 ≡ n
  unfolding put_state
  held-read b =
      get8-before 64 k.primary_writes s₄ (omega (arith, l₄)) 32 (omega arith)
      ∙ get8-before 56 k.flash_writes s₃ (omega (arith, l₃)) 32 (omega arith)
      ∙ get8-before 48 k.hits s₂ (omega (arith, l₂)) 32 (omega arith)
      ∙ get8-before 40 k.reads s₁ (omega (arith, l₁)) 32 (omega arith)
      ∙ get8-put8 32 n s (omega arith) b

  -- the next call reads the box record with the n that this one wrote
  pub record-back : n < 2 ^ 64 → record_in (put_state n k s) ≡ with_held (record_in s) n
  record-back b = λ i. record {
    size = kept 0 (omega arith) i;
    blocks = kept 8 (omega arith) i;
    rows = kept 16 (omega arith) i;
    slots = kept 24 (omega arith) i;
    held = held-read b i;
    label = label_kept i;
    limit = limit-kept i;
  }

  reads-read : k.reads < 2 ^ 64 → get8 (put_state n k s) 40 ≡ k.reads
  unfolding put_state
  reads-read b =
      get8-before 64 k.primary_writes s₄ (omega (arith, l₄)) 40 (omega arith)
      ∙ get8-before 56 k.flash_writes s₃ (omega (arith, l₃)) 40 (omega arith)
      ∙ get8-before 48 k.hits s₂ (omega (arith, l₂)) 40 (omega arith)
      ∙ get8-put8 40 k.reads s₁ (omega (arith, l₁)) b

  hits-read : k.hits < 2 ^ 64 → get8 (put_state n k s) 48 ≡ k.hits
  unfolding put_state
  hits-read b =
      get8-before 64 k.primary_writes s₄ (omega (arith, l₄)) 48 (omega arith)
      ∙ get8-before 56 k.flash_writes s₃ (omega (arith, l₃)) 48 (omega arith)
      ∙ get8-put8 48 k.hits s₂ (omega (arith, l₂)) b

  flash-read : k.flash_writes < 2 ^ 64 → get8 (put_state n k s) 56 ≡ k.flash_writes
  unfolding put_state
  flash-read b = get8-before 64 k.primary_writes s₄ (omega (arith, l₄)) 56 (omega arith) ∙ get8-put8 56 k.flash_writes s₃ (omega (arith, l₃)) b

  primary-read : k.primary_writes < 2 ^ 64 → get8 (put_state n k s) 64 ≡ k.primary_writes
  unfolding put_state
  primary-read b = get8-put8 64 k.primary_writes s₄ (omega (arith, l₄)) b

  -- and the counters that it wrote
  pub counters-back : k.reads < 2 ^ 64 → k.hits < 2 ^ 64 → k.flash_writes < 2 ^ 64 → k.primary_writes < 2 ^ 64 → counters_of (counters_in (put_state n k s)) ≡ k
  counters-back br bh bf bp = λ i. record { reads = reads-read br i; hits = hits-read bh i; flash_writes = flash-read bf i; primary_writes = primary-read bp i }

-- ---- the label

module _ (label s : List ℕ) (h : length s ≡ state_bytes) (l : length label ≡ 64) where
  room : 72 + length label ≤ length s
  room = omega arith

  pub length-put_label : length (put_label label s) ≡ state_bytes
  unfolding put_label
  length-put_label = length-splice 72 label s room ∙ h

  -- it is read where it is written, and the numbers before it and after it stay
  pub label-back : part 72 64 (put_label label s) ≡ label
  unfolding put_label
  label-back = part-splice 72 64 label s l (omega arith)

  pub get8-label : (i : ℕ) → i + 8 ≤ 72 → get8 (put_label label s) i ≡ get8 s i
  unfolding get8 put_label
  get8-label i k = same_read (splice 72 label s) s i i (λ j b. before-splice 72 label s room (i + j) (omega arith))

  pub limit-past : get8 (put_label label s) 136 ≡ get8 s 136
  unfolding get8 put_label
  limit-past =
      same_read (splice 72 label s) s 136 136
      (λ j b.
      let e : 136 + j ≡ 72 + (length label + j) = omega arith in
      ap (λ (n : ℕ). get_or (splice 72 label s) n 0) e ∙ after-splice 72 label s room j ∙ ap (λ (n : ℕ). get_or s n 0) (sym e))

-- ---- the box record

module _ (b : BoxRecord) (s : List ℕ) (h : length s ≡ state_bytes) (l : length b.label ≡ 64) where
  abbrev r₁ : List ℕ
  r₁ = put8 0 b.size s

  abbrev r₂ : List ℕ
  r₂ = put8 8 b.blocks r₁

  abbrev r₃ : List ℕ
  r₃ = put8 16 b.rows r₂

  abbrev r₄ : List ℕ
  r₄ = put8 24 b.slots r₃

  abbrev r₅ : List ℕ
  r₅ = put8 32 b.held r₄

  abbrev r₆ : List ℕ
  r₆ = put_label b.label r₅

  h₁ : length r₁ ≡ state_bytes
  h₁ = length-put8 0 b.size s (omega arith) ∙ h

  h₂ : length r₂ ≡ state_bytes
  h₂ = length-put8 8 b.blocks r₁ (omega (arith, h₁)) ∙ h₁

  h₃ : length r₃ ≡ state_bytes
  h₃ = length-put8 16 b.rows r₂ (omega (arith, h₂)) ∙ h₂

  h₄ : length r₄ ≡ state_bytes
  h₄ = length-put8 24 b.slots r₃ (omega (arith, h₃)) ∙ h₃

  h₅ : length r₅ ≡ state_bytes
  h₅ = length-put8 32 b.held r₄ (omega (arith, h₄)) ∙ h₄

  h₆ : length r₆ ≡ state_bytes
  h₆ = length-put_label b.label r₅ h₅ l

  pub length-put_record : length (put_record b s) ≡ state_bytes
  unfolding put_record
  length-put_record = length-put8 136 b.limit r₆ (omega (arith, h₆)) ∙ h₆

  -- a number before the label is as it was before the label and the limit were written
  first-numbers : (i : ℕ) → i + 8 ≤ 72 → get8 (put_record b s) i ≡ get8 r₅ i
  unfolding put_record
  first-numbers i k = get8-before 136 b.limit r₆ (omega (arith, h₆)) i (omega arith) ∙ get8-label b.label r₅ h₅ l i k

  size-put : b.size < 2 ^ 64 → get8 (put_record b s) 0 ≡ b.size
  size-put v =
      first-numbers 0 (omega arith)
      ∙ get8-before 32 b.held r₄ (omega (arith, h₄)) 0 (omega arith)
      ∙ get8-before 24 b.slots r₃ (omega (arith, h₃)) 0 (omega arith)
      ∙ get8-before 16 b.rows r₂ (omega (arith, h₂)) 0 (omega arith)
      ∙ get8-before 8 b.blocks r₁ (omega (arith, h₁)) 0 (omega arith)
      ∙ get8-put8 0 b.size s (omega arith) v

  blocks-put : b.blocks < 2 ^ 64 → get8 (put_record b s) 8 ≡ b.blocks
  blocks-put v =
      first-numbers 8 (omega arith)
      ∙ get8-before 32 b.held r₄ (omega (arith, h₄)) 8 (omega arith)
      ∙ get8-before 24 b.slots r₃ (omega (arith, h₃)) 8 (omega arith)
      ∙ get8-before 16 b.rows r₂ (omega (arith, h₂)) 8 (omega arith)
      ∙ get8-put8 8 b.blocks r₁ (omega (arith, h₁)) v

  rows-put : b.rows < 2 ^ 64 → get8 (put_record b s) 16 ≡ b.rows
  rows-put v =
      first-numbers 16 (omega arith)
      ∙ get8-before 32 b.held r₄ (omega (arith, h₄)) 16 (omega arith)
      ∙ get8-before 24 b.slots r₃ (omega (arith, h₃)) 16 (omega arith)
      ∙ get8-put8 16 b.rows r₂ (omega (arith, h₂)) v

  slots-put : b.slots < 2 ^ 64 → get8 (put_record b s) 24 ≡ b.slots
  slots-put v =
      first-numbers 24 (omega arith)
      ∙ get8-before 32 b.held r₄ (omega (arith, h₄)) 24 (omega arith)
      ∙ get8-put8 24 b.slots r₃ (omega (arith, h₃)) v

  held-put : b.held < 2 ^ 64 → get8 (put_record b s) 32 ≡ b.held
  held-put v = first-numbers 32 (omega arith) ∙ get8-put8 32 b.held r₄ (omega (arith, h₄)) v

  label-put : part 72 64 (put_record b s) ≡ b.label
  unfolding put_record put8 part
  label-put =
      sym (drop-take 72 64 (splice 136 (low_bytes 8 b.limit) r₆))
      ∙ ap (drop 72) (take-splice 136 8 (low_bytes 8 b.limit) r₆ refl (omega (arith, h₆)))
      ∙ drop-take 72 64 r₆
      ∙ label-back b.label r₅ h₅ l

  limit-put : b.limit < 2 ^ 64 → get8 (put_record b s) 136 ≡ b.limit
  unfolding put_record
  limit-put v = get8-put8 136 b.limit r₆ (omega (arith, h₆)) v

  -- the record that is written is read
  pub record-put : b.size < 2 ^ 64 → b.blocks < 2 ^ 64 → b.rows < 2 ^ 64 → b.slots < 2 ^ 64 → b.held < 2 ^ 64 → b.limit < 2 ^ 64
      → record_in (put_record b s) ≡ b
  record-put v₁ v₂ v₃ v₄ v₅ v₆ = λ i. record {
    size = size-put v₁ i;
    blocks = blocks-put v₂ i;
    rows = rows-put v₃ i;
    slots = slots-put v₄ i;
    held = held-put v₅ i;
    label = label-put i;
    limit = limit-put v₆ i;
  }

  -- a number between n's place and the label stays
  between : (i : ℕ) → 40 ≤ i → i + 8 ≤ 72 → get8 (put_record b s) i ≡ get8 s i
  between i k e =
      first-numbers i e
      ∙ get8-after 32 b.held r₄ (omega (arith, h₄)) i (omega arith)
      ∙ get8-after 24 b.slots r₃ (omega (arith, h₃)) i (omega arith)
      ∙ get8-after 16 b.rows r₂ (omega (arith, h₂)) i (omega arith)
      ∙ get8-after 8 b.blocks r₁ (omega (arith, h₁)) i (omega arith)
      ∙ get8-after 0 b.size s (omega arith) i (omega arith)

  -- the counters stay
  pub counters-put : counters_in (put_record b s) ≡ counters_in s
  counters-put = λ i. record {
    reads = between 40 (omega arith) (omega arith) i;
    hits = between 48 (omega arith) (omega arith) i;
    flash = between 56 (omega arith) (omega arith) i;
    primary = between 64 (omega arith) (omega arith) i;
  }

-- ---- the answer

module _ (word second third : ℕ) (l : List ℕ) (h : length l ≡ 24) where
  abbrev m₁ : List ℕ
  m₁ = put8 0 word l

  abbrev m₂ : List ℕ
  m₂ = put8 8 second m₁

  k₁ : length m₁ ≡ 24
  k₁ = length-put8 0 word l (omega arith) ∙ h

  k₂ : length m₂ ≡ 24
  k₂ = length-put8 8 second m₁ (omega (arith, k₁)) ∙ k₁

  pub word_read : word < 2 ^ 64 → get8 (put_answer word second third l) 0 ≡ word
  unfolding put_answer
  word_read b = get8-before 16 third m₂ (omega (arith, k₂)) 0 (omega arith) ∙ get8-before 8 second m₁ (omega (arith, k₁)) 0 (omega arith)
      ∙ get8-put8 0 word l (omega arith) b

  pub second-read : second < 2 ^ 64 → get8 (put_answer word second third l) 8 ≡ second
  unfolding put_answer
  second-read b = get8-before 16 third m₂ (omega (arith, k₂)) 8 (omega arith) ∙ get8-put8 8 second m₁ (omega (arith, k₁)) b

  pub third-read : third < 2 ^ 64 → get8 (put_answer word second third l) 16 ≡ third
  unfolding put_answer
  third-read b = get8-put8 16 third m₂ (omega (arith, k₂)) b

-- ---- the counts of an exam question

module _ (c s : List ℕ) (l : length s ≡ counts_bytes) where
  length-put_counts : (n : ℕ) → n ≤ 9 → length (put_counts n c s) ≡ counts_bytes
  unfolding put_counts
  length-put_counts zero b = l
  length-put_counts (suc n) b =
      let rest = length-put_counts n (omega arith) in
      length-put8 (n * 8) (get_or c n 0) (put_counts n c s) (omega (arith, rest)) ∙ rest

  -- each is read where it is written
  written_read : (n h : ℕ) → n ≤ 9 → h < n → get_or c h 0 < 2 ^ 64 → get8 (put_counts n c s) (h * 8) ≡ get_or c h 0
  unfolding put_counts
  written_read zero h b i v = absurd (omega arith)
  written_read (suc n) h b i v =
      let rest = length-put_counts n (omega arith) in
      by-test (eqb h n)
      (λ e. let q = eqb-true h n e in rw q (get8-put8 (n * 8) (get_or c n 0) (put_counts n c s) (omega (arith, rest)) (rw q at v)))
      (λ e. let q = eqb-false h n e in
      get8-before (n * 8) (get_or c n 0) (put_counts n c s) (omega (arith, rest)) (h * 8) (omega arith) ∙ written_read n h (omega arith) (omega arith) v)

  pub count-read : (h : ℕ) → h < 9 → get_or c h 0 < 2 ^ 64 → get8 (counts_after c s) (h * 8) ≡ get_or c h 0
  unfolding counts_after
  count-read h b v = rw (eq-eqb (length s) counts_bytes l) (written_read 9 h (omega arith) b v)

-- with another length nothing is written
pub counts-kept : (c s : List ℕ) → (length s ≡ counts_bytes → ⊥) → counts_after c s ≡ s
unfolding counts_after
counts-kept c s n = rw (ne_eqb (length s) counts_bytes n) refl
