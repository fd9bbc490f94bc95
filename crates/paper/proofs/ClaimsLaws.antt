-- What the definitions and the claims mean: each call by its name, the machines and the claims by example, computed, and the case of reads alone.
-- Assumes nothing.
use Rattle.std.specs.Prelude.{◌≡◌, true, false, ℕ, eqb}
use Rattle.std.proofs.Math.Path.{refl, ap}
use Rattle.std.proofs.Common.{◌∙◌, sym, true≢false, arith}
use Rattle.std.proofs.lemmas.Bool.{false≢true}
use Rattle.std.proofs.Math.Bool.{not}
use mathlib.Core.List.Memᴰ
use mathlib.Core.List.{List, [], ◌∷◌, map}
use Rattle.std.proofs.Math.Option.{Option, none, some}
use Rattle.tables.specs.Records.{bytes2}
use Rattle.paper.specs.KeyedLaws.{All, eqb→≡, eqb-self}
use Rattle.paper.specs.Cache.{Numbers, Hashing, Box, Call, newest, block_row, Word, hit, miss}
use Rattle.paper.specs.Worked.{labels}
use Rattle.paper.specs.Engine.{Fixed, fit, labelled}
use Rattle.paper.specs.Lent.{Lent, Ask, After, opening, calling, refusal, call_of, lent_block, block_after, part_after, box_in, call, opened}
use Rattle.paper.specs.BatchLent.{one}
use Rattle.paper.specs.Machines.{plain_next, plain_block, NoWrite, Read, Compared, seen_in, printed_next, printed_hit, put, printed_trace, content_of}
use Rattle.paper.specs.Machines.{OrphanLaw, TrueFingerprints, NoTwoShare}
use Rattle.paper.specs.Demand3.{next, first_plain, InList, returned, said_word, reads_of, seen_after}
use Rattle.paper.proofs.Demand3Laws.{demand-3}
use Rattle.paper.specs.Claims.{as_read, fed_by, shown_by}

-- ---- each call by its name
-- what is asked is the paper's call of that name, a write's block being the bytes lent to it, and its seat the two bytes of its number
pub calls-by-name : (B a k z : ℕ) (l : List ℕ)
    → (call_of B (Ask.read a l) ≡ Call.read a)
    × (call_of B (Ask.through a l z) ≡ Call.through a (fit B l) (bytes2 z))
    × (call_of B (Ask.back a l z) ≡ Call.back a (fit B l) (bytes2 z))
    × (call_of B (Ask.invalidate a l z) ≡ Call.invalidate a (fit B l) (bytes2 z))
    × (call_of B (Ask.look a) ≡ Call.look a)
    × (call_of B (Ask.flush k) ≡ Call.flush k)
unfolding call_of
calls-by-name B a k z l = (refl, refl, refl, refl, refl, refl)

-- the block lent to it, where one is lent
pub lent-by-name : (a k z : ℕ) (l : List ℕ)
    → (lent_block (Ask.read a l) ≡ some l)
    × (lent_block (Ask.through a l z) ≡ some l)
    × (lent_block (Ask.back a l z) ≡ some l)
    × (lent_block (Ask.invalidate a l z) ≡ some l)
    × (lent_block (Ask.look a) ≡ none)
    × (lent_block (Ask.flush k) ≡ none)
lent-by-name a k z l = (refl, refl, refl, refl, refl, refl)

-- what a served call leaves in the lent block: a read the block that it found, a write what was lent
pub blocks-by-name : (B a k z : ℕ) (l : List ℕ) (b : Fixed B)
    → (block_after (Ask.read a l) (some b) ≡ some b.0)
    × (block_after {B = B} (Ask.through a l z) none ≡ some l)
    × (block_after {B = B} (Ask.back a l z) none ≡ some l)
    × (block_after {B = B} (Ask.invalidate a l z) none ≡ some l)
    × (block_after (Ask.look a) (some b) ≡ none)
    × (block_after {B = B} (Ask.flush k) none ≡ none)
blocks-by-name B a k z l b = (refl, refl, refl, refl, refl, refl)

-- the part: a look's is the block that it found, the others have none
pub parts-by-name : (B a k z : ℕ) (l : List ℕ) (b : Fixed B)
    → (part_after (Ask.read a l) (some b) ≡ [])
    × (part_after {B = B} (Ask.through a l z) none ≡ [])
    × (part_after {B = B} (Ask.back a l z) none ≡ [])
    × (part_after {B = B} (Ask.invalidate a l z) none ≡ [])
    × (part_after (Ask.look a) (some b) ≡ b.0)
    × (part_after {B = B} (Ask.flush k) none ≡ [])
parts-by-name B a k z l b = (refl, refl, refl, refl, refl, refl)

-- the block returned: "the lent block after a read, or a look's part"
pub returned-by-name : (a k z : ℕ) (l : List ℕ) (y : After)
    → (returned (Ask.read a l) y ≡ y.block)
    × (returned (Ask.through a l z) y ≡ none)
    × (returned (Ask.back a l z) y ≡ none)
    × (returned (Ask.invalidate a l z) y ≡ none)
    × (returned (Ask.look a) y ≡ some y.part)
    × (returned (Ask.flush k) y ≡ none)
returned-by-name a k z l y = (refl, refl, refl, refl, refl, refl)

-- ---- the machines by example
-- the plain disk of contents 0 and 1: each write puts its block at its address, and nothing else changes it
pub plain-by-example :
    (plain_next {X = ℕ} (0 ∷ 1 ∷ []) (Call.through 1 5 (0, 0)) ≡ 0 ∷ 5 ∷ [])
    × (plain_next {X = ℕ} (0 ∷ 1 ∷ []) (Call.back 1 5 (0, 0)) ≡ 0 ∷ 5 ∷ [])
    × (plain_next {X = ℕ} (0 ∷ 1 ∷ []) (Call.invalidate 1 5 (0, 0)) ≡ 0 ∷ 5 ∷ [])
    × (plain_next {X = ℕ} (0 ∷ 1 ∷ []) (Call.read 1) ≡ 0 ∷ 1 ∷ [])
    × (plain_next {X = ℕ} (0 ∷ 1 ∷ []) (Call.look 1) ≡ 0 ∷ 1 ∷ [])
    × (plain_next {X = ℕ} (0 ∷ 1 ∷ []) (Call.flush 2) ≡ 0 ∷ 1 ∷ [])
plain-by-example = (refl, refl, refl, refl, refl, refl)

-- a read and a look answer its block, no other call does
pub answers-by-example :
    (plain_block {X = ℕ} 9 (0 ∷ 1 ∷ []) (Call.read 1) ≡ some 1)
    × (plain_block {X = ℕ} 9 (0 ∷ 1 ∷ []) (Call.look 1) ≡ some 1)
    × (plain_block {X = ℕ} 9 (0 ∷ 1 ∷ []) (Call.through 1 5 (0, 0)) ≡ none)
    × (plain_block {X = ℕ} 9 (0 ∷ 1 ∷ []) (Call.back 1 5 (0, 0)) ≡ none)
    × (plain_block {X = ℕ} 9 (0 ∷ 1 ∷ []) (Call.invalidate 1 5 (0, 0)) ≡ none)
    × (plain_block {X = ℕ} 9 (0 ∷ 1 ∷ []) (Call.flush 2) ≡ none)
answers-by-example = (refl, refl, refl, refl, refl, refl)

abbrev reading : ℕ → Read
reading a = record { address = a; refused = false }

abbrev compared : List ℕ → List ℕ → Option Word → Compared ℕ
compared h c w = record { held = h; cached = c; answer = w }

-- printed D-LRU at m = 1 and d = 2, with a refused read in the middle
pub printed-by-example : printed_trace eqb 1 2 (λ a. a) (record { addresses = []; fingerprints = [] })
    (reading 1 ∷ reading 2 ∷ record { address = 9; refused = true } ∷ reading 2 ∷ reading 3 ∷ [])
    ≡ compared (1 ∷ []) (1 ∷ []) (some miss)
    ∷ compared (2 ∷ []) (1 ∷ 2 ∷ []) (some miss)
    ∷ compared (2 ∷ []) (1 ∷ 2 ∷ []) none
    ∷ compared (2 ∷ []) (1 ∷ 2 ∷ []) (some hit)
    ∷ compared (3 ∷ []) (2 ∷ 3 ∷ []) (some miss)
    ∷ []
unfolding printed_trace printed_next printed_hit put
printed-by-example = refl

-- ---- the claims by example
-- a box that holds address 1, whose content is 1, and has block k
abbrev holding : ℕ → Box ℕ ℕ
holding k = record { rows = newest 1 1 false (0, 0) ∷ []; free = []; used = block_row k 0 ∷ []; flash = k ∷ []; disk = 0 ∷ 1 ∷ [] }

-- the one in which address 1 is without its block, and block 2 without an address
abbrev wasteful : Box ℕ ℕ
wasteful = holding 2

-- what is compared of it after a hit
pub seen-by-example : seen_in wasteful (some hit) ≡ compared (1 ∷ []) (2 ∷ []) (some hit)
seen-by-example = refl

-- the orphan law does not hold of it; with block 1 it does
pub orphans-by-example : (OrphanLaw labels wasteful → ⊥) × OrphanLaw labels (holding 1)
orphans-by-example = (λ h. true≢false h, refl)

-- its fingerprints are true where the plain disk has 1 at address 1, not where it has 3
pub fingerprints-by-example : TrueFingerprints labels wasteful (0 ∷ 1 ∷ []) × (TrueFingerprints labels wasteful (0 ∷ 3 ∷ []) → ⊥)
fingerprints-by-example = (((refl, tt), (refl, tt)), λ h. let e : ◌≡◌ {A = ℕ} 1 3 = h.0.0 in absurd (omega arith))

-- the premise does not hold of two blocks with one fingerprint
abbrev one_print : Hashing ℕ ℕ
one_print = record { same = eqb; same→≡ = eqb→≡; same_refl = eqb-self; hash = λ x. 0; blank = 0 }

pub premise-by-example : NoTwoShare one_print (4 ∷ 5 ∷ []) → ⊥
premise-by-example only =
    let e : ◌≡◌ {A = ℕ} 4 5 = only 4 5 (Memᴰ.head refl) (Memᴰ.tail (Memᴰ.head refl)) refl in
    absurd (omega arith)

-- 1, 6, 7, 8, 12 and 13 are none of the numbers of a list
pub numbers-by-example : (InList 1 → ⊥) × (InList 6 → ⊥) × (InList 7 → ⊥) × (InList 8 → ⊥) × (InList 12 → ⊥) × (InList 13 → ⊥)
numbers-by-example = (λ h. false≢true h, λ h. false≢true h, λ h. false≢true h, λ h. false≢true h, λ h. false≢true h, λ h. false≢true h)

-- a read, a look and a flush write no block, so that a list of them is compared with printed D-LRU
pub reads-are-compared : (B a k : ℕ) (l : List ℕ) → NoWrite (call_of B (Ask.read a l)) × NoWrite (call_of B (Ask.look a)) × NoWrite (call_of B (Ask.flush k))
unfolding call_of
reads-are-compared B a k l = (refl, refl, refl)

module _ (N : Numbers) where
  seen-shown : (t : Lent) (rs : List (ℕ × List ℕ)) → seen_after N t (map as_read rs) ≡ shown_by N t rs
  unfolding seen_after shown_by call_of
  seen-shown t [] = refl
  seen-shown t (r ∷ rs) =
      ap {B = List (Compared (Fixed 32))} (λ l. seen_in (box_in N (next N t (one (as_read r)))) (said_word (call N t (as_read r)).answer) ∷ l)
      (seen-shown (next N t (one (as_read r))) rs)

  fed-reads : (t : Lent) (rs : List (ℕ × List ℕ)) → reads_of N t (map as_read rs) ≡ fed_by N t rs
  unfolding reads_of fed_by call_of
  fed-reads t [] = refl
  fed-reads t (r ∷ rs) =
      ap {B = List Read} (λ l. record { address = r.0; refused = not (eqb (refusal N t (calling (as_read r))) 0) } ∷ l)
      (fed-reads (next N t (one (as_read r))) rs)

  no_write : (rs : List (ℕ × List ℕ)) → All (λ q. NoWrite (call_of N.B q)) (map as_read rs)
  no_write [] = tt
  no_write (r ∷ rs) = ((reads-are-compared N.B r.0 0 r.1).0, no_write rs)

  -- In a list of reads alone, from a fresh box over any disk and flash bytes: hits, misses and the order of addresses and blocks are the printed D-LRU's.
  pub reads-alone : (t : Lent) (rs : List (ℕ × List ℕ)) → refusal N t opening ≡ 0
      → shown_by N (opened N t) rs
      ≡ printed_trace (labelled N).same N.m N.d (content_of (labelled N) (first_plain N (opened N t)))
      (record { addresses = []; fingerprints = [] }) (fed_by N (opened N t) rs)
  reads-alone t rs opens =
      sym (seen-shown (opened N t) rs)
      ∙ (demand-3 N t (map one (map as_read rs)) opens).printed (map as_read rs) refl (no_write rs)
      ∙ ap
      (printed_trace (labelled N).same N.m N.d (content_of (labelled N) (first_plain N (opened N t))) (record { addresses = []; fingerprints = [] }))
      (fed-reads (opened N t) rs)
