-- An example that the premise of demand 3 can be met: a list whose calls are all served and whose blocks have different fingerprints.
use Rattle.std.specs.Prelude.{◌≡◌, refl, List, [], ◌∷◌, ◌++◌, ◌≢◌, ℕ, eqb, replicate, get_or}
use Rattle.std.proofs.Common.{sym, ap, ◌∙◌, subst, arith}
use mathlib.Core.List.Memᴰ
use Rattle.hash.specs.Sha256.{Ch, Maj, Σ0, Σ1, σ0, σ1, K, H0, M, next, W, T1, T2, round, rounds, sum8, compress, blocks, bytes32, bytes64, padded}
use Rattle.hash.specs.Sha256.{pad, digest, sha256}
use Rattle.tables.specs.Rows as Rows
use Rattle.tables.specs.Records as Records
use Rattle.tables.specs.Find as Find
use Rattle.tables.specs.Unsound as Unsound
use Rattle.paper.specs.Cache as Cache
use Rattle.paper.specs.KeyedLaws.{by-test}
use Rattle.paper.specs.Engine.{Fixed, fit, fingerprinting, labelled}
use Rattle.paper.specs.Cache.{Numbers}
use Rattle.paper.specs.Lent as Lent
use Rattle.paper.specs.Lent.{Lent, Ask, opening, calling, refusal, opened, fresh, split, call}
use Rattle.paper.specs.BatchLent.{Asking, one}
use Rattle.paper.specs.Machines.{NoTwoShare, written_by}
use Rattle.paper.specs.Demand3.{EachServed, ShowsPlain, refusals, written}
use Rattle.paper.proofs.RefusalLaws.{opened-is}
use Rattle.paper.proofs.Demand3Laws.{head-≡, demand-3}

-- one disk block, filled with 0; one address held, one block cached
abbrev numbers : Numbers
numbers = record { B = 64; P = 1; m = 1; d = 1; label = replicate 64 0; t = 1 }

abbrev filled : ℕ → List ℕ
filled k = replicate 64 k

abbrev memory : Lent
memory = record { n = 0; disk = filled 0; flash = filled 0; addresses = replicate 40 0; blocks = replicate 40 0; counters = Cache.no_counts }

-- a block filled with 1 is written back, read, and flushed
abbrev asked : List Asking
asked = one (Ask.back 0 (filled 1) 0) ∷ one (Ask.read 0 (filled 0)) ∷ one (Ask.flush 1) ∷ []

pub opens : refusal numbers memory opening ≡ 0
unfolding refusal Lent.unfit Lent.wrong_buffers Unsound.elem
opens = refl

-- no call is refused
pub all-served : refusals numbers (opened numbers memory) asked ≡ 0 ∷ 0 ∷ 0 ∷ []
unfolding Ch Maj Σ0 Σ1 σ0 σ1 K H0 M next W T1 T2 round rounds sum8 compress blocks bytes32 bytes64 padded pad digest sha256 refusals written refusal
    opened fresh call split Lent.unfit Lent.wrong_buffers Lent.over Lent.served Lent.kept Lent.unopened Lent.box_in Lent.lent_of Lent.free_slots
    Lent.used_rows Lent.call_of fit Rows.rows Rows.flat Rows.zeros Records.address_bytes Records.block_bytes Records.read_address Records.read_block
    Records.address_table Records.held_rows Records.block_table Records.block_rows Records.fresh_addresses Records.fresh_blocks Find.any Find.all Find.same
    Unsound.elem Unsound.twice Unsound.count Unsound.addresses_unsound Unsound.free_after_used Unsound.each_once Unsound.used_twice Unsound.blocks_unsound
    Unsound.dirty_uncached Cache.oldest_out Cache.step1 Cache.freed Cache.step3 Cache.oldest_unknown Cache.victim Cache.taken_used Cache.taken
    Cache.stored Cache.step4 Cache.step Cache.if_cached Cache.answer Cache.read_as Cache.write_through Cache.write_back Cache.dropped
    Cache.write_invalidate Cache.look_as Cache.flushed Cache.serve Cache.counted
all-served = refl

-- the blocks that the premise is about: the one on disk, and the one written
abbrev block : ℕ → Fixed 64
block k = fit 64 (filled k)

first-served : refusal numbers (opened numbers memory) (calling (Ask.back 0 (filled 1) 0)) ≡ 0
unfolding refusals
first-served = head-≡ all-served

-- a call that writes nothing adds nothing to the blocks written
unwritten : (t : Lent) (q : Ask) (qs : List Asking) → written_by (Lent.call_of 64 q) ≡ []
    → written numbers t (one q ∷ qs) ≡ written numbers (call numbers t q).lent qs
unfolding written
unwritten t q qs e = rw e (by-test (eqb (refusal numbers t (calling q)) 0) (λ y. rw y refl) (λ y. rw y refl))

written_is : written numbers (opened numbers memory) asked ≡ block 1 ∷ []
unfolding written Lent.call_of
written_is =
    let t₁ = (call numbers (opened numbers memory) (Ask.back 0 (filled 1) 0)).lent in
    let t₂ = (call numbers t₁ (Ask.read 0 (filled 0))).lent in
    rw first-served (ap {B = List (Fixed 64)} (λ l. block 1 ∷ l)
    (unwritten t₁ (Ask.read 0 (filled 0)) (one (Ask.flush 1) ∷ []) refl ∙ unwritten t₂ (Ask.flush 1) [] refl))

blocks-are : split 64 1 (opened numbers memory).disk ++ written numbers (opened numbers memory) asked ≡ block 0 ∷ block 1 ∷ []
unfolding split fresh
blocks-are = ap (λ (t : Lent). split 64 1 t.disk ++ written numbers (opened numbers memory) asked) (opened-is numbers memory opens)
    ∙ ap {B = List (Fixed 64)} (λ l. block 0 ∷ l) written_is

-- their fingerprints differ in the first byte
abbrev first_under : List ℕ → Fixed 64 → ℕ
first_under label b = get_or ((fingerprinting label 64).hash b).0 0 0

abbrev first_byte : Fixed 64 → ℕ
first_byte b = first_under numbers.label b

first-bytes : (first_byte (block 0) ≡ 0x38) × (first_byte (block 1) ≡ 0xd8)
unfolding Ch Maj Σ0 Σ1 σ0 σ1 K H0 M next W T1 T2 round rounds sum8 compress blocks bytes32 bytes64 padded pad digest sha256 fit Rows.zeros
first-bytes = (refl, refl)

-- U6: "equal pages of two offices .. have unrelated fingerprints": the block of zeros under a label of ones. It isn't the block of ones under a label of
-- zeros, above.
pub other-office : first_under (filled 1) (block 0) ≡ 0xec
unfolding Ch Maj Σ0 Σ1 σ0 σ1 K H0 M next W T1 T2 round rounds sum8 compress blocks bytes32 bytes64 padded pad digest sha256 fit Rows.zeros
other-office = refl

pub premise-met : NoTwoShare (labelled numbers) (split 64 1 (opened numbers memory).disk ++ written numbers (opened numbers memory) asked)
premise-met =
    let e₀ = first-bytes.0 in
    let e₁ = first-bytes.1 in
    subst (NoTwoShare (labelled numbers)) (sym blocks-are) (two (block 0) (block 1) (λ y. omega arith))
  where
    two : (x y : Fixed 64) → first_byte x ≢ first_byte y → NoTwoShare (labelled numbers) (x ∷ y ∷ [])
    two x y n b c (Memᴰ.head i) (Memᴰ.head j) e = i ∙ sym j
    two x y n b c (Memᴰ.head i) (Memᴰ.tail (Memᴰ.head j)) e = absurd (n (ap first_byte (sym i) ∙ ap (λ f. get_or f.0 0 0) e ∙ ap first_byte j))
    two x y n b c (Memᴰ.tail (Memᴰ.head i)) (Memᴰ.head j) e
        = absurd (n (ap first_byte (sym j) ∙ ap (λ f. get_or f.0 0 0) (sym e) ∙ ap first_byte i))
    two x y n b c (Memᴰ.tail (Memᴰ.head i)) (Memᴰ.tail (Memᴰ.head j)) e = i ∙ sym j
    two x y n b c (Memᴰ.head i) (Memᴰ.tail (Memᴰ.tail none)) e = elim none [ ]
    two x y n b c (Memᴰ.tail (Memᴰ.head i)) (Memᴰ.tail (Memᴰ.tail none)) e = elim none [ ]
    two x y n b c (Memᴰ.tail (Memᴰ.tail none)) _ e = elim none [ ]

-- so that demand 3 says of this list that what its read returns is the plain disk's block
pub read-shown : EachServed numbers (ShowsPlain numbers) (opened numbers memory) (split 64 1 (opened numbers memory).disk) asked
read-shown = (demand-3 numbers memory asked opens).blocks premise-met
