-- Two runs on bytes, with SHA-256 computed: the calls differ in their seat numbers, the manager's reports differ, and the desk sees the same.
use Rattle.std.specs.Prelude.{◌≡◌, refl, List, [], ◌∷◌, ℕ, replicate}
use Rattle.std.proofs.Math.Option.{none, some}
use Rattle.hash.specs.Sha256.{Ch, Maj, Σ0, Σ1, σ0, σ1, K, H0, M, W, T1, T2, round, rounds, sum8, compress, blocks}
use Rattle.hash.specs.Sha256 as Sha256
use Rattle.hash.specs.Sha256.{bytes32, bytes64, padded, pad, digest, sha256}
use Rattle.tables.specs.Rows as Rows
use Rattle.tables.specs.Records as Records
use Rattle.tables.specs.Find as Find
use Rattle.tables.specs.Unsound as Unsound
use Rattle.paper.specs.Cache as Cache
use Rattle.paper.specs.Cache.{hit, new_block, from_cache}
use Rattle.paper.specs.Engine as Engine
use Rattle.paper.specs.Lent as Lent
use Rattle.paper.specs.Lent.{Lent, Ask, refused, answered}
use Rattle.paper.specs.Refused.{counters, small, sound}
use Rattle.paper.specs.Reports as Reports
use Rattle.paper.specs.Reports.{manager, reported}
use Rattle.paper.specs.Batch as Batch
use Rattle.paper.specs.BatchLent as BatchLent
use Rattle.paper.specs.BatchLent.{Asking, one, many, report, batched}
use Rattle.paper.specs.Demand3.{next}
use Rattle.seats.specs.TwoRuns.{single, folder, number, Told, lru_runs, Seen, desk_sees}
use Rattle.seats.proofs.TwoRunsLaws.{two_runs}

abbrev filled : ℕ → List ℕ
filled k = replicate 64 k

-- Calls of the seat z. Before them address 1 is held and dirty, last written by the seat 2055.
abbrev calls : (z : ℕ) → List Asking
calls z =
    one (Ask.back 0 (filled 5) z)
    ∷ one (Ask.read 1 (filled 0))
    ∷ one (Ask.look 1)
    ∷ many (0 ∷ []) (filled 0)
    ∷ one (Ask.through 1 (replicate 63 5) z)
    ∷ report manager (replicate 13 0)
    ∷ one (Ask.invalidate 2 (filled 5) z)
    ∷ []

-- the lent memory after a list of calls
abbrev after : Lent → List Asking → Lent
after t [] = t
after t (q ∷ qs) = after (next small t q) qs

abbrev sees : Told → List ℕ → (reads hits flash primary : ℕ) → Seen
sees w l r h f p = record { told = w; report = l; counters = counters r h f p }

-- The manager is told which seat last wrote address 0, 2055 or 263; the desk sees the same of both runs.
pub runs-by-example :
    (reported small (after sound (calls 2055)) manager (replicate 14 0) ≡ 1 ∷ 0 ∷ 0 ∷ 0 ∷ 1 ∷ 7 ∷ 8 ∷ 0 ∷ 0 ∷ 0 ∷ 0 ∷ 1 ∷ 7 ∷ 8 ∷ [])
    × (reported small (after sound (calls 263)) manager (replicate 14 0) ≡ 1 ∷ 0 ∷ 0 ∷ 0 ∷ 1 ∷ 7 ∷ 8 ∷ 0 ∷ 0 ∷ 0 ∷ 0 ∷ 1 ∷ 7 ∷ 1 ∷ [])
    × (desk_sees (lru_runs small) (replicate 10 0) sound (calls 2055)
    ≡ sees (single (answered new_block 1 0) (some (filled 5)) []) (1 ∷ 0 ∷ 0 ∷ 0 ∷ 1 ∷ 0 ∷ 0 ∷ 0 ∷ 0 ∷ 1 ∷ []) 0 0 1 0
    ∷ sees (single (answered hit 0 0) (some (filled 8)) []) (0 ∷ 0 ∷ 0 ∷ 0 ∷ 1 ∷ 1 ∷ 0 ∷ 0 ∷ 0 ∷ 1 ∷ []) 1 1 1 0
    ∷ sees (single (answered from_cache 0 0) none (filled 8)) (0 ∷ 0 ∷ 0 ∷ 0 ∷ 1 ∷ 1 ∷ 0 ∷ 0 ∷ 0 ∷ 1 ∷ []) 1 1 1 0
    ∷ sees (folder (batched 1 0 0 0) (filled 5)) (1 ∷ 0 ∷ 0 ∷ 0 ∷ 1 ∷ 0 ∷ 0 ∷ 0 ∷ 0 ∷ 1 ∷ []) 2 2 1 0
    ∷ sees (single (refused 2) (some (replicate 63 5)) []) (1 ∷ 0 ∷ 0 ∷ 0 ∷ 1 ∷ 0 ∷ 0 ∷ 0 ∷ 0 ∷ 1 ∷ []) 2 2 1 0
    ∷ sees (number 2) (1 ∷ 0 ∷ 0 ∷ 0 ∷ 1 ∷ 0 ∷ 0 ∷ 0 ∷ 0 ∷ 1 ∷ []) 2 2 1 0
    ∷ sees (single (refused 3) (some (filled 5)) []) (1 ∷ 0 ∷ 0 ∷ 0 ∷ 1 ∷ 0 ∷ 0 ∷ 0 ∷ 0 ∷ 1 ∷ []) 2 2 1 0
    ∷ [])
    × (desk_sees (lru_runs small) (replicate 10 0) sound (calls 263) ≡ desk_sees (lru_runs small) (replicate 10 0) sound (calls 2055))
unfolding Ch Maj Σ0 Σ1 σ0 σ1 K H0 M Sha256.next W T1 T2 round rounds sum8 compress blocks bytes32 bytes64 padded pad digest sha256 Lent.refusal
    Lent.call Lent.split Lent.unfit Lent.wrong_buffers Lent.over Lent.served Lent.kept Lent.box_in Lent.lent_of Lent.free_slots Lent.used_rows Lent.call_of
    Engine.fit Rows.rows Rows.flat Rows.zeros Records.address_bytes Records.block_bytes Records.read_address Records.read_block Records.address_table
    Records.held_rows Records.block_table Records.block_rows Find.any Find.all Find.same Unsound.elem Unsound.twice Unsound.count
    Unsound.addresses_unsound Unsound.free_after_used Unsound.each_once Unsound.used_twice Unsound.blocks_unsound Unsound.dirty_uncached Cache.oldest_out
    Cache.step1 Cache.freed Cache.step3 Cache.oldest_unknown Cache.victim Cache.taken_used Cache.taken Cache.stored Cache.step4 Cache.step
    Cache.if_cached Cache.answer Cache.read_as Cache.look_as Cache.write_through Cache.write_back Cache.flushed Cache.serve Cache.counted Batch.batch_read Batch.batch
    BatchLent.batch_refusal BatchLent.served_batch BatchLent.call_batch Reports.report_of Reports.report_refusal reported desk_sees
runs-by-example = (refl, refl, refl, two_runs small (replicate 10 0) sound (calls 263) (calls 2055) refl)
