-- Three reads on bytes, with SHA-256 computed, beside what the list alone tells: what `tell-hit` asks for can be met.
-- Two addresses with one content; two addresses held, one block.
use Rattle.std.specs.Prelude.{◌≡◌, refl, List, [], ◌∷◌, map, ℕ, replicate}
use Rattle.std.proofs.Common.{◌∙◌}
use Rattle.std.proofs.Math.Option.{some}
use Rattle.hash.specs.Sha256.{Ch, Maj, Σ0, Σ1, σ0, σ1, K, H0, M, next, W, T1, T2, round, rounds, sum8, compress, blocks}
use Rattle.hash.specs.Sha256.{bytes32, bytes64, padded, pad, digest, sha256}
use Rattle.tables.specs.Rows as Rows
use Rattle.tables.specs.Records as Records
use Rattle.tables.specs.Find as Find
use Rattle.tables.specs.Unsound as Unsound
use Rattle.paper.specs.Cache as Cache
use Rattle.paper.specs.Cache.{Numbers, hit, miss}
use Rattle.paper.specs.Engine.{fit, labelled}
use Rattle.paper.specs.Lent as Lent
use Rattle.paper.specs.Lent.{Lent, opening, refusal, opened, split, fresh, call}
use Rattle.paper.specs.Demand3.{refusals}
use Rattle.counting.specs.Told.{tell_hit, tell}
use Rattle.counting.specs.TellHit.{asked, content_in, words}
use Rattle.counting.proofs.TellHitLaws.{tell-hit}

abbrev numbers : Numbers
numbers = record { B = 64; P = 2; m = 2; d = 1; label = replicate 64 0; t = 2 }

abbrev memory : Lent
memory =
    record { n = 0; disk = replicate 128 7; flash = replicate 64 0; addresses = replicate 80 0; blocks = replicate 40 0; counters = Cache.no_counts }

abbrev reads : List (ℕ × List ℕ)
reads = (0, replicate 64 0) ∷ (1, replicate 64 0) ∷ (0, replicate 64 0) ∷ []

opens : refusal numbers memory opening ≡ 0
unfolding refusal Lent.unfit Lent.wrong_buffers Unsound.elem
opens = refl

-- none is refused
served : refusals numbers (opened numbers memory) (asked reads) ≡ 0 ∷ 0 ∷ 0 ∷ []
unfolding Ch Maj Σ0 Σ1 σ0 σ1 K H0 M next W T1 T2 round rounds sum8 compress blocks bytes32 bytes64 padded pad digest sha256 refusals refusal
    opened fresh call split Lent.unfit Lent.wrong_buffers Lent.over Lent.served Lent.kept Lent.unopened Lent.box_in Lent.lent_of Lent.free_slots
    Lent.used_rows Lent.call_of fit Rows.rows Rows.flat Rows.zeros Records.address_bytes Records.block_bytes Records.read_address Records.read_block
    Records.address_table Records.held_rows Records.block_table Records.block_rows Records.fresh_addresses Records.fresh_blocks Find.any Find.all Find.same
    Unsound.elem Unsound.twice Unsound.count Unsound.addresses_unsound Unsound.free_after_used Unsound.each_once Unsound.used_twice Unsound.blocks_unsound
    Unsound.dirty_uncached Cache.oldest_out Cache.step1 Cache.freed Cache.step3 Cache.oldest_unknown Cache.victim Cache.taken_used Cache.taken
    Cache.stored Cache.step4 Cache.step Cache.if_cached Cache.answer Cache.read_as Cache.write_through Cache.write_back Cache.dropped
    Cache.write_invalidate Cache.look_as Cache.flushed Cache.serve Cache.counted
served = refl

told : tell (labelled numbers).same 2 1 (content_in numbers memory) [] (0 ∷ 1 ∷ 0 ∷ []) ≡ miss ∷ miss ∷ hit ∷ []
unfolding Ch Maj Σ0 Σ1 σ0 σ1 K H0 M next W T1 T2 round rounds sum8 compress blocks bytes32 bytes64 padded pad digest sha256 fit Rows.zeros Find.same
    split tell tell_hit
told = refl

-- the engine's answers
pub of-bytes : words numbers (opened numbers memory) reads ≡ some miss ∷ some miss ∷ some hit ∷ []
of-bytes = tell-hit numbers memory reads opens (rw served (refl, (refl, (refl, tt)))) ∙ rw told refl
