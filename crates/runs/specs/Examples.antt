-- Inputs beside their whole outputs, by computation on the definition. Assumes nothing.
use Rattle.std.specs.Prelude.{◌≡◌, refl, List, [], ◌∷◌, ◌++◌, map, ℕ}
use Prim.Native.String.{String}
use Rattle.hash.specs.Sha256.{Ch, Maj, Σ0, Σ1, σ0, σ1, K, H0, M, next, W, T1, T2, round, rounds, sum8, compress, blocks}
use Rattle.hash.specs.Sha256.{bytes32, bytes64, padded, pad, digest, sha256}
use Rattle.tables.specs.Rows as Rows
use Rattle.tables.specs.Records as Records
use Rattle.tables.specs.Find as Find
use Rattle.tables.specs.Unsound as Unsound
use Rattle.paper.specs.Cache as Cache
use Rattle.paper.specs.Engine.{fit}
use Rattle.paper.specs.Lent as Lent
use Rattle.lines.specs.Text.{ascii, same, decimal_in, decimal}
use Rattle.lines.specs.Lines as Lines
use Rattle.print.specs.Texts as Texts
use Rattle.answers.specs.Replay as Replay
use Rattle.answers.specs.Replay.{replay}

-- an input and what the program writes
pub record Example : Type 0 where
  pub input : List ℕ
  pub output : List ℕ

abbrev run : String → String → Example
run i o = record { input = ascii i; output = ascii o }

-- the same with the output in two parts
abbrev longer : String → String → String → Example
longer i o p = record { input = ascii i; output = ascii o ++ ascii p }

-- "Input: .. Whole output: .."
abbrev document : List Example
document =
    longer "box 64 8 3 2\nR 1\nR 2\nB 3 01\nR 3\nR 4\nR 2\nF\nL 3"
    "1 R 1 miss 1 0\n2 R 2 miss 1 0\n3 B 3 same 0 0\n4 R 3 hit 0 0\n5 R 4 miss 1 0\n6 R 2 miss 1 1\n7 F - done 0 0\n"
    "8 L 3 disk 0 0\nreads 5 hits 1 flash 4 primary 1\n"
    ∷ []

pub document-run : map (λ e. replay e.input) document ≡ map (λ e. e.output) document
unfolding Ch Maj Σ0 Σ1 σ0 σ1 K H0 M next W T1 T2 round rounds sum8 compress blocks bytes32 bytes64 padded pad digest sha256 Lent.refusal Lent.fresh
    Lent.call Lent.split Lent.unfit Lent.wrong_buffers Lent.over Lent.served Lent.kept Lent.box_in Lent.lent_of Lent.free_slots Lent.used_rows Lent.call_of
    fit Rows.rows Rows.flat Rows.zeros Records.address_bytes Records.block_bytes Records.read_address Records.read_block Records.address_table
    Records.held_rows Records.block_table Records.block_rows Records.fresh_addresses Records.fresh_blocks Find.any Find.all Find.same Unsound.elem
    Unsound.twice Unsound.count Unsound.addresses_unsound Unsound.free_after_used Unsound.each_once Unsound.used_twice Unsound.blocks_unsound
    Unsound.dirty_uncached Cache.oldest_out Cache.step1 Cache.freed Cache.step3 Cache.oldest_unknown Cache.victim Cache.taken_used Cache.taken
    Cache.stored Cache.step4 Cache.step Cache.if_cached Cache.answer Cache.read_as Cache.write_through Cache.write_back Cache.dropped
    Cache.write_invalidate Cache.look_as Cache.flushed Cache.serve Cache.counted same decimal_in decimal Lines.onto Lines.lines_in Lines.lines Lines.words
    Lines.digits_from Lines.number Lines.hex_digit Lines.pair Lines.byte Lines.of_one Lines.of_two Lines.of_three Lines.of_five Lines.of_words Lines.parsed
    Replay.large Replay.box_refusal Replay.start_disk Replay.started Replay.asked Replay.doing Texts.ask_text Texts.word_text Texts.counts_text
    Texts.answer_text Texts.counters_text Replay.later_lines Replay.all_lines replay
document-run = refl

-- The three kinds of write, a look into flash and one to the disk, both answers of write invalidate, lines that aren't of the form and an address that the
-- box hasn't: what was cached before a refused line is cached after it. The four counters are all different.
abbrev writes : List Example
writes =
    longer "box 64 8 3 2\nT 1 05\nB 2 07\nX\nL 2\nT 4 07\nL 8\nI 1 05\nbox 64 8 3 2\nR 2\nR 3\nF\nI 2 09\nL 2"
    "1 T 1 new 1 1\n2 B 2 new 1 0\n3 refused 4\n4 L 2 cache 0 0\n5 T 4 same 0 1\n6 refused 3\n7 I 1 same 0 1\n8 refused 4\n"
    "9 R 2 hit 0 0\n10 R 3 miss 1 0\n11 F - done 0 1\n12 I 2 new 0 1\n13 L 2 disk 0 0\nreads 2 hits 1 flash 3 primary 5\n"
    ∷ []

pub writes-run : map (λ e. replay e.input) writes ≡ map (λ e. e.output) writes
unfolding Ch Maj Σ0 Σ1 σ0 σ1 K H0 M next W T1 T2 round rounds sum8 compress blocks bytes32 bytes64 padded pad digest sha256 Lent.refusal Lent.fresh
    Lent.call Lent.split Lent.unfit Lent.wrong_buffers Lent.over Lent.served Lent.kept Lent.box_in Lent.lent_of Lent.free_slots Lent.used_rows Lent.call_of
    fit Rows.rows Rows.flat Rows.zeros Records.address_bytes Records.block_bytes Records.read_address Records.read_block Records.address_table
    Records.held_rows Records.block_table Records.block_rows Records.fresh_addresses Records.fresh_blocks Find.any Find.all Find.same Unsound.elem
    Unsound.twice Unsound.count Unsound.addresses_unsound Unsound.free_after_used Unsound.each_once Unsound.used_twice Unsound.blocks_unsound
    Unsound.dirty_uncached Cache.oldest_out Cache.step1 Cache.freed Cache.step3 Cache.oldest_unknown Cache.victim Cache.taken_used Cache.taken
    Cache.stored Cache.step4 Cache.step Cache.if_cached Cache.answer Cache.read_as Cache.write_through Cache.write_back Cache.dropped
    Cache.write_invalidate Cache.look_as Cache.flushed Cache.serve Cache.counted same decimal_in decimal Lines.onto Lines.lines_in Lines.lines Lines.words
    Lines.digits_from Lines.number Lines.hex_digit Lines.pair Lines.byte Lines.of_one Lines.of_two Lines.of_three Lines.of_five Lines.of_words Lines.parsed
    Replay.large Replay.box_refusal Replay.start_disk Replay.started Replay.asked Replay.doing Texts.ask_text Texts.word_text Texts.counts_text
    Texts.answer_text Texts.counters_text Replay.later_lines Replay.all_lines replay
writes-run = refl

-- the box line: empty input, 4 before 1 and 1 before 5, the bounds of 5, and nothing after a refusal
abbrev box_forms : List Example
box_forms =
    run "" "0 refused 4\n"
    ∷ run "\n" "0 refused 4\n"
    ∷ run "box 64 8 3 2" "reads 0 hits 0 flash 0 primary 0\n"
    ∷ run "box 64 8 3 2\n" "reads 0 hits 0 flash 0 primary 0\n"
    ∷ run "box 64 8 3\nL 1\nF\n" "0 refused 4\n"
    ∷ run "box 96 300 3 2\nL 1\nF\n" "0 refused 1\n"
    ∷ run "box 64 257 3 2\nL 1\nF\n" "0 refused 5\n"
    ∷ run "box 64 256 3 2" "reads 0 hits 0 flash 0 primary 0\n"
    ∷ run "box 4096 4 1 1" "reads 0 hits 0 flash 0 primary 0\n"
    ∷ run "box 4096 5 1 1" "0 refused 5\n"
    ∷ run "box 4096 1 1 4" "reads 0 hits 0 flash 0 primary 0\n"
    ∷ run "box 4096 1 1 5" "0 refused 5\n"
    ∷ []

-- later lines that aren't of the form, by a decimal, a byte, spaces, their length or their word; then an address that the box hasn't, a flush and a look
abbrev line_forms : List Example
line_forms =
    longer
    "box 64 8 3 2\nL 100000\nL 07\nT 1 0a\nL  7\nL 7 \nL 7\r\nL 7 B 1 01 T 2 02 I 3 03 R 4 F F\nL 7 B 1 01 T 2 02 I 3 03 R 4 F FF\nbox 64 8 3 2\n\nL 8\nF\nL 7"
    "1 refused 4\n2 refused 4\n3 refused 4\n4 refused 4\n5 refused 4\n6 refused 4\n7 refused 4\n8 refused 4\n"
    "9 refused 4\n10 refused 4\n11 refused 3\n12 F - done 0 0\n13 L 7 disk 0 0\nreads 0 hits 0 flash 0 primary 0\n"
    ∷ []

pub form-runs : map (λ e. replay e.input) (box_forms ++ line_forms) ≡ map (λ e. e.output) (box_forms ++ line_forms)
unfolding Lent.refusal Lent.fresh Lent.call Lent.split Lent.unfit Lent.wrong_buffers Lent.over Lent.served Lent.kept Lent.box_in Lent.lent_of
    Lent.free_slots Lent.used_rows Lent.call_of fit Rows.rows Rows.flat Rows.zeros Records.address_bytes Records.block_bytes Records.read_address
    Records.read_block Records.address_table Records.held_rows Records.block_table Records.block_rows Records.fresh_addresses Records.fresh_blocks Find.any
    Find.all Find.same Unsound.elem Unsound.twice Unsound.count Unsound.addresses_unsound Unsound.free_after_used Unsound.each_once Unsound.used_twice
    Unsound.blocks_unsound Unsound.dirty_uncached Cache.oldest_out Cache.step1 Cache.freed Cache.step3 Cache.oldest_unknown Cache.victim Cache.taken_used
    Cache.taken Cache.stored Cache.step4 Cache.step Cache.if_cached Cache.answer Cache.read_as Cache.write_through Cache.write_back Cache.dropped
    Cache.write_invalidate Cache.look_as Cache.flushed Cache.serve Cache.counted same decimal_in decimal Lines.onto Lines.lines_in Lines.lines Lines.words
    Lines.digits_from Lines.number Lines.hex_digit Lines.pair Lines.byte Lines.of_one Lines.of_two Lines.of_three Lines.of_five Lines.of_words Lines.parsed
    Replay.large Replay.box_refusal Replay.start_disk Replay.started Replay.asked Replay.doing Texts.ask_text Texts.word_text Texts.counts_text
    Texts.answer_text Texts.counters_text Replay.later_lines Replay.all_lines replay
form-runs = refl
