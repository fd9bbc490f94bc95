-- Lines of each letter and each word, a refused one and the counters, by computation on the definition. Assumes nothing.
use Rattle.std.specs.Prelude.{◌≡◌, refl, Some, None}
use Rattle.paper.specs.Cache.{hit, miss, same_block, new_block, from_cache, from_disk, done}
use Rattle.paper.specs.Lent.{refused, answered}
use Rattle.lines.specs.Text.{ascii, decimal_in, decimal}
use Rattle.lines.specs.declared.Command.TheVariants.{Read, Look, Flush, Through, Back, Invalidate}
use Rattle.print.specs.Texts.{ask_text, word_text, counts_text, answer_text, counters_text}

-- "letter, address or `-`, answer (hit, miss, same, new, cache, disk, done), flash writes, primary writes"
pub line-texts :
    (answer_text 9 (Some (Read 2)) (answered hit 0 0) ≡ ascii "9 R 2 hit 0 0\n")
    × (answer_text 10 (Some (Read 3)) (answered miss 1 0) ≡ ascii "10 R 3 miss 1 0\n")
    × (answer_text 5 (Some (Through 4 7)) (answered same_block 0 1) ≡ ascii "5 T 4 same 0 1\n")
    × (answer_text 2 (Some (Back 2 7)) (answered new_block 1 0) ≡ ascii "2 B 2 new 1 0\n")
    × (answer_text 12 (Some (Invalidate 2 9)) (answered new_block 0 1) ≡ ascii "12 I 2 new 0 1\n")
    × (answer_text 4 (Some (Look 2)) (answered from_cache 0 0) ≡ ascii "4 L 2 cache 0 0\n")
    × (answer_text 13 (Some (Look 2)) (answered from_disk 0 0) ≡ ascii "13 L 2 disk 0 0\n")
    × (answer_text 11 (Some Flush) (answered done 0 1) ≡ ascii "11 F - done 0 1\n")
unfolding ask_text word_text counts_text answer_text decimal_in decimal
line-texts = (refl, refl, refl, refl, refl, refl, refl, refl)

-- "A refused line prints `line refused number`": neither the letter nor the address of one that has them
pub refused-texts :
    (answer_text 3 None (refused 4) ≡ ascii "3 refused 4\n")
    × (answer_text 6 (Some (Look 8)) (refused 3) ≡ ascii "6 refused 3\n")
unfolding answer_text decimal_in decimal
refused-texts = (refl, refl)

-- "The last line has the counters": reads, hits, flash and primary
pub counters-text : counters_text (record { reads = 2; hits = 1; flash_writes = 3; primary_writes = 5 }) ≡ ascii "reads 2 hits 1 flash 3 primary 5\n"
unfolding counters_text decimal_in decimal
counters-text = refl
