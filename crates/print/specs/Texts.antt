-- What is printed. Assumes nothing.
use Rattle.std.specs.Prelude.{List, [], ◌++◌, ℕ, Option, Some, None}
use Rattle.paper.specs.Cache.{Counters, Word, hit, miss, same_block, new_block, from_cache, from_disk, done}
use Rattle.paper.specs.Lent.{Answer, refused, answered}
use Rattle.lines.specs.Text.{ascii, decimal}
use Rattle.lines.specs.declared.Command.{Command}
use Rattle.lines.specs.declared.Command.TheVariants.{Box, Read, Look, Flush, Through, Back, Invalidate}

-- "letter, address or `-`"
unfoldable pub ask_text : Option Command → List ℕ
ask_text (Some (Read a)) = ascii " R " ++ decimal a
ask_text (Some (Look a)) = ascii " L " ++ decimal a
ask_text (Some Flush) = ascii " F -"
ask_text (Some (Through a x)) = ascii " T " ++ decimal a
ask_text (Some (Back a x)) = ascii " B " ++ decimal a
ask_text (Some (Invalidate a x)) = ascii " I " ++ decimal a
ask_text (Some (Box b p m d)) = []
ask_text None = []

-- "answer (hit, miss, same, new, cache, disk, done)"
unfoldable pub word_text : Word → List ℕ
word_text hit = ascii " hit "
word_text miss = ascii " miss "
word_text same_block = ascii " same "
word_text new_block = ascii " new "
word_text from_cache = ascii " cache "
word_text from_disk = ascii " disk "
word_text done = ascii " done "

-- "flash writes, primary writes"
unfoldable pub counts_text : ℕ → ℕ → List ℕ
counts_text f p = decimal f ++ (ascii " " ++ decimal p) ++ ascii "\n"

-- "A refused line prints `line refused number`"; "Fields: call number .., letter, address or `-`, answer .., flash writes, primary writes."
unfoldable pub answer_text : ℕ → Option Command → Answer → List ℕ
answer_text k c (refused r) = decimal k ++ (ascii " refused " ++ decimal r) ++ ascii "\n"
answer_text k c (answered w f p) = decimal k ++ ask_text c ++ word_text w ++ counts_text f p

-- "The last line has the counters."
unfoldable pub counters_text : Counters → List ℕ
counters_text k =
    ascii "reads " ++ decimal k.reads ++ (ascii " hits " ++ decimal k.hits) ++ (ascii " flash " ++ decimal k.flash_writes)
    ++ (ascii " primary " ++ decimal k.primary_writes) ++ ascii "\n"
