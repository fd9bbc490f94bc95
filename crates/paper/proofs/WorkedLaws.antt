-- The worked states E1 to E8 of document 01, and further states that E1 to E8 leave open: each a table and one theorem, by computation.
-- Fingerprints and blocks are labels: the content k is the number k, and it is its own fingerprint. Assumes nothing.
use Rattle.std.specs.Prelude.{◌≡◌, refl, true, false, List, [], ◌∷◌, ◌++◌, map, ℕ, suc, eqb, replicate}
use Rattle.std.proofs.Math.Option.{Option, none, some}
use Rattle.tables.specs.Records.{slots_from}
use Rattle.paper.specs.KeyedLaws.{eqb→≡, eqb-self}
use Rattle.paper.specs.Cache.{Numbers, Hashing, AddressRow, Box, Outcome, newest, Call, about, before, read, look, flush, Word}
use Rattle.paper.specs.Cache.{hit}
use Rattle.paper.specs.Cache.{miss, same_block, new_block, from_cache, from_disk, done, fresh, serve, Counters, no_counts, counted}
use Rattle.paper.specs.Cache.{step, step1, step3, step4, oldest_out, freed, oldest_unknown, victim, taken_used, taken}
use Rattle.paper.specs.Cache.{stored, if_cached, answer, read_as, write_through, write_back, dropped, write_invalidate, look_as, flushed}
use Rattle.paper.specs.Worked.{B, F, I, L, R, T, counts, line, Letter, PrintedLine, Said, State, back, box_of, more, play, plays, start, table}

pub E1-to-E8 : map play table ≡ map (λ e. e.seen) table
unfolding counted serve step step1 step3 step4 oldest_out freed oldest_unknown victim taken_used taken stored if_cached answer read_as write_through
    write_back dropped write_invalidate look_as flushed
E1-to-E8 = refl

pub further-states : map play more ≡ map (λ e. e.seen) more
unfolding counted serve step step1 step3 step4 oldest_out freed oldest_unknown victim taken_used taken stored if_cached answer read_as write_through
    write_back dropped write_invalidate look_as flushed
further-states = refl

abbrev letter : Call ℕ → Letter
letter (read a) = R
letter (look a) = L
letter (flush k) = F
letter (Call.through a b z) = T
letter (Call.back a b z) = B
letter (Call.invalidate a b z) = I

abbrev prints : ℕ → List Said → Counters → List PrintedLine
prints i [] k = counts k.reads k.hits k.flash_writes k.primary_writes ∷ []
prints i (x ∷ xs) k = line i (letter x.call) (about x.call).address x.word x.flash_writes x.primary_writes ∷ prints (suc i) xs k

abbrev output : State → List PrintedLine
output t = prints 1 t.said t.counters

pub replay-prints : output (plays (box_of 3 2) (start (box_of 3 2)) no_counts (read 1 ∷ read 2 ∷ back 3 1 ∷ read 3 ∷ read 4 ∷ read 2 ∷ flush 3 ∷ look 3 ∷ []))
    ≡ line 1 R (some 1) miss 1 0
    ∷ line 2 R (some 2) miss 1 0
    ∷ line 3 B (some 3) same_block 0 0
    ∷ line 4 R (some 3) hit 0 0
    ∷ line 5 R (some 4) miss 1 0
    ∷ line 6 R (some 2) miss 1 1
    ∷ line 7 F none done 0 0
    ∷ line 8 L (some 3) from_disk 0 0
    ∷ counts 5 1 4 1
    ∷ []
unfolding counted serve step step1 step3 step4 oldest_out freed oldest_unknown victim taken_used taken stored if_cached answer read_as write_through
    write_back dropped write_invalidate look_as flushed
replay-prints = refl
