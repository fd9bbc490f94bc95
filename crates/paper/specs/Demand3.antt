-- Demand 3 as one type: a claim about every list of calls from a fresh box, in bytes and in refusals computed from the bytes.
-- Assumes nothing.
use Rattle.std.specs.Prelude.{◌≡◌, true, false, not, cond, List, [], ◌∷◌, ◌++◌, map, ℕ, eqb, get_or, take}
use Rattle.std.proofs.Math.Option
use Rattle.std.proofs.Math.Option.{Option, none, some}
use Rattle.paper.specs.KeyedLaws.{All}
use Rattle.paper.specs.Cache.{Numbers, Word}
use Rattle.paper.specs.Engine.{Fixed, labelled}
use Rattle.paper.specs.Lent.{Lent, Ask, Answer, refused, answered, After, calling, one_of, about_ask, refusal, call, call_of}
use Rattle.paper.specs.Lent.{box_in, FewDirty, join, split, with_counters}
use Rattle.paper.specs.BatchLent.{Asking, one, many, report, recount, batch_refusal, batched_from, call_batch, served_in_turn}
use Rattle.paper.specs.Reports.{report_refusal}
use Rattle.paper.specs.Machines.{plain_next, plain_block, written_by, NoWrite, Read, Compared, if_read, seen_in, printed_trace, content_of}
use Rattle.paper.specs.Machines.{OrphanLaw, TrueFingerprints, NoTwoShare}

-- the number that a call of a list gets, 0 where it is served
abbrev pub number_of : Numbers → Lent → Asking → ℕ
number_of N t (one q) = refusal N t (calling q)
number_of N t (many l buffer) = batch_refusal N t l buffer
number_of N t (report w lent) = report_refusal N t w lent
number_of N t (recount k) = 0

-- "Box record, disk, flash, both tables and counters pass from call to call." A report writes none of them. Only `recount` writes other counters: U10's
-- warm start is a full flush and this (law `warm-start` of `image`).
abbrev pub next : Numbers → Lent → Asking → Lent
next N t (one q) = (call N t q).lent
next N t (many l buffer) = (call_batch N t l buffer).lent
next N t (report w lent) = t
next N t (recount k) = with_counters t k

-- "Plain disk: P blocks, first those of the disk. It is fed the calls and their arguments in turn and, of the answers, only which are refusals."
-- "A flush does nothing, nor does a refused call in either machine." A folder read is reads, which write nothing, nor does a report.
abbrev pub plain_step : (N : Numbers) → Lent → List (Fixed N.B) → Asking → List (Fixed N.B)
plain_step N t plain (one q) = cond (eqb (refusal N t (calling q)) 0) (plain_next plain (call_of N.B q)) plain
plain_step N t plain (many l buffer) = plain
plain_step N t plain (report w lent) = plain
plain_step N t plain (recount k) = plain

-- a claim "in every state reached, the fresh one included"
unfoldable pub Throughout : (N : Numbers) (Q : Lent → List (Fixed N.B) → Type 0) → Lent → List (Fixed N.B) → List Asking → Type 0
Throughout N Q t plain [] = Q t plain
Throughout N Q t plain (q ∷ qs) = Q t plain × Throughout N Q (next N t q) (plain_step N t plain q) qs

-- a claim "Of calls that aren't refused"
unfoldable pub EachServed : (N : Numbers) (Q : Lent → List (Fixed N.B) → Asking → Type 0) → Lent → List (Fixed N.B) → List Asking → Type 0
EachServed N Q t plain [] = Unit {0}
EachServed N Q t plain (q ∷ qs) = (number_of N t q ≡ 0 → Q t plain q) × EachServed N Q (next N t q) (plain_step N t plain q) qs

-- "In such a list no call gets 6, 7 or 8." (Nor 1 or 12: the numbers are those of the opening.) Nor 13: U8: "Every reachable state has at most t dirty
-- rows."
abbrev pub InList : ℕ → Type 0
InList k = one_of k (0 ∷ 2 ∷ 3 ∷ 9 ∷ 10 ∷ []) ≡ true

unfoldable pub refusals : Numbers → Lent → List Asking → List ℕ
refusals N t [] = []
refusals N t (q ∷ qs) = number_of N t q ∷ refusals N (next N t q) qs

-- "Of calls that aren't refused: the blocks written are those lent to writes"
abbrev pub written_in : (N : Numbers) → Asking → List (Fixed N.B)
written_in N (one q) = written_by (call_of N.B q)
written_in N (many l buffer) = []
written_in N (report w lent) = []
written_in N (recount k) = []

unfoldable pub written : (N : Numbers) → Lent → List Asking → List (Fixed N.B)
written N t [] = []
written N t (q ∷ qs) = cond (eqb (number_of N t q) 0) (written_in N q) [] ++ written N (next N t q) qs

-- "a block returned is the lent block after a read, or a look's part"
abbrev pub returned : Ask → After → Option (List ℕ)
returned q y = cond (about_ask q).reads y.block (cond (about_ask q).returns (some y.part) none)

-- it is the plain disk's; of a folder read the buffer has the plain disk's blocks at its addresses
abbrev pub ShowsPlain : (N : Numbers) → Lent → List (Fixed N.B) → Asking → Type 0
ShowsPlain N t plain (one q) =
    returned q (call N t q) ≡ Option.map (λ (b : Fixed N.B). b.0) (plain_block (labelled N).blank plain (call_of N.B q))
ShowsPlain N t plain (many l buffer) = (call_batch N t l buffer).buffer ≡ join (map (λ a. get_or plain a (labelled N).blank) l)
ShowsPlain N t plain (report w lent) = Unit {0}
ShowsPlain N t plain (recount k) = Unit {0}

-- U2: "blocks, flash, tables, counters and disk are those of the reads done in turn, with 9 checked only before the first" (of the blocks it is said by
-- `ShowsPlain`)
abbrev pub AsReads : (N : Numbers) → Lent → List (Fixed N.B) → Asking → Type 0
AsReads N t plain (one q) = Unit {0}
AsReads N t plain (many l buffer) = (call_batch N t l buffer).lent ≡ served_in_turn N t l
AsReads N t plain (report w lent) = Unit {0}
AsReads N t plain (recount k) = Unit {0}

-- U2: "A list with this call in it counts as those reads for every law about .. orphans": also between its reads
abbrev pub OrphansWithin : (N : Numbers) → Lent → List (Fixed N.B) → Asking → Type 0
OrphansWithin N t plain (one q) = Unit {0}
OrphansWithin N t plain (many l buffer) = (k : ℕ) → OrphanLaw (labelled N) (batched_from N t (take k l)).box
OrphansWithin N t plain (report w lent) = Unit {0}
OrphansWithin N t plain (recount k) = Unit {0}

-- "where demand 3 says "after each flush", the full one is meant": after it the disk is the plain disk
abbrev pub FlushesWhole : (N : Numbers) → Lent → List (Fixed N.B) → Asking → Type 0
FlushesWhole N t plain q = q ≡ one (Ask.flush N.m) → (next N t q).disk ≡ join plain

-- "the disk is the plain disk's whenever a call leaves no row dirty"
abbrev pub CleanIsPlain : (N : Numbers) → Lent → List (Fixed N.B) → Type 0
CleanIsPlain N t plain = All (λ r. r.dirty ≡ false) (box_in N t).rows → t.disk ≡ join plain

-- "Printed D-LRU: it is fed the reads' addresses, which reads are refused, and the disk as it was at first"; "Compared after each read: held
-- addresses in order, cached fingerprints in order and, unless it was refused, its hit or miss."
unfoldable pub reads_of : Numbers → Lent → List Ask → List Read
reads_of N t [] = []
reads_of N t (q ∷ qs) =
    if_read (call_of N.B q) (λ a. record { address = a; refused = not (eqb (refusal N t (calling q)) 0) }) (reads_of N (next N t (one q)) qs)

abbrev pub said_word : Answer → Option Word
said_word (refused k) = none
said_word (answered w f p) = some w

unfoldable pub seen_after : Numbers → Lent → List Ask → List (Compared (Fixed 32))
seen_after N t [] = []
seen_after N t (q ∷ qs) =
    if_read (call_of N.B q) (λ a. seen_in (box_in N (next N t (one q))) (said_word (call N t q).answer)) (seen_after N (next N t (one q)) qs)

-- "Plain disk: P blocks, first those of the disk."
abbrev pub first_plain : (N : Numbers) → Lent → List (Fixed N.B)
first_plain N t = split N.B N.P t.disk

-- The premise, of the first plain disk and the blocks written in the list: no two different blocks of these share a fingerprint.
abbrev pub Premise : (N : Numbers) → Lent → List Asking → Type 0
Premise N t qs = NoTwoShare (labelled N) (first_plain N t ++ written N t qs)

-- "Demand 3 is one claim about the whole list of calls, not one for each call. A list begins with a fresh box over any disk and flash bytes."
-- t is the fresh box. `fingerprints`, `blocks`, `as_reads`, `flushes` and `clean` are under the premise.
-- `printed` is of a list of single calls with no write in it: of reads alone, or with looks and flushes among them.
pub record Demand3 (N : Numbers) (t : Lent) (qs : List Asking) : Type 0 where
  pub numbers : All InList (refusals N t qs)
  -- U8: "Every reachable state has at most t dirty rows."
  pub dirty : Throughout N (λ x plain. FewDirty N (box_in N x)) t (first_plain N t) qs
  pub orphans : Throughout N (λ x plain. OrphanLaw (labelled N) (box_in N x)) t (first_plain N t) qs
  pub orphans_within : EachServed N (OrphansWithin N) t (first_plain N t) qs
  pub fingerprints : Premise N t qs → Throughout N (λ x plain. TrueFingerprints (labelled N) (box_in N x) plain) t (first_plain N t) qs
  pub blocks : Premise N t qs → EachServed N (ShowsPlain N) t (first_plain N t) qs
  pub as_reads : Premise N t qs → EachServed N (AsReads N) t (first_plain N t) qs
  pub flushes : Premise N t qs → EachServed N (FlushesWhole N) t (first_plain N t) qs
  pub clean : Premise N t qs → Throughout N (CleanIsPlain N) t (first_plain N t) qs
  pub printed : (rs : List Ask) → qs ≡ map one rs → All (λ q. NoWrite (call_of N.B q)) rs
      → seen_after N t rs ≡ printed_trace (labelled N).same N.m N.d (content_of (labelled N) (first_plain N t))
      (record { addresses = []; fingerprints = [] }) (reads_of N t rs)
