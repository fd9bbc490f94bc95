-- Demand 3 for a D-ARC box, as one type: a claim about every list of calls from a fresh box, in bytes and in refusals computed from the bytes.
-- "The orphan law and the printed D-LRU comparison are only for D-LRU boxes." Assumes nothing.
use Rattle.std.specs.Prelude.{◌≡◌, true, false, cond, List, [], ◌∷◌, ◌++◌, map, ℕ, ◌+◌, ◌≤◌, eqb, length, get_or}
use Rattle.std.proofs.Math.Option
use Rattle.std.proofs.Math.Option.{Option, none, some}
use Rattle.paper.specs.KeyedLaws.{All}
use Rattle.paper.specs.Cache.{AddressRow, Box, held, row_with_block}
use Rattle.paper.specs.Engine.{Fixed, labelled}
use Rattle.paper.specs.Lent.{Ask, calling, call_of, about_ask, box_in, FewDirty, join, split, one_of, with_counters}
use Rattle.paper.specs.BatchLent.{Asking, one, many, report, recount}
use Rattle.paper.specs.Machines.{plain_next, plain_block, written_by, TrueFingerprints, NoTwoShare}
use Rattle.arc.specs.Arc.{Sizes, base_numbers, m_of, Lists, on_top}
use Rattle.arc.specs.ArcMid.{named}
use Rattle.arc.specs.ArcLent.{ArcLent, ArcAfter, lists_in, arc_refusal, arc_call}
use Rattle.arc.specs.ArcFolder.{arc_folder_refusal, arc_folder_call, arc_served_in_turn}
use Rattle.arc.specs.ArcReports.{arc_report_refusal}

-- the lists and the box in lent bytes
abbrev pub lists_of : ArcLent → Lists
lists_of t = lists_in t.sizes t.lists

abbrev pub box_of : (Z : Sizes) → ArcLent → Box (Fixed 32) (Fixed Z.B)
box_of Z t = box_in (base_numbers Z) t.base

-- the number that a call of a list gets, 0 where it is served
abbrev pub arc_number : Sizes → ArcLent → Asking → ℕ
arc_number Z t (one q) = arc_refusal Z t (calling q)
arc_number Z t (many l buffer) = arc_folder_refusal Z t l buffer
arc_number Z t (report w lent) = arc_report_refusal Z t w lent
arc_number Z t (recount k) = 0

-- "Box record, disk, flash, both tables and counters pass from call to call.": the lists and their record too. A report writes none of them.
-- Only `recount` writes other counters.
abbrev pub arc_next : Sizes → ArcLent → Asking → ArcLent
arc_next Z t (one q) = (arc_call Z t q).lent
arc_next Z t (many l buffer) = (arc_folder_call Z t l buffer).lent
arc_next Z t (report w lent) = t
arc_next Z t (recount k) = record { base = with_counters t.base k; sizes = t.sizes; lists = t.lists }

-- "Plain disk: P blocks, first those of the disk. It is fed the calls and their arguments in turn and, of the answers, only which are refusals."
abbrev pub disk_of : (Z : Sizes) → ArcLent → List (Fixed Z.B)
disk_of Z t = split Z.B Z.P t.base.disk

abbrev pub arc_plain : (Z : Sizes) → ArcLent → List (Fixed Z.B) → Asking → List (Fixed Z.B)
arc_plain Z t plain (one q) = cond (eqb (arc_refusal Z t (calling q)) 0) (plain_next plain (call_of Z.B q)) plain
arc_plain Z t plain (many l buffer) = plain
arc_plain Z t plain (report w lent) = plain
arc_plain Z t plain (recount k) = plain

-- a claim "in every state reached, the fresh one included"
unfoldable pub ArcThroughout : (Z : Sizes) (Q : ArcLent → List (Fixed Z.B) → Type 0) → ArcLent → List (Fixed Z.B) → List Asking → Type 0
ArcThroughout Z Q t plain [] = Q t plain
ArcThroughout Z Q t plain (q ∷ qs) = Q t plain × ArcThroughout Z Q (arc_next Z t q) (arc_plain Z t plain q) qs

-- a claim "Of calls that aren't refused"
unfoldable pub ArcEachServed : (Z : Sizes) (Q : ArcLent → List (Fixed Z.B) → Asking → Type 0) → ArcLent → List (Fixed Z.B) → List Asking → Type 0
ArcEachServed Z Q t plain [] = Unit {0}
ArcEachServed Z Q t plain (q ∷ qs) = (arc_number Z t q ≡ 0 → Q t plain q) × ArcEachServed Z Q (arc_next Z t q) (arc_plain Z t plain q) qs

-- "In such a list no call gets 6, 7 or 8.", nor 11, 12 or 13
abbrev pub ArcInList : ℕ → Type 0
ArcInList k = one_of k (0 ∷ 2 ∷ 3 ∷ 9 ∷ 10 ∷ []) ≡ true

unfoldable pub arc_refusals : Sizes → ArcLent → List Asking → List ℕ
arc_refusals Z t [] = []
arc_refusals Z t (q ∷ qs) = arc_number Z t q ∷ arc_refusals Z (arc_next Z t q) qs

-- "Of calls that aren't refused: the blocks written are those lent to writes"
abbrev pub arc_writes : (Z : Sizes) → Asking → List (Fixed Z.B)
arc_writes Z (one q) = written_by (call_of Z.B q)
arc_writes Z (many l buffer) = []
arc_writes Z (report w lent) = []
arc_writes Z (recount k) = []

unfoldable pub arc_written : (Z : Sizes) → ArcLent → List Asking → List (Fixed Z.B)
arc_written Z t [] = []
arc_written Z t (q ∷ qs) = cond (eqb (arc_number Z t q) 0) (arc_writes Z q) [] ++ arc_written Z (arc_next Z t q) qs

-- "a block returned is the lent block after a read, or a look's part": it is the plain disk's; of a folder read the buffer has the plain disk's blocks
abbrev pub arc_returned : Ask → ArcAfter → Option (List ℕ)
arc_returned q y = cond (about_ask q).reads y.block (cond (about_ask q).returns (some y.part) none)

abbrev pub ArcShows : (Z : Sizes) → ArcLent → List (Fixed Z.B) → Asking → Type 0
ArcShows Z t plain (one q) =
    arc_returned q (arc_call Z t q) ≡ Option.map (λ (b : Fixed Z.B). b.0) (plain_block (labelled (base_numbers Z)).blank plain (call_of Z.B q))
ArcShows Z t plain (many l buffer) = (arc_folder_call Z t l buffer).buffer ≡ join (map (λ a. get_or plain a (labelled (base_numbers Z)).blank) l)
ArcShows Z t plain (report w lent) = Unit {0}
ArcShows Z t plain (recount k) = Unit {0}

-- U2: "blocks, flash, tables, counters and disk are those of the reads done in turn, with 9 checked only before the first": the lists and p too
abbrev pub ArcAsReads : (Z : Sizes) → ArcLent → List (Fixed Z.B) → Asking → Type 0
ArcAsReads Z t plain (one q) = Unit {0}
ArcAsReads Z t plain (many l buffer) = (arc_folder_call Z t l buffer).lent ≡ arc_served_in_turn Z t l
ArcAsReads Z t plain (report w lent) = Unit {0}
ArcAsReads Z t plain (recount k) = Unit {0}

-- after a full flush the disk is the plain disk
abbrev pub ArcFlushes : (Z : Sizes) → ArcLent → List (Fixed Z.B) → Asking → Type 0
ArcFlushes Z t plain q = q ≡ one (Ask.flush (m_of Z)) → (arc_next Z t q).base.disk ≡ join plain

-- "the disk is the plain disk's whenever a call leaves no row dirty"
abbrev pub ArcCleanIsPlain : (Z : Sizes) → ArcLent → List (Fixed Z.B) → Type 0
ArcCleanIsPlain Z t plain = All (λ r. r.dirty ≡ false) (box_of Z t).rows → t.base.disk ≡ join plain

-- "After every list of calls, each address of T1 and T2 has its block, T1, T2 and B3 hold at most C + X together, B1 and B2 together at most C";
-- and the lists name each held address once and no other, and p isn't above C
pub record ArcStateLaw (Z : Sizes) (t : ArcLent) : Type 0 where
  pub blocks : (a : ℕ) → on_top (lists_of t) a ≡ true → (r : AddressRow (Fixed 32)) × (row_with_block (labelled (base_numbers Z)) (box_of Z t) a ≡ some r)
  pub fit : length (lists_of t).T1 + length (lists_of t).T2 + length (lists_of t).B3 ≤ Z.C + Z.X
  pub few : length (lists_of t).B1 + length (lists_of t).B2 ≤ Z.C
  pub names : (a : ℕ) → named a (lists_of t) ≡ cond (held a (box_of Z t).rows) 1 0
  pub p_low : (lists_of t).p ≤ Z.C

-- The premise, of the first plain disk and the blocks written in the list: no two different blocks of these share a fingerprint.
abbrev pub ArcPremise : (Z : Sizes) → ArcLent → List Asking → Type 0
ArcPremise Z t qs = NoTwoShare (labelled (base_numbers Z)) (disk_of Z t ++ arc_written Z t qs)

-- The claim. t is the fresh box, and the plain disk begins as the blocks of t's disk; the last five are under the premise: "a user reads the plain disk".
pub record ArcDemand (Z : Sizes) (t : ArcLent) (qs : List Asking) : Type 0 where
  pub numbers : All ArcInList (arc_refusals Z t qs)
  pub state : ArcThroughout Z (λ x plain. ArcStateLaw Z x) t (disk_of Z t) qs
  -- U8: "Every reachable state has at most t dirty rows."
  pub dirty : ArcThroughout Z (λ x plain. FewDirty (base_numbers Z) (box_of Z x)) t (disk_of Z t) qs
  pub fingerprints : ArcPremise Z t qs → ArcThroughout Z (λ x plain. TrueFingerprints (labelled (base_numbers Z)) (box_of Z x) plain) t (disk_of Z t) qs
  pub blocks : ArcPremise Z t qs → ArcEachServed Z (ArcShows Z) t (disk_of Z t) qs
  pub as_reads : ArcPremise Z t qs → ArcEachServed Z (ArcAsReads Z) t (disk_of Z t) qs
  pub flushes : ArcPremise Z t qs → ArcEachServed Z (ArcFlushes Z) t (disk_of Z t) qs
  pub clean : ArcPremise Z t qs → ArcThroughout Z (ArcCleanIsPlain Z) t (disk_of Z t) qs
