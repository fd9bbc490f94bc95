-- U8: "From fresh, and until a 9, each read's block and its hit or miss are as without the limit."
-- Assumes nothing.
use Rattle.std.specs.Prelude.{◌≡◌, List, [], ◌∷◌, ◌≢◌, ℕ}
use Rattle.std.proofs.Math.Option.{Option, none, some}
use Rattle.paper.specs.Cache.{Numbers, Word}
use Rattle.paper.specs.Lent.{Lent, call, opened}
use Rattle.paper.specs.BatchLent.{Asking, one, many, report, recount, BatchAnswer, refused, batched, call_batch}
use Rattle.paper.specs.Demand3.{number_of, next, returned, said_word}
use Rattle.arc.specs.Arc.{Sizes, m_of}
use Rattle.arc.specs.ArcLent.{ArcLent, arc_call, arc_opened}
use Rattle.arc.specs.ArcFolder.{arc_folder_call}
use Rattle.arc.specs.ArcDemand.{arc_number, arc_next, arc_returned}

-- What is compared of a call that gets a number: of a single one its word, a read's hit or miss, and the block that it returns; of a folder read the hits and
-- the buffer. A report has the dirty bytes, which the limit changes: its number alone. A recount has no more.
pub data Shown : Type 0 where
  single : (number : ℕ) → Option Word → (block : Option (List ℕ)) → Shown
  folder : (number : ℕ) → (hits : Option ℕ) → (buffer : List ℕ) → Shown
  number : ℕ → Shown

abbrev pub hits_said : BatchAnswer → Option ℕ
hits_said (refused k) = none
hits_said (batched hits flash_writes primary_writes fetches) = some hits

-- A kind of box in lent memory M: the number that a call gets, 0 where it is served, what it shows, and what it leaves
pub record Kind (M : Type 0) : Type 0 where
  pub number : M → Asking → ℕ
  pub shows : M → Asking → Shown
  pub next : M → Asking → M

-- boxes that run D-LRU
abbrev pub lru_shows : Numbers → Lent → Asking → Shown
lru_shows N t (one q) = single (number_of N t (one q)) (said_word (call N t q).answer) (returned q (call N t q))
lru_shows N t (many l buffer) = let a = call_batch N t l buffer in folder (number_of N t (many l buffer)) (hits_said a.answer) a.buffer
lru_shows N t (report w lent) = number (number_of N t (report w lent))
lru_shows N t (recount k) = number 0

abbrev pub lru_kind : Numbers → Kind Lent
lru_kind N = record { number = number_of N; shows = lru_shows N; next = next N }

-- boxes that run D-ARC
abbrev pub arc_shows : Sizes → ArcLent → Asking → Shown
arc_shows Z t (one q) = single (arc_number Z t (one q)) (said_word (arc_call Z t q).answer) (arc_returned q (arc_call Z t q))
arc_shows Z t (many l buffer) = let a = arc_folder_call Z t l buffer in folder (arc_number Z t (many l buffer)) (hits_said a.answer) a.buffer
arc_shows Z t (report w lent) = number (arc_number Z t (report w lent))
arc_shows Z t (recount k) = number 0

abbrev pub arc_kind : Sizes → Kind ArcLent
arc_kind Z = record { number = arc_number Z; shows = arc_shows Z; next = arc_next Z }

-- "until a 9": in either of two runs of the same calls each shows the same, as long as no call of either has got 9
unfoldable pub UntilNine : {M : Type 0} → Kind M → Kind M → M → M → List Asking → Type 0
UntilNine a b t u [] = Unit {0}
UntilNine a b t u (q ∷ qs) = a.number t q ≢ 9 → b.number u q ≢ 9 → (a.shows t q ≡ b.shows u q) × UntilNine a b (a.next t q) (b.next u q) qs

-- "without the limit": with the limit m, which no state passes (`limit-m`, `arc-limit-m`)
abbrev pub unlimited : Numbers → Numbers
unlimited N = record { B = N.B; P = N.P; m = N.m; d = N.d; label = N.label; t = N.m }

abbrev pub arc_unlimited : Sizes → Sizes
arc_unlimited Z = record { B = Z.B; P = Z.P; C = Z.C; X = Z.X; label = Z.label; t = m_of Z }

-- "From fresh": the claim about every list of calls, for each kind of box
abbrev pub AsWithout : Numbers → Lent → List Asking → Type 0
AsWithout N t qs = UntilNine (lru_kind N) (lru_kind (unlimited N)) (opened N t) (opened (unlimited N) t) qs

abbrev pub ArcAsWithout : Sizes → ArcLent → List Asking → Type 0
ArcAsWithout Z t qs = UntilNine (arc_kind Z) (arc_kind (arc_unlimited Z)) (arc_opened Z t) (arc_opened (arc_unlimited Z) t) qs
