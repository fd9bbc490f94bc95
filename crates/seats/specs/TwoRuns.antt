-- U7: "Two runs from one state, with the same calls but different seat numbers, must give the desk identical reports, answers and counts."
-- Assumes nothing.
use Rattle.std.specs.Prelude.{List, [], ◌∷◌, ℕ}
use Rattle.std.proofs.Math.Option.{Option}
use Rattle.paper.specs.Cache.{Numbers, Counters}
use Rattle.paper.specs.Lent.{Lent, Ask, Answer, call}
use Rattle.paper.specs.Reports.{desk, report_refusal, reported}
use Rattle.paper.specs.BatchLent.{Asking, one, many, report, recount, BatchAnswer, call_batch}
use Rattle.paper.specs.Demand3.{next}
use Rattle.arc.specs.Arc.{Sizes}
use Rattle.arc.specs.ArcLent.{ArcLent, arc_call}
use Rattle.arc.specs.ArcFolder.{arc_folder_call}
use Rattle.arc.specs.ArcReports.{arc_report_refusal, arc_reported}
use Rattle.arc.specs.ArcDemand.{arc_next}

-- "the same calls but different seat numbers": a call but for its seat number
abbrev pub bare_ask : Ask → Ask
bare_ask (Ask.read a l) = Ask.read a l
bare_ask (Ask.through a l z) = Ask.through a l 0
bare_ask (Ask.back a l z) = Ask.back a l 0
bare_ask (Ask.invalidate a l z) = Ask.invalidate a l 0
bare_ask (Ask.look a) = Ask.look a
bare_ask (Ask.flush k) = Ask.flush k

abbrev pub bare_asking : Asking → Asking
bare_asking (one q) = one (bare_ask q)
bare_asking (many l buffer) = many l buffer
bare_asking (report w lent) = report w lent
bare_asking (recount k) = recount k

-- "answers": what a call tells, with the bytes that it leaves in the block or buffer lent to it; of a report or a recount its number
pub data Told : Type 0 where
  single : Answer → (block : Option (List ℕ)) → (part : List ℕ) → Told
  folder : BatchAnswer → (buffer : List ℕ) → Told
  number : ℕ → Told

-- A kind of box in lent memory M: what a call tells and what it leaves, the desk's report made in lent bytes of any length, and the counters
pub record Runs (M : Type 0) : Type 0 where
  pub tells : M → Asking → Told
  pub next : M → Asking → M
  pub desk_report : M → (lent : List ℕ) → List ℕ
  pub counters : M → Counters

-- boxes that run D-LRU
abbrev pub lru_tells : Numbers → Lent → Asking → Told
lru_tells N t (one q) = let a = call N t q in single a.answer a.block a.part
lru_tells N t (many l buffer) = let a = call_batch N t l buffer in folder a.answer a.buffer
lru_tells N t (report w lent) = number (report_refusal N t w lent)
lru_tells N t (recount k) = number 0

abbrev pub lru_runs : Numbers → Runs Lent
lru_runs N = record { tells = lru_tells N; next = next N; desk_report = λ t lent. reported N t desk lent; counters = λ t. t.counters }

-- boxes that run D-ARC
abbrev pub arc_tells : Sizes → ArcLent → Asking → Told
arc_tells Z t (one q) = let a = arc_call Z t q in single a.answer a.block a.part
arc_tells Z t (many l buffer) = let a = arc_folder_call Z t l buffer in folder a.answer a.buffer
arc_tells Z t (report w lent) = number (arc_report_refusal Z t w lent)
arc_tells Z t (recount k) = number 0

abbrev pub arc_runs : Sizes → Runs ArcLent
arc_runs Z = record { tells = arc_tells Z; next = arc_next Z; desk_report = λ t lent. arc_reported Z t desk lent; counters = λ t. t.base.counters }

-- "identical reports, answers and counts": what the desk sees of a call and after it
pub record Seen : Type 0 where
  pub told : Told
  pub report : List ℕ
  pub counters : Counters

module _ {M : Type 0} (runs : Runs M) (lent : List ℕ) where
  abbrev pub seen : M → Asking → Seen
  seen t q = let u = runs.next t q in record { told = runs.tells t q; report = runs.desk_report u lent; counters = runs.counters u }

  -- .. and of a run
  unfoldable pub desk_sees : M → List Asking → List Seen
  desk_sees t [] = []
  desk_sees t (q ∷ qs) = seen t q ∷ desk_sees (runs.next t q) qs
