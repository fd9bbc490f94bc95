-- The hits of a list of reads in the printed D-LRU are the engine's: the counts are over the engine's own answers.
use Rattle.std.specs.Prelude.{◌≡◌, ℕ, ◌<◌, eqb, length}
use Rattle.std.proofs.Math.Path.{ap}
use Rattle.std.proofs.Common.{sym, ◌∙◌, arith}
use mathlib.Core.List.{List, [], map}
use Rattle.paper.specs.KeyedLaws.{All, all_map}
use Rattle.paper.specs.Cache.{Numbers}
use Rattle.paper.specs.Engine.{labelled}
use Rattle.paper.specs.Lent.{Lent, opening, refusal, opened, fresh}
use Rattle.paper.specs.Demand3.{Throughout}
use Rattle.paper.proofs.Demand3Laws.{demand-3, opened-written}
use Rattle.paper.proofs.RefusalLaws.{exactly-opening, opened-is}
use Rattle.counting.specs.TellHit.{NoneRefused, content_in}
use Rattle.exam.specs.Scores.{lists, how_many, nine, start, hits, with_hits, scores}
use Rattle.exam.specs.ScoreLaws.{each-list}
use Rattle.exam.specs.Contract.{question_refusal, Counted, question}
use Rattle.exam.proofs.QuestionLaws.{posed, question-posed}
use Rattle.exam.specs.EngineHits.{addresses-back, engine-hits, engine_hits, many-same, none-refused, reads_of}

-- no read of a list that is counted is refused: from a fresh box over the question's disk, over any flash and tables of their lengths, each read lent any
-- block of B bytes
pub list-served : (N : Numbers) (t : Lent) (k room : ℕ) (block : List ℕ) → question_refusal N t.disk k room ≡ 0 → refusal N t opening ≡ 0
    → length block ≡ N.B → (l : List ℕ) → length l ≡ k → All (λ a. a < N.P) l → NoneRefused N (opened N t) (reads_of block l)
unfolding fresh Throughout
list-served N t k room block z opens whole l e w =
    let p = posed N t.disk k room z in
    let k8 = p.short in
    let o = (exactly-opening N t).gives-0.0 opens in
    none-refused N block o.0 o.1.0 p.label whole l (opened N t) 0 (opened-written N t opens) (demand-3 N t [] opens).dirty
    (rw (opened-is N t opens) (omega arith, omega arith, omega arith, omega arith)) w (omega arith)

-- each count of a question is the number of lists to which the engine answers that many hits
pub engine-scores : (N : Numbers) (t : Lent) (k room : ℕ) (block : List ℕ) → question_refusal N t.disk k room ≡ 0 → refusal N t opening ≡ 0
    → length block ≡ N.B
    → (question N t.disk k room).counts ≡ map (λ h. how_many (λ l. eqb (engine_hits N t block l) h) (lists N.P k)) nine
unfolding scores with_hits
engine-scores N t k room block z opens whole =
    let H = labelled N in
    let hit-as : (l : List ℕ) → (length l ≡ k) × All (λ a. a < N.P) l → hits H.same N.m N.d (content_in N t) start l ≡ engine_hits N t block l
    = λ l w. ap (hits H.same N.m N.d (content_in N t) start) (sym (addresses-back block l))
    ∙ sym (engine-hits N t (reads_of block l) opens (list-served N t k room block z opens whole l w.0 w.1)) in
    let each : (h : ℕ) → how_many (λ l. eqb (hits H.same N.m N.d (content_in N t) start l) h) (lists N.P k)
    ≡ how_many (λ l. eqb (engine_hits N t block l) h) (lists N.P k)
    = λ h. many-same (λ l. eqb (hits H.same N.m N.d (content_in N t) start l) h) (λ l. eqb (engine_hits N t block l) h) (lists N.P k)
    (all_map (λ l. (length l ≡ k) × All (λ a. a < N.P) l)
    (λ l. eqb (hits H.same N.m N.d (content_in N t) start l) h ≡ eqb (engine_hits N t block l) h) (λ l w. ap (λ n. eqb n h) (hit-as l w))
    (lists N.P k) (each-list N.P k)) in
    ap (λ (c : Counted). c.counts) (question-posed N t.disk k room z) ∙ (λ i. map (λ h. each h i) nine)
