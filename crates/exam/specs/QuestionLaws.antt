-- Of a question: each number is given exactly when its test is the first to hold; the counts' total, those beyond k, those of a refusal.
use Rattle.std.specs.Prelude.{◌≡◌, ℕ, zero, suc, ◌<◌, eqb, get_or}
use Rattle.std.proofs.Math.Path.{refl}
use mathlib.Core.List.{List, map}
use Rattle.paper.specs.KeyedLaws.{by-test}
use Rattle.paper.specs.Cache.{Numbers}
use Rattle.paper.specs.Engine.{labelled}
use Rattle.paper.specs.Lent.{split}
use Rattle.paper.specs.Machines.{content_of}
use Rattle.exam.specs.Scores.{nine, start, with_hits, scores}
use Rattle.exam.specs.ScoreLaws.{beyond}
use Rattle.exam.specs.Contract.{question_refusal, question}

nine-at : (f : ℕ → ℕ) (k : ℕ) → ((h : ℕ) → k < h → f h ≡ 0) → (h : ℕ) → k < h → get_or (map f nine) h 0 ≡ 0
nine-at f k e zero l = e 0 l
nine-at f k e (suc zero) l = e 1 l
nine-at f k e (suc (suc zero)) l = e 2 l
nine-at f k e (suc (suc (suc zero))) l = e 3 l
nine-at f k e (suc (suc (suc (suc zero)))) l = e 4 l
nine-at f k e (suc (suc (suc (suc (suc zero))))) l = e 5 l
nine-at f k e (suc (suc (suc (suc (suc (suc zero)))))) l = e 6 l
nine-at f k e (suc (suc (suc (suc (suc (suc (suc zero))))))) l = e 7 l
nine-at f k e (suc (suc (suc (suc (suc (suc (suc (suc zero)))))))) l = e 8 l
nine-at f k e (suc (suc (suc (suc (suc (suc (suc (suc (suc h))))))))) l = refl

abbrev nothing : ℕ → ℕ
nothing x = 0

-- "0 beyond k and in a refusal"
pub question-beyond : (N : Numbers) (disk : List ℕ) (k room h : ℕ) → k < h → get_or (question N disk k room).counts h 0 ≡ 0
unfolding question scores
question-beyond N disk k room h l =
    let content = content_of (labelled N) (split N.B N.P disk) in
    by-test (eqb (question_refusal N disk k room) 0)
    (λ z. rw z (nine-at (with_hits (labelled N).same N.m N.d content N.P start k) k
    (beyond (labelled N).same N.m N.d content N.P start k) h l))
    (λ z. rw z (nine-at nothing k (λ g i. refl) h l))
