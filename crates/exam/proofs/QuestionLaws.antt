-- Of a question: each number is given exactly when its test is the first to hold; the counts' total, those beyond k, those of a refusal.
use Rattle.std.specs.Prelude.{◌≡◌, true, ◌||◌, ◌↔◌, ◌≢◌, ℕ, ◌*◌, ◌^◌, ◌≤◌, eqb, length, take, drop}
use Rattle.std.proofs.Math.Path.{refl, ap}
use Rattle.std.proofs.Common.{◌∙◌}
use Rattle.std.proofs.Math.Bool.{not}
use mathlib.Core.List.{List, [], ◌∷◌}
use Rattle.std.proofs.Math.Dec.{ltb}
use borrow.Author.Tests.{eqb-true, not-false, ltb-false, ne_eqb}
use Rattle.paper.specs.KeyedLaws.{or-false-left, or-false-right}
use Rattle.paper.specs.Cache.{Numbers}
use Rattle.paper.specs.Engine.{labelled}
use Rattle.paper.specs.Lent.{unfit, limit_outside, other_length, split, test, one_of}
use Rattle.paper.specs.Machines.{content_of}
use Rattle.paper.specs.RefusalLaws.{Apart, NoneOf}
use Rattle.paper.proofs.RefusalLaws.{gives, gives_none, in-first}
use Rattle.paper.proofs.CallLaws.{fits}
use Rattle.exam.specs.Scores.{nine_zeros, start, scores}
use Rattle.exam.specs.ScoreLaws.{total, totals}
use Rattle.exam.specs.Contract.{counts_bytes, wrong_lent, too_large, question_tests, question_refusal, counts_of, Counted, question}

module _ (N : Numbers) (disk : List ℕ) (k room : ℕ) where
  abbrev pub number : ℕ
  number = question_refusal N disk k room

  -- "It refuses with 17 if .., checked after 2."
  pub record ExactlyQuestion : Type 0 where
    pub gives-1 : number ≡ 1 ↔ (NoneOf [] × (unfit N ≡ true))
    pub gives-12 : number ≡ 12 ↔ (NoneOf (unfit N ∷ []) × (limit_outside N ≡ true))
    pub gives-2 : number ≡ 2 ↔ (NoneOf (unfit N ∷ limit_outside N ∷ []) × (wrong_lent N disk room ≡ true))
    pub gives-17 : number ≡ 17 ↔ (NoneOf (unfit N ∷ limit_outside N ∷ wrong_lent N disk room ∷ []) × (too_large N k ≡ true))
    pub gives-0 : number ≡ 0 ↔ NoneOf (unfit N ∷ limit_outside N ∷ wrong_lent N disk room ∷ too_large N k ∷ [])
    pub no_other : one_of number (0 ∷ 1 ∷ 12 ∷ 2 ∷ 17 ∷ []) ≡ true

  pub exactly-question : ExactlyQuestion
  unfolding question_refusal
  exactly-question =
      let l = question_tests N disk k room in
      let d : Apart l = (refl, (refl, (refl, (refl, (refl, tt))))) in
      record {
        gives-1 = gives [] (test (unfit N) 1) (drop 1 l) d;
        gives-12 = gives (take 1 l) (test (limit_outside N) 12) (drop 2 l) d;
        gives-2 = gives (take 2 l) (test (wrong_lent N disk room) 2) (drop 3 l) d;
        gives-17 = gives (take 3 l) (test (too_large N k) 17) [] d;
        gives-0 = gives_none l d;
        no_other = in-first l;
      }

  -- what a question that isn't refused has
  pub record Posed : Type 0 where
    pub size : N.B ≡ 64
    pub few : N.P ≤ 4
    pub rows : 1 ≤ N.m
    pub slots : 1 ≤ N.d
    pub whole : length disk ≡ N.P * 64
    pub label : length N.label ≡ 64
    pub lent : room ≡ counts_bytes
    pub short : k ≤ 8

  pub posed : number ≡ 0 → Posed
  unfolding wrong_lent too_large
  posed z =
      let x = exactly-question.gives-0.0 z in
      let f = fits N x.0 in
      let disk' = other_length disk (N.P * N.B) in
      let label' = other_length N.label 64 in
      let room' = not (eqb room counts_bytes) in
      let above = ltb 4 N.P in
      let other = not (eqb N.B 64) in
      let long = ltb 8 k in
      let w = or-false-left (disk' || label') room' x.1.1.0 in
      let v = or-false-left (above || other) long x.1.1.1.0 in
      let b : N.B ≡ 64 = eqb-true N.B 64 (not-false (eqb N.B 64) (or-false-right above other v)) in
      record {
        size = b;
        few = ltb-false 4 N.P (or-false-left above other v);
        rows = f.m-least;
        slots = f.d-least;
        whole = eqb-true (length disk) (N.P * N.B) (not-false (eqb (length disk) (N.P * N.B)) (or-false-left disk' label' w)) ∙ ap (λ x. N.P * x) b;
        label = eqb-true (length N.label) 64 (not-false (eqb (length N.label) 64) (or-false-right disk' label' w));
        lent = eqb-true room counts_bytes (not-false (eqb room counts_bytes) (or-false-right (disk' || label') room' x.1.1.0));
        short = ltb-false 8 k (or-false-right (above || other) long x.1.1.1.0);
      }

  -- "0 .. in a refusal"
  pub question-refused : number ≢ 0 → question N disk k room ≡ record { number = number; counts = nine_zeros }
  unfolding question
  question-refused n = rw (ne_eqb number 0 n) refl

  -- "each equals the number of lists with that many hits in the printed D-LRU"
  pub question-posed : number ≡ 0 → question N disk k room ≡ record { number = 0; counts = counts_of N disk k }
  unfolding question
  question-posed z = rw z refl

  -- "The counts total the number of addresses to the power k"
  pub question-total : number ≡ 0 → total (question N disk k room).counts ≡ N.P ^ k
  unfolding scores
  question-total z =
      ap (λ (c : Counted). total c.counts) (question-posed z)
      ∙ totals (labelled N).same N.m N.d (content_of (labelled N) (split N.B N.P disk)) N.P start k (posed z).short
