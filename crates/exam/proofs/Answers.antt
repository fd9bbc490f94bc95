-- The answers by the number. Assumes nothing.
use Rattle.std.specs.Prelude.{◌≡◌, List, ℕ, Ok, Err}
use Rattle.std.proofs.Common.{refl, sym, ap, ◌∙◌}
use Rattle.refusal.specs.declared.Refusal.{Refusal}
use Rattle.refusal.specs.Numbers.{code, refused}
use Rattle.paper.specs.Cache.{Numbers}
use Rattle.paper.specs.Engine.{fingerprinting}
use Rattle.paper.specs.Lent.{split, with_label}
use Rattle.parts.specs.declared.BoxRecord.{BoxRecord}
use Rattle.parts.specs.Rep.{numbers_of, empty_box}
use Rattle.paper.specs.Machines.{content_of}
use Rattle.exam.specs.Scores.{nine_zeros, scores}
use Rattle.exam.specs.Contract.{question_refusal, Counted, question, told}
use Rattle.exam.proofs.QuestionLaws.{posed, question-refused, question-posed}

-- the refusal of the numbers in a box's record, under a label, is of the numbers that the record is made of
pub of-record : (N : Numbers) (disk : List ℕ) (k room : ℕ) (b : BoxRecord) (none : List ℕ) → b ≡ empty_box N.B N.P N.m N.d N.t none
    → question_refusal (with_label (numbers_of b) N.label) disk k room ≡ question_refusal N disk k room
of-record N disk k room b none e = rw e refl

module _ (N : Numbers) (disk : List ℕ) (k room : ℕ) where
  pub refused-answer : (r : Refusal) → code r ≡ question_refusal N disk k room → told (Err r) ≡ question N disk k room
  refused-answer r e =
      ap {B = Counted} (λ y. record { number = y; counts = nine_zeros }) e ∙ sym (question-refused N disk k room (λ z. refused r (e ∙ z)))

  -- counts over blocks of 64 bytes, where nothing is refused
  pub posed-answer : (c : List ℕ) → question_refusal N disk k room ≡ 0
      → c ≡ scores (fingerprinting N.label 64).same N.m N.d (content_of (fingerprinting N.label 64) (split 64 N.P disk)) N.P k
      → told (Ok c) ≡ question N disk k room
  posed-answer c z s =
      ap {B = Counted} (λ l. record { number = 0; counts = l })
      (s ∙ ap (λ (b : ℕ). scores (fingerprinting N.label b).same N.m N.d (content_of (fingerprinting N.label b) (split b N.P disk)) N.P k)
      (sym (posed N disk k room z).size))
      ∙ sym (question-posed N disk k room z)
