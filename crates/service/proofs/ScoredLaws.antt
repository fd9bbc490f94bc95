-- What C reads of the counts of an exam question: what is lent for them, with its right length, has the nine counts, 8 bytes each. Assumes nothing.
use Rattle.std.specs.Prelude.{◌≡◌, ◌||◌, List, ◌⊎◌, ℕ, ◌*◌, ◌^◌, ◌≤◌, ◌<◌, eqb, length, get_or}
use Rattle.std.proofs.Common.{ap, arith, eqb-true, ne_eqb}
use Rattle.std.proofs.Math.Bool.{not}
use Rattle.std.proofs.Math.Logic.{inl, inr}
use Rattle.std.proofs.Math.Nat.{pow-le-pow_left, pow-le-pow_right}
use Rattle.std.proofs.lemmas.Bool.{eqb-false}
use Rattle.paper.specs.KeyedLaws.{by-test, or_right}
use Rattle.paper.specs.Cache.{Numbers}
use Rattle.paper.specs.Lent.{unfit, limit_outside, other_length}
use Rattle.exam.specs.Scores.{nine_zeros}
use Rattle.exam.specs.Contract.{counts_bytes, wrong_lent, question_refusal, Counted, question}
use Rattle.exam.proofs.QuestionLaws.{exactly-question, posed, question-refused, question-total}
use Rattle.fields.specs.Fields.{get8}
use Rattle.fields.specs.FieldLaws.{count-read, counts-kept}
use Rattle.service.specs.Left.{leaves_scores}
use Rattle.service.specs.Scored.{total-most}

module _ (N : Numbers) (disk : List ℕ) (k : ℕ) (s : List ℕ) where
  abbrev number : ℕ
  number = question_refusal N disk k (length s)

  -- every count has 64 bits
  count_fits : (h : ℕ) → get_or (question N disk k (length s)).counts h 0 < 2 ^ 64
  count_fits h =
      by-test (eqb number 0)
      (λ e.
      let z = eqb-true number 0 e in
      let p = posed N disk k (length s) z in
      let most : N.P ^ k ≤ 4 ^ k = pow-le-pow_left p.few k in
      let top : 4 ^ k ≤ 4 ^ 8 = pow-le-pow_right {n = 4} (omega arith) {i = k} {j = 8} p.short in
      omega (arith, total-most (question N disk k (length s)).counts h, question-total N disk k (length s) z, most, top))
      (λ e.
      let r = ap (λ (c : Counted). get_or c.counts h 0) (question-refused N disk k (length s) (eqb-false number 0 e)) in
      omega (arith, r, total-most nine_zeros h))

  -- each of the nine fields is the count of its number of hits: in a refusal too, where they are 0
  pub scores-read : length s ≡ counts_bytes → (h : ℕ) → h < 9
      → get8 (leaves_scores N disk k s).counts (h * 8) ≡ get_or (question N disk k (length s)).counts h 0
  unfolding leaves_scores
  scores-read l h b = count-read (question N disk k (length s)).counts s l h b (count_fits h)

  -- with another length nothing is written, and the number is 1, 12 or 2
  pub scores-kept : (length s ≡ counts_bytes → ⊥) → (leaves_scores N disk k s).counts ≡ s
  unfolding leaves_scores
  scores-kept n = counts-kept (question N disk k (length s)).counts s n

  pub scores-other : (length s ≡ counts_bytes → ⊥) → (number ≡ 1) ⊎ ((number ≡ 12) ⊎ (number ≡ 2))
  unfolding wrong_lent
  scores-other n =
      let x = exactly-question N disk k (length s) in
      let w = or_right (other_length disk (N.P * N.B) || other_length N.label 64) (not (eqb (length s) counts_bytes))
      (ap not (ne_eqb (length s) counts_bytes n)) in
      by-test (unfit N)
      (λ e. inl (x.gives-1.1 (tt, e)))
      (λ e. inr (by-test (limit_outside N) (λ f. inl (x.gives-12.1 ((e, tt), f))) (λ f. inr (x.gives-2.1 ((e, (f, tt)), w)))))
