-- Demand 3 of the calls on lent bytes: from an opened box, for every list of calls of which each meets its contract, what each answers and leaves is the
-- paper's, and `Demand3` holds of the list. Assumes nothing.
use Rattle.std.specs.Prelude.{◌≡◌, refl, ℕ, eqb}
use Rattle.std.proofs.Common.{sym, ap, ◌∙◌, subst, subst₂, eqb-true}
use mathlib.Core.List.{List, [], ◌∷◌, map}
use Rattle.std.proofs.Math.Option.{Option, none}
use Rattle.std.proofs.lemmas.Bool.{eqb-false}
use Rattle.counters.specs.declared.Counters as Code
use Rattle.paper.specs.KeyedLaws.{by-test}
use Rattle.paper.specs.Cache.{Numbers, Counters}
use Rattle.paper.specs.Lent.{Lent, Ask, After, opening, calling, refusal, served, call, opened, with_label}
use Rattle.paper.proofs.RefusalLaws.{served-is, keeps, label-carried}
use Rattle.paper.specs.Demand3.{next, Demand3}
use Rattle.paper.specs.BatchLent.{Asking, one, many, report, BatchAfter, call_batch}
use Rattle.paper.specs.Reports.{Reader, report_refusal, reported}
use Rattle.paper.specs.Demand3Laws.{Written}
use Rattle.paper.proofs.Demand3Laws.{demand-3, opened-written, next-written, look-stays}
use Rattle.parts.specs.declared.BoxRecord.{BoxRecord}
use Rattle.parts.specs.Rep.{numbers_of}
use Rattle.refusals.specs.Given.{counters_of, lent}
use Rattle.outcome.specs.declared.Outcome.{Outcome}
use Rattle.open.specs.Contract.{Opened, begun, opens}
use Rattle.refusal.specs.declared.Refusal.{Refusal}
use Rattle.refusal.specs.Numbers.{number_of}
use Rattle.policy.specs.declared.Answered.{Answered}
use Rattle.policy.specs.declared.Batch.{Batch}
use Rattle.policy.specs.Contract.{answer_of, Told, told, called, many_answer_of, ToldMany, told_many, called_many}
use Rattle.look.specs.Listed.{Follows, InTurn, Is, Made, asked_by, first, follows}

-- The theorem. `open` was called, by its contract told r and left addresses' and blocks', and was not refused; then any list of calls, one after the other.
module _ (b : BoxRecord) (disk flash addresses blocks : List ℕ) (k : Counters) (r : Outcome (Unit {0}) BoxRecord) (addresses' blocks' : List ℕ) (cs : List Made) where
  abbrev pub given : Lent
  given = lent b disk flash addresses blocks k

  pub policy-demand-3 : begun r disk flash addresses' blocks' ≡ opens b disk flash addresses blocks k → number_of r.answer ≡ 0
      → InTurn (first r disk flash addresses' blocks') cs
      → Follows (numbers_of b) (opened (numbers_of b) given) cs × Demand3 (numbers_of b) (opened (numbers_of b) given) (map asked_by cs)
  policy-demand-3 e z m =
      let o : refusal (numbers_of b) given opening ≡ 0 = sym (ap (λ (x : Opened). x.number) e) ∙ z in
      let i : Is (numbers_of b) (first r disk flash addresses' blocks') (opened (numbers_of b) given)
      = record {
        numbers = ap (λ (x : Opened). x.numbers) e ∙ ap (with_label (numbers_of b)) (label-carried (numbers_of b) given o);
        lent = ap (λ (x : Opened). x.lent) e;
      } in (
        follows (numbers_of b) (first r disk flash addresses' blocks') (opened (numbers_of b) given) cs i (opened-written (numbers_of b) given o) m,
        demand-3 (numbers_of b) given (map asked_by cs) o,
      )
