-- A call's equation, taken apart; and the blocks that lines fill. By the parts of equal records, and by induction on the size.
use mathlib.Core.Path.{◌≡◌, refl, sym, ap, ap₂, ◌∙◌}
use mathlib.Core.List.{List, ◌∷◌}
use mathlib.Core.Option.{Option}
use Rattle.std.specs.Prelude.{Some, Result}
use Prim.Native.Nat.{ℕ, zero, suc, ◌-◌, ◌≤◌}
use native.Mathlib.Nat.{sub-zero, le_of_suc-le-suc, not-suc-le-zero}
use lib.ListN.{take, replicate}
use Rattle.paper.specs.Cache.{Counters}
use Rattle.paper.specs.Lent.{Lent, Ask, call}
use Rattle.paper.specs.RowBytes.{Bytes}
use Rattle.paper.proofs.CallLaws.{look-keeps}
use Rattle.parts.specs.declared.BoxRecord.{BoxRecord}
use Rattle.parts.specs.Rep.{numbers_of}
use Rattle.refusals.specs.Given.{lent}
use Rattle.policy.specs.Contract.{answer_of, Told, told, called}
use Rattle.policy.specs.declared.Answered.{Answered}
use Rattle.outcome.specs.declared.Outcome.{Outcome}
use Rattle.refusal.specs.declared.Refusal.{Refusal}
use Rattle.answers.specs.Replay.{Done, doing}
use Rattle.answers.specs.Done.{done_of}

pub call-done : (r : Outcome Answered BoxRecord) (b : BoxRecord) (d f a t : List ℕ) (x : Option (List ℕ)) (l : Lent) (q q' : Ask) → told r d f a t x ≡ called b l q → q ≡ q'
    → (numbers_of r.box_record ≡ numbers_of b) × (done_of r d f a t ≡ doing (numbers_of b) l (Some q'))
unfolding doing
call-done r b d f a t x l q q' e i =
    (ap (λ (y : Told). y.numbers) e, ap {B = Done} (λ (y : Told). record { answer = y.after.answer; lent = y.after.lent }) e ∙ ap (λ p. doing (numbers_of b) l (Some p)) i)

-- a look leaves what is lent
pub look-done : (r : Result Answered Refusal) (b : BoxRecord) (d f a t : List ℕ) (k : Counters) (x : ℕ) → Bytes a → Bytes t → answer_of r ≡ (call (numbers_of b) (lent b d f a t k) (Ask.look x)).answer
    → record { answer = answer_of r; lent = lent b d f a t k } ≡ doing (numbers_of b) (lent b d f a t k) (Some (Ask.look x))
unfolding doing
look-done r b d f a t k x ba bt e = ap₂ {C = Done} (λ y z. record { answer = y; lent = z }) e (sym (look-keeps (numbers_of b) (lent b d f a t k) x ba bt))

take-filled : (k n x : ℕ) → k ≤ n → take k (replicate n x) ≡ replicate k x
take-filled zero n x h = refl
take-filled (suc k) zero x h = absurd (not-suc-le-zero h)
take-filled (suc k) (suc n) x h = ap {B = List ℕ} (λ l. x ∷ l) (take-filled k n x (le_of_suc-le-suc h))

pub block-filled : (k n x : ℕ) → k ≤ n → take (k - 0) (replicate n x) ≡ replicate k x
block-filled k n x h = ap (λ j. take j (replicate n x)) (sub-zero k) ∙ take-filled k n x h
