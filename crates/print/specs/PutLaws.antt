-- Texts put one after the other, by the laws of `take` and `drop` over `◌++◌`. Assumes nothing.
use Rattle.std.specs.Prelude.{List, [], ◌++◌, ℕ, ◌+◌, ◌≤◌, length, take, drop}
use Rattle.std.proofs.Common.{sym, ap, ap₂, ◌∙◌, add-zero, add_assoc, length-append, take-append-drop}
use Rattle.block.specs.Blocks.{splice}
use Rattle.block.specs.Laws.{splice-next}
use Rattle.print.specs.Put.{Put}

pub put_next : (at : ℕ) (s t d d₁ d₂ : List ℕ) (n r : ℕ) → at ≤ length d → Put at s d n d₁ → Put n t d₁ r d₂ → Put at (s ++ t) d r d₂
put_next at s t d d₁ d₂ n r h p q = (
  q.0 ∙ ap (λ k. k + length t) p.0 ∙ add_assoc at (length s) (length t) ∙ ap (λ k. at + k) (sym (length-append s t)),
  q.1 ∙ ap₂ (λ k x. splice k t x) p.0 p.1 ∙ splice-next at s t d h,
)

-- no text
pub put-none : (at : ℕ) (d : List ℕ) → Put at [] d at d
unfolding splice
put-none at d = (sym (add-zero at), sym (ap (λ k. take at d ++ drop k d) (add-zero at) ∙ take-append-drop at d))
