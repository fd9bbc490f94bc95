-- What the search of the addresses before finds is the first with the content. Assumes nothing.
use Rattle.std.specs.Prelude.{Bool, true, false, ◌≡◌, ℕ}
use Rattle.std.proofs.Common.{rules, ◌∙◌}
use Rattle.std.proofs.lemmas.Iterator.{first_from_Range}
use Rattle.tables.specs.Find.{same}
use Rattle.exam.specs.Small.{print_at}
use Rattle.exam.proofs.ContentLaws.{first-found}
use Rattle.exam.proofs.content.first_with.Goals as goal

pub returns-clause-is : goal.returns-clause-is
returns-clause-is c =
    let a = c.args in
    let t : ℕ → Bool = λ k. same (print_at a.b.label a.disk.now k) (print_at a.b.label a.disk.now a.a) in
    c.unwrap_or.ensures ∙ first-found t a.a c.find-first.result
    (first_from_Range _ _ _ _ (λ k. t k ≡ true) (λ k. t k ≡ false) c.find-first.ensures.ran (λ x q k. search rules) (λ x q k. search rules))
