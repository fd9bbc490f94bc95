-- The place that is found, k where there is none. Assumes nothing.
use Rattle.std.proofs.Common.{◌≡◌, true, false, eqb, get_or, take, length, rules, arith, length-take-le}
use borrow.Author.Tests.{tests}
use Rattle.std.proofs.lemmas.Iterator.{YieldsList-from_slice, IsFirst-from_position}
use Rattle.turns.proofs.Listing.{index-found}
use Rattle.turns.proofs.first_of.Goals as goal

pub returns : goal.returns
returns c =
    let a = c.args in
    let p = eqb (get_or a.asked.now a.k 0) in
    let e : length (take a.k a.asked.now) ≡ a.k = length-take-le a.k a.asked.now (omega arith) in
    let f = IsFirst-from_position _ _ c.position.result (λ x. p x ≡ true) (λ x. p x ≡ false) c.position.ensures.ran
    (YieldsList-from_slice (take a.k a.asked.now) cc) (λ x q k. search (rules, tests)) (λ x q k. search (rules, tests)) in
    let x = rw e at (index-found p (take a.k a.asked.now) c.position.result f) in
    rw c.unwrap_or.ensures x
