-- By the list that the address was in. Assumes nothing.
use Rattle.arclists.specs.declared.ListName.TheVariants.{B1, B2}
use Rattle.arclists.specs.AdaptLaws.{up, down, as-told-in}
use Rattle.arclists.proofs.adapt.new_p.Goals as goal

pub returns-in-Some-B1 : goal.returns-in-Some-B1
returns-in-Some-B1 c =
    λ l z. as-told-in z _ _ B1 c.in-Some-B1.is (rw c.in-Some-B1.is at c.in-Some-B1.field-0-is)
    (up z _ c.change.ensures c.raised.ensures)

pub returns-in-Some-B2 : goal.returns-in-Some-B2
returns-in-Some-B2 c =
    λ l z. as-told-in z _ _ B2 c.in-Some-B2.is (rw c.in-Some-B2.is at c.in-Some-B2.field-0-is) (down z _ c.change-in-Some-B2.ensures c.saturating_sub.ensures)
