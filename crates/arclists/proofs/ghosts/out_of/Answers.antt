-- The word at the list's first place is taken out. Assumes nothing.
use Rattle.arclists.specs.MoveLaws.{holds-out}
use Rattle.arclists.proofs.ghosts.out_of.Goals as goal

pub returns-clause-by_index : goal.returns-clause-by_index
returns-clause-by_index c =
    rw (c.with.ensures, c.size.ensures) (λ m l h. holds-out h c.args.from _ _ c.start.ensures c.total.ensures c.requires.1 c.remove_word.ensures)
