-- The word at the list's first place is its oldest name. Assumes nothing.
use Rattle.arclists.specs.ReplaceLaws.{name_of}
use Rattle.arclists.proofs.ghosts.oldest.Goals as goal

pub returns : goal.returns
returns c = λ m l h low. name_of c.args.from h low _ _ c.start.ensures c.word_at.ensures c.requires.1
