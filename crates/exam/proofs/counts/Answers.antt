-- What the search gives, of the contents told by the first address that has each. Assumes nothing.
use mathlib.Core.Path.{ap, ◌∙◌}
use Rattle.paper.specs.Engine.{fingerprinting}
use Rattle.paper.specs.Lent.{split}
use Rattle.paper.specs.Machines.{content_of}
use Rattle.exam.specs.declared.search.Question.{Question}
use Rattle.exam.specs.Small.{searched}
use Rattle.exam.proofs.Simulated.{searched-scores}
use Rattle.exam.proofs.ContentLaws.{contents-are}
use Rattle.exam.proofs.counts.Goals as goal

pub returns : goal.returns
returns c =
    let a = c.args in
    let b = a.b in
    let q : Question = record { blocks = b.blocks; rows = b.rows; slots = b.slots; contents = c.contents.result } in
    c.search.ensures ∙ ap (λ z. searched q z a.k) c.fresh.ensures
    ∙ searched-scores (fingerprinting b.label 64).same (content_of (fingerprinting b.label 64) (split 64 b.blocks a.disk.now)) q
    (contents-are b.label a.disk.now q c.requires.0 c.requires.3 c.contents.ensures) c.requires.1 c.requires.2 a.k
