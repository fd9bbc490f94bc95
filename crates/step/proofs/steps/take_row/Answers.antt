-- The place and the rows left, each by a law of the tables. Assumes nothing.
use mathlib.Core.Path.{sym, ◌∙◌}
use lib.ListN.{get_or}
use Rattle.parts.specs.Rep.{no_row}
use Rattle.parts.specs.MoveLaws.{fp-is, removed}
use Rattle.std.proofs.Common.{rules}
use Rattle.step.proofs.steps.take_row.Goals as goal

pub returns : goal.returns
returns c =
    let a = c.args in
    λ l free used h hb. (
      c.place_of-place.ensures.by_index free used (get_or l a.i no_row).fingerprint hb (sym (c.address_fingerprint.ensures.0 ∙ fp-is a.b.blocks a.b.rows a.b.held a.addrs.now l h a.i c.requires.0 no_row)),
      c.remove_row.ensures ∙ removed a.b.blocks a.b.rows a.b.held a.addrs.now l h a.i c.requires.0 no_row,
    )
