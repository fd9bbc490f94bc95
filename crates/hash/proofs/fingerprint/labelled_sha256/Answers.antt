-- `hash::fingerprint::labelled_sha256` meets its contract.
-- Assumes nothing.
use Rattle.std.proofs.Common.{ℕ, List, sym, ap, ◌∙◌, rules}
use Rattle.hash.specs.Sha256.{digest}
use Rattle.hash.proofs.Whole.{whole}
use Rattle.hash.proofs.fingerprint.labelled_sha256.Goals as goal

pub returns : goal.returns
returns c =
    c.digest.ensures
    ∙ ap (λ (l : List ℕ). digest l 8)
    (c.compress.ensures
    ∙ rw (
      c.blocks-2.ensures,
      c.compress-s.ensures,
      c.initial.ensures,
      c.last_chunk-last.ensures,
      c.bit_length.ensures,
    ))
    ∙ sym (whole c.args.label c.args.block.now (search rules) c.requires)
