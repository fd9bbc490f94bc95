-- The tables by their fresh forms, the lists by as many zeros as they have bytes. Assumes nothing.
use Rattle.std.proofs.Common.{rules, arith, ap, ◌∙◌, replicate}
use Rattle.parts.specs.declared.BoxRecord.{BoxRecord}
use Rattle.tables.specs.Rows.{zeros}
use Rattle.tables.specs.Records.{fresh_addresses, fresh_blocks}
use Rattle.arccalls.proofs.opening.fresh_memory.Goals as goal

pub base_of-b-requires : goal.base_of-b-requires
base_of-b-requires c =
    let f = c.requires in
    let x = f.cached-most in
    let y = f.rows-most in
    (omega (arith, x), omega (arith, y))

pub fresh_addresses-requires : goal.fresh_addresses-requires
fresh_addresses-requires c = rw c.base_of-b.ensures c.requires.addresses-are

pub fresh_blocks-requires : goal.fresh_blocks-requires
fresh_blocks-requires c = let x = c.requires.cached-most in rw c.base_of-b.ensures (c.requires.blocks-are, omega (arith, x))

pub returns : goal.returns
unfolding zeros
returns c =
    record {
      addresses_after = c.fresh_addresses.ensures ∙ ap (λ (b : BoxRecord). fresh_addresses b.rows) c.base_of-b.ensures;
      table_after = c.fresh_blocks.ensures ∙ ap (λ (b : BoxRecord). fresh_blocks b.slots) c.base_of-b.ensures;
      lists_after = c.fill.ensures.after (search rules) ∙ ap (λ n. replicate n 0) c.requires.lists-are;
    }
