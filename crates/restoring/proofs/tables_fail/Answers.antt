-- The tables have the lengths that their check asks for, and what it gives is the definition's. Assumes nothing.
use Prim.Native.Nat.{ℕ}
use lib.ListN.{length-replicate}
use Rattle.tables.specs.SoundLaws.{filled-with}
use Rattle.restoring.specs.FoundLaws as Laws
use Rattle.std.proofs.Common.{◌∙◌}
use Rattle.restoring.proofs.tables_fail.Goals as goal

pub of_tables-requires : goal.of_tables-requires
of_tables-requires c =
    record {
      blocks_bound = c.requires;
      blank = (length-replicate {A = ℕ} 4353 0, filled-with 4353 0);
    }

pub returns : goal.returns
returns c u w =
    let a = c.args in
    c.is_err.ensures.value ∙ Laws.tables-fail a.b a.addresses.now a.blocks.now _ c.of_tables.ensures.value
