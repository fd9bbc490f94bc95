-- The law says what the first block row that no held row has is of the paper's rows. Assumes nothing.
use Rattle.std.specs.Prelude.{unwrap_or, Option, ℕ, is_some}
use Rattle.std.proofs.Common.{rules, sym, ap, ◌∙◌}
use Rattle.parts.proofs.Indexed.{unknown-is}
use Rattle.parts.proofs.rows.unknown_place.Goals as goal

pub returns : goal.returns
returns c =
    let a = c.args in
    record {
      value = c.unwrap_or.ensures ∙ ap (λ (f : Option ℕ). unwrap_or f a.d) c.oldest_unknown.ensures;
      by_index = λ P m l used h hb. c.unwrap_or.ensures ∙ unknown-is P m a.n a.d a.addrs.now a.blocks.now l used h hb _ (sym c.oldest_unknown.ensures);
    }
