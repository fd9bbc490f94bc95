-- By the list that it takes from. Assumes nothing.
use Rattle.arclists.specs.ReplaceLaws.{cond_yes, cond_no}
use Rattle.arclists.proofs.replace.move_top.Goals as goal

pub returns-then-top : goal.returns-then-top
returns-then-top c =
    record {
      by_index = (λ m l h. cond_yes _ _ _ c.if-top.true (c.move_lru.ensures.by_index m l h));
      result_value = c.move_lru.ensures.result_value;
    }

pub returns-else-top : goal.returns-else-top
returns-else-top c =
    record {
      by_index = (λ m l h. cond_no _ _ _ c.if-top.false (c.move_lru-else-top.ensures.by_index m l h));
      result_value = c.move_lru-else-top.ensures.result_value;
    }
