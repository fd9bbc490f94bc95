-- The three checks in turn; what the first two let pass meets what the third asks. Assumes nothing.
use Rattle.std.proofs.Common.{rules, arith, sym, ◌∙◌}
use Rattle.table_laws.specs.Checked.{fit-addresses, fit-blocks, dirty-checked}
use Rattle.checks.proofs.sound.tables_refused.Goals as goal

pub returns-then-addresses_unsound : goal.returns-then-addresses_unsound
returns-then-addresses_unsound c = record {
  value = rw (sym c.addresses_unsound.ensures ∙ c.if-addresses_unsound.true);
  indexed = tt;
  heads_len = c.requires.0;
}

pub returns-then-blocks_unsound : goal.returns-then-blocks_unsound
returns-then-blocks_unsound c = record {
  value = rw (sym c.addresses_unsound.ensures ∙ c.if-addresses_unsound.false, sym c.blocks_unsound.ensures.value ∙ c.if-blocks_unsound.true);
  indexed = tt;
  heads_len = c.blocks_unsound.ensures.heads_len;
}

pub dirty_cached-requires : goal.dirty_cached-requires
dirty_cached-requires c =
    let a = c.args in
    let p = fit-addresses a.p a.m a.n a.addresses.now (sym c.addresses_unsound.ensures ∙ c.if-addresses_unsound.false) in
    let q = fit-blocks a.d a.blocks.now (sym c.blocks_unsound.ensures.value ∙ c.if-blocks_unsound.false) in
    record {
      has_rows = (omega (arith, p.0, p.2), (omega (arith, q.1), q.0));
      indexed = (c.blocks_unsound.ensures.heads_len, c.blocks_unsound.ensures.linked c.if-blocks_unsound.false);
    }

pub returns-then-dirty_cached : goal.returns-then-dirty_cached
returns-then-dirty_cached c =
    let a = c.args in
    record {
      value = rw (sym c.addresses_unsound.ensures ∙ c.if-addresses_unsound.false, sym c.blocks_unsound.ensures.value ∙ c.if-blocks_unsound.false, dirty-checked a.n a.d a.addresses.now a.blocks.now, sym c.dirty_cached.ensures ∙ c.if-dirty_cached.true);
      indexed = (c.blocks_unsound.ensures.heads_len, c.blocks_unsound.ensures.linked c.if-blocks_unsound.false);
      heads_len = c.blocks_unsound.ensures.heads_len;
    }

pub returns : goal.returns
returns c =
    let a = c.args in
    record {
      value = rw (sym c.addresses_unsound.ensures ∙ c.if-addresses_unsound.false, sym c.blocks_unsound.ensures.value ∙ c.if-blocks_unsound.false, dirty-checked a.n a.d a.addresses.now a.blocks.now, sym c.dirty_cached.ensures ∙ c.if-dirty_cached.false);
      indexed = tt;
      heads_len = c.blocks_unsound.ensures.heads_len;
    }
