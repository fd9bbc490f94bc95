-- What passes is sound: `passed`. Assumes nothing.
use Rattle.std.specs.Prelude.{◌≡◌, true, Result, Ok, Err, is_ok}
use Rattle.std.proofs.Common.{refl, sym, ◌∙◌}
use Rattle.refusal.specs.declared.Refusal.{Refusal}
use Rattle.refusal.specs.Numbers.{number_of}
use Rattle.table_laws.specs.Promises.{passed}
use Rattle.tables_probe.proofs.asked.passed.Goals as goal

ok-number : {A : Type 0} (r : Result A Refusal) → is_ok r ≡ true → number_of r ≡ 0
ok-number (Ok x) e = refl
ok-number (Err r) e = cc

pub returns-clause-sound : goal.returns-clause-sound
returns-clause-sound c e =
    let a = c.args in
    passed a.p a.m a.n a.d a.addresses.now a.blocks.now (sym c.tables_refused.ensures.value ∙ ok-number c.tables_refused.result (sym c.is_ok.ensures.value ∙ e))
