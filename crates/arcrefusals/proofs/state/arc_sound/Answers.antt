-- The tables' own number where it is 6, then the lists, then the tables' own number. Assumes nothing.
use Rattle.std.proofs.Common.{◌≡◌, Err, rules, refl, sym, ap, ◌∙◌}
use Rattle.refusal.specs.declared.Refusal.TheVariants.{BadAddresses}
use Rattle.refusal.specs.Numbers.{number_of}
use Rattle.arcrefusals.specs.Given.{sizes_of}
use Rattle.arcrefusals.specs.StateLaws.{own_is, own-6, own-passes, lists-6, own-rest, held-rows, held_below, held-apart, addresses-held, six-is}
use Rattle.arcrefusals.proofs.state.arc_sound.Goals as goal

pub returns-then-eq-clause-value : goal.returns-then-eq-clause-value
returns-then-eq-clause-value c =
    let a = c.args in
    let v = c.tables_refused-first.ensures.value
    ∙ own_is a.a a.addresses.now a.blocks.now a.lists.now _ (ap (λ b. b.rows) c.base_of-b.ensures) c.requires.fits in
    let e : c.tables_refused-first.result ≡ Err BadAddresses = search rules in
    rw e (own-6 a.a a.addresses.now a.blocks.now a.lists.now (sym v ∙ ap (λ r. number_of r) e))

pub lists_unsound-requires : goal.lists_unsound-requires
lists_unsound-requires c =
    let a = c.args in
    let v = c.tables_refused-first.ensures.value
    ∙ own_is a.a a.addresses.now a.blocks.now a.lists.now _ (ap (λ b. b.rows) c.base_of-b.ensures) c.requires.fits in
    let no : c.tables_refused-first.result ≡ Err BadAddresses → ⊥ = search rules in
    let p = own-passes a.a a.addresses.now a.blocks.now a.lists.now (λ z. no (six-is _ (v ∙ z))) in
    let f = c.requires.fits in
    record {
      extra_bound = f.rows-most;
      lists_len = (f.lists-are, held-rows a.a a.addresses.now a.blocks.now a.lists.now f p);
      by_index = held_below a.a a.addresses.now a.blocks.now a.lists.now f p;
      addresses_value = held-apart a.a a.addresses.now a.blocks.now a.lists.now f p;
    }

pub returns-then-lists_unsound-clause-value : goal.returns-then-lists_unsound-clause-value
returns-then-lists_unsound-clause-value c =
    let a = c.args in
    lists-6 a.a a.addresses.now a.blocks.now a.lists.now
    (sym (c.lists_unsound.ensures (sizes_of a.a) _ (refl, refl) (addresses-held a.a.held a.addresses.now)) ∙ c.if-lists_unsound.true)

pub returns-clause-value : goal.returns-clause-value
returns-clause-value c =
    let a = c.args in
    let v = c.tables_refused-first.ensures.value
    ∙ own_is a.a a.addresses.now a.blocks.now a.lists.now _ (ap (λ b. b.rows) c.base_of-b.ensures) c.requires.fits in
    let no : c.tables_refused-first.result ≡ Err BadAddresses → ⊥ = search rules in
    let p = own-passes a.a a.addresses.now a.blocks.now a.lists.now (λ z. no (six-is _ (v ∙ z))) in
    v ∙ own-rest a.a a.addresses.now a.blocks.now a.lists.now p
    (sym (c.lists_unsound.ensures (sizes_of a.a) _ (refl, refl) (addresses-held a.a.held a.addresses.now)) ∙ c.if-lists_unsound.false)
