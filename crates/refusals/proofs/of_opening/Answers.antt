-- The three tests are 1, 12 and 2 of the paper, and numbers that pass 1 are not too large for the products of 2. Assumes nothing.
use mathlib.Core.Path.{◌≡◌, sym, ◌∙◌}
use lib.ListN.{length}
use Rattle.std.proofs.Common.{rules}
use mathlib.Core.List.{[], ◌∷◌}
use Rattle.paper.specs.Cache.{Counters}
use Rattle.paper.specs.Lent.{unfit, limit_outside, wrong_buffers}
use Rattle.paper.specs.RefusalLaws.{NoneOf}
use Rattle.paper.proofs.RefusalLaws.{exactly-opening}
use Rattle.parts.specs.Rep.{numbers_of}
use Rattle.refusals.specs.Given.{lent}
use Rattle.refusals.specs.Sizes.{most}
use Rattle.refusals.proofs.Refusing.{wrong-is}
use Rattle.refusals.proofs.of_opening.Goals as goal
use Rattle.refusals.proofs.of_opening.Goals.{After-lengths_wrong, Else-limit_unfit, Start}

-- the label is an array: what is known of a record has it after the five numbers
label-long : (s : Start) → length s.args.b.label ≡ 64
label-long s = let g = s.well_formed.0.1.1.1.1.1.1.1.0 in search rules

fits : (c : Else-limit_unfit) → NoneOf (unfit (numbers_of c.args.b) ∷ limit_outside (numbers_of c.args.b) ∷ [])
fits c =
    (sym c.numbers_unfit.ensures ∙ c.if-numbers_unfit.false, (sym c.limit_unfit.ensures ∙ c.if-limit_unfit.false, tt))

-- the four lengths are those of 2
wrong-lengths : (c : After-lengths_wrong) (k : Counters)
    → (let a = c.args in
    c.lengths_wrong.result ≡ wrong_buffers (numbers_of a.b) (lent a.b a.disk.now a.flash.now a.addresses.now a.blocks.now k))
wrong-lengths c k =
    let label-long : length c.args.b.label ≡ 64 = let g = c.well_formed.0.1.1.1.1.1.1.1.0 in search rules in
    let a = c.args in
    c.lengths_wrong.ensures ∙ wrong-is a.b a.disk.now a.flash.now a.addresses.now a.blocks.now k label-long

pub returns-then-numbers_unfit : goal.returns-then-numbers_unfit
returns-then-numbers_unfit c k =
    let a = c.args in
    sym ((exactly-opening (numbers_of a.b) (lent a.b a.disk.now a.flash.now a.addresses.now a.blocks.now k)).gives-1.1
    (tt, sym c.numbers_unfit.ensures ∙ c.if-numbers_unfit.true))

pub returns-then-limit_unfit : goal.returns-then-limit_unfit
returns-then-limit_unfit c k =
    let a = c.args in
    sym ((exactly-opening (numbers_of a.b) (lent a.b a.disk.now a.flash.now a.addresses.now a.blocks.now k)).gives-12.1
    ((sym c.numbers_unfit.ensures ∙ c.if-numbers_unfit.false, tt), sym c.limit_unfit.ensures ∙ c.if-limit_unfit.true))

pub lengths_wrong-requires : goal.lengths_wrong-requires
lengths_wrong-requires c =
    let m = most c.args.b (fits c).0 in
    (m.size, m.blocks, m.rows, m.slots)

pub returns-then-lengths_wrong : goal.returns-then-lengths_wrong
returns-then-lengths_wrong c k =
    let label-long : length c.args.b.label ≡ 64 = let g = c.well_formed.0.1.1.1.1.1.1.1.0 in search rules in
    let fits : NoneOf (unfit (numbers_of c.args.b) ∷ limit_outside (numbers_of c.args.b) ∷ []) =
    (sym c.numbers_unfit.ensures ∙ c.if-numbers_unfit.false, (sym c.limit_unfit.ensures ∙ c.if-limit_unfit.false, tt)) in
    let wrong-lengths : (k : Counters)
    → (let a = c.args in
    c.lengths_wrong.result ≡ wrong_buffers (numbers_of a.b) (lent a.b a.disk.now a.flash.now a.addresses.now a.blocks.now k)) = λ k.
    let a = c.args in
    c.lengths_wrong.ensures ∙ wrong-is a.b a.disk.now a.flash.now a.addresses.now a.blocks.now k label-long in
    let a = c.args in
    sym ((exactly-opening (numbers_of a.b) (lent a.b a.disk.now a.flash.now a.addresses.now a.blocks.now k)).gives-2.1
    (fits, sym (wrong-lengths k) ∙ c.if-lengths_wrong.true))

pub returns : goal.returns
returns c k =
    let label-long : length c.args.b.label ≡ 64 = let g = c.well_formed.0.1.1.1.1.1.1.1.0 in search rules in
    let fits : NoneOf (unfit (numbers_of c.args.b) ∷ limit_outside (numbers_of c.args.b) ∷ []) =
    (sym c.numbers_unfit.ensures ∙ c.if-numbers_unfit.false, (sym c.limit_unfit.ensures ∙ c.if-limit_unfit.false, tt)) in
    let wrong-lengths : (k : Counters)
    → (let a = c.args in
    c.lengths_wrong.result ≡ wrong_buffers (numbers_of a.b) (lent a.b a.disk.now a.flash.now a.addresses.now a.blocks.now k)) = λ k.
    let a = c.args in
    c.lengths_wrong.ensures ∙ wrong-is a.b a.disk.now a.flash.now a.addresses.now a.blocks.now k label-long in
    let a = c.args in
    let f = fits in
    sym ((exactly-opening (numbers_of a.b) (lent a.b a.disk.now a.flash.now a.addresses.now a.blocks.now k)).gives-0.1
    (f.0, (f.1.0, (sym (wrong-lengths k) ∙ c.if-lengths_wrong.false, tt))))
