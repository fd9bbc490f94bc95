-- A refused read keeps all. Else the lent bytes are those of a sound box, and what the steps leave is the paper's call. Assumes nothing.
use Rattle.std.specs.Prelude.{ℕ}
use Rattle.std.proofs.Common.{rules, arith, refl, sym, ap, ◌∙◌}
use Rattle.std.proofs.Math.Option.{some}
use Rattle.std.proofs.lemmas.List.{length-replicate}
use Rattle.tables.specs.SoundLaws.{filled-with}
use Rattle.paper.specs.Cache.{Call, hit, miss, serve}
use Rattle.paper.specs.Lent.{Ask, call_of}
use Rattle.paper.proofs.CallLaws.{served-finds}
use Rattle.parts.specs.Rep.{numbers_of, engine}
use Rattle.refusals.specs.Given.{counters_of, lent}
use Rattle.policy.specs.Contract.{told}
use Rattle.policy.specs.CallLaws.{all-bytes, access, sound, finish, keep, fitting, read-says, said-is, hit-counted, read-block, one-le, yes_of, block_of}
use Rattle.policy.proofs.calls.read.Goals as goal

pub of_access-requires : goal.of_access-requires
of_access-requires c = (length-replicate {A = ℕ} 4353 0, filled-with 4353 0)

pub returns-in-Err : goal.returns-in-Err
returns-in-Err c =
    let a = c.args in
    ap (λ r. told r a.disk.now a.flash.now a.addresses.now a.blocks.now (some a.block.now)) c.refused.ensures
    ∙ keep a.b a.disk.now a.flash.now a.addresses.now a.blocks.now a.c (Ask.read a.a.0 a.block.now) c.in-Err.r c.in-Err.ensures.value _ refl

pub serve_read-s-requires-clause-access : goal.serve_read-s-requires-clause-access
serve_read-s-requires-clause-access c =
    let a = c.args in
    access a.b a.disk.now a.flash.now a.addresses.now a.blocks.now (counters_of a.c) (Ask.read a.a.0 a.block.now) (sym c.in_default.ensures.value)
    (all-bytes a.addresses.now (λ i. omega (arith, c.slice_known-3-1.given i))) (all-bytes a.blocks.now (λ i. omega (arith, c.slice_known-4-1.given i))) a.a.0 a.block.now refl refl

pub serve_read-s-requires-clause-lent_sound : goal.serve_read-s-requires-clause-lent_sound
serve_read-s-requires-clause-lent_sound c =
    let a = c.args in
    sound a.b a.disk.now a.flash.now a.addresses.now a.blocks.now (counters_of a.c) (Ask.read a.a.0 a.block.now) (sym c.in_default.ensures.value)
    (all-bytes a.addresses.now (λ i. omega (arith, c.slice_known-3-1.given i))) (all-bytes a.blocks.now (λ i. omega (arith, c.slice_known-4-1.given i)))

pub answered-requires : goal.answered-requires
answered-requires c =
    let a = c.args in
    let o = served-finds (numbers_of a.b) (lent a.b a.disk.now a.flash.now a.addresses.now a.blocks.now (counters_of a.c)) (Ask.read a.a.0 a.block.now) (sym c.in_default.ensures.value) in
    let s = c.serve_read-s in
    fitting a.c a.b.rows 1 c.one_if.result s.result.flashed s.result.primary o.counters o.fits.m-most (omega arith)
    (one-le s.result.yes c.one_if.result c.one_if.ensures) s.ensures.flashed_bound.0 s.ensures.flashed_bound.1

pub returns : goal.returns
unfolding call_of
returns c =
    let a = c.args in
    let z = sym c.in_default.ensures.value in
    let x = all-bytes a.addresses.now (λ i. omega (arith, c.slice_known-3-1.given i)) in
    let y = all-bytes a.blocks.now (λ i. omega (arith, c.slice_known-4-1.given i)) in
    let l = a.block.now in
    let q = Ask.read a.a.0 l in
    let k = counters_of a.c in
    let on = sound a.b a.disk.now a.flash.now a.addresses.now a.blocks.now k q z x y in
    let left = c.serve_read-s.ensures.block_after on.0 l on.1 on.2 in
    let o = c.serve_read-s.result in
    let says = read-says (numbers_of a.b) on.0 a.a.0 in
    let out = serve (engine a.b) (numbers_of a.b) on.0 (Call.read a.a.0) in
    let yes = yes_of a.b l out left in
    rw c.answered.ensures
    (finish a.b a.disk.now a.flash.now a.addresses.now a.blocks.now k q z c.read_word.result o.yes o.held o.flashed o.primary 1 c.one_if.result a.c l _ _ _ _ _ _ refl left
    (c.read_word.ensures ∙ said-is out.word hit miss o.yes says yes)
    refl
    (c.one_if.ensures ∙ hit-counted out.word o.yes says yes)
    (ap some (block_of a.b l out left) ∙ read-block a.a.0 l out.block)
    refl)
