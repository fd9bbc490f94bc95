-- The lent bytes are those of a sound box, and what the copies leave is the paper's flush of at most k. Assumes nothing.
use mathlib.Core.Path.{◌≡◌, refl}
use mathlib.Core.List.{[]}
use mathlib.Core.Option.{none}
use native.Mathlib.Omega.{arith}
use Rattle.std.proofs.Common.{rules}
use Rattle.paper.specs.Cache.{serve, flushed}
use Rattle.paper.specs.Lent.{Lent, Ask, call_of}
use Rattle.paper.proofs.CallLaws.{served-finds}
use Rattle.policy.specs.declared.Word.TheVariants.{Done}
use Rattle.parts.specs.Rep.{numbers_of}
use Rattle.refusals.specs.Given.{counters_of, lent}
use Rattle.policy.specs.CallLaws.{all-bytes, sized, sound, finish, fitting}
use Rattle.policy.proofs.calls.flush_served.Goals as goal
use Rattle.policy.proofs.calls.flush_served.Goals.{Start}

-- what is lent
abbrev given : Start → Lent
given s = let a = s.args in lent a.b a.disk.now a.flash.now a.addresses.now a.blocks.now (counters_of a.c)

pub serve_flush-s-requires : goal.serve_flush-s-requires
serve_flush-s-requires c =
    let given : Lent = let a = c.args in lent a.b a.disk.now a.flash.now a.addresses.now a.blocks.now (counters_of a.c) in
    let a = c.args in
    let z = c.requires.k_value in
    let x = all-bytes a.addresses.now (λ i. omega (arith, c.slice_known-2-1.given i)) in
    let y = all-bytes a.blocks.now (λ i. omega (arith, c.shared_slice_known-2-1.given i)) in
    let k = counters_of a.c in
    let o = served-finds (numbers_of a.b) given (Ask.flush a.k) z in
    let l = sized a.b a.disk.now a.flash.now a.addresses.now a.blocks.now k (Ask.flush a.k) z x y in
    let on = sound a.b a.disk.now a.flash.now a.addresses.now a.blocks.now k (Ask.flush a.k) z x y in
    record {
      slots_nonzero = (o.fits.d-least, o.fits.d-most, l);
      lent_box = (on.0, on.1);
      indexed = c.requires.indexed;
    }

pub answered-requires : goal.answered-requires
answered-requires c =
    let given : Lent = let a = c.args in lent a.b a.disk.now a.flash.now a.addresses.now a.blocks.now (counters_of a.c) in
    let a = c.args in
    let o = served-finds (numbers_of a.b) given (Ask.flush a.k) c.requires.k_value in
    fitting a.c a.b.rows 0 0 c.serve_flush-s.result.flashed c.serve_flush-s.result.primary o.counters o.fits.m-most (omega arith)
    (omega arith) c.serve_flush-s.ensures.flashed_bound.0 c.serve_flush-s.ensures.flashed_bound.1

pub returns : goal.returns
unfolding call_of serve flushed
returns c =
    let a = c.args in
    let z = c.requires.k_value in
    let x = all-bytes a.addresses.now (λ i. omega (arith, c.slice_known-2-1.given i)) in
    let y = all-bytes a.blocks.now (λ i. omega (arith, c.shared_slice_known-2-1.given i)) in
    let k = counters_of a.c in
    let on = sound a.b a.disk.now a.flash.now a.addresses.now a.blocks.now k (Ask.flush a.k) z x y in
    let left = c.serve_flush-s.ensures.lent_after on.0 [] on.1 in
    let o = c.serve_flush-s.result in
    rw c.answered.ensures
    (finish a.b a.disk.now a.flash.now a.addresses.now a.blocks.now k (Ask.flush a.k) z Done o.yes o.held o.flashed
    o.primary 0 0 a.c [] _ _ _ _ [] none refl left refl refl refl refl refl)
