-- The bit was set before, or there is room for it in its byte and the others stay: `bit-set`. Assumes nothing.
use mathlib.Core.Path.{sym, ap, ◌∙◌, subst}
use mathlib.Core.Bool.{false≢true}
use mir.Syntax.{w8}
use mir.Val.{Fits}
use Prim.Native.Nat.{ℕ, ◌+◌, ◌/◌, ◌%◌, ◌^◌, ◌<◌}
use native.Mathlib.Omega.{arith}
use lib.ListN.{get_or, set, length-set}
use Rattle.std.proofs.Common.{rules}
use borrow.Author.Tests.{eq-eqb, ne_eqb}
use Rattle.tables.specs.Bits.{bit_at, bit-room, bit_shifted, bit-set}
use Rattle.tables.proofs.distinct.set_bit.Goals as goal
use Rattle.tables.proofs.distinct.set_bit.Goals.{After-slice_known-1}

bytes : (c : After-slice_known-1) (i : ℕ) → get_or c.args.seen.now i 0 < 256
bytes c i = omega (arith, c.slice_known-1.given i)

pub returns-then-b-i-ne0 : goal.returns-then-b-i-ne0
returns-then-b-i-ne0 c =
    let a = c.args in
    record {
      value = sym (ne_eqb (bit_at a.seen.now a.x) 0 c.if-b-i-ne0.true);
      y_after = (λ e. absurd (false≢true e));
      seen_len_unchanged = search rules;
    }

pub overflow_add-seen : goal.overflow_add-seen
overflow_add-seen c =
    let bytes : (i : ℕ) → get_or c.args.seen.now i 0 < 256 = λ i. omega (arith, c.slice_known-1.given i) in
    let a = c.args in
    let s = a.seen.now in
    let h = bit-room s bytes a.x c.if-b-i-ne0.false in
    let f : Fits w8 (get_or s (a.x / 8) 0 + 2 ^ (a.x % 8)) = omega (arith, h) in
    subst (λ (p : ℕ). Fits w8 (get_or s (a.x / 8) 0 + p)) (sym (bit_shifted s bytes a.x c.if-b-i-ne0.false)) f

pub returns : goal.returns
returns c =
    let bytes : (i : ℕ) → get_or c.args.seen.now i 0 < 256 = λ i. omega (arith, c.slice_known-1.given i) in
    let a = c.args in
    let s = a.seen.now in
    let b = bytes in
    let z = c.if-b-i-ne0.false in
    record {
      value = sym (eq-eqb (bit_at s a.x) 0 z);
      y_after = (λ q y. ap (λ (p : ℕ). bit_at (set s (a.x / 8) (get_or s (a.x / 8) 0 + p)) y) (bit_shifted s b a.x z) ∙ bit-set s b a.x z y (omega arith));
      seen_len_unchanged = length-set s _ _;
    }
