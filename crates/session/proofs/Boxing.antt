-- The box in the first bytes of the buffers: lent as parts of them, and put back. By the laws of `take` and `drop`.
use Rattle.std.proofs.Common.{◌≡◌, ℕ, ◌-◌, ◌*◌, ◌≤◌, List, ◌++◌, length, take, drop, sym, refl, ap, ◌∙◌, zero-add, arith, length-take-le}
use native.Mathlib.Nat.{sub-zero}
use borrow.Rule.Slice.PartMut.{put_mid}
use Rattle.block.specs.Blocks.{splice}
use Rattle.paper.specs.Cache.{Counters}
use Rattle.paper.specs.Lent.{Lent}
use Rattle.parts.specs.declared.BoxRecord.{BoxRecord}
use Rattle.refusals.specs.Given.{lent}
use Rattle.session.specs.Memory.{buffers, held, within, over, Sized, Holds}
use Rattle.session.specs.BufferLaws.{same-buffers}
use Rattle.tables.specs.Rows.{table_bytes}

-- a first part is as long as it says
pub first-length : (n : ℕ) (d : List ℕ) → n ≤ length d → length (take (n - 0) d) ≡ n
first-length n d h = ap (λ k. length (take k d)) (sub-zero n) ∙ length-take-le n d h

-- a first part put back
first_back : (n : ℕ) (d y : List ℕ) → n ≤ length d → length y ≡ length (take (n - 0) d) → put_mid 0 (n - 0) d y ≡ splice 0 y d
unfolding splice
first_back n d y h e = ap (λ k. y ++ drop k d) (sub-zero n ∙ sym (zero-add (length y) ∙ e ∙ first-length n d h))

-- what is lent to a call as parts is what the buffers hold
pub within-is : (b : BoxRecord) (k : Counters) (d f a e : List ℕ)
    → lent b (take (b.blocks * b.size - 0) d) (take (b.slots * b.size - 0) f) (take (table_bytes b.rows - 0) a) (take (table_bytes b.slots - 0) e) k ≡ within b (buffers d f a e) k
within-is b k d f a e = rw (sub-zero (b.blocks * b.size), sub-zero (b.slots * b.size), sub-zero (table_bytes b.rows), sub-zero (table_bytes b.slots)) refl

-- the parts, as a call leaves them, put back
pub put_back : (b r : BoxRecord) (k : Counters) (t : Lent) (d f a e d' f' a' e' : List ℕ) → Holds b → Sized d f a e
    → length d' ≡ length (take (b.blocks * b.size - 0) d) → length f' ≡ length (take (b.slots * b.size - 0) f) → length a' ≡ length (take (table_bytes b.rows - 0) a) → length e' ≡ length (take (table_bytes b.slots - 0) e)
    → lent r d' f' a' e' k ≡ t
    → held r.held k (buffers (put_mid 0 (b.blocks * b.size - 0) d d') (put_mid 0 (b.slots * b.size - 0) f f') (put_mid 0 (table_bytes b.rows - 0) a a') (put_mid 0 (table_bytes b.slots - 0) e e')) ≡ over t (buffers d f a e)
unfolding over
put_back b r k t d f a e d' f' a' e' h z ld lf la le i =
    ap (held r.held k) (same-buffers (first_back (b.blocks * b.size) d d' (omega arith) ld) (first_back (b.slots * b.size) f f' (omega arith) lf) (first_back (table_bytes b.rows) a a' (omega arith) la) (first_back (table_bytes b.slots) e e' (omega arith) le))
    ∙ ap (λ x. over x (buffers d f a e)) i
