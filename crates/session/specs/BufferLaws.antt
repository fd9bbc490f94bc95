-- What the buffers hold, written over them, changes nothing. By the laws of `take` and `drop`. Assumes nothing.
use Rattle.std.specs.Prelude.{◌≡◌, ℕ, ◌*◌, ◌≤◌, min, List, ◌++◌, length, take, drop, nat_le}
use Rattle.std.proofs.Common.{sym, ap, ap₂, ◌∙◌, append-nil, zero-add, arith, length-take, take-append-drop, take_all, leb-true, leb-false}
use Rattle.std.proofs.Math.Nat.{min-eq_left, min-eq_right}
use Rattle.std.proofs.Math.Seq.{drop-length}
use Rattle.block.specs.Blocks.{splice}
use Rattle.paper.specs.KeyedLaws.{by-test}
use Rattle.paper.specs.Cache.{Counters}
use Rattle.parts.specs.declared.BoxRecord.{BoxRecord}
use Rattle.session.specs.Memory.{buffers, held, within, over}
use Rattle.tables.specs.Rows.{table_bytes}

pub same-buffers : {d d' f f' a a' e e' : List ℕ} → d ≡ d' → f ≡ f' → a ≡ a' → e ≡ e' → buffers d f a e ≡ buffers d' f' a' e'
same-buffers p q r s = cc

pub splice-first : (n : ℕ) (d : List ℕ) → splice 0 (take n d) d ≡ d
unfolding splice
splice-first n d = ap (λ k. take n d ++ drop k d) (zero-add (length (take n d)) ∙ length-take n d) ∙ back n d
  where
    back : (n : ℕ) (d : List ℕ) → take n d ++ drop (min n (length d)) d ≡ d
    back n d = by-test (nat_le n (length d))
        (λ y. ap (λ k. take n d ++ drop k d) (min-eq_left (leb-true n (length d) y)) ∙ take-append-drop n d)
        (λ y. let h : length d ≤ n = omega (arith, leb-false n (length d) y) in
        ap₂ (λ l k. l ++ drop k d) (take_all n d h) (min-eq_right h) ∙ ap (λ l. d ++ l) (drop-length d) ∙ append-nil d)

-- what the buffers hold, written over them
pub over-same : (b : BoxRecord) (k : Counters) (d f a e : List ℕ) → held b.held k (buffers d f a e) ≡ over (within b (buffers d f a e) k) (buffers d f a e)
unfolding over
over-same b k d f a e = ap (held b.held k) (same-buffers (sym (splice-first (b.blocks * b.size) d)) (sym (splice-first (b.slots * b.size) f))
    (sym (splice-first (table_bytes b.rows) a)) (sym (splice-first (table_bytes b.slots) e)))
