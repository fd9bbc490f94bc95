-- An opening of fitting numbers over buffers of the right lengths is fresh. By the refusal's tests.
use mathlib.Core.Path.{◌≡◌, ap, ap₂, ◌∙◌}
use mathlib.Core.Bool.{false}
use mathlib.Core.List.{List}
use Prim.Native.Nat.{ℕ, ◌*◌}
use lib.ListN.{length, replicate}
use borrow.Author.Tests.{eq-eqb}
use Rattle.paper.specs.Cache.{Numbers, Counters}
use Rattle.paper.specs.Lent.{Lent, wrong_buffers, fresh, with_label}
use Rattle.paper.proofs.RefusalLaws.{exactly-opening, opened-is, label-carried}
use Rattle.parts.specs.declared.BoxRecord.{BoxRecord}
use Rattle.parts.specs.Rep.{numbers_of}
use Rattle.refusals.specs.Given.{counters_of, lent}
use Rattle.open.specs.Contract.{Opened, begun, opens}
use Rattle.outcome.specs.declared.Outcome.{Outcome}
use Rattle.answers.specs.Replay.{Opening, start_disk, started}
use Rattle.answers.specs.Done.{record_of}
use Rattle.tables.specs.Rows.{table_bytes}

lengths-right : (N : Numbers) (t : Lent) → length t.disk ≡ N.P * N.B → length t.flash ≡ N.d * N.B → length t.addresses ≡ table_bytes N.m → length t.blocks ≡ table_bytes N.d → length N.label ≡ 64 → wrong_buffers N t ≡ false
unfolding wrong_buffers
lengths-right N t a b c d l = rw (eq-eqb (length N.label) 64 l, eq-eqb (length t.disk) (N.P * N.B) a, eq-eqb (length t.flash) (N.d * N.B) b, eq-eqb (length t.addresses) (table_bytes N.m) c, eq-eqb (length t.blocks) (table_bytes N.d) d)

pub start_is : (r : Outcome (Unit {0}) BoxRecord) (b : BoxRecord) (d f a' t' a t : List ℕ) (k : Counters) → Opening (numbers_of b)
    → length d ≡ b.blocks * b.size → length f ≡ b.slots * b.size → length a ≡ table_bytes b.rows → length t ≡ table_bytes b.slots → length b.label ≡ 64
    → d ≡ start_disk b.size b.blocks → f ≡ replicate (b.slots * b.size) 0
    → begun r d f a' t' ≡ opens (record_of (numbers_of b) 0) d f a t k
    → (numbers_of r.box_record ≡ numbers_of b) × (lent r.box_record d f a' t' (counters_of r.counters) ≡ started (numbers_of b))
unfolding started fresh
start_is r b d f a' t' a t k u ld lf la lt ll ed ef e =
    let N = numbers_of b in
    let l = lent (record_of N 0) d f a t k in
    let zero = (exactly-opening N l).gives-0.1 (u.0, (u.1, (lengths-right N l ld lf la lt ll, tt))) in (
      ap (λ (x : Opened). x.numbers) e ∙ ap (with_label N) (label-carried N l zero),
      ap (λ (x : Opened). x.lent) e ∙ opened-is N l zero ∙ ap₂ (λ x y. fresh N (lent (record_of N 0) x y a t k)) ed ef,
    )
