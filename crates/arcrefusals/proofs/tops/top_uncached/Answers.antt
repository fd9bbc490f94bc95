-- The names of T1 and T2 are marked, and each row is asked. Assumes nothing.
use mathlib.Core.Path.{refl, ap, ◌∙◌, subst}
use mathlib.Core.Bool.{not}
use Prim.Native.Nat.{ℕ}
use native.Mathlib.Omega.{arith}
use Rattle.tables.specs.Bits.{bit_at, has-bit, no_bits}
use Rattle.tables.specs.SoundLaws.{Marked}
use Rattle.arc.specs.Arc.{base_numbers}
use Rattle.arc.specs.ArcLent.{words, tops_in}
use Rattle.arclists.specs.Names.{fine}
use Rattle.arclists.specs.Holding.{rec_of}
use Rattle.refusals.specs.Given.{lent}
use Rattle.arcrefusals.specs.Given.{sizes_of, base_of}
use Rattle.arcrefusals.specs.TopLaws.{uncached-tell}
use Rattle.arcrefusals.proofs.tops.top_uncached.Goals as goal

pub names_marked-requires : goal.names_marked-requires
names_marked-requires c =
    record {
      n_in_bounds = (omega (arith, c.tops_of.ensures), refl);
      by_index = (λ x h. no_bits 8192 x (has-bit 8192 x h));
    }

pub returns : goal.returns
returns c =
    let tops-marked : (let a = c.args in Marked (bit_at c.names_marked.new.seen) 65536 (tops_in (rec_of a.a.sizes) a.lists.now)) =
    let l = c.args.lists.now in
    let e = c.tops_of.ensures in
    subst (λ (n : ℕ). Marked (bit_at c.names_marked.new.seen) 65536 (words n l)) e
    (c.names_marked.ensures.marked (c.names_marked.ensures.value ∙ ap (λ (n : ℕ). fine (words n l)) e ∙ c.requires.lists_value)) in
    let a = c.args in
    λ disk flash k. ap not c.tops_ok.ensures
    ∙ uncached-tell (base_numbers (sizes_of a.a)) (lent (base_of a.a) disk flash a.addresses.now a.blocks.now k) c.names_marked.new.seen
    (tops_in (rec_of a.a.sizes) a.lists.now) c.requires.has_rows.0 c.requires.has_rows.1.0 c.requires.by_index tops-marked
