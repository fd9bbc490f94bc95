use mathlib.Core.Path.{◌≡◌, refl, sym, ap, ◌∙◌, subst}
use mathlib.Core.List.{List, [], ◌∷◌, ◌++◌, map}
use Prim.Native.Nat.{ℕ, ◌+◌, ◌*◌, ◌≤◌, ◌<◌}
use native.Mathlib.Omega.{arith}
use native.Mathlib.Numerals.{add-one}
use lib.ListN.{length, drop}
use Rattle.tables.specs.Rows.{rows, flat}
use Rattle.tables.specs.Records.{block_bytes, free_row, slots_from, block_table, fresh_blocks}
use Rattle.tables.specs.RowLaws.{flat-all}
use Rattle.tables.proofs.OperationLaws.{rows_pushed, length-pushed, free-length, slots-snoc, map-++}
use Rattle.tables.specs.Operations.{row_added}
use Rattle.tables.proofs.fresh.fresh_blocks.Goals as goal

pub loop-k-init : goal.loop-k-init
unfolding rows
loop-k-init c = (omega arith, refl, refl)

pub loop-k-preserved : goal.loop-k-preserved
unfolding row_added
loop-k-preserved c =
    let a = c.args in
    let k : ℕ = c.loop-k.k in
    let t : List ℕ = c.loop-k.t in
    let row : List ℕ = c.free-free.result in
    let rest : List ℕ = drop (k * 40 + 40) t in
    let h : k < a.d = (omega arith) in
    let lt : length t ≡ length a.t.now = c.loop-k.invariant.1 in
    let g : k * 40 + 40 ≤ length t = omega (arith, c.requires.0) in
    let lr : length row ≡ 40 = ap length c.free-free.ensures ∙ free-length k in
    let z : k ≡ 0 + k = omega arith in (
      omega arith,
      ap length c.push_row.ensures ∙ length-pushed k t row g lr ∙ lt,
      ap (rows (k + 1)) c.push_row.ensures ∙ rows_pushed k t row rest (omega arith) lr
          ∙ rw (c.loop-k.invariant.2, c.free-free.ensures, add-one)
          (sym (ap (λ (x : List ℕ). map block_bytes (map free_row x)) (slots-snoc 0 k ∙ ap (λ (j : ℕ). slots_from 0 k ++ (j ∷ [])) (sym z)) ∙ ap (map block_bytes) (map-++ free_row (slots_from 0 k) (k ∷ [])) ∙ map-++ block_bytes (map free_row (slots_from 0 k)) (free_row k ∷ []))),
    )

pub returns : goal.returns
unfolding fresh_blocks block_table
returns c =
    let a = c.args in
    let e : c.loop-k.k ≡ a.d = omega (arith, c.loop-k.invariant.0) in
    let f : length c.loop-k.t ≡ a.d * 40 = c.loop-k.invariant.1 ∙ c.requires.0 in
    sym (flat-all a.d c.loop-k.t f) ∙ ap flat (subst (λ (k : ℕ). rows k c.loop-k.t ≡ map block_bytes (map free_row (slots_from 0 k))) e c.loop-k.invariant.2)
