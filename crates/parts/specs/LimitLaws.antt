-- The rows that U8's limit asks for, in the paper's words. Assumes nothing.
use Rattle.std.specs.Prelude.{◌≡◌, true, false, cond, eqb, ltb, length, drop, unwrap_or}
use Rattle.std.proofs.Math.Path.{refl, ap}
use Rattle.std.proofs.Common.{sym, ◌∙◌, arith, drop-cons, ltb-true, lt-ltb, le-ltb}
use mathlib.Core.List.{List, [], ◌∷◌, map}
use Prim.Native.Nat.{ℕ, suc, ◌+◌, ◌≤◌, ◌<◌, ◌^◌}
use Rattle.std.proofs.lemmas.List.{length-map}
use Rattle.tables.specs.Rows.{rows, row_at}
use Rattle.tables.specs.RowLaws.{rows-length, rows_at}
use Rattle.tables.specs.Records.{read_address, held_rows}
use Rattle.tables.specs.Find.{find_from, is_dirty}
use Rattle.paper.specs.KeyedLaws.{by-test, All, all_map}
use Rattle.paper.specs.Cache.{AddressRow, dirty_rows}
use Rattle.paper.specs.Engine.{Fixed, comparing}
use Rattle.paper.specs.Lent.{as_held}
use Rattle.paper.proofs.LentLaws.{held-read}
use Rattle.paper.specs.Layout.{Addrs, addresses_of}
use Rattle.paper.specs.Index.{index_where}
use Rattle.paper.proofs.PartlyLaws.{dirty-few}
use Rattle.parts.specs.declared.BoxRecord.{BoxRecord}
use Rattle.parts.specs.TableLaws.{placed_first}
use Rattle.parts.specs.Limit.{dirty_in, excess_row}

-- where some row is dirty, one is found
first_found : (rs : List (List ℕ)) → 0 < dirty_in rs → index_where is_dirty rs < length rs
unfolding index_where
first_found [] = λ h. absurd (omega arith)
first_found (r ∷ rs) =
    by-test (eqb (read_address r).dirty 1)
    (λ e. rw e (λ h. omega arith))
    (λ e. rw e (λ h. let ih = first_found rs (omega (arith, h)) in omega (arith, ih)))

first-is : (n : ℕ) (t : List ℕ) → unwrap_or (find_from is_dirty 0 (rows n t)) n ≡ index_where is_dirty (rows n t)
first-is n t = ap (unwrap_or (find_from is_dirty 0 (rows n t))) (sym (rows-length n t)) ∙ placed_first is_dirty (rows n t)

-- there is one exactly where more rows are dirty than the limit
pub excess-is : (b : BoxRecord) (t : List ℕ) → ltb (excess_row b t) b.held ≡ ltb b.limit (dirty_in (rows b.held t))
excess-is b t =
    let rs = rows b.held t in
    by-test (ltb b.limit (dirty_in rs))
    (λ e. rw e (
    let over = ltb-true b.limit (dirty_in rs) e in
    let f = first-is b.held t in
    let g = first_found rs (omega (arith, over)) in
    lt-ltb (unwrap_or (find_from is_dirty 0 rs) b.held) b.held (omega (arith, f, g, rows-length b.held t))))
    (λ e. rw e (le-ltb b.held b.held (omega arith)))

-- the held rows in the paper's words
module _ (P m n : ℕ) (t : List ℕ) (l : List (AddressRow (Fixed 32))) (h : Addrs P m n t l) where
  rows-held : map as_held (map read_address (rows n t)) ≡ l
  unfolding addresses_of held_rows
  rows-held =
      let small = h.small in
      ap (λ k. map as_held (map read_address (rows k t))) (sym h.count) ∙ ap (λ x. map as_held (map read_address (rows (length l) x))) h.is
      ∙ held-read m l (all_map (λ r. r.address < P) (λ r. r.address < 2 ^ 32) (λ r y. omega (arith, y, small)) l h.below)

  pub dirty-in : dirty_in (rows n t) ≡ dirty_rows comparing l
  dirty-in = ap (dirty_rows comparing) rows-held

  first-held : (rs : List (List ℕ)) → index_where is_dirty rs ≡ index_where (λ r. r.dirty) (map as_held (map read_address rs))
  unfolding index_where
  first-held [] = refl
  first-held (r ∷ rs) = by-test (eqb (read_address r).dirty 1) (λ e. rw e refl) (λ e. rw e (ap suc (first-held rs)))

  pub first-dirty : unwrap_or (find_from is_dirty 0 (rows n t)) n ≡ index_where (λ r. r.dirty) l
  first-dirty = first-is n t ∙ first-held (rows n t) ∙ ap (index_where (λ r. r.dirty)) rows-held

-- ---- a pass from the newest row to the oldest

-- row k and those after it
pub dirty-turn : (n : ℕ) (t : List ℕ) (k : ℕ) → k < n
    → dirty_in (drop k (rows n t)) ≡ cond (is_dirty (row_at t k)) 1 0 + dirty_in (drop (suc k) (rows n t))
dirty-turn n t k h =
    ap dirty_in (drop-cons (rows n t) k [] (rw rows-length h) ∙ ap {B = List (List ℕ)} (λ x. x ∷ drop (suc k) (rows n t)) (rows_at n t k h))
    ∙ by-test (is_dirty (row_at t k)) (λ e. rw e refl) (λ e. rw e refl)

pub dirty-most : (rs : List (List ℕ)) → dirty_in rs ≤ length rs
dirty-most rs =
    let d = dirty-few comparing (map as_held (map read_address rs)) in
    let l = length-map (map read_address rs) as_held ∙ length-map rs read_address in
    omega (arith, d, l)
