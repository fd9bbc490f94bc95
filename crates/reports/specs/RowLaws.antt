-- What is filled row by row is the report of the paper's rows. Assumes nothing.
use Rattle.std.specs.Prelude.{◌≡◌}
use Rattle.std.proofs.Math.Path.{refl, sym, ap, ap₂}
use Rattle.std.proofs.Common.{◌∙◌, zero-mul, suc-mul, add-zero, take-suc, lt-ltb, le-ltb}
use mathlib.Core.List.{List, [], ◌∷◌, ◌++◌, map, append_assoc, append-nil}
use Prim.Native.Nat.{ℕ, zero, suc, ◌+◌, ◌-◌, ◌*◌, ◌≤◌, ◌<◌}
use native.Mathlib.Omega.{arith}
use Rattle.std.proofs.Math.ListN.{length, take, get_or}
use Rattle.std.proofs.lemmas.List.{replicate-append-replicate}
use Rattle.std.proofs.Math.Seq.{take_all}
use Rattle.tables.specs.Rows.{row_at, flat, zeros}
use Rattle.tables.specs.Records.{bytes4}
use Rattle.tables.specs.RowLaws.{flat_append}
use Rattle.tables.proofs.OperationLaws.{map-++}
use Rattle.paper.specs.Cache.{AddressRow}
use Rattle.paper.specs.Engine.{Fixed}
use Rattle.paper.specs.Lent.{bit}
use Rattle.paper.specs.Layout.{Addrs}
use Rattle.paper.specs.Reports.{Reader, manager, desk, width, report_row, report_of}
use Rattle.parts.specs.Rep.{no_row}
use Rattle.parts.specs.MoveLaws.{address_is, dirty-is, seat-is}
use Rattle.reports.specs.RowByRow.{row_report, rows_in}

-- a desk's row is the first bytes of the manager's
row_cut : (w : Reader) (r : AddressRow (Fixed 32)) → take (width w) (report_row manager r) ≡ report_row w r
row_cut manager r = refl
row_cut desk r = refl

zeros-cut : (w : Reader) → take (width w) (zeros 7) ≡ zeros (width w)
unfolding zeros
zeros-cut manager = refl
zeros-cut desk = refl

flat-one : (r : List ℕ) → flat (r ∷ []) ≡ r
unfolding flat
flat-one r = append-nil r

zeros-more : (a b : ℕ) → zeros a ++ zeros b ≡ zeros (a + b)
unfolding zeros
zeros-more a b = replicate-append-replicate a b 0

module _ (w : Reader) (P m n : ℕ) (t : List ℕ) (l : List (AddressRow (Fixed 32))) (h : Addrs P m n t l) where
  row_is : (k : ℕ) → k < n → row_report (row_at t k) ≡ report_row manager (get_or l k no_row)
  row_is k b =
      let r = get_or l k no_row in
      let a = address_is P m n t l h k b no_row in
      let d = dirty-is P m n t l h k b no_row in
      let z = seat-is P m n t l h k b no_row in
      λ i. bytes4 (a i) ++ (bit (d i) ∷ (z i).0 ∷ (z i).1 ∷ [])

  -- the held rows
  held-rows : (k : ℕ) → k ≤ n → rows_in (width w) n t k ≡ flat (map (report_row w) (take k l))
  unfolding rows_in flat
  held-rows zero b = refl
  held-rows (suc k) b =
      let lt : k < length l = omega (arith, h.count) in
      let r = get_or l k no_row in
      ap₂ {C = List ℕ} ◌++◌ (held-rows k (omega arith))
      (rw (lt-ltb k n b) (ap (take (width w)) (row_is k b) ∙ row_cut w r ∙ sym (flat-one (report_row w r))))
      ∙ sym (flat_append (map (report_row w) (take k l)) (report_row w r ∷ []))
      ∙ ap flat (sym (map-++ (report_row w) (take k l) (r ∷ [])))
      ∙ ap (λ x. flat (map (report_row w) x)) (sym (take-suc l k no_row lt))

  -- and zeros behind them
  zero-rows : (j : ℕ) → rows_in (width w) n t (n + j) ≡ rows_in (width w) n t n ++ zeros (j * width w)
  unfolding rows_in zeros
  zero-rows zero = ap (rows_in (width w) n t) (add-zero n) ∙ rw (zero-mul (width w)) (sym (append-nil (rows_in (width w) n t n)))
  zero-rows (suc j) =
      let e : n + suc j ≡ suc (n + j) = omega arith in
      let s : j * width w + width w ≡ suc j * width w = sym (suc-mul j (width w)) in
      ap (rows_in (width w) n t) e
      ∙ ap₂ {C = List ℕ} ◌++◌ (zero-rows j) (rw (le-ltb (n + j) n (omega arith)) (zeros-cut w))
      ∙ append_assoc (rows_in (width w) n t n) (zeros (j * width w)) (zeros (width w))
      ∙ ap (λ x. rows_in (width w) n t n ++ x) (zeros-more (j * width w) (width w) ∙ ap zeros s)

  pub rows_are : rows_in (width w) n t m ≡ report_of w m l
  unfolding report_of
  rows_are =
      let e : n + (m - n) ≡ m = omega (arith, h.few) in
      let all : take n l ≡ l = take_all n l (omega (arith, h.count)) in
      ap (rows_in (width w) n t) (sym e)
      ∙ zero-rows (m - n)
      ∙ ap₂ {C = List ℕ} ◌++◌ (held-rows n (omega arith) ∙ ap (λ x. flat (map (report_row w) x)) all) (ap (λ k. zeros ((m - k) * width w)) (sym h.count))
