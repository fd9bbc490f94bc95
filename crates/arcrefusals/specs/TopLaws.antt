-- 8 of the lists, row by row. Assumes nothing.
use Rattle.std.specs.Prelude.{◌≡◌, Bool, ◌&&◌, ◌||◌, cond, ℕ, ◌≤◌, ◌<◌, eqb, ltb, length, None, Option, Some, is_none}
use Rattle.std.proofs.Math.Path.{refl, ap₂}
use Rattle.std.proofs.Common.{sym, ap, ◌∙◌, arith, lt-ltb, le-ltb}
use Rattle.std.proofs.Math.Bool.{true, false, not}
use mathlib.Core.List.{List, [], ◌∷◌, map}
use Rattle.tables.specs.Rows.{row_bytes, HasRows, rows, row_at}
use Rattle.tables.specs.Records.{read_address, read_block, held_rows, block_rows}
use Rattle.tables.specs.Find.{all, any, find_from, caches}
use Rattle.tables.specs.FindLaws.{found_at}
use Rattle.tables.specs.Unsound.{elem}
use Rattle.tables.specs.Bits.{bit_at}
use Rattle.tables.specs.Sound.{row_address}
use Rattle.tables.specs.SoundLaws.{Marked}
use Rattle.tables.specs.Index.{code, place_in, cached_in}
use Rattle.tables.specs.OperationLaws.{Wide}
use Rattle.tables.proofs.OperationLaws.{wide_rows}
use Rattle.paper.specs.KeyedLaws.{All}
use Rattle.paper.specs.Cache.{Numbers, cached}
use Rattle.paper.specs.Engine.{fit, labelled}
use Rattle.paper.specs.Lent.{Lent, as_held, used_rows, box_in}
use Rattle.paper.proofs.SoundTestsLaws.{held-print-is, cached-is}
use Rattle.arc.specs.Arc.{is_in}
use Rattle.arc.specs.ArcLent.{top_uncached}
use Rattle.arclists.specs.NameLaws.{mark-test, elem_in, rows-below}
use Rattle.arcrefusals.specs.Checks.{top_ok}

-- a place below 256 is that of a row
pub place-tells : (bs : List (List ℕ)) (r : List ℕ) → length bs ≤ 256 → ltb (place_in bs r) 256 ≡ cached_in bs r
unfolding place_in
place-tells bs r h = by_place (find_from (caches (read_address r).fingerprint) 0 bs) refl
  where
    by_place : (o : Option ℕ) → find_from (caches (read_address r).fingerprint) 0 bs ≡ o → ltb (code o) 256 ≡ not (is_none o)
    by_place (Some i) e = let b = (found_at (caches (read_address r).fingerprint) bs [] i e).below in lt-ltb i 256 (omega (arith, b, h))
    by_place None e = le-ltb 256 256 (omega arith)

module _ (N : Numbers) (bs : List (List ℕ)) (wide : Wide bs) (seen tops : List ℕ) (marked : Marked (bit_at seen) 65536 tops) where
  row-tells : (r : List ℕ) → length r ≡ row_bytes → row_address r < 65536
      → not (top_ok seen bs r)
      ≡ is_in (row_address r) tops && not (cached (labelled N) (fit 32 (read_address r).fingerprint) (used_rows (map read_block bs)))
  row-tells r l h =
      let m : eqb (bit_at seen (row_address r)) 1 ≡ is_in (row_address r) tops =
      ap (λ n. eqb n 1) (marked (row_address r) h) ∙ mark-test (elem (row_address r) tops) ∙ elem_in (row_address r) tops in
      let c = ap (λ g. not (is_none (find_from (caches g) 0 bs))) (sym (held-print-is r l))
      ∙ ap not (cached-is N (fit 32 (read_address r).fingerprint) 0 bs wide)
      ∙ twice (cached (labelled N) (fit 32 (read_address r).fingerprint) (used_rows (map read_block bs))) in
      rw (m, c) (both (is_in (row_address r) tops) (cached (labelled N) (fit 32 (read_address r).fingerprint) (used_rows (map read_block bs))))
    where
      twice : (b : Bool) → not (not b) ≡ b
      twice true = refl
      twice false = refl

      both : (a b : Bool) → not (cond a b true) ≡ a && not b
      both true b = refl
      both false b = refl

  pub tops-tell : (rs : List (List ℕ)) → Wide rs → All (λ a. a < 65536) (map row_address rs)
      → not (all (top_ok seen bs) rs)
      ≡ any (λ r. is_in r.address tops && not (cached (labelled N) r.fingerprint (used_rows (map read_block bs)))) (map as_held (map read_address rs))
  unfolding all any
  tops-tell [] w h = refl
  tops-tell (r ∷ rs) w h =
      not-and (top_ok seen bs r) (all (top_ok seen bs) rs)
      ∙ ap₂ {C = Bool} (λ a b. a || b) (row-tells r w.0 h.0) (tops-tell rs w.1 h.1)
    where
      not-and : (a b : Bool) → not (a && b) ≡ not a || not b
      not-and true b = refl
      not-and false b = refl

-- .. of a box in lent bytes
pub uncached-tell : (N : Numbers) (t : Lent) (seen tops : List ℕ) → HasRows t.addresses t.n → HasRows t.blocks N.d
    → ((k : ℕ) → k < t.n → row_address (row_at t.addresses k) < 65536) → Marked (bit_at seen) 65536 tops
    → not (all (top_ok seen (rows N.d t.blocks)) (rows t.n t.addresses)) ≡ top_uncached (labelled N) (box_in N t) tops
unfolding top_uncached box_in held_rows block_rows
uncached-tell N t seen tops ha hb low m =
    tops-tell N (rows N.d t.blocks) (wide_rows N.d t.blocks hb) seen tops m (rows t.n t.addresses)
    (wide_rows t.n t.addresses ha) (rows-below t.n t.addresses low)
